use Rattle.std.proofs.Common.{◌≡◌, ◌∙◌, ◌+◌, List, false, length, refl, subst, sym}
use Rattle.std.specs.List.{list_any}
use Rattle.cqf_admission.specs.Asking.{asked_paced}
use Rattle.cqf_program_plans.proofs.Loading.{refused_ends}
use Rattle.cqf_model.specs.declared.topology.Row.{Row}
use Rattle.cqf_model.specs.Domain.{is_text}
use Rattle.cqf_program_offers.proofs.Judged.{named_there}
use Rattle.cqf_program_offers.proofs.judging.row_of.Goals as goal

pub returns-in-Err-clause-err : goal.returns-in-Err-clause-err
returns-in-Err-clause-err c =
    refused_ends c.args.domain.now c.args.rows.now (asked_paced c.args.request.now) c.in-Err.refused (length c.args.rows.now + 1) c.stream_stop.result
    c.in-Err.ensures refl c.stream_stop.ensures.refused c.stream_stop.ensures.memory

-- no stream before it has its name
pub returns-in-Ok-into_row-clause-free : goal.returns-in-Ok-into_row-clause-free
returns-in-Ok-into_row-clause-free c =
    let rows : List Row = c.args.rows.now in
    let free = subst (λ (row : Row). list_any (λ (other : Row). is_text other.name row.name) rows ≡ false) (sym c.in-Ok-into_row.ensures) c.in-Ok.ensures.free in
    named_there c.args.names.now.keys rows c.in-Ok-into_row.row.name c.requires ∙ free
