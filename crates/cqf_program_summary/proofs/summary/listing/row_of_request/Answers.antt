use Rattle.std.proofs.Common.{◌∙◌}
use Rattle.cqf_units.specs.declared.reservations.Cycle.{Cycle}
use Rattle.cqf_admission.specs.Asking.{asked_paced}
use Rattle.cqf_admission.proofs.GrantLemmas.{row_granted}
use Rattle.cqf_program_summary.proofs.Listed.{granted_summed}
use Rattle.cqf_program_summary.proofs.summary.listing.row_of_request.Goals as goal

pub returns-in_ok-into_row-in-Ok-clause-summable : goal.returns-in_ok-into_row-in-Ok-clause-summable
returns-in_ok-into_row-in-Ok-clause-summable c =
    let d = c.args.domain.now in
    let asked = asked_paced c.args.request.now in
    let judged = c.in-Ok.judged in
    let is = c.in-Ok.ensures in
    let effect : Cycle = record { 0 = 0 } in
    granted_summed d asked _ c.know.ensures.accepted
    (c.in_ok-into_row-in-Ok.ensures ∙ row_granted d 0 effect asked judged.name judged.overhead judged.pace judged.tree.items is.named is.overhead is.paced is.linked) is.none
