use Rattle.std.proofs.Common.{◌+◌}
use Rattle.cqf_admission.proofs.GrantLemmas.{refusal_form}
use Rattle.cqf_admission.specs.Asking.{asked_paced}
use Rattle.cqf_model.specs.History.{held_in, seals}
use Rattle.cqf_program_plans.proofs.CompileLemmas.{refused_so}
use Rattle.cqf_program_plans.proofs.compile.command.row_at.Goals as goal

-- a form that isn't good is refused, no matter what is held
pub returns-in-Err-clause-err : goal.returns-in-Err-clause-err
returns-in-Err-clause-err c = λ entries more.
    let d = c.args.domain.now in
    let asked = asked_paced c.args.request.now in
    refused_so d entries asked c.in-Err.refused (c.args.index + 1) c.stream_stop.result more
    (λ there. refusal_form d (held_in d entries (seals entries)) asked c.in-Err.refused c.in-Err.ensures)
    c.stream_stop.ensures.refused c.stream_stop.ensures.memory
