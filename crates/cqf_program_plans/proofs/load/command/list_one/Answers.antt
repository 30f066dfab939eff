use Rattle.std.proofs.Common.{◌+◌, ℕ, ap}
use Rattle.cqf_admission.specs.Asking.{asked_paced}
use Rattle.cqf_model.proofs.Represented.{few_links}
use Rattle.cqf_program_plans.proofs.Loading.{refused_ends}
use Rattle.cqf_program_plans.proofs.LookedOver.{countable_within}
use Rattle.cqf_program_plans.proofs.load.command.list_one.Goals as goal

pub with-requires-clause-countable : goal.with-requires-clause-countable
with-requires-clause-countable c =
    countable_within c.in-Ok-looked.row _ _ (few_links c.args.domain.now c.know.ensures.accepted)
    (rw c.in-Ok-looked.is at c.in-Ok.ensures).countable

pub with-requires-clause-good : goal.with-requires-clause-good
with-requires-clause-good c = (rw c.in-Ok-looked.is at c.in-Ok.ensures).good

pub returns-in-Err-clause-err : goal.returns-in-Err-clause-err
returns-in-Err-clause-err c =
    refused_ends c.args.domain.now c.args.listing (asked_paced c.args.request.now) c.in-Err.refused (c.len.result + 1) c.stream_stop.result (rw c.in-Err.is at c.in-Ok.ensures)
    (ap (λ (n : ℕ). n + 1) c.len.ensures) c.stream_stop.ensures.refused c.stream_stop.ensures.memory
