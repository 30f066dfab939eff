use Rattle.std.proofs.Common.{◌≡◌, ◌+◌, [], drop, map}
use Rattle.cqf_admission.specs.Asking.{asked_paced}
use Rattle.cqf_program_plans.specs.Compile.Output.{ArePlanned, admitted_from}
use Rattle.cqf_program_plans.proofs.compile.command.admit_all.Given as goal

-- each call so far admitted a stream, and the rest is admitted after them
abbrev pub invariant-loop-index : goal.invariant-loop-index
invariant-loop-index l =
    (l.ledger.requests ≡ map asked_paced l.requests)
    × ArePlanned l.domain l.ledger.administration l.rows.items
    × (admitted_from l.domain [] 1 (map asked_paced l.requests)
    ≡ admitted_from l.domain l.ledger.administration.entries (l.index + 1) (drop l.index (map asked_paced l.requests)))
