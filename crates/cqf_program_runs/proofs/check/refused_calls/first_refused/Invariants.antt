-- The first refused call is that of the remaining entries, numbered from the next number on.
use Rattle.std.proofs.Common.{◌≡◌, ◌+◌, ◌≤◌, drop}
use Rattle.cqf_program_runs.specs.Check.RefusedInLog.{refused_from}
use Rattle.cqf_program_runs.proofs.check.refused_calls.first_refused.Given as goal

abbrev pub invariant-loop-logged : goal.invariant-loop-logged
invariant-loop-logged l = (refused_from (l.number + 1) (drop l.logged-index l.log) ≡ refused_from 1 l.log) × (l.number ≤ l.logged-index)
