-- Frames leave none of the bridges so far after that number of links.
use Rattle.std.proofs.Common.{◌≡◌, ◌<◌, ℕ, Some}
use Rattle.cqf_program_placing.specs.Hops.{hop_of}
use Rattle.cqf_program_placing.proofs.hops.leave_some.Given as goal

abbrev pub invariant-loop-bridge : goal.invariant-loop-bridge
invariant-loop-bridge l = (bridge : ℕ) → bridge < l.bridge → ¬ (hop_of l.hops bridge ≡ Some l.before)
