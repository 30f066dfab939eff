-- The entries so far open the class.
use Rattle.std.proofs.Common.{ℕ, ◌≡◌, ◌<◌, true, get_or}
use Rattle.cqf_lanes.specs.Kernels.{has_bit}
use Rattle.cqf_lanes.proofs.runs.open_run_plain.Given as goal

abbrev pub invariant-loop-index : goal.invariant-loop-index
invariant-loop-index l = (k : ℕ) → k < l.index → has_bit (get_or l.states k 0) l.class ≡ true
