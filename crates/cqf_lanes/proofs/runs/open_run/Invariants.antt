-- The entries so far open the class.
use Rattle.std.proofs.Common.{ℕ, ◌≡◌, ◌<◌, ◌≤◌, ◌-◌, true, get_or, length}
use Rattle.cqf_lanes.specs.Kernels.{has_bit}
use Rattle.cqf_lanes.proofs.runs.open_run.Given as goal

abbrev pub invariant-loop-done : goal.invariant-loop-done
invariant-loop-done l = record {
  inside : l.done ≤ length l.states;
  opened : (k : ℕ) → k < l.done → has_bit (get_or l.states k 0) l.class ≡ true;
}

abbrev pub decreases-loop-done : goal.decreases-loop-done
decreases-loop-done l = length l.states - l.done
