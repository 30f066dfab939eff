use Rattle.std.proofs.Common.{◌≢◌, ◌<◌, ◌≤◌, ℕ}
use Rattle.cqf_model.specs.Port.{class_of}
use Rattle.cqf_port.proofs.progress.next_of_class.Given as goal

-- no arrival of the class is between
abbrev pub invariant-loop-index : goal.invariant-loop-index
invariant-loop-index l = (other : ℕ) → l.first ≤ other → other < l.index → class_of l.arrivals other ≢ l.class
