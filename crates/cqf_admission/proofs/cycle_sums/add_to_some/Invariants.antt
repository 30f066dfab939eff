-- The sums of the active cycles so far are done.
use Rattle.std.proofs.Common.{◌+◌, ◌-◌, length}
use Rattle.cqf_admission.proofs.ActiveCycleLemmas.{AreSoFar}
use Rattle.cqf_admission.proofs.cycle_sums.add_to_some.Given as goal

abbrev pub invariant-loop-active_cycle : goal.invariant-loop-active_cycle
invariant-loop-active_cycle l = AreSoFar (λ x y. x + y) l.first l.every l.active_cycle l.fn.cycle_sums l.number l.cycle_sums

abbrev pub decreases-loop-active_cycle : goal.decreases-loop-active_cycle
decreases-loop-active_cycle l = length l.initial.cycle_sums - l.active_cycle
