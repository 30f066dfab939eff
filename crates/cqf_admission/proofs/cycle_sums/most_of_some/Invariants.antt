-- The greatest of the active cycles so far.
use Rattle.std.proofs.Common.{◌-◌, length}
use Rattle.cqf_admission.proofs.ActiveCycleLemmas.{IsMostSoFar}
use Rattle.cqf_admission.proofs.cycle_sums.most_of_some.Given as goal

abbrev pub invariant-loop-active_cycle : goal.invariant-loop-active_cycle
invariant-loop-active_cycle l = IsMostSoFar l.first l.every l.active_cycle l.cycle_sums l.most

abbrev pub decreases-loop-active_cycle : goal.decreases-loop-active_cycle
decreases-loop-active_cycle l = length l.cycle_sums - l.active_cycle
