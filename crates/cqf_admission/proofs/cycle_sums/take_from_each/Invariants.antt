-- The sums so far are done.
use Rattle.std.proofs.Common.{◌≡◌, ◌++◌, ◌-◌, drop, map, take}
use Rattle.cqf_admission.proofs.cycle_sums.take_from_each.Given as goal

abbrev pub invariant-loop-sum : goal.invariant-loop-sum
invariant-loop-sum l = l.cycle_sums ≡ map (λ sum. sum - l.number) (take l.sum-index l.fn.cycle_sums) ++ drop l.sum-index l.fn.cycle_sums
