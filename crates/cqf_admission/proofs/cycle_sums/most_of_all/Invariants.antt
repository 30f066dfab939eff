-- The greatest so far.
use Rattle.std.proofs.Common.{◌≡◌, fold, max, take}
use Rattle.cqf_admission.proofs.cycle_sums.most_of_all.Given as goal

abbrev pub invariant-loop-sum : goal.invariant-loop-sum
invariant-loop-sum l = l.most ≡ fold max 0 (take l.sum-index l.cycle_sums)
