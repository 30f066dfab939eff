-- The lanes have the sum over the indices so far.
use Rattle.std.proofs.Common.{◌≡◌, ◌≤◌, ◌*◌, ◌-◌, ◌^◌, take, length, sum_by}
use Rattle.std.specs.List.{zip}
use Rattle.std.specs.Simd.Lanes.{sum_l}
use Rattle.cqf_lanes.proofs.Masked.{masked_cost}
use Rattle.cqf_lanes.proofs.sums.masked_sum.Given as goal

abbrev pub invariant-loop-done : goal.invariant-loop-done
invariant-loop-done l = record {
  inside : l.done ≤ length l.costs;
  value : sum_l l.lanes ≡ sum_by (masked_cost l.bit) (take l.done (zip l.costs l.masks));
  short : sum_l l.lanes ≤ l.done * (2 ^ 32 - 1);
}

abbrev pub decreases-loop-done : goal.decreases-loop-done
decreases-loop-done l = length l.costs - l.done
