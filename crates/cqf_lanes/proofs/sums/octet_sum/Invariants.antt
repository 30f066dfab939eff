-- The lanes have the sum over the frames so far.
use Rattle.std.proofs.Common.{◌≡◌, ◌≤◌, ◌*◌, ◌-◌, ◌^◌, take, length, sum}
use Rattle.std.specs.Simd.Lanes.{sum_l}
use Rattle.cqf_lanes.proofs.sums.octet_sum.Given as goal

abbrev pub invariant-loop-done : goal.invariant-loop-done
invariant-loop-done l = record {
  inside : l.done ≤ length l.octets;
  value : sum_l l.lanes ≡ sum (take l.done l.octets);
  short : sum_l l.lanes ≤ l.done * (2 ^ 32 - 1);
}

abbrev pub decreases-loop-done : goal.decreases-loop-done
decreases-loop-done l = length l.octets - l.done
