-- The total is the sum over the indices so far.
use Rattle.std.proofs.Common.{◌≡◌, ◌≤◌, ◌*◌, ◌^◌, take, sum_by}
use Rattle.std.specs.List.{zip}
use Rattle.cqf_lanes.proofs.Masked.{masked_cost}
use Rattle.cqf_lanes.proofs.sums.masked_sum_plain.Given as goal

abbrev pub invariant-loop-index : goal.invariant-loop-index
invariant-loop-index l = record {
  value : l.total ≡ sum_by (masked_cost l.bit) (take l.index (zip l.costs l.masks));
  short : l.total ≤ l.index * 2 ^ 32;
}
