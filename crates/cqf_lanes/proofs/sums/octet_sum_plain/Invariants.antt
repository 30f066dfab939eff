-- The total is the sum over the frames so far.
use Rattle.std.proofs.Common.{◌≡◌, ◌≤◌, ◌*◌, ◌^◌, take, sum}
use Rattle.cqf_lanes.proofs.sums.octet_sum_plain.Given as goal

abbrev pub invariant-loop-frame : goal.invariant-loop-frame
invariant-loop-frame l = record {
  value : l.total ≡ sum (take l.frame-index l.octets);
  short : l.total ≤ l.frame-index * 2 ^ 32;
}
