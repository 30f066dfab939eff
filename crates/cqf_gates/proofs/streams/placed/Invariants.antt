-- The entries so far are at the first indices.
use Rattle.std.proofs.Common.{◌≡◌, length, take}
use Rattle.cqf_gates.proofs.streams.placed.Given as goal

abbrev pub invariant-loop-index : goal.invariant-loop-index
invariant-loop-index l = record {
  indices : length l.indices ≡ 16;
  placed : take l.index l.indices ≡ take l.index l.entries;
}
