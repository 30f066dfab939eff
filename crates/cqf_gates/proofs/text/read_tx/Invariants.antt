-- The text denotes the entries that were read and those of the lines that are left.
use Rattle.std.proofs.Common.{◌+◌, ◌≤◌, length}
use Rattle.cqf_gates.proofs.ReadLines.{IsReadSoFar}
use Rattle.cqf_gates.proofs.text.read_tx.Given as goal

abbrev pub invariant-loop-line : goal.invariant-loop-line
invariant-loop-line l = record {
  so_far : IsReadSoFar l.text l.kept.items l.number l.left;
  in_text : l.number + length l.left ≤ 1 + length l.text;
}

abbrev pub decreases-loop-line : goal.decreases-loop-line
decreases-loop-line l = length l.left
