use Rattle.std.proofs.Common.{◌≤◌, length}
use Rattle.cqf.proofs.files.read_files.Given as goal

abbrev pub invariant-loop-name : goal.invariant-loop-name
invariant-loop-name l = length l.texts.bytes ≤ l.most
