-- The first marks are appended.
use Rattle.std.proofs.Common.{◌≡◌, ◌++◌, map, take}
use Rattle.cqf_instants_run.specs.Taping.{arrival_of_mark}
use Rattle.cqf_instants_run.proofs.taping.put_marks.Given as goal

abbrev pub invariant-loop-mark : goal.invariant-loop-mark
invariant-loop-mark l = l.arrivals.items ≡ l.fn.arrivals.items ++ map (arrival_of_mark l.domain) (take l.mark-index l.marks)
