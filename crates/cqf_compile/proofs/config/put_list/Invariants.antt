-- The entries so far are put.
use Rattle.std.proofs.Common.{take}
use Rattle.cqf_gates.specs.GateListText.{text_of_entries}
use Rattle.cqf_output.specs.Writer.{Puts}
use Rattle.cqf_compile.proofs.config.put_list.Given as goal

abbrev pub invariant-loop-entry : goal.invariant-loop-entry
invariant-loop-entry g l = Puts g.W.Write.contents l.initial.writer l.writer (text_of_entries (take l.entry-index l.entry-items))
