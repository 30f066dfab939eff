-- The entries so far are put.
use Rattle.std.proofs.Common.{take}
use Rattle.cqf_output.specs.Writer.{Puts}
use Rattle.cqf_program_tc.specs.Words.{list_words}
use Rattle.cqf_program_tc.proofs.lists.put_list_words.Given as goal

abbrev pub invariant-loop-entry : goal.invariant-loop-entry
invariant-loop-entry g l = Puts g.W.Write.contents l.initial.writer l.writer (list_words (take l.entry-index l.entry-items))
