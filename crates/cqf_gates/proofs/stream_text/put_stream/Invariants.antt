-- The entries so far are put.
use Rattle.std.proofs.Common.{take}
use Rattle.cqf_gates.specs.StreamText.{text_of_stream_entries}
use Rattle.cqf_output.specs.Writer.{Puts}
use Rattle.cqf_gates.proofs.stream_text.put_stream.Given as goal

abbrev pub invariant-loop-entry : goal.invariant-loop-entry
invariant-loop-entry g l = Puts g.W.Write.contents l.initial.writer l.writer (text_of_stream_entries (take l.entry-index l.entry-items))
