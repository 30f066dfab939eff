use Rattle.std.proofs.Common.{map, take}
use Rattle.cqf_admission.specs.Admission.{recorded_of}
use Rattle.cqf_output.specs.Writer.{Puts}
use Rattle.cqf_report.specs.HistoryText.{history_text}
use Rattle.cqf_report.proofs.history.put_history.Given as goal

abbrev pub invariant-loop-entry : goal.invariant-loop-entry
invariant-loop-entry g l = Puts g.W.Write.contents l.initial.writer l.writer (history_text (map recorded_of (take l.entry-index l.entries)))
