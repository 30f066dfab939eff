use Rattle.std.proofs.Common.{map, take}
use Rattle.cqf_admission.specs.Asking.{asked_paced}
use Rattle.cqf_admission.specs.Ledger.{recorded_in}
use Rattle.cqf_output.specs.Writer.{Puts}
use Rattle.cqf_report.specs.HistoryText.{history_text}
use Rattle.cqf_report.proofs.written_logs.put_log.Given as goal

abbrev pub invariant-loop-logged : goal.invariant-loop-logged
invariant-loop-logged g l =
    Puts g.W.Write.contents l.initial.writer l.writer (history_text (map (recorded_in (map asked_paced l.requests) l.script) (take l.logged-index l.log)))
