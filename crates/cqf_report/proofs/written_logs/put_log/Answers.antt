use Rattle.std.proofs.Common.{◌+◌, map, take, arith}
use Rattle.std.proofs.lemmas.Grind.{common_steps}
use Rattle.cqf_admission.specs.Asking.{asked_paced}
use Rattle.cqf_admission.specs.Ledger.{recorded_in}
use Rattle.cqf_output.proofs.WriterLemmas.{Puts-as, Puts-then}
use Rattle.cqf_report.specs.HistoryText.{history_text}
use Rattle.cqf_report.proofs.written_logs.put_log.Goals as goal

pub loop-logged-preserved : goal.loop-logged-preserved
loop-logged-preserved g c =
    let puts = Puts-then _ _ c.loop-logged.invariant c.put_logged.ensures in
    Puts-as _ (history_text (map (recorded_in (map asked_paced c.args.requests.now) c.args.script.now) (take (c.loop-logged.logged-index + 1) c.args.log.now)))
    (grind (arith, common_steps)) puts
