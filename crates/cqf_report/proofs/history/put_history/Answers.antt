use Rattle.std.proofs.Common.{◌+◌, map, take, arith}
use Rattle.std.proofs.lemmas.Grind.{common_steps}
use Rattle.cqf_admission.specs.Admission.{recorded_of}
use Rattle.cqf_output.proofs.WriterLemmas.{Puts-as, Puts-then}
use Rattle.cqf_report.specs.HistoryText.{history_text}
use Rattle.cqf_report.proofs.history.put_history.Goals as goal

pub loop-entry-preserved : goal.loop-entry-preserved
loop-entry-preserved g c =
    let puts = Puts-then _ _ c.loop-entry.invariant c.put_entry.ensures in
    Puts-as _ (history_text (map recorded_of (take (c.loop-entry.entry-index + 1) c.args.entries.now))) (grind (arith, common_steps)) puts
