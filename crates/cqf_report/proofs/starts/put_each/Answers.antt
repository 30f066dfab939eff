-- One more start is written.
use Rattle.std.proofs.Common.{◌+◌, take, arith}
use Rattle.std.proofs.lemmas.Grind.{common_steps}
use Rattle.cqf_output.proofs.WriterLemmas.{Puts-as, Puts-then}
use Rattle.cqf_units.specs.Timing.{ticks_of_octet}
use Rattle.cqf_report.specs.Starts.{lines_of_port}
use Rattle.cqf_report.proofs.starts.put_each.Goals as goal

pub loop-start-preserved : goal.loop-start-preserved
loop-start-preserved g c =
    let puts = Puts-then _ _ c.loop-start.invariant c.put_port_start.ensures in
    Puts-as _ (lines_of_port (ticks_of_octet c.args.rate) (take (c.loop-start.start-index + 1) c.args.starts.now)) (grind (arith, common_steps)) puts
