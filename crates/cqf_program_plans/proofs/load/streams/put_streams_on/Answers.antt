use Rattle.std.proofs.Common.{◌+◌, take, arith}
use Rattle.std.proofs.lemmas.Grind.{common_steps}
use Rattle.cqf_output.proofs.WriterLemmas.{Puts-as, Puts-then}
use Rattle.cqf_program_plans.specs.Load.Streams.{stream_lines_on}
use Rattle.cqf_program_plans.proofs.load.streams.put_streams_on.Goals as goal

pub loop-row-preserved : goal.loop-row-preserved
loop-row-preserved g c =
    let puts = Puts-then _ _ c.loop-row.invariant c.put_stream_on.ensures in
    Puts-as _ (stream_lines_on c.args.domain.now (take (c.loop-row.row-index + 1) c.args.rows.now) c.args.link) (grind (arith, common_steps)) puts
