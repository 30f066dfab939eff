use Rattle.std.proofs.Common.{ap, sym, add-one}
use Rattle.cqf_lists.specs.Lists.{each_below}
use Rattle.cqf_output.proofs.WriterLemmas.{Puts-as, Puts-then}
use Rattle.cqf_program_plans.specs.Load.Streams.{stream_lines_on}
use Rattle.cqf_program_plans.proofs.load.streams.put_streams.Goals as goal

pub loop-link-preserved : goal.loop-link-preserved
loop-link-preserved g c =
    let lines = stream_lines_on c.args.domain.now c.args.rows.now in
    let link = c.loop-link.link in
    Puts-as _ _ (sym (ap (each_below lines) (add-one link)))
    (Puts-then (each_below lines link) (lines link) c.loop-link.invariant c.put_streams_on.ensures)
