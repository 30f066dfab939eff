use Rattle.std.proofs.Common.{ap, sym, add-one}
use Rattle.cqf_lists.specs.Lists.{each_below}
use Rattle.cqf_output.proofs.WriterLemmas.{Puts-as, Puts-then}
use Rattle.cqf_program_plans.specs.Load.Streams.{share_lines_at}
use Rattle.cqf_program_plans.proofs.load.streams.put_shares.Goals as goal

pub loop-index-preserved : goal.loop-index-preserved
loop-index-preserved g c =
    let lines = share_lines_at c.args.access.now c.args.shares.now in
    let index = c.loop-index.index in
    Puts-as _ _ (sym (ap (each_below lines) (add-one index)))
    (Puts-then (each_below lines index) (lines index) c.loop-index.invariant c.put_shares_at.ensures)
