use Rattle.std.proofs.Common.{◌+◌, take, arith}
use Rattle.std.specs.List.{flat_map}
use Rattle.std.proofs.lemmas.Grind.{common_steps}
use Rattle.cqf_output.proofs.WriterLemmas.{Puts-as, Puts-then}
use Rattle.cqf_program_plans.specs.Load.Streams.{share_line_on}
use Rattle.cqf_program_plans.proofs.load.streams.put_shares_on.Goals as goal

pub loop-share-preserved : goal.loop-share-preserved
loop-share-preserved g c =
    let puts = Puts-then _ _ c.loop-share.invariant c.put_share_on.ensures in
    Puts-as _ (flat_map (share_line_on c.args.load.now c.args.index) (take (c.loop-share.share-index + 1) c.args.shares.now))
    (grind (arith, common_steps)) puts
