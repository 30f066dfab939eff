-- The lines of the shares so far.
use Rattle.std.proofs.Common.{take}
use Rattle.std.specs.List.{flat_map}
use Rattle.cqf_output.specs.Writer.{Puts}
use Rattle.cqf_program_plans.specs.Load.Streams.{share_line_on}
use Rattle.cqf_program_plans.proofs.load.streams.put_shares_on.Given as goal

abbrev pub invariant-loop-share : goal.invariant-loop-share
invariant-loop-share g l = Puts g.W.Write.contents l.initial.writer l.writer (flat_map (share_line_on l.load l.index) (take l.share-index l.shares))
