-- The first background frames are in the lists of their links.
use Rattle.std.proofs.Common.{take, []}
use Rattle.cqf_lists.specs.ByNumber.{lists_of}
use Rattle.cqf_instants_run.specs.Feeding.{AreFed}
use Rattle.cqf_instants_run.proofs.feeding.feed_frames.Given as goal

abbrev pub invariant-loop-frame : goal.invariant-loop-frame
invariant-loop-frame l = AreFed (take l.frame-index l.frames) [] l.links (lists_of l.lists.items)
