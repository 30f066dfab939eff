-- The first starts are in the lists of their links.
use Rattle.std.proofs.Common.{take}
use Rattle.cqf_lists.specs.ByNumber.{lists_of}
use Rattle.cqf_instants_run.specs.Feeding.{AreFed}
use Rattle.cqf_instants_run.proofs.feeding.feed_links.Given as goal

abbrev pub invariant-loop-start : goal.invariant-loop-start
invariant-loop-start l = AreFed l.frames (take l.start-index l.starts) l.links (lists_of l.lists.items)
