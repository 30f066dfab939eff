-- By the links so far, the bridges are marked.
use Rattle.cqf_network.specs.Ends.{AreMarked, is_in, open_to}
use Rattle.cqf_network.specs.Paths.{has_room}
use Rattle.cqf_network.proofs.path_ends.Ends.before.Given as goal

abbrev pub invariant-loop-link : goal.invariant-loop-link
invariant-loop-link l = AreMarked (open_to l.room.links.now (has_room l.room.left.now l.room.cost)) (is_in l.self) l.link l.marks
