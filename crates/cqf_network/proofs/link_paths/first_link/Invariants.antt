-- No link so far leads from the node into the set.
use Rattle.cqf_network.proofs.LinkLemmas.{NoneBelow}
use Rattle.cqf_network.specs.Ends.{is_in, open_to}
use Rattle.cqf_network.specs.Paths.{has_room}
use Rattle.cqf_network.proofs.link_paths.first_link.Given as goal

abbrev pub invariant-loop-link : goal.invariant-loop-link
invariant-loop-link l = NoneBelow (open_to l.room.links.now (has_room l.room.left.now l.room.cost)) (is_in l.ends) l.node l.link
