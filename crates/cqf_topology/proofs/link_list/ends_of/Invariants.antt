use Rattle.std.proofs.Common.{◌≡◌, map, take}
use Rattle.cqf_topology.specs.JoinedLink.{ends_of}
use Rattle.cqf_topology.proofs.link_list.ends_of.Given as goal

-- the ends of the links so far are held
abbrev pub invariant-loop-link : goal.invariant-loop-link
invariant-loop-link l = l.ends.keys ≡ map ends_of (take l.link-index l.links)
