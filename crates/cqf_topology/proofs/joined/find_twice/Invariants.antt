use Rattle.std.proofs.Common.{◌≡◌, [], map, take, drop}
use Rattle.cqf_topology.specs.DomainText.{first_twice}
use Rattle.cqf_topology.specs.JoinedLink.{ends_held, ends_of}
use Rattle.cqf_topology.proofs.joined.find_twice.Given as goal

-- the ends so far are held, and the first link whose ends are an earlier one's is among the rest
abbrev pub invariant-loop-number : goal.invariant-loop-number
invariant-loop-number l =
    (map ends_held l.ends.keys ≡ map ends_of (take l.number l.links))
    × (first_twice (take l.number l.links) (drop l.number l.links) ≡ first_twice [] l.links)
