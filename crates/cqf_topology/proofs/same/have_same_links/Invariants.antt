-- The links so far are the same.
use Rattle.std.proofs.Common.{◌≡◌, take}
use Rattle.cqf_topology.proofs.same.have_same_links.Given as goal

abbrev pub invariant-loop-link : goal.invariant-loop-link
invariant-loop-link l = take l.link l.one.links ≡ take l.link l.other.links
