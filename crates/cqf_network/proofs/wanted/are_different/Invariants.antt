-- The first name that occurred earlier is among the rest.
use Rattle.std.proofs.Common.{◌≡◌, [], drop, take}
use Rattle.cqf_topology.specs.DomainText.{first_taken}
use Rattle.cqf_network.proofs.wanted.are_different.Given as goal

abbrev pub invariant-loop-index : goal.invariant-loop-index
invariant-loop-index l = first_taken (take l.index l.names) (drop l.index l.names) ≡ first_taken [] l.names
