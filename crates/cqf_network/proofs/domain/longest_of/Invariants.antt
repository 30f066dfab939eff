use Rattle.std.proofs.Common.{◌≡◌, drop}
use Rattle.cqf_network.specs.NetworkDomain.{longest_of}
use Rattle.cqf_network.proofs.domain.longest_of.Given as goal

-- the longest of the rest, given the longest so far, is the longest of all
abbrev pub invariant-loop-link : goal.invariant-loop-link
invariant-loop-link l = longest_of l.longest (drop l.link-index l.links) ≡ longest_of l.guard l.links
