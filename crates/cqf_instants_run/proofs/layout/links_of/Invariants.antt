-- The links so far.
use Rattle.std.proofs.Common.{◌≡◌, take}
use Rattle.cqf_instants_run.proofs.layout.links_of.Given as goal

abbrev pub invariant-loop-link : goal.invariant-loop-link
invariant-loop-link l = l.links.items ≡ take l.link l.domain.links
