-- The elements so far.
use Rattle.std.proofs.Common.{◌≡◌, map, take}
use Rattle.cqf_program_diff.specs.Network.{link_element}
use Rattle.cqf_program_diff.proofs.network.link_elements.Given as goal

abbrev pub invariant-loop-link : goal.invariant-loop-link
invariant-loop-link l = l.elements.items ≡ map (link_element l.domain) (take l.link-index l.links)
