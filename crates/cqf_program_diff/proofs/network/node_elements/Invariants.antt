-- The elements so far.
use Rattle.std.proofs.Common.{◌≡◌, map, take}
use Rattle.cqf_program_diff.specs.Network.{node_element}
use Rattle.cqf_program_diff.proofs.network.node_elements.Given as goal

abbrev pub invariant-loop-name : goal.invariant-loop-name
invariant-loop-name l = l.elements.items ≡ map node_element (take l.name-index l.names)
