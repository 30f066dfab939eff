-- The ends of a link are nodes of its domain.
use Rattle.std.proofs.Common.{ℕ, ◌≡◌, ◌<◌, Some, length, slice_get}
use Rattle.cqf_model.specs.declared.topology.Link.{Link}
use Rattle.cqf_model.specs.Domain.{Domain, IsAccepted, IsNode}

-- the bridge that it leaves
pub from_bridge : (d : Domain) (l : ℕ) (link : Link) → IsAccepted d → slice_get d.links l ≡ Some link → link.from < length d.bridges
from_bridge d l link accepted found = (accepted.links_good l link found).from_bridge

-- the node that it ends in
pub to_node : (d : Domain) (l : ℕ) (link : Link) → IsAccepted d → slice_get d.links l ≡ Some link → IsNode d link.to
to_node d l link accepted found = (accepted.links_good l link found).to_node
