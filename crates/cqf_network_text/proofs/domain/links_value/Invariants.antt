use Rattle.std.proofs.Common.{◌≡◌, map, take}
use Rattle.toml.specs.Data.{table}
use Rattle.toml.specs.View.{items_of, items_view}
use Rattle.cqf_network_text.specs.DomainMembers.{link_members}
use Rattle.cqf_network_text.proofs.domain.links_value.Given as goal

abbrev pub invariant-loop-number : goal.invariant-loop-number
invariant-loop-number l = items_view l.links.items ≡ items_of (map (λ link. table (link_members l.domain link)) (take l.number l.domain.links))
