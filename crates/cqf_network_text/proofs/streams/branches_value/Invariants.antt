use Rattle.std.proofs.Common.{◌≡◌, map, string_bytes, take}
use Rattle.toml.specs.View.{items_of, items_view}
use Rattle.cqf_network_text.specs.DomainMembers.{texts_data}
use Rattle.cqf_network_text.proofs.streams.branches_value.Given as goal

abbrev pub invariant-loop-path : goal.invariant-loop-path
invariant-loop-path l = items_view l.values.items ≡ items_of (map (λ path. texts_data (map string_bytes path.items)) (take l.path-index l.paths))
