use Rattle.std.proofs.Common.{◌≡◌, map, take}
use Rattle.toml.specs.Data.{string}
use Rattle.toml.specs.View.{items_of, items_view}
use Rattle.cqf_network_text.proofs.domain.bridges_value.Given as goal

abbrev pub invariant-loop-number : goal.invariant-loop-number
invariant-loop-number l = items_view l.names.items ≡ items_of (map string (take l.number l.domain.bridges))
