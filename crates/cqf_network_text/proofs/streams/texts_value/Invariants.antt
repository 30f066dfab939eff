use Rattle.std.proofs.Common.{◌≡◌, map, string_bytes, take}
use Rattle.toml.specs.Data.{string}
use Rattle.toml.specs.View.{items_of, items_view}
use Rattle.cqf_network_text.proofs.streams.texts_value.Given as goal

abbrev pub invariant-loop-text : goal.invariant-loop-text
invariant-loop-text l = items_view l.values.items ≡ items_of (map (λ text. string (string_bytes text)) (take l.text-index l.texts))
