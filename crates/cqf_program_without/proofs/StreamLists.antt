-- What is left of an array of streams, stream by stream.
use Rattle.std.proofs.Common.{◌≡◌, List, [], ◌∷◌, map, refl, ap}
use Rattle.toml.specs.Data.{item}
use Rattle.toml.specs.declared.value.Value.{Value}
use Rattle.toml.specs.View.{items_of, items_view, view}
use Rattle.cqf_program_words.specs.declared.links.LinkName.{LinkName}
use Rattle.cqf_program_without.specs.Streams.{stream_item_left, streams_left}

pub each_left : (links : List LinkName) (vs : List Value) → items_of (map (λ v. stream_item_left links (view v)) vs) ≡ streams_left links (items_view vs)
each_left links [] = refl
each_left links (v ∷ vs) = ap (item (stream_item_left links (view v))) (each_left links vs)
