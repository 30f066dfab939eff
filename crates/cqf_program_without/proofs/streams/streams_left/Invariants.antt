use Rattle.std.proofs.Common.{◌≡◌, map, take}
use Rattle.toml.specs.View.{items_of, items_view, view}
use Rattle.cqf_program_without.specs.Streams.{stream_item_left}
use Rattle.cqf_program_without.proofs.streams.streams_left.Given as goal

abbrev pub invariant-loop-value : goal.invariant-loop-value
invariant-loop-value l = items_view l.all.items ≡ items_of (map (λ v. stream_item_left l.links (view v)) (take l.value-index l.values))
