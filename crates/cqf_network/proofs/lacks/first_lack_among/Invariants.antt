use Rattle.std.proofs.Common.{◌≡◌, drop}
use Rattle.toml.specs.View.{items_view}
use Rattle.cqf_network.specs.StreamsText.{first_lack_within}
use Rattle.cqf_network.proofs.lacks.first_lack_among.Given as goal

abbrev pub invariant-loop-value : goal.invariant-loop-value
invariant-loop-value l = first_lack_within (items_view (drop l.value-index l.values)) ≡ first_lack_within (items_view l.values)
