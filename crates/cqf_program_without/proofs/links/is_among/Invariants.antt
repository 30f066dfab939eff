use Rattle.std.proofs.Common.{◌≡◌, drop}
use Rattle.toml.specs.View.{items_view}
use Rattle.cqf_program_without.specs.Links.{is_among}
use Rattle.cqf_program_without.proofs.links.is_among.Given as goal

abbrev pub invariant-loop-value : goal.invariant-loop-value
invariant-loop-value l = is_among l.link (items_view (drop l.value-index l.values)) ≡ is_among l.link (items_view l.values)
