use Rattle.std.proofs.Common.{◌≡◌, drop}
use Rattle.toml.specs.View.{items_view}
use Rattle.cqf_program_without.specs.Links.{is_named}
use Rattle.cqf_program_without.proofs.links.is_one_of.Given as goal

abbrev pub invariant-loop-value : goal.invariant-loop-value
invariant-loop-value l = is_named l.name (items_view (drop l.value-index l.values)) ≡ is_named l.name (items_view l.values)
