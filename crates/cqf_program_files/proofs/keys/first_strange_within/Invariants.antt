use Rattle.std.proofs.Common.{◌≡◌, drop, map}
use Rattle.toml.specs.View.{items_view}
use Rattle.cqf_program_files.specs.Keys.{first_strange_within}
use Rattle.cqf_program_files.proofs.keys.first_strange_within.Given as goal

abbrev pub invariant-loop-value : goal.invariant-loop-value
invariant-loop-value l =
    first_strange_within (map (λ it. it.now) l.known) (items_view (drop l.value-index l.values))
    ≡ first_strange_within (map (λ it. it.now) l.known) (items_view l.values)
