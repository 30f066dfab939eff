use Rattle.std.proofs.Common.{◌≡◌, ◌++◌, drop, map}
use Rattle.toml.specs.View.{items_view, view}
use Rattle.cqf_program_without.proofs.LinkLists.{left_list}
use Rattle.cqf_program_without.proofs.links.links_left.Given as goal

-- what is left of the values so far, followed by what is left of the others, is what is left of all
abbrev pub invariant-loop-index : goal.invariant-loop-index
invariant-loop-index l =
    map view l.all.items ++ left_list l.links (items_view l.stations) (map view (drop l.index l.values))
    ≡ left_list l.links (items_view l.stations) (map view l.values)
