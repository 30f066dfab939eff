use Rattle.std.proofs.Common.{◌≡◌, ◌++◌, drop, map}
use Rattle.toml.specs.View.{view}
use Rattle.cqf_network_text.proofs.FilledLists.{filled_list}
use Rattle.cqf_network_text.proofs.filling.filled_values.Given as goal

-- the values so far, followed by the remaining ones with what was chosen for them, are all values with what was chosen
abbrev pub invariant-loop-index : goal.invariant-loop-index
invariant-loop-index l =
    map view l.all.items ++ filled_list (drop l.index l.filled) (map view (drop l.index l.values)) ≡ filled_list l.filled (map view l.values)
