-- The links of a bridge.
use Rattle.std.specs.Prelude.{ℕ, List, [], ◌∷◌, if◌then◌else◌, length}
use Rattle.cqf_lists.specs.Lists.{each_below}
use Rattle.cqf_model.specs.Domain.{Domain, enters, leaves}

-- the links that end in a bridge, by number
abbrev pub links_into : Domain → ℕ → List ℕ
links_into d bridge = each_below (λ l. if enters d l bridge then l ∷ [] else []) (length d.links)

-- the links that leave a bridge, by number
abbrev pub links_from : Domain → ℕ → List ℕ
links_from d bridge = each_below (λ l. if leaves d l bridge then l ∷ [] else []) (length d.links)
