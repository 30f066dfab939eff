-- Values as texts.
use Rattle.std.specs.Prelude.{ℕ, ◌++◌, ◌==◌, List, [], ◌∷◌, Option, codes, decimal, flat_map, if◌then◌else◌}
use Rattle.std.specs.Option.{option_map_or}

-- a number, if there is one
abbrev pub optional_text : Option ℕ → List ℕ
optional_text number = option_map_or decimal number []

-- a link's delays: one number if they are the same, else the least and the greatest
abbrev pub delay_text : ℕ → ℕ → List ℕ
delay_text least greatest = if least == greatest then decimal greatest else decimal least ++ (codes " " ++ decimal greatest)

-- the names of a path, with blanks between
abbrev pub path_text : List (List ℕ) → List ℕ
path_text [] = []
path_text (first ∷ rest) = first ++ flat_map (λ name. codes " " ++ name) rest

-- several paths, with ` | ` between
abbrev pub paths_text : List (List (List ℕ)) → List ℕ
paths_text [] = []
paths_text (first ∷ rest) = path_text first ++ flat_map (λ path. codes " | " ++ path_text path) rest
