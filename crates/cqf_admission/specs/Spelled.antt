-- The branches of a request as one list of octets.
use Rattle.std.specs.Prelude.{ℕ, List, [], ◌∷◌, ◌++◌}
use Rattle.std.specs.List.{flat_map}
use Rattle.cqf_model.specs.History.{Branch}

-- each octet of a name follows a 2; a 0 ends each name, and a 1 ends each branch
abbrev pub spelled_octet : ℕ → List ℕ
spelled_octet octet = 2 ∷ octet ∷ []

abbrev pub spelled_name : List ℕ → List ℕ
spelled_name name = flat_map spelled_octet name ++ 0 ∷ []

abbrev pub spelled_branch : Branch → List ℕ
spelled_branch branch = flat_map spelled_name branch ++ 1 ∷ []

abbrev pub spelled : List Branch → List ℕ
spelled branches = flat_map spelled_branch branches
