-- Names by number.
use Rattle.std.specs.Prelude.{ℕ, ◌≡◌, List, Option}
use Rattle.cqf_topology.specs.DomainText.{index_of}

-- names, by number
pub record Numbered : Type 0 where
  pub keys : List (List ℕ)

-- the number of each name is its index in the list, and a name outside the list has none
abbrev pub AreNumbered : (List ℕ → Option ℕ) → List (List ℕ) → Type 0
AreNumbered number names = (name : List ℕ) → number name ≡ index_of name names
