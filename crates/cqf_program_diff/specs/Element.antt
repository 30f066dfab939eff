-- What is compared: an element of a network, or a figure of one.
use Rattle.std.specs.Prelude.{ℕ, List}

-- the name by which it is found in the other network, and the texts of its values
pub record ElementText : Type 0 where
  pub name : List ℕ
  pub values : List (List ℕ)
