-- The greatest of several numbers.
use Rattle.std.proofs.Common.{ℕ, ◌≤◌, List, [], ◌∷◌, fold, max, arith}
use Rattle.std.specs.Prelude.{Contains}
use Rattle.cqf_lists.specs.Lists.{each_below}
use Rattle.cqf_lists.proofs.EachBelow.{contains_from_below}
use Rattle.cqf_lists.proofs.Members.{contains_here, contains_later}

-- it is at most any bound of all numbers
most_from : (xs : List ℕ) (least bound : ℕ) → least ≤ bound → ((x : ℕ) → Contains xs x → x ≤ bound) → fold max least xs ≤ bound
most_from [] least bound low each = low
most_from (x ∷ xs) least bound low each =
    most_from xs (max least x) bound (omega (arith, low, each x (contains_here x xs))) (λ y among. each y (contains_later x xs y among))

pub most_within : (f : ℕ → List ℕ) (n bound : ℕ) → ((k x : ℕ) → Contains (f k) x → x ≤ bound) → fold max 0 (each_below f n) ≤ bound
most_within f n bound each =
    most_from (each_below f n) 0 bound (omega arith) (λ x among. let at = contains_from_below f n x among in each at.0 x at.2)
