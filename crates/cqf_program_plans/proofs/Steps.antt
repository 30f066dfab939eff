-- Two steps: the second needs the result of the first.
use Rattle.std.proofs.Common.{◌≡◌, ◌∙◌, Result, Ok, ap}
use Rattle.cqf_lists.specs.Results.{and_then}

-- what two steps give
pub both_give : {A B E : Type 0} (found : Result A E) (next : A → Result B E) (x : A) (y : B) → found ≡ Ok x → next x ≡ Ok y → and_then found next ≡ Ok y
both_give {A} {B} {E} found next x y first second = ap (λ (f : Result A E). and_then f next) first ∙ second
