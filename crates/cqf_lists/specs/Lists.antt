-- Functions on lists that definitions of other crates use.
use Rattle.std.specs.Prelude.{ℕ, ◌++◌, List, [], ◌∷◌, Bool, if◌then◌else◌, Option, Some, None, fold, slice_get, suc, zero}
use Rattle.std.specs.List.{list_any}

-- the lists f 0, f 1, .. f (n - 1), concatenated
abbrev pub each_below : {A : Type 0} → (ℕ → List A) → ℕ → List A
each_below f zero = []
each_below f (suc n) = each_below f n ++ f n

-- the least number below a bound that passes a test, if there is one
abbrev pub least : (ℕ → Bool) → ℕ → Option ℕ
least test n = slice_get (each_below (λ k. if test k then k ∷ [] else []) n) 0

-- the list without each element that is the same, by the given test, as an element kept earlier
abbrev pub each_once : {A : Type 0} → (A → A → Bool) → List A → List A
each_once same xs = fold (λ kept x. if list_any (λ y. same y x) kept then kept else kept ++ x ∷ []) [] xs

-- the first answer if there is one, otherwise the second
abbrev pub or_else : {A : Type 0} → Option A → Option A → Option A
or_else (Some first) later = Some first
or_else None later = later
