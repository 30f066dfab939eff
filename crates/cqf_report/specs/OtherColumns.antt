-- Records with another number of fields than their table has columns. These write no row.
use Rattle.std.specs.Prelude.{ℕ, ◌≡◌, List, [], ◌∷◌, Option, None, length, refl}
use Rattle.cqf_report.specs.Records.{Fields}
use Rattle.cqf_report.specs.Table.{in_five, in_four}

-- for four columns
pub in_four-other : {A : Type 0} (read : List ℕ → List ℕ → List ℕ → List ℕ → Option A) (fields : Fields)
    → (4 ≡ length fields → ⊥) → in_four read fields ≡ None
in_four-other read [] other = refl
in_four-other read (a ∷ []) other = refl
in_four-other read (a ∷ b ∷ []) other = refl
in_four-other read (a ∷ b ∷ c ∷ []) other = refl
in_four-other read (a ∷ b ∷ c ∷ d ∷ []) other = absurd (other refl)
in_four-other read (a ∷ b ∷ c ∷ d ∷ e ∷ fields) other = refl

-- for five columns
pub in_five-other : {A : Type 0} (read : List ℕ → List ℕ → List ℕ → List ℕ → List ℕ → Option A) (fields : Fields)
    → (5 ≡ length fields → ⊥) → in_five read fields ≡ None
in_five-other read [] other = refl
in_five-other read (a ∷ []) other = refl
in_five-other read (a ∷ b ∷ []) other = refl
in_five-other read (a ∷ b ∷ c ∷ []) other = refl
in_five-other read (a ∷ b ∷ c ∷ d ∷ []) other = refl
in_five-other read (a ∷ b ∷ c ∷ d ∷ e ∷ []) other = absurd (other refl)
in_five-other read (a ∷ b ∷ c ∷ d ∷ e ∷ f ∷ fields) other = refl
