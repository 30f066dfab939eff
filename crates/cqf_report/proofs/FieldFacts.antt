-- The fields of a record of four or five, by index.
use Rattle.std.proofs.Common.{◌∙◌, sym, ◌≡◌, ◌<◌, ℕ, zero, suc, List, [], ◌∷◌, Option, Some, None, length, ap, refl, arith}
use Rattle.csv.specs.Records.{field_at}
use Rattle.cqf_report.specs.Records.{Fields}
use Rattle.cqf_report.specs.Table.{five_of, four_of, in_five, in_four}
use Rattle.std.specs.Option.{option_map_or}

-- there is a field at each index below the number of fields
pub field_at-inside : (fields : Fields) (i : ℕ) → i < length fields → field_at fields i ≡ None → ⊥
unfolding field_at
field_at-inside [] i inside e = absurd (omega arith)
field_at-inside (f ∷ fields) zero inside e = cc
field_at-inside (f ∷ fields) (suc i) inside e = field_at-inside fields i (omega arith) e

-- a record of another number of fields has no four
pub four_of-other : (fields : Fields) → (length fields ≡ 4 → ⊥) → four_of fields ≡ None
four_of-other [] other = refl
four_of-other (a ∷ []) other = refl
four_of-other (a ∷ b ∷ []) other = refl
four_of-other (a ∷ b ∷ c ∷ []) other = refl
four_of-other (a ∷ b ∷ c ∷ d ∷ []) other = absurd (other refl)
four_of-other (a ∷ b ∷ c ∷ d ∷ e ∷ fields) other = refl

-- `Some` is injective
some-inj : (a b : List ℕ) → ◌≡◌ {A = Option (List ℕ)} (Some a) (Some b) → a ≡ b
some-inj a b e = cc

-- the four fields are those at the four indexes
pub four_of-indices : (fields : Fields) (p q r s : List ℕ) → length fields ≡ 4 → Some p ≡ field_at fields 0 → Some q ≡ field_at fields 1 →
    Some r ≡ field_at fields 2 → Some s ≡ field_at fields 3
    → four_of fields ≡ Some (p, q, r, s)
unfolding field_at
four_of-indices [] p q r s size at0 at1 at2 at3 = cc
four_of-indices (a ∷ []) p q r s size at0 at1 at2 at3 = cc
four_of-indices (a ∷ b ∷ []) p q r s size at0 at1 at2 at3 = cc
four_of-indices (a ∷ b ∷ c ∷ []) p q r s size at0 at1 at2 at3 = cc
four_of-indices (a ∷ b ∷ c ∷ d ∷ []) p q r s size at0 at1 at2 at3 = rw (some-inj p a at0, some-inj q b at1, some-inj r c at2, some-inj s d at3) refl
four_of-indices (a ∷ b ∷ c ∷ d ∷ e ∷ fields) p q r s size at0 at1 at2 at3 = absurd (omega arith)

-- a record without four fields writes nothing
pub in_four-none : {A : Type 0} (read : List ℕ → List ℕ → List ℕ → List ℕ → Option A) (fields : Fields) → four_of fields ≡ None → in_four read fields ≡ None
in_four-none read [] none = refl
in_four-none read (a ∷ []) none = refl
in_four-none read (a ∷ b ∷ []) none = refl
in_four-none read (a ∷ b ∷ c ∷ []) none = refl
in_four-none read (a ∷ b ∷ c ∷ d ∷ []) none = cc
in_four-none read (a ∷ b ∷ c ∷ d ∷ e ∷ fields) none = refl

-- what four fields write
pub in_four-some : {A : Type 0} (read : List ℕ → List ℕ → List ℕ → List ℕ → Option A) (fields : Fields) (p q r s : List ℕ) →
    four_of fields ≡ Some (p, q, r, s) → in_four read fields ≡ read p q r s
in_four-some read [] p q r s four = cc
in_four-some read (a ∷ []) p q r s four = cc
in_four-some read (a ∷ b ∷ []) p q r s four = cc
in_four-some read (a ∷ b ∷ c ∷ []) p q r s four = cc
in_four-some read (a ∷ b ∷ c ∷ d ∷ []) p q r s four =
    ap (λ (o : Option (List ℕ × List ℕ × List ℕ × List ℕ)). option_map_or (λ (f : List ℕ × List ℕ × List ℕ × List ℕ). read f.0 f.1 f.2 f.3) o None) four
in_four-some read (a ∷ b ∷ c ∷ d ∷ e ∷ fields) p q r s four = cc

-- what a record writes, given what its four fields were read as
pub in_four-read : {A : Type 0} (read : List ℕ → List ℕ → List ℕ → List ℕ → Option A) (fields : Fields) (p q r s : List ℕ) (o what : Option A)
    → four_of fields ≡ Some (p, q, r, s) → o ≡ read p q r s → o ≡ what → in_four read fields ≡ what
in_four-read read fields p q r s o what four is was = in_four-some read fields p q r s four ∙ sym is ∙ was

-- a record of another number of fields has no five
pub five_of-other : (fields : Fields) → (length fields ≡ 5 → ⊥) → five_of fields ≡ None
five_of-other [] other = refl
five_of-other (a ∷ []) other = refl
five_of-other (a ∷ b ∷ []) other = refl
five_of-other (a ∷ b ∷ c ∷ []) other = refl
five_of-other (a ∷ b ∷ c ∷ d ∷ []) other = refl
five_of-other (a ∷ b ∷ c ∷ d ∷ e ∷ []) other = absurd (other refl)
five_of-other (a ∷ b ∷ c ∷ d ∷ e ∷ f ∷ fields) other = refl

-- the five fields are those at the five indexes
pub five_of-indices : (fields : Fields) (p q r s t : List ℕ) → length fields ≡ 5 → Some p ≡ field_at fields 0 → Some q ≡ field_at fields 1 →
    Some r ≡ field_at fields 2 → Some s ≡ field_at fields 3 → Some t ≡ field_at fields 4
    → five_of fields ≡ Some (p, q, r, s, t)
unfolding field_at
five_of-indices [] p q r s t size at0 at1 at2 at3 at4 = cc
five_of-indices (a ∷ []) p q r s t size at0 at1 at2 at3 at4 = cc
five_of-indices (a ∷ b ∷ []) p q r s t size at0 at1 at2 at3 at4 = cc
five_of-indices (a ∷ b ∷ c ∷ []) p q r s t size at0 at1 at2 at3 at4 = cc
five_of-indices (a ∷ b ∷ c ∷ d ∷ []) p q r s t size at0 at1 at2 at3 at4 = cc
five_of-indices (a ∷ b ∷ c ∷ d ∷ e ∷ []) p q r s t size at0 at1 at2 at3 at4 =
    rw (some-inj p a at0, some-inj q b at1, some-inj r c at2, some-inj s d at3, some-inj t e at4) refl
five_of-indices (a ∷ b ∷ c ∷ d ∷ e ∷ f ∷ fields) p q r s t size at0 at1 at2 at3 at4 = absurd (omega arith)

-- a record without five fields writes nothing
pub in_five-none : {A : Type 0} (read : List ℕ → List ℕ → List ℕ → List ℕ → List ℕ → Option A) (fields : Fields) → five_of fields ≡ None →
    in_five read fields ≡ None
in_five-none read [] none = refl
in_five-none read (a ∷ []) none = refl
in_five-none read (a ∷ b ∷ []) none = refl
in_five-none read (a ∷ b ∷ c ∷ []) none = refl
in_five-none read (a ∷ b ∷ c ∷ d ∷ []) none = refl
in_five-none read (a ∷ b ∷ c ∷ d ∷ e ∷ []) none = cc
in_five-none read (a ∷ b ∷ c ∷ d ∷ e ∷ f ∷ fields) none = refl

-- what five fields write
pub in_five-some : {A : Type 0} (read : List ℕ → List ℕ → List ℕ → List ℕ → List ℕ → Option A) (fields : Fields) (p q r s t : List ℕ) →
    five_of fields ≡ Some (p, q, r, s, t) → in_five read fields ≡ read p q r s t
in_five-some read [] p q r s t five = cc
in_five-some read (a ∷ []) p q r s t five = cc
in_five-some read (a ∷ b ∷ []) p q r s t five = cc
in_five-some read (a ∷ b ∷ c ∷ []) p q r s t five = cc
in_five-some read (a ∷ b ∷ c ∷ d ∷ []) p q r s t five = cc
in_five-some read (a ∷ b ∷ c ∷ d ∷ e ∷ []) p q r s t five =
    ap (λ (o : Option (List ℕ × List ℕ × List ℕ × List ℕ × List ℕ)). option_map_or
    (λ (f : List ℕ × List ℕ × List ℕ × List ℕ × List ℕ). read f.0 f.1 f.2 f.3 f.4) o None) five
in_five-some read (a ∷ b ∷ c ∷ d ∷ e ∷ f ∷ fields) p q r s t five = cc
