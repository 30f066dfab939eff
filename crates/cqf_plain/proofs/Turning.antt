-- Properties of each element of a list by its index, one after the other.
use Rattle.std.proofs.Common.{◌≡◌, ℕ, ◌+◌, ◌<◌, ◌≤◌, ◌++◌, List, [], ◌∷◌, get_or, length, length-append, set, sym, ap}
use Rattle.std.proofs.Common.{◌∙◌, arith, inl, inr, subst}
use Rattle.std.specs.Prelude.{slice_index_or}
use Rattle.std.proofs.lemmas.Bool.{cases_eq, cases_lt}
use Rattle.std.proofs.lemmas.List.{get_or-set_other, get_or-set_same, get_or_append_left, get_or_push, length-set}
use Rattle.cqf_plain.specs.Turns.{EachIs}

-- the first elements have the second property, and the others still the first
pub record AreTurned {X : Type 0} (Was Is : ℕ → X → Type 0) (count turned : ℕ) (xs : List X) : Type 0 where
  pub one_each : length xs ≡ count
  pub first : (k : ℕ) (e : X) → k < turned → k < count → Is k (slice_index_or xs k e)
  pub others : (k : ℕ) (e : X) → turned ≤ k → k < count → Was k (slice_index_or xs k e)

-- one more element is appended
pub one_pushed : {X : Type 0} (Is : ℕ → X → Type 0) (count : ℕ) (xs after : List X) (x : X) → EachIs Is count xs → Is count x → after ≡ xs ++ x ∷ [] →
    EachIs Is (count + 1) after
one_pushed Is count xs after x so is more = subst (EachIs Is (count + 1)) (sym more) (record {
  one_each = length-append xs (x ∷ []) ∙ ap (λ (k : ℕ). k + 1) so.one_each;
  each = λ k d within. elim (cases_lt k count) [
    | inl l ↦ subst (Is k) (sym (get_or_append_left xs (x ∷ []) d k (omega (arith, l, so.one_each)))) (so.each k d l)
    | inr g ↦
        let e : k ≡ count = omega (arith, g, within) in
        let at : length xs ≡ k = omega (arith, so.one_each, e) in
        subst (Is k) (sym (get_or_push xs x d k at)) (subst (λ (j : ℕ). Is j x) (sym e) is)
  ];
})

module _ {X : Type 0} (Was Is : ℕ → X → Type 0) (count : ℕ) where
  -- at first none has it
  pub none_turned : (xs : List X) → EachIs Was count xs → AreTurned Was Is count 0 xs
  none_turned xs so = record {
    one_each = so.one_each;
    first = λ k e less within. absurd (omega (arith, less));
    others = λ k e past within. so.each k e within;
  }

  -- the property that the next still has
  pub next_was : (turned : ℕ) (xs : List X) (x : X) → AreTurned Was Is count turned xs → turned < count → x ≡ get_or xs turned x → Was turned x
  next_was turned xs x so inside is = subst (Was turned) (sym is) (so.others turned x (omega arith) inside)

  -- then one more has it
  pub one_turned : (turned index : ℕ) (xs after : List X) (y : X) → AreTurned Was Is count turned xs → turned < count → index ≡ turned → Is turned y →
      after ≡ set xs index y → AreTurned Was Is count (turned + 1) after
  one_turned turned index xs after y so inside at is more = subst (AreTurned Was Is count (turned + 1)) (sym (more ∙ ap (λ (p : ℕ). set xs p y) at)) (record {
    one_each = length-set xs turned y ∙ so.one_each;
    first = λ k e less within. elim (cases_eq k turned) [
      | inl same ↦
          subst (λ (j : ℕ). Is j (get_or (set xs turned y) j e)) (sym same)
          (subst (Is turned) (sym (get_or-set_same xs turned y e (omega (arith, inside, so.one_each)))) is)
      | inr differ ↦
          subst (Is k) (sym (get_or-set_other xs turned k y e differ)) (so.first k e (omega (arith, less, differ)) within)
    ];
    others = λ k e past within.
        subst (Was k) (sym (get_or-set_other xs turned k y e (λ same. omega (arith, same, past)))) (so.others k e (omega (arith, past)) within);
  })

  -- in the end all have it
  pub all_turned : (turned : ℕ) (xs : List X) → AreTurned Was Is count turned xs → count ≤ turned → EachIs Is count xs
  all_turned turned xs so past = record {
    one_each = so.one_each;
    each = λ k e within. so.first k e (omega (arith, within, past)) within;
  }
