-- Bridges and links are made one after the other.
use Rattle.std.proofs.Common.{◌≡◌, ℕ, ◌+◌, ◌<◌, ◌++◌, List, [], ◌∷◌, get_or, length, length-append, sym, ap, ◌∙◌, arith, inl, inr, subst}
use Rattle.std.proofs.lemmas.Bool.{cases_lt}
use Rattle.std.proofs.lemmas.List.{get_or_append_left, get_or_push}
use Rattle.cqf_model.specs.declared.frames.Background.{Background}
use Rattle.cqf_model.specs.declared.frames.Offer.{Offer}
use Rattle.cqf_model.specs.Domain.{Domain}
use Rattle.cqf_world.specs.declared.parts.Line.{Line}
use Rattle.cqf_world.specs.declared.parts.WorldBridge.{WorldBridge}
use Rattle.cqf_world.specs.Beginning.{AreNewLines, AreNewDriven, IsNewDriven}

-- each element of a list with one more is what it must be at its index
each_of_more : {X : Type 0} (Is : ℕ → X → Type 0) (xs : List X) (x : X) (n : ℕ) → length xs ≡ n → ((k : ℕ) (d : X) → k < n → Is k (get_or xs k d)) → Is n x →
    (k : ℕ) (d : X) → k < n + 1 → Is k (get_or (xs ++ x ∷ []) k d)
each_of_more Is xs x n many each last k d within = elim (cases_lt k n) [
  | inl l ↦ subst (Is k) (sym (get_or_append_left xs (x ∷ []) d k (omega (arith, l, many)))) (each k d l)
  | inr g ↦
      let e : k ≡ n = omega (arith, g, within) in
      let at : length xs ≡ k = omega (arith, many, e) in
      subst (Is k) (sym (get_or_push xs x d k at)) (subst (λ (j : ℕ). Is j x) (sym e) last)
]

-- a list with one more element is longer by one
one_longer : {X : Type 0} (xs : List X) (x : X) (n : ℕ) → length xs ≡ n → length (xs ++ x ∷ []) ≡ n + 1
one_longer xs x n many = length-append xs (x ∷ []) ∙ ap (λ (k : ℕ). k + 1) many

-- one more bridge
pub one_driven : (d : Domain) (offers : List Offer) (background : List Background) (count : ℕ) (driven after : List WorldBridge) (s : WorldBridge) →
    AreNewDriven d offers background count driven → IsNewDriven d offers background count s → after ≡ driven ++ s ∷ [] →
    AreNewDriven d offers background (count + 1) after
one_driven d offers background count driven after s so_far is more = subst (AreNewDriven d offers background (count + 1)) (sym more) (record {
  one_each = one_longer driven s count so_far.one_each;
  each = each_of_more (IsNewDriven d offers background) driven s count so_far.one_each so_far.each is;
})

-- one more link
pub one_line : (count : ℕ) (lines after : List Line) (x : Line) → AreNewLines count lines → x.taken ≡ 0 → x.waiting.items ≡ [] → after ≡ lines ++ x ∷ [] →
    AreNewLines (count + 1) after
one_line count lines after x so_far none quiet more = subst (AreNewLines (count + 1)) (sym more) (record {
  one_each = one_longer lines x count so_far.one_each;
  none_taken = each_of_more (λ k y. y.taken ≡ 0) lines x count so_far.one_each so_far.none_taken none;
  none_waiting = each_of_more (λ k y. y.waiting.items ≡ []) lines x count so_far.one_each so_far.none_waiting quiet;
})
