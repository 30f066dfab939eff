-- A stable sort by how much a figure is less than a bound has the greatest figure first.
use Rattle.std.proofs.Common.{ℕ, ◌≡◌, ◌-◌, ◌+◌, ◌<◌, ◌==◌, ◌∙◌, Bool, true, List, [], ◌∷◌, filter, get_or, length, refl, sym, ap, arith, subst}
use Rattle.std.specs.List.Sorted.{IsStableByKey, IsNonDecreasingBy, ties}
use Rattle.std.specs.Ordering.{is_lt, nat_cmp}
use Rattle.std.proofs.lemmas.Bool.{eqb-true}
use Rattle.std.proofs.lemmas.List.Elements.{filter_agree, filter_passes}
use Rattle.cqf_lists.specs.Lists.{each_below}
use Rattle.cqf_lists.proofs.EachBelow.{same_below}
use Rattle.cqf_lists.proofs.Keys.{by_key}
use Rattle.cqf_lists.proofs.Sorted.{ties_equal}
use Rattle.cqf_program_plans.specs.Load.Streams.{greatest_first}

module _ {X : Type 0} where
  -- what passes a test and comes first passes it
  first_passes : (p : X → Bool) (xs : List X) (x : X) (rest : List X) → filter p xs ≡ x ∷ rest → p x ≡ true
  first_passes p xs x rest is =
      let some : 0 < length (filter p xs) = subst (λ (kept : List X). 0 < length kept) (sym is) (omega arith) in
      subst (λ (kept : List X). p (get_or kept 0 x) ≡ true) is (filter_passes p xs 0 x some)

  module _ (key : X → ℕ) (xs ys : List X) (stable : IsStableByKey key nat_cmp xs ys) where
    -- a stable sort keeps the order of the items that have the key of an item
    kept_as : (x : X) (t : ℕ) → key x ≡ t → filter (λ y. key y == t) ys ≡ filter (λ y. key y == t) xs
    kept_as x t is =
        let tied = ties (λ (a b : X). is_lt (nat_cmp (key a) (key b))) x in
        let same : (y : X) → tied y ≡ (key y == t) = λ y. ties_equal (key x) (key y) ∙ ap (λ n. key y == n) is in
        sym (filter_agree tied (λ y. key y == t) same ys) ∙ stable x ∙ filter_agree tied (λ y. key y == t) same xs

    -- so it keeps the order of the items of each key
    kept_by : (t : ℕ) (before after : List X) → filter (λ y. key y == t) xs ≡ before → filter (λ y. key y == t) ys ≡ after →
        filter (λ y. key y == t) ys ≡ filter (λ y. key y == t) xs
    kept_by t [] [] none_before none_after = none_after ∙ sym none_before
    kept_by t [] (y ∷ rest) none is = kept_as y t (eqb-true (key y) t (first_passes (λ z. key z == t) ys y rest is))
    kept_by t (x ∷ rest) after is other = kept_as x t (eqb-true (key x) t (first_passes (λ z. key z == t) xs x rest is))

  -- so the list is that with the greatest figure first
  pub sorted_greatest : (most : ℕ) (figure : X → ℕ) (xs ys : List X) → IsNonDecreasingBy (λ x. most - figure x) ys →
      IsStableByKey (λ x. most - figure x) nat_cmp xs ys → ys ≡ greatest_first most figure xs
  unfolding greatest_first
  sorted_greatest most figure xs ys up stable =
      let key : X → ℕ = λ x. most - figure x in
      by_key key (most + 1) ys up (λ x held. omega arith)
      ∙ same_below (λ t. filter (λ x. key x == t) ys) (λ t. filter (λ x. key x == t) xs) (most + 1)
      (λ t soon. kept_by key xs ys stable t (filter (λ x. key x == t) xs) (filter (λ x. key x == t) ys) refl refl)
