-- A stable sort by a key keeps the order of the elements of each key.
use Rattle.std.proofs.Common.{ℕ, ◌≡◌, ◌<◌, ◌≤◌, ◌==◌, ◌∙◌, ◌&&◌, true, false, not, List, filter, nat_lt, refl, sym, ap, inl, inr, arith, subst}
use Rattle.std.specs.List.{All, AllPairs}
use Rattle.std.specs.Prelude.{slice_index_or}
use Rattle.std.specs.List.Sorted.{IsPermutation, IsStableByKey, IsNonDecreasingBy, ties}
use Rattle.std.specs.Ordering.{is_lt, nat_cmp}
use Rattle.std.proofs.lemmas.Bool.{cases_eq, cases_order, eq-eqb, le-ltb, lt-ltb, ne_eqb}
use Rattle.std.proofs.lemmas.List.Elements.{filter_agree}
use Rattle.std.proofs.lemmas.List.Sorted.{All-permutation}
use Rattle.cqf_lists.specs.Lists.{each_below}
use Rattle.cqf_lists.proofs.EachBelow.{same_below}
use Rattle.cqf_lists.proofs.Keys.{by_key}

-- if no later element has a lower key than an earlier one, the keys don't decrease
pub up_by_pairs : {X : Type 0} (key : X → ℕ) (xs : List X) → AllPairs (λ (x y : X). key x ≤ key y) xs → IsNonDecreasingBy key xs
up_by_pairs {X} key xs pairs i j d le inside =
    elim (cases_eq i j) [
      | inl e ↦
          let same : key (slice_index_or xs i d) ≡ key (slice_index_or xs j d) = ap (λ (k : ℕ). key (slice_index_or xs k d)) e in
          omega (arith, same)
      | inr differ ↦ pairs i j d (omega (arith, le, differ)) inside
    ]

-- neither number is below the other if and only if they are equal
pub ties_equal : (a b : ℕ) → (not (is_lt (nat_cmp a b)) && not (is_lt (nat_cmp b a))) ≡ (b == a)
ties_equal a b = elim (cases_order a b) [
  | inl same ↦
      let ab : nat_lt a b ≡ false = le-ltb a b (omega arith) in
      let ba : nat_lt b a ≡ false = le-ltb b a (omega arith) in
      rw (ab, ba, eq-eqb a b same, eq-eqb b a (sym same)) refl
  | inr other ↦ elim other [
    | inl lt ↦
        let ab : nat_lt a b ≡ true = lt-ltb a b lt in
        rw (ab, ne_eqb b a (λ e. omega (arith, e, lt))) refl
    | inr gt ↦
        let ab : nat_lt a b ≡ false = le-ltb a b (omega arith) in
        let ba : nat_lt b a ≡ true = lt-ltb b a gt in
        rw (ab, ba, ne_eqb a b (λ e. omega (arith, e, gt)), ne_eqb b a (λ e. omega (arith, e, gt))) refl
  ]
]

module _ {X : Type 0} (key : X → ℕ) (probe : ℕ → X) (probes : (t : ℕ) → key (probe t) ≡ t) where
  -- a stable sort keeps the elements of each key in their order
  pub stable_at : (xs ys : List X) (t : ℕ) → IsStableByKey key nat_cmp xs ys → filter (λ x. key x == t) ys ≡ filter (λ x. key x == t) xs
  stable_at xs ys t stable =
      let tied = ties (λ (x y : X). is_lt (nat_cmp (key x) (key y))) (probe t) in
      let same : (x : X) → tied x ≡ (key x == t) = λ x. ties_equal (key (probe t)) (key x) ∙ ap (λ n. key x == n) (probes t) in
      sym (filter_agree tied (λ x. key x == t) same ys) ∙ stable (probe t) ∙ filter_agree tied (λ x. key x == t) same xs

  -- so the sorted list is the concatenation, key by key, of the elements with that key
  pub sorted_by_key : (n : ℕ) (xs ys : List X) → IsPermutation xs ys → IsNonDecreasingBy key ys → IsStableByKey key nat_cmp xs ys → All (λ x. key x < n) xs
      → ys ≡ each_below (λ t. filter (λ x. key x == t) xs) n
  sorted_by_key n xs ys moved ascends stable early =
      let below = All-permutation (λ x. key x < n) xs ys moved early in
      by_key key n ys ascends (λ x held. subst (λ (y : X). key y < n) held.2 (below held.0 x held.1))
      ∙ same_below (λ t. filter (λ x. key x == t) ys) (λ t. filter (λ x. key x == t) xs) n (λ t soon. stable_at xs ys t stable)
