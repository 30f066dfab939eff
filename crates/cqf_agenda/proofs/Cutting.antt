-- A list in order of instant is cut by cycle.
use Rattle.std.proofs.Common.{◌≡◌, ℕ, ◌+◌, ◌-◌, ◌*◌, ◌<◌, ◌≤◌, ◌++◌, List, drop, get_or, length, sym, ap, ◌∙◌, arith}
use Rattle.std.proofs.Common.{take, subst, true, false, Contains, eq-eqb, ne_eqb, append-nil, inl, inr}
use Rattle.std.specs.Prelude.{◌==◌, [], filter, nat_lt}
use Rattle.std.specs.List.Sorted.{IsNonDecreasingBy, IsPartitionPoint, IsPartitionedBy}
use Rattle.std.proofs.lemmas.List.Sorted.{IsNonDecreasingBy-drop, IsPartitionedBy-ltb}
use Rattle.std.proofs.lemmas.Bool.{cases_lt, false≢true, lt-ltb, ltb-true}
use Rattle.std.proofs.lemmas.List.{get_or-drop, get_or-take, length-drop, length-take-le, take-append-drop, take_all}
use Rattle.std.proofs.lemmas.List.Elements.{filter-append}
use Rattle.cqf_lists.proofs.EachBelow.{filter_each, filter_none}
use Rattle.cqf_lists.proofs.Members.{contains_from_take}
use Rattle.cqf_units.proofs.Cycles.{cycle_from, cycle_is, cycle_upto}
use Rattle.cqf_units.specs.Timing.{cycle_at}

module _ {X : Type 0} (key : X → ℕ) where
  -- elements before a cut are sooner
  sooner : (t : ℕ) (xs : List X) (n : ℕ) → IsPartitionPoint (λ y. nat_lt (key y) t ≡ true) (λ y. nat_lt (key y) t ≡ false) xs n → n ≤ length xs →
      (x : X) → Contains (take n xs) x → key x < t
  sooner t xs n cut upto x held =
      let within : held.0 < n = omega (arith, held.1, length-take-le n xs upto) in
      let at : get_or xs held.0 x ≡ x = sym (get_or-take n xs held.0 x within) ∙ held.2 in
      ltb-true (key x) t (ap (λ (y : X). nat_lt (key y) t) (sym at) ∙ cut.0 held.0 x (omega arith) within)

  -- and elements after it aren't
  later : (t : ℕ) (xs : List X) (n : ℕ) → IsPartitionPoint (λ y. nat_lt (key y) t ≡ true) (λ y. nat_lt (key y) t ≡ false) xs n → n ≤ length xs →
      (x : X) → Contains (drop n xs) x → t ≤ key x
  later t xs n cut upto x held =
      let at : get_or xs (n + held.0) x ≡ x = sym (get_or-drop n xs held.0 x) ∙ held.2 in
      let past : nat_lt (key x) t ≡ false =
      ap (λ (y : X). nat_lt (key y) t) (sym at) ∙ cut.1 (n + held.0) x (omega arith) (omega (arith, held.1, length-drop n xs, upto)) in
      not_less (key x) t past
    where
      -- a number that isn't less
      not_less : (a b : ℕ) → nat_lt a b ≡ false → b ≤ a
      not_less a b past = elim (cases_lt a b) [
        | inl l ↦ absurd (false≢true (sym past ∙ lt-ltb a b l))
        | inr g ↦ g
      ]

  -- so exactly the elements from the one cut to the other are of the cycle
  pub cut_is : (time cycle : ℕ) (xs : List X) (from count : ℕ) → 0 < time →
      IsPartitionPoint (λ y. nat_lt (key y) (cycle * time) ≡ true) (λ y. nat_lt (key y) (cycle * time) ≡ false) xs from → from ≤ length xs →
      IsPartitionPoint (λ y. nat_lt (key y) (cycle * time + time) ≡ true) (λ y. nat_lt (key y) (cycle * time + time) ≡ false) (drop from xs) count →
      count ≤ length (drop from xs) → take count (drop from xs) ≡ filter (λ x. cycle_at time (key x) == cycle) xs
  cut_is time cycle xs from count some first upto last within =
      let of_cycle = λ (x : X). cycle_at time (key x) == cycle in
      let rest = drop from xs in
      let none_before : filter of_cycle (take from xs) ≡ [] = filter_none of_cycle (take from xs) (λ x h.
      ne_eqb (cycle_at time (key x)) cycle (λ e. omega (
        arith,
        sooner (cycle * time) xs from first upto x h,
        cycle_from time (key x),
        ap
            (λ (c : ℕ). c * time) e,
      ))) in
      let none_after : filter of_cycle (drop count rest) ≡ [] = filter_none of_cycle (drop count rest) (λ x h.
      ne_eqb (cycle_at time (key x)) cycle
      (λ e. omega (arith, later (cycle * time + time) rest count last within x h, cycle_upto time (key x) some, ap (λ (c : ℕ). c * time) e))) in
      let each : filter of_cycle (take count rest) ≡ take count rest = filter_each of_cycle (take count rest) (λ x h.
      eq-eqb (cycle_at time (key x)) cycle (cycle_is time cycle (key x)
      (later (cycle * time) xs from first upto x (contains_from_take rest count x h)) (sooner (cycle * time + time) rest count last within x h))) in
      sym (
      ap (filter of_cycle) (sym (take-append-drop from xs)) ∙ filter-append of_cycle (take from xs) rest
      ∙ ap (λ (ys : List X). ys ++ filter of_cycle rest) none_before
      ∙ ap (filter of_cycle) (sym (take-append-drop count rest)) ∙ filter-append of_cycle (take count rest) (drop count rest)
      ∙ (λ i. each i ++ none_after i)
      ∙ append-nil (take count rest))

  -- the same if the rest is taken whole
  pub cut_of : (time cycle begin : ℕ) (xs rest : List X) (from count : ℕ) → begin ≡ cycle → 0 < time → IsNonDecreasingBy key xs →
      (IsPartitionedBy (λ y. nat_lt (key y) (begin * time)) xs →
      IsPartitionPoint (λ y. nat_lt (key y) (begin * time) ≡ true) (λ y. nat_lt (key y) (begin * time) ≡ false) xs from) → from ≤ length xs →
      rest ≡ take (length xs - from) (drop from xs) →
      (IsPartitionedBy (λ y. nat_lt (key y) (begin * time + time)) rest →
      IsPartitionPoint (λ y. nat_lt (key y) (begin * time + time) ≡ true) (λ y. nat_lt (key y) (begin * time + time) ≡ false) rest count) →
      count ≤ length rest → take count rest ≡ filter (λ x. cycle_at time (key x) == cycle) xs
  cut_of time cycle begin xs rest from count at some up first upto is last within =
      let whole : rest ≡ drop from xs = is ∙ take_all (length xs - from) (drop from xs) (omega (arith, length-drop from xs)) in
      let point = first (IsPartitionedBy-ltb key xs (begin * time) up) in
      let next = last (subst (λ (ys : List X). IsPartitionedBy (λ y. nat_lt (key y) (begin * time + time)) ys) (sym whole)
      (IsPartitionedBy-ltb key (drop from xs) (begin * time + time) (IsNonDecreasingBy-drop key from xs up))) in
      ap (take count) whole
      ∙ cut_is time begin xs from count some point upto
      (subst (λ (ys : List X). IsPartitionPoint (λ y. nat_lt (key y) (begin * time + time) ≡ true) (λ y. nat_lt (key y) (begin * time + time)
      ≡ false) ys count) whole next)
      (subst (λ (ys : List X). count ≤ length ys) whole within)
      ∙ ap (λ (c : ℕ). filter (λ x. cycle_at time (key x) == c) xs) at
