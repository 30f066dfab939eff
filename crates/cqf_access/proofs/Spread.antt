-- Distinct numbers have distance.
use Rattle.std.proofs.Common.{◌≡◌, ℕ, zero, suc, ◌+◌, ◌-◌, ◌<◌, ◌≤◌, ◌⊎◌, ◌∷◌, [], Bool, true, inl, inr, refl, subst, sym, ap, ◌∙◌, arith, AllPairs, Contains}
use Rattle.std.proofs.Common.{sum_by, ◌==◌, eq-eqb, eqb-true, if◌then◌else◌}
use Rattle.std.proofs.lemmas.Bool.{cases_lt, cond-true}
use Rattle.cqf_lists.proofs.EachBelow.{contains_below, contains_from_below}
use Rattle.cqf_lists.proofs.Members.{contains_here, contains_one}
use Rattle.cqf_lists.proofs.Pairs.{pairs_below, pairs_one}
use Rattle.cqf_lists.proofs.Sums.{sum_below, sum_matched, sum_member}
use Rattle.cqf_access.proofs.Windows.{ups}

-- the sum of n ones is n
ones : (n : ℕ) → sum_by (λ (k : ℕ). 1) (ups n) ≡ n
ones zero = refl
ones (suc n) =
    let more : sum_by (λ (k : ℕ). 1) (ups (suc n)) ≡ sum_by (λ (k : ℕ). 1) (ups n) + sum_by (λ (k : ℕ). 1) (n ∷ []) =
    sum_below (λ (k : ℕ). 1) (λ k. k ∷ []) n in
    let one : sum_by (λ (k : ℕ). 1) (n ∷ []) ≡ 1 = refl in
    omega (arith, more, one, ones n)

-- whether a number is the one at an index
abbrev stands : (ℕ → ℕ) → ℕ → ℕ → Bool
stands p k v = p k == v

-- more numbers than there is room for aren't all distinct
pub crowded : (p : ℕ → ℕ) (m : ℕ) → ((k : ℕ) → k < suc m → p k < m) → ((j k : ℕ) → j < k → k < suc m → p j ≡ p k → ⊥) → ⊥
crowded p m small apart = omega (arith, matched, ones m, ones (suc m))
  where
    apart_at : (v : ℕ) → AllPairs (λ j k. stands p j v ≡ true → stands p k v ≡ true → ⊥) (ups (suc m))
    apart_at v = pairs_below (λ j k. stands p j v ≡ true → stands p k v ≡ true → ⊥) (λ k. k ∷ []) (suc m)
        (λ k l. pairs_one (λ j k. stands p j v ≡ true → stands p k v ≡ true → ⊥) k)
        (λ j k x y l less c e t u.
        apart j k l less (ap p (contains_one j x c) ∙ eqb-true (p x) v t ∙ sym (eqb-true (p y) v u) ∙ sym (ap p (contains_one k y e))))

    has : (k : ℕ) → Contains (ups (suc m)) k → 1 ≤ sum_by (λ v. if stands p k v then 1 else 0) (ups m)
    has k c =
        let w = contains_from_below (λ (j : ℕ). j ∷ []) (suc m) k c in
        let e : w.0 ≡ k = contains_one w.0 k w.2 in
        let less : p k < m = small k (omega (arith, w.1, e)) in
        let there = contains_below (λ (j : ℕ). j ∷ []) m (p k) (p k) less (contains_here (p k) []) in
        let counts = sum_member (λ v. if stands p k v then 1 else 0) (ups m) (p k) there in
        let one = cond-true {A = ℕ} (p k == p k) 1 0 (eq-eqb (p k) (p k) refl) in
        omega (arith, counts, one)

    matched : sum_by (λ (k : ℕ). 1) (ups (suc m)) ≤ sum_by (λ (k : ℕ). 1) (ups m)
    matched = sum_matched (λ (k : ℕ). 1) (λ (v : ℕ). 1) (stands p) (ups (suc m)) (ups m) has apart_at

-- the indexes of the least and of the greatest of some consecutive numbers
pub record Ends (p : ℕ → ℕ) (first count : ℕ) : Type 0 where
  pub low : ℕ
  pub high : ℕ
  pub low_from : first ≤ low
  pub low_upto : low ≤ first + count
  pub high_from : first ≤ high
  pub high_upto : high ≤ first + count
  pub least : (k : ℕ) → k ≤ count → p low ≤ p (first + k)
  pub most : (k : ℕ) → k ≤ count → p (first + k) ≤ p high

-- of some consecutive numbers, one that comes before each of them in an order
module _ (p : ℕ → ℕ) (before : ℕ → ℕ → Type 0) (total : (a b : ℕ) → before a b ⊎ before b a)
    (through : (a b c : ℕ) → before a b → before b c → before a c) (first : ℕ) where
  itself : (a : ℕ) → before a a
  itself a = elim (total a a) [
    | inl same ↦ same
    | inr same ↦ same
  ]

  foremost : (count : ℕ) → (u : ℕ) × (first ≤ u) × (u ≤ first + count) × ((k : ℕ) → k ≤ count → before (p u) (p (first + k)))
  foremost zero = (
    first,
    omega arith,
    omega arith,
    λ k l. let e : first ≡ first + k = omega (arith, l) in
        subst (λ (v : ℕ). before (p first) (p v)) e (itself (p first)),
  )
  foremost (suc n) =
      let last = first + suc n in
      let r = foremost n in
      let at_last : (k : ℕ) → k ≤ suc n → n < k → last ≡ first + k = λ k l m. omega (arith, l, m) in
      elim (total (p last) (p r.0)) [
        | inl new ↦ (
          last,
          omega arith,
          omega arith,
          λ k l. elim (cases_lt n k) [
            | inl m ↦ subst (λ (v : ℕ). before (p last) (p v)) (at_last k l m) (itself (p last))
            | inr m ↦ through (p last) (p r.0) (p (first + k)) new (r.3 k m)
          ],
        )
        | inr old ↦ (
          r.0,
          r.1,
          omega (arith, r.2),
          λ k l. elim (cases_lt n k) [
            | inl m ↦ subst (λ (v : ℕ). before (p r.0) (p v)) (at_last k l m) old
            | inr m ↦ r.3 k m
          ],
        )
      ]

either : (a b : ℕ) → (a ≤ b) ⊎ (b ≤ a)
either a b = elim (cases_lt a b) [
  | inl less ↦ inl (omega (arith, less))
  | inr more ↦ inr more
]

pub ends : (p : ℕ → ℕ) (first count : ℕ) → Ends p first count
ends p first count =
    let low = foremost p (λ a b. a ≤ b) either (λ a b c x y. omega (arith, x, y)) first count in
    let high = foremost p (λ a b. b ≤ a) (λ a b. either b a) (λ a b c x y. omega (arith, x, y)) first count in
    record {
      low = low.0;
      high = high.0;
      low_from = low.1;
      low_upto = low.2;
      high_from = high.1;
      high_upto = high.2;
      least = low.3;
      most = high.3;
    }

-- if they are distinct, the greatest exceeds the least by at least the number of the others
pub apart_by : (p : ℕ → ℕ) (first count : ℕ) (r : Ends p first count) → ((j k : ℕ) → first ≤ j → j < k → k ≤ first + count → p j ≡ p k → ⊥) →
    p r.low + count ≤ p r.high
apart_by p first count r apart = elim (cases_lt (p r.high) (p r.low + count)) [
  | inl near ↦ absurd (crowded (λ k. p (first + k) - p r.low) count
      (λ k l. omega (arith, near, r.most k (omega (arith, l)), r.least k (omega (arith, l))))
      (λ j k l m e. apart (first + j) (first + k) (omega arith) (omega (arith, l)) (omega (arith, m))
      (omega (arith, e, r.least j (omega (arith, l, m)), r.least k (omega (arith, m))))))
  | inr far ↦ far
]
