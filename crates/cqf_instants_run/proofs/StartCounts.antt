-- In a list of starts in order of instant, each start's index is the number of starts before it.
use Rattle.std.proofs.Common.{◌≡◌, ℕ, ◌<◌, ◌≤◌, ◌∷◌, [], Bool, List, length, get_or, filter, nat_lt, inl, inr, ap, ◌∙◌, arith, AllPairs, Contains, suc}
use Rattle.std.proofs.lemmas.Bool.{cases_order, cond-true, le-ltb, lt-ltb}
use Rattle.std.proofs.lemmas.List.Elements.{Contains-get_or}
use Rattle.cqf_model.specs.Port.{Transmission}
use Rattle.cqf_lists.proofs.EachBelow.{filter_none}
use Rattle.cqf_lists.proofs.Members.{contains_cases, contains_none}
use Rattle.cqf_lists.proofs.Pairs.{pairs_head, pairs_tail}

-- a start is before an instant
abbrev pub is_before : ℕ → Transmission → Bool
is_before t x = nat_lt x.1 t

-- how many are before it
abbrev pub many_before : List Transmission → ℕ → ℕ
many_before xs t = length (filter (is_before t) xs)

-- a start is at that index
pub record StandsAfter (xs : List Transmission) (x d : Transmission) : Type 0 where
  pub inside : many_before xs x.1 < length xs
  pub same : get_or xs (many_before xs x.1) d ≡ x

-- no start is before the first one
none_before : (y x : Transmission) (xs : List Transmission) → AllPairs (λ (a b : Transmission). a.1 < b.1) (y ∷ xs) → y ≡ x →
    filter (is_before x.1) (y ∷ xs) ≡ []
none_before y x xs pairs e = filter_none (is_before x.1) (y ∷ xs) (λ z h. le-ltb z.1 x.1 (later z h))
  where
    -- each start is no earlier than the first
    later : (z : Transmission) → Contains (y ∷ xs) z → x.1 ≤ z.1
    later z h = elim (contains_cases y xs z h) [
      | inl first ↦ omega (arith, ap (λ (w : Transmission). w.1) e, ap (λ (w : Transmission). w.1) first)
      | inr following ↦ omega (arith, ap (λ (w : Transmission). w.1) e, pairs_head (λ (a b : Transmission). a.1 < b.1) y xs z pairs following)
    ]

-- each start of the list is at that index
pub stands_after : (xs : List Transmission) (x d : Transmission) → AllPairs (λ (a b : Transmission). a.1 < b.1) xs → Contains xs x → StandsAfter xs x d
stands_after [] x d pairs c = absurd (contains_none x c)
stands_after (y ∷ xs) x d pairs c = elim (contains_cases y xs x c) [
  | inl e ↦
      let none : many_before (y ∷ xs) x.1 ≡ 0 = ap length (none_before y x xs pairs e) in
      record { inside = omega (arith, none); same = ap (λ k. get_or (y ∷ xs) k d) none ∙ e }
  | inr h ↦
      let first = cond-true (nat_lt y.1 x.1) (y ∷ filter (is_before x.1) xs) (filter (is_before x.1) xs)
      (lt-ltb y.1 x.1 (pairs_head (λ (a b : Transmission). a.1 < b.1) y xs x pairs h)) in
      let more : many_before (y ∷ xs) x.1 ≡ suc (many_before xs x.1) = ap length first in
      let rest = stands_after xs x d (pairs_tail (λ (a b : Transmission). a.1 < b.1) y xs pairs) h in
      record { inside = omega (arith, more, rest.inside); same = ap (λ k. get_or (y ∷ xs) k d) more ∙ rest.same }
]

-- and the start at an index has that many starts before it
pub many_at : (xs : List Transmission) (k : ℕ) (d : Transmission) → AllPairs (λ (a b : Transmission). a.1 < b.1) xs → k < length xs →
    many_before xs (get_or xs k d).1 ≡ k
many_at xs k d pairs inside =
    let x = get_or xs k d in
    let at = stands_after xs x d pairs (Contains-get_or xs k d inside) in
    let same : (get_or xs (many_before xs x.1) d).1 ≡ x.1 = ap (λ (w : Transmission). w.1) at.same in
    elim (cases_order (many_before xs x.1) k) [
      | inl e ↦ e
      | inr o ↦ elim o [
        | inl less ↦ absurd (omega (arith, pairs (many_before xs x.1) k d less inside, same))
        | inr more ↦ absurd (omega (arith, pairs k (many_before xs x.1) d more at.inside, same))
      ]
    ]
