-- The index of the gate of a number among the kept gates: the first few are searched, and the numbers of the others are listed.
use Rattle.std.proofs.Common.{◌≡◌, ◌+◌, ◌<◌, ◌≤◌, ℕ, Bool, false, not, List, [], ◌∷◌, ◌++◌, ◌∙◌, inl, inr, sym, ap, ap₂}
use Rattle.std.proofs.Common.{refl, arith, length, map, nat_eq, nat_lt, position, drop, take, Option, Some, None}
use Rattle.std.specs.Prelude.{◌==◌, ◌||◌, if◌then◌else◌, is_some, option_map}
use Rattle.std.specs.List.{list_any, prefix_len}
use Rattle.std.proofs.lemmas.Bool.{cases_eq, cases_lt, cond-false, cond-true, eq-eqb, le-ltb, lt-ltb, ne_eqb, or_parts}
use Rattle.std.proofs.lemmas.Option.{none-some}
use Rattle.std.proofs.lemmas.List.{drop-append-le, drop-map, length-append, length-map, length-take-le, map-append, take-append-drop}
use Rattle.std.proofs.lemmas.List.Folds.{list_any-append, prefix_len-append}
use Rattle.std.proofs.lemmas.List.Sums.{prefix_len-le-length}
use Rattle.std.proofs.Math.ListN.{drop_of_length-le}
use Rattle.indexmap.specs.IndexSet.{insert_key}
use Rattle.cqf_lists.proofs.Any.{position_any}
use Rattle.cqf_bridge.specs.declared.cycle_gate.KeptGate.{KeptGate}

-- equality of two numbers is symmetric
eqb_turned : (a b : ℕ) → (a == b) ≡ (b == a)
eqb_turned a b = elim (cases_eq a b) [
  | inl same ↦ eq-eqb a b same ∙ sym (eq-eqb b a (sym same))
  | inr other ↦ ne_eqb a b other ∙ sym (ne_eqb b a (λ e. other (sym e)))
]

-- an index, if it is below a length
abbrev index_below : ℕ → ℕ → Option ℕ
index_below index length = if nat_lt index length then Some index else None

-- the same offset added to both
below_after : (front index length : ℕ) → index_below (front + index) (front + length) ≡ option_map (λ (k : ℕ). front + k) (index_below index length)
below_after front index length = elim (cases_lt index length) [
  | inl less ↦
      cond-true (nat_lt (front + index) (front + length)) (Some (front + index)) None (lt-ltb (front + index) (front + length) (omega (arith, less)))
      ∙ ap (option_map (λ (k : ℕ). front + k)) (sym (cond-true (nat_lt index length) (Some index) None (lt-ltb index length less)))
  | inr more ↦
      cond-false (nat_lt (front + index) (front + length)) (Some (front + index)) None (le-ltb (front + index) (front + length) (omega (arith, more)))
      ∙ ap (option_map (λ (k : ℕ). front + k)) (sym (cond-false (nat_lt index length) (Some index) None (le-ltb index length more)))
]

-- an index that isn't below is not less
not_below : (index length : ℕ) → index_below index length ≡ None → length ≤ index
not_below index length none = elim (cases_lt index length) [
  | inl less ↦ absurd (none-some index (sym none ∙ cond-true (nat_lt index length) (Some index) None (lt-ltb index length less)))
  | inr more ↦ more
]

-- if no element of a front passes a test, the first index that passes is after it
position_after : {X : Type 0} (p : X → Bool) (xs ys : List X) → position p xs ≡ None →
    position p (xs ++ ys) ≡ option_map (λ (k : ℕ). length xs + k) (position p ys)
position_after {X} p xs ys none =
    let q : X → Bool = λ x. not (p x) in
    let all : prefix_len q xs ≡ length xs =
    omega (arith, not_below (prefix_len q xs) (length xs) none, prefix_len-le-length q xs) in
    let index : prefix_len q (xs ++ ys) ≡ length xs + prefix_len q ys =
    prefix_len-append q xs ys
    ∙ cond-true (prefix_len q xs == length xs) (length xs + prefix_len q ys) (prefix_len q xs) (eq-eqb (prefix_len q xs) (length xs) all) in
    ap₂ index_below index (length-append xs ys) ∙ below_after (length xs) (prefix_len q ys) (length ys)

-- the index of a number is that of its gate
number_index : (number : ℕ) (gates : List KeptGate) →
    position (nat_eq number) (map (λ (g : KeptGate). g.number) gates) ≡ position (λ (g : KeptGate). g.number == number) gates
number_index number gates = ap₂ index_below (before gates) (length-map gates (λ (g : KeptGate). g.number))
  where
    -- this many are before it
    before : (gs : List KeptGate) →
        prefix_len (λ (n : ℕ). not (nat_eq number n)) (map (λ (g : KeptGate). g.number) gs) ≡ prefix_len (λ (g : KeptGate). not (g.number == number)) gs
    before [] = refl
    before (g ∷ gs) = ap₂ (λ (b : Bool) (n : ℕ). if not b then 1 + n else 0) (eqb_turned number g.number) (before gs)

-- the index of a number that isn't among the first few
pub index_after : (number few : ℕ) (gates : List KeptGate) (numbers : List ℕ) (o : Option ℕ) → few ≤ length gates →
    numbers ≡ drop few (map (λ (g : KeptGate). g.number) gates) → None ≡ position (λ (g : KeptGate). g.number == number) (take few gates) →
    o ≡ position (nat_eq number) numbers → option_map (λ (k : ℕ). few + k) o ≡ position (λ (g : KeptGate). g.number == number) gates
index_after number few gates numbers o long are none is =
    let p : KeptGate → Bool = λ g. g.number == number in
    ap (option_map (λ (k : ℕ). few + k))
    (is ∙ ap (position (nat_eq number)) (are ∙ drop-map (λ (g : KeptGate). g.number) few gates) ∙ number_index number (drop few gates))
    ∙ ap (λ (n : ℕ). option_map (λ (k : ℕ). n + k) (position p (drop few gates))) (sym (length-take-le few gates long))
    ∙ sym (position_after p (take few gates) (drop few gates) (sym none))
    ∙ ap (position p) (take-append-drop few gates)

-- one more gate, among the first few
pub among_few : (few : ℕ) (gates : List KeptGate) (g : KeptGate) (numbers : List ℕ) → length gates < few →
    numbers ≡ drop few (map (λ (k : KeptGate). k.number) gates) → numbers ≡ drop few (map (λ (k : KeptGate). k.number) (gates ++ g ∷ []))
among_few few gates g numbers short are =
    let number : KeptGate → ℕ = λ k. k.number in
    are
    ∙ drop_of_length-le (map number gates) (omega (arith, short, length-map gates number))
    ∙ sym (drop_of_length-le (map number (gates ++ g ∷ [])) (omega (arith, short, length-map (gates ++ g ∷ []) number, length-append gates (g ∷ []))))

-- a number that has no index isn't listed
not_listed : (number few : ℕ) (gates : List KeptGate) → position (λ (g : KeptGate). g.number == number) gates ≡ None →
    list_any (nat_eq number) (drop few (map (λ (g : KeptGate). g.number) gates)) ≡ false
not_listed number few gates none =
    let p : KeptGate → Bool = λ g. g.number == number in
    let apart : (list_any p (take few gates) || list_any p (drop few gates)) ≡ false =
    sym (list_any-append p (take few gates) (drop few gates)) ∙ ap (list_any p) (take-append-drop few gates) ∙ sym (position_any p gates) ∙ ap is_some none in
    ap (list_any (nat_eq number)) (drop-map (λ (g : KeptGate). g.number) few gates)
    ∙ sym (position_any (nat_eq number) (map (λ (g : KeptGate). g.number) (drop few gates)))
    ∙ ap is_some (number_index number (drop few gates))
    ∙ position_any p (drop few gates)
    ∙ (or_parts (list_any p (take few gates)) (list_any p (drop few gates)) apart).1

-- one more gate after them, whose number is inserted
pub after_few : (few : ℕ) (gates : List KeptGate) (g : KeptGate) (numbers after : List ℕ) → few ≤ length gates →
    numbers ≡ drop few (map (λ (k : KeptGate). k.number) gates) → position (λ (k : KeptGate). k.number == g.number) gates ≡ None →
    after ≡ insert_key nat_eq numbers g.number → after ≡ drop few (map (λ (k : KeptGate). k.number) (gates ++ g ∷ []))
after_few few gates g numbers after long are none put =
    let number : KeptGate → ℕ = λ k. k.number in
    put
    ∙ cond-false (list_any (nat_eq g.number) numbers) numbers (numbers ++ g.number ∷ [])
    (ap (list_any (nat_eq g.number)) are ∙ not_listed g.number few gates none)
    ∙ ap (λ (ns : List ℕ). ns ++ g.number ∷ []) are
    ∙ sym (drop-append-le few (map number gates) (g.number ∷ []) (omega (arith, long, length-map gates number)))
    ∙ ap (drop few) (sym (map-append number gates (g ∷ [])))
