-- The spans of a gate list's entries: each instant of a round is in exactly one.
use Rattle.std.proofs.Common.{◌≡◌, ℕ, Bool, cond, ◌+◌, ◌-◌, ◌*◌, ◌/◌, ◌%◌, ◌<◌, ◌≤◌, ◌↔◌, List, length, sym, refl, ap, ◌∙◌, inl, inr, arith, subst}
use Rattle.std.specs.Prelude.{[], ◌∷◌, All, take, slice_index_or, zero, suc, IsBitSet}
use Rattle.std.proofs.lemmas.Bool.{cases_lt, lt-ltb, le-ltb}
use Rattle.std.proofs.lemmas.Nat.{mod-mul-add, div-add-mod', mod_below}
use Rattle.std.proofs.lemmas.List.Sums.{get_or-le-sum_by, sum_by-cons}
use Rattle.cqf_model.specs.declared.gates.OpenFor.{OpenFor}
use Rattle.cqf_model.specs.declared.gates.OpenFor.TheVariants.{Closed, Always, Until}
use Rattle.cqf_model.specs.GateList.{Entry, InForce, IsOpen, IsOpenFor, IsOpenThrough, round_of, states_at, states_in}
use Rattle.cqf_laws_network.specs.GateLaws.{Fits}

-- a round is the first entry's interval followed by the round of the rest
pub round_cons : (e : Entry) (es : List Entry) → round_of (e ∷ es) ≡ e.1 + round_of es
round_cons e es = sum_by-cons (λ (x : Entry). x.1) e es

-- the beginnings of the later entries' spans
begins_cons : (e : Entry) (es : List Entry) (index offset : ℕ) → round_of (take (suc index) (e ∷ es)) + offset ≡ e.1 + (round_of (take index es) + offset)
begins_cons e es index offset = let cons : round_of (take (suc index) (e ∷ es)) ≡ e.1 + round_of (take index es) = round_cons e (take index es) in
    omega (arith, cons)

-- 0 and a number
zero_add : (n : ℕ) → 0 + n ≡ n
zero_add n = omega arith

-- before the first entry's end its states are in force
states_here : (e : Entry) (es : List Entry) (x : ℕ) → x < e.1 → states_in (e ∷ es) x ≡ e.0
states_here e es x l = ap (λ (b : Bool). cond b e.0 (states_in es (x - e.1))) (lt-ltb x e.1 l)

-- after the first entry's end the states are those of the rest
states_there : (e : Entry) (es : List Entry) (x y : ℕ) → x ≡ e.1 + y → states_in (e ∷ es) x ≡ states_in es y
states_there e es x y h =
    let same : x - e.1 ≡ y = omega (arith, h) in
    ap (λ (b : Bool). cond b e.0 (states_in es (x - e.1))) (le-ltb x e.1 (omega (arith, h))) ∙ ap (states_in es) same

-- the states within the span of an entry are that entry's
states_in_span : (entries : List Entry) (index offset : ℕ) → offset < (slice_index_or entries index (0, 0)).1 →
    states_in entries (round_of (take index entries) + offset) ≡ (slice_index_or entries index (0, 0)).0
states_in_span [] index offset h = absurd (omega (arith, h))
states_in_span (e ∷ es) zero offset h =
    let l : offset < e.1 = h in
    states_here e es (0 + offset) (omega (arith, l))
states_in_span (e ∷ es) (suc index) offset h =
    states_there e es (round_of (take (suc index) (e ∷ es)) + offset) (round_of (take index es) + offset) (begins_cons e es index offset)
    ∙ states_in_span es index offset h

-- the span of an entry ends within the round
span_in_round : (entries : List Entry) (index offset : ℕ) → offset < (slice_index_or entries index (0, 0)).1 →
    round_of (take index entries) + offset < round_of entries
span_in_round [] index offset h = absurd (omega (arith, h))
span_in_round (e ∷ es) zero offset h =
    let l : offset < e.1 = h in
    let begin : round_of (take zero (e ∷ es)) ≡ 0 = refl in
    omega (arith, l, begin, round_cons e es)
span_in_round (e ∷ es) (suc index) offset h =
    omega (arith, begins_cons e es index offset, round_cons e es, span_in_round es index offset h)

-- an instant of the round as an entry's index and an offset within its span
record At (entries : List Entry) (x index offset : ℕ) : Type 0 where
  inside : index < length entries
  is : x ≡ round_of (take index entries) + offset
  within : offset < (slice_index_or entries index (0, 0)).1

-- an instant within the first entry
at_here : (e : Entry) (es : List Entry) (x : ℕ) → x < e.1 → At (e ∷ es) x zero x
at_here e es x l = record { inside = omega arith; is = sym (zero_add x); within = l }

-- an instant after the first entry
at_there : (e : Entry) (es : List Entry) (x index offset : ℕ) → e.1 ≤ x → At es (x - e.1) index offset → At (e ∷ es) x (suc index) offset
at_there e es x index offset g a =
    record { inside = omega (arith, a.inside); is = omega (arith, a.is, g, begins_cons e es index offset); within = a.within }

-- each instant of a round is in an entry
some_at : (entries : List Entry) (x : ℕ) → x < round_of entries → (index : ℕ) × (offset : ℕ) × At entries x index offset
some_at [] x h = absurd (omega (arith, h))
some_at (e ∷ es) x h =
    elim (cases_lt x e.1) [
      | inl l ↦ (zero, x, at_here e es x l)
      | inr g ↦ let r = some_at es (x - e.1) (omega (arith, h, g, round_cons e es)) in
          (suc r.0, r.1, at_there e es x r.0 r.1 g r.2)
    ]

-- and in no other
one_at : (entries : List Entry) (p o q u : ℕ) → o < (slice_index_or entries p (0, 0)).1 → u < (slice_index_or entries q (0, 0)).1 →
    round_of (take p entries) + o ≡ round_of (take q entries) + u → (p ≡ q) × (o ≡ u)
one_at [] p o q u h k e = absurd (omega (arith, h))
one_at (x ∷ xs) zero o zero u h k e =
    let f : 0 + o ≡ 0 + u = e in (refl, omega (arith, f))
one_at (x ∷ xs) zero o (suc q) u h k e =
    let l : o < x.1 = h in
    let f : 0 + o ≡ round_of (take (suc q) (x ∷ xs)) + u = e in absurd (omega (arith, l, f, begins_cons x xs q u))
one_at (x ∷ xs) (suc p) o zero u h k e =
    let l : u < x.1 = k in
    let f : round_of (take (suc p) (x ∷ xs)) + o ≡ 0 + u = e in absurd (omega (arith, l, f, begins_cons x xs p o))
one_at (x ∷ xs) (suc p) o (suc q) u h k e =
    let r = one_at xs p o q u h k (omega (arith, e, begins_cons x xs p o, begins_cons x xs q u)) in (ap suc r.0, r.1)

-- an instant modulo the round is its entry's beginning and the offset
in_round : (entries : List Entry) (t index offset : ℕ) → InForce entries t index offset → t % round_of entries ≡ round_of (take index entries) + offset
in_round entries t index offset f =
    let x = round_of (take index entries) + offset in
    let r = round_of entries in
    let same : t ≡ f.round * r + x = omega (arith, f.spans) in
    ap (λ (z : ℕ). z % r) same ∙ mod-mul-add f.round r x (span_in_round entries index offset f.within)

-- the states at an instant are those of the entry in force
pub states_of_entry : (entries : List Entry) (t index offset : ℕ) → InForce entries t index offset →
    states_at entries t ≡ (slice_index_or entries index (0, 0)).0
states_of_entry entries t index offset f =
    ap (states_in entries) (in_round entries t index offset f) ∙ states_in_span entries index offset f.within

-- a round takes time if any entry does
pub round_takes_time : (entries : List Entry) (index : ℕ) → index < length entries → 0 < (slice_index_or entries index (0, 0)).1 → 0 < round_of entries
round_takes_time entries index l h = omega (arith, h, get_or-le-sum_by (λ (x : Entry). x.1) entries index (0, 0) l)

-- some entry is in force
pub some_in_force : (entries : List Entry) (t : ℕ) → 0 < round_of entries → (index : ℕ) × (offset : ℕ) × InForce entries t index offset
some_in_force entries t h =
    let r = round_of entries in
    let w = some_at entries (t % r) (mod_below t r h) in
    (w.0, w.1, record { inside = w.2.inside; round = t / r; spans = omega (arith, div-add-mod' t r, w.2.is); within = w.2.within })

-- at most one is
pub one_in_force : (entries : List Entry) (t p o q u : ℕ) → InForce entries t p o → InForce entries t q u → (p ≡ q) × (o ≡ u)
one_in_force entries t p o q u f g =
    one_at entries p o q u f.within g.within (sym (in_round entries t p o f) ∙ in_round entries t q u g)

-- a class that each entry opens is open at every instant
pub always_open : (entries : List Entry) (class t : ℕ) → 0 < round_of entries → All (λ (entry : Entry). IsBitSet entry.0 class) entries → IsOpen entries class t
always_open entries class t h all =
    let w = some_in_force entries t h in
    subst (λ (x : ℕ). IsBitSet x class) (sym (states_of_entry entries t w.0 w.1 w.2)) (all w.0 (0, 0) w.2.inside)

-- a frame that ends after it began fits exactly where the class stays open for it
pub fits_while_open : (entries : List Entry) (class t ending : ℕ) (open_for : OpenFor) → 0 < round_of entries → t < ending →
    IsOpenFor entries class t open_for → (IsOpenThrough entries class t ending ↔ Fits open_for ending)
fits_while_open entries class t ending Closed h l o = (λ through. o (through t (omega arith) l), λ never. absurd never)
fits_while_open entries class t ending Always h l o = (λ through. tt, λ fits u a b. always_open entries class u h o)
fits_while_open entries class t ending (Until end) h l o = (
  λ through. elim (cases_lt end.0 ending) [ inl k ↦ absurd (o.2 (through end.0 (omega (arith, o.0)) k)) | inr k ↦ k ],
  λ fits u a b. o.1 u a (omega (arith, b, fits)),
)
