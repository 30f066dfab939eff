-- The entry in force at an offset from the beginning of a round, and its states.
use Rattle.std.proofs.Common.{ℕ, ◌≡◌, ◌+◌, ◌-◌, ◌*◌, ◌/◌, ◌%◌, ◌<◌, ◌≤◌, zero, suc, List, [], ◌∷◌, length, take, drop}
use Rattle.std.proofs.Common.{get_or, refl, ap, ◌∙◌, ltb, true, false, arith}
use Rattle.std.proofs.lemmas.Bool.Decides.{nat_tests}
use Rattle.std.proofs.lemmas.List.Sums.{sum_by-cons, sum_by_more_le}
use Rattle.std.proofs.lemmas.Nat.{mod-mul-add}
use Rattle.std.proofs.Math.Nat.{mod-add-div'}
use Rattle.std.proofs.lemmas.List.{get_or-drop}
use Rattle.cqf_model.specs.GateList.{Entry, round_of, states_in, states_at, InForce}

-- after its first entry a round continues with the others
pub states_in-past : (entry : Entry) (entries : List Entry) (offset : ℕ) → states_in (entry ∷ entries) (entry.1 + offset) ≡ states_in entries offset
states_in-past entry entries offset =
    let following : ltb (entry.1 + offset) entry.1 ≡ false = grind (arith, nat_tests) in
    let rest : entry.1 + offset - entry.1 ≡ offset = omega arith in
    rw (following, rest)

-- after the first k entries of a round the others are in force
pub states_in-following : (k : ℕ) (entries : List Entry) (offset : ℕ) → states_in entries (round_of (take k entries) + offset) ≡ states_in (drop k entries) offset
states_in-following zero entries offset = ap (states_in entries) (omega arith)
states_in-following (suc k) [] offset = refl
states_in-following (suc k) (entry ∷ entries) offset =
    let first = sum_by-cons (λ (e : Entry). e.1) entry (take k entries) in
    let e : round_of (take (suc k) (entry ∷ entries)) + offset ≡ entry.1 + (round_of (take k entries) + offset) = omega (arith, first) in
    ap (states_in (entry ∷ entries)) e ∙ states_in-past entry entries _ ∙ states_in-following k entries offset

-- in the interval of the first entry its states are in force
pub states_in-first : (entries : List Entry) (offset : ℕ) → offset < (get_or entries 0 (0, 0)).1 → states_in entries offset ≡ (get_or entries 0 (0, 0)).0
states_in-first [] offset within = refl
states_in-first (entry ∷ entries) offset within =
    let inside : ltb offset entry.1 ≡ true = grind (arith, nat_tests) in
    rw inside

-- at an offset from the first instant of an entry, within its interval, its states are in force
pub states_in-at : (entries : List Entry) (index offset : ℕ) → offset < (get_or entries index (0, 0)).1 →
    states_in entries (round_of (take index entries) + offset) ≡ (get_or entries index (0, 0)).0
states_in-at entries index offset within =
    let head : get_or (drop index entries) 0 (0, 0) ≡ get_or entries index (0, 0) = get_or-drop index entries 0 (0, 0)
    ∙ ap (λ k. get_or entries k (0, 0)) (omega arith) in
    let inside : offset < (get_or (drop index entries) 0 (0, 0)).1 = rw head within in
    states_in-following index entries offset ∙ states_in-first (drop index entries) offset inside ∙ ap (λ (entry : Entry). entry.0) head

-- an instant within the interval of an entry is in the entry's round
pub in_round : (entries : List Entry) (index offset : ℕ) → index < length entries → offset < (get_or entries index (0, 0)).1 →
    round_of (take index entries) + offset < round_of entries
in_round entries index offset inside within = omega (arith, sum_by_more_le (λ (entry : Entry). entry.1) entries index (0, 0) inside)

-- rounds repeat
pub states_at-in_round : (entries : List Entry) (round offset : ℕ) → offset < round_of entries → states_at entries (round * round_of entries + offset)
    ≡ states_in entries offset
states_at-in_round entries round offset within = ap (states_in entries) (mod-mul-add round (round_of entries) offset within)

-- the states of the entry in force
pub states_at-in_force : (entries : List Entry) (t index offset : ℕ) → InForce entries t index offset → states_at entries t ≡ (get_or entries index (0, 0)).0
states_at-in_force entries t index offset f =
    let e : t ≡ f.round * round_of entries + (round_of (take index entries) + offset) = omega (arith, f.spans) in
    ap (states_at entries) e ∙ states_at-in_round entries f.round _ (in_round entries index offset f.inside f.within)
    ∙ states_in-at entries index offset f.within

-- an index is in force if the offset in the round is the round of the entries before it and what is left
pub InForce-from_rest : (entries : List Entry) (t index offset : ℕ) → index < length entries → round_of (take index entries) + offset
    ≡ t % round_of entries → offset < (get_or entries index (0, 0)).1 → InForce entries t index offset
InForce-from_rest entries t index offset inside rest within = record {
  inside = inside;
  round = t / round_of entries;
  spans = omega (arith, mod-add-div' t (round_of entries));
  within = within;
}

-- an entry stays in force to the end of its interval
pub InForce-later : (entries : List Entry) (t index offset s : ℕ) → InForce entries t index offset → t ≤ s → s < t
    + (get_or entries index (0, 0)).1 - offset → InForce entries s index (offset + (s - t))
InForce-later entries t index offset s f from to = record {
  inside = f.inside;
  round = f.round;
  spans = omega (arith, f.spans);
  within = omega (arith, f.within);
}
