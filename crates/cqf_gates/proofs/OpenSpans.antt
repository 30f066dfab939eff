-- The time for which a run of entries keeps a class open.
use Rattle.std.proofs.Common.{ℕ, ◌≡◌, ◌+◌, ◌-◌, ◌*◌, ◌%◌, ◌^◌, ◌<◌, ◌≤◌, zero, suc, List, [], ◌∷◌, ◌++◌, All, length}
use Rattle.std.proofs.Common.{take, drop, map, get_or, bit_and, IsBitSet, inl, inr, sym, ap, ◌∙◌, subst, ltb, eqb, not}
use Rattle.std.proofs.Common.{true, false, arith}
use Rattle.std.specs.List.{prefix_len}
use Rattle.std.proofs.lemmas.Bool.Decides.{leb_tells}
use Rattle.std.proofs.lemmas.List.Sums.{sum_by-cons, sum_by-append, sum_by-take-drop, prefix_len-le-length, prefix_len_passes, prefix_len_stops}
use Rattle.std.proofs.lemmas.List.{take_all, take-append-drop, get_or-drop, get_or-map, get_or_append_left}
use Rattle.std.proofs.lemmas.List.{get_or-append-add, length-append, length-drop, length-take, length-map}
use Rattle.std.proofs.lemmas.List.Elements.{All-append, All-drop, All-take, All-from_get_or}
use Rattle.std.proofs.lemmas.Bool.{true≢false, eq-eqb, eqb-true, not-false}
use Rattle.cqf_model.specs.GateList.{Entry, round_of, states_in, states_at, IsOpen, IsOpenThrough, InForce}
use Rattle.cqf_lanes.specs.Kernels.{has_bit, open_run_of}
use Rattle.cqf_gates.specs.TxList.{IsTxList}
use Rattle.cqf_gates.proofs.Rounds.{states_in-past, states_in-following, states_in-at, states_at-in_round, states_at-in_force, in_round}

-- within a run of entries that open the class, the class is open
pub run_opens : (entries : List Entry) (class run offset : ℕ) → ((k : ℕ) → k < run → IsBitSet (get_or entries k (0, 0)).0 class) →
    offset < round_of (take run entries) → IsBitSet (states_in entries offset) class
run_opens [] class zero offset opened within = absurd (omega arith)
run_opens [] class (suc run) offset opened within = absurd (omega arith)
run_opens (entry ∷ entries) class zero offset opened within = absurd (omega arith)
run_opens (entry ∷ entries) class (suc run) offset opened within =
    elim (leb_tells (suc offset) entry.1) [
      | inl first ↦
          let inside : ltb offset entry.1 ≡ true = first.0 in
          rw inside (opened 0 (omega arith))
      | inr later ↦
          let inside : ltb offset entry.1 ≡ false = later.0 in
          let passed : entry.1 ≤ offset = omega (arith, later.1) in
          let whole = sum_by-cons (λ (e : Entry). e.1) entry (take run entries) in
          rw inside (run_opens entries class run (offset - entry.1) (λ k below. opened (suc k) (omega arith)) (omega arith))
    ]

-- the first entry of a run is no longer than the run
pub first_le_run : (entries : List Entry) (run : ℕ) → 0 < run → (get_or entries 0 (0, 0)).1 ≤ round_of (take run entries)
first_le_run [] zero some = absurd (omega arith)
first_le_run [] (suc run) some = omega arith
first_le_run (entry ∷ entries) zero some = absurd (omega arith)
first_le_run (entry ∷ entries) (suc run) some = omega (arith, sum_by-cons (λ (e : Entry). e.1) entry (take run entries))

-- with further entries after it, a round is the same up to its end
states_in-front : (front following : List Entry) (offset : ℕ) → offset < round_of front → states_in (front ++ following) offset ≡ states_in front offset
states_in-front [] following offset within = absurd (omega arith)
states_in-front (entry ∷ front) following offset within =
    elim (leb_tells (suc offset) entry.1) [
      | inl first ↦
          let inside : ltb offset entry.1 ≡ true = first.0 in
          rw inside
      | inr later ↦
          let inside : ltb offset entry.1 ≡ false = later.0 in
          let passed : entry.1 ≤ offset = omega (arith, later.1) in
          let whole = sum_by-cons (λ (e : Entry). e.1) entry front in
          rw inside (states_in-front front following (offset - entry.1) (omega arith))
    ]

-- and after its end the further entries are in force
states_in-append : (front following : List Entry) (offset : ℕ) → states_in (front ++ following) (round_of front + offset) ≡ states_in following offset
states_in-append [] following offset = ap (states_in following) (omega arith)
states_in-append (entry ∷ front) following offset =
    let first = sum_by-cons (λ (e : Entry). e.1) entry front in
    let e : round_of (entry ∷ front) + offset ≡ entry.1 + (round_of front + offset) = omega (arith, first) in
    ap (states_in (entry ∷ (front ++ following))) e ∙ states_in-past entry (front ++ following) _ ∙ states_in-append front following offset

-- a round has a positive duration
pub round_positive : (entries : List Entry) → IsTxList entries → 0 < round_of entries
round_positive entries f = omega (arith, f.some, in_round entries 0 0 f.some (f.lasting 0 (0, 0) f.some))

-- the entries rotated to begin at an index
abbrev pub turned_to : ℕ → List Entry → List Entry
turned_to index entries = drop index entries ++ take index entries

-- from the first instant of an entry on, the states of a whole round are those of the list rotated to begin there
states_at-turned : (entries : List Entry) (round index offset : ℕ) → offset < round_of entries →
    states_at entries (round * round_of entries + round_of (take index entries) + offset) ≡ states_in (turned_to index entries) offset
states_at-turned entries round index offset within =
    let parts = sum_by-take-drop (λ (e : Entry). e.1) entries index in
    elim (leb_tells (suc offset) (round_of (drop index entries))) [
      | inl first ↦
          let here : offset < round_of (drop index entries) = first.1 in
          let e : round * round_of entries + round_of (take index entries) + offset ≡ round * round_of entries + (round_of (take index entries) + offset) =
          omega arith in
          ap (states_at entries) e ∙ states_at-in_round entries round _ (omega arith) ∙ states_in-following index entries offset
          ∙ sym (states_in-front (drop index entries) (take index entries) offset here)
      | inr later ↦
          let rest : ℕ = offset - round_of (drop index entries) in
          let following : round_of (drop index entries) + rest ≡ offset = omega (arith, later.1) in
          let short : rest < round_of (take index entries) = omega (arith, later.1) in
          let e : round * round_of entries + round_of (take index entries) + offset ≡ (round + 1) * round_of entries + rest = omega arith in
          let front : states_in entries rest ≡ states_in (take index entries) rest =
          ap (λ xs. states_in xs rest) (sym (take-append-drop index entries)) ∙ states_in-front (take index entries) (drop index entries) rest short in
          ap (states_at entries) e ∙ states_at-in_round entries (round + 1) rest (omega arith) ∙ front
          ∙ sym (states_in-append (drop index entries) (take index entries) rest) ∙ ap (states_in (turned_to index entries)) following
    ]

-- the rotated list lasts as long
round_of-turned : (entries : List Entry) (index : ℕ) → round_of (turned_to index entries) ≡ round_of entries
round_of-turned entries index = omega (
  arith,
  sum_by-append (λ (e : Entry). e.1) (drop index entries) (take index entries),
  sum_by-take-drop
      (λ (e : Entry). e.1) entries index,
)

-- has as many entries
pub length-turned : (entries : List Entry) (index : ℕ) → length (turned_to index entries) ≡ length entries
length-turned entries index = omega (arith, length-append (drop index entries) (take index entries), length-drop index entries, length-take index entries)

-- and begins with the one at the index
first_of-turned : (entries : List Entry) (index : ℕ) → index < length entries → get_or (turned_to index entries) 0 (0, 0) ≡ get_or entries index (0, 0)
first_of-turned entries index inside = get_or_append_left (drop index entries) (take index entries) (0, 0) 0 (omega (arith, length-drop index entries))
    ∙ get_or-drop index entries 0 (0, 0) ∙ ap (λ k. get_or entries k (0, 0)) (omega arith)

-- states that pass the bit's test open the class
open_from_test : (states class : ℕ) → has_bit states class ≡ true → IsBitSet states class
open_from_test states class test none = true≢false (sym test ∙ ap not (eq-eqb (bit_and states (2 ^ class)) 0 none))

-- states that fail it close the class
closed_from_test : (states class : ℕ) → has_bit states class ≡ false → ¬ IsBitSet states class
closed_from_test states class test is_set = is_set (eqb-true (bit_and states (2 ^ class)) 0 (not-false (eqb (bit_and states (2 ^ class)) 0) test))

-- a property of each element holds of each of the first ones
All-front : {A : Type 0} (P : A → Type 0) (xs ys : List A) → All P (xs ++ ys) → All P xs
All-front P xs ys all k d inside = subst P (get_or_append_left xs ys d k inside) (all k d (omega (arith, length-append xs ys)))

-- and of each of those after them
All-following : {A : Type 0} (P : A → Type 0) (xs ys : List A) → All P (xs ++ ys) → All P ys
All-following P xs ys all k d inside = subst P (get_or-append-add xs ys k d) (all (length xs + k) d (omega (arith, length-append xs ys)))

-- the states of an entry, among all states
state_of : (entries : List Entry) (k : ℕ) → k < length entries → get_or (map (λ (entry : Entry). entry.0) entries) k 0 ≡ (get_or entries k (0, 0)).0
state_of entries k inside = get_or-map (λ (entry : Entry). entry.0) entries k (0, 0) 0 inside

-- each entry of a run opens the class
opened_by_run : (entries : List Entry) (class run : ℕ) → run ≡ open_run_of class (map (λ (entry : Entry). entry.0) entries) → (k : ℕ) →
    k < run → IsBitSet (get_or entries k (0, 0)).0 class
opened_by_run entries class run is k below =
    let states : List ℕ = map (λ (entry : Entry). entry.0) entries in
    let most = prefix_len-le-length (λ gates. has_bit gates class) states in
    let inside : k < length entries = omega (arith, length-map entries (λ (entry : Entry). entry.0)) in
    let passes : has_bit (get_or states k 0) class ≡ true = prefix_len_passes (λ gates. has_bit gates class) states k 0 (omega arith) in
    subst (λ x. IsBitSet x class) (state_of entries k inside) (open_from_test (get_or states k 0) class passes)

-- a run isn't longer than the list
pub run_inside : (entries : List Entry) (class run : ℕ) → run ≡ open_run_of class (map (λ (entry : Entry). entry.0) entries) → run ≤ length entries
run_inside entries class run is =
    let run_is : run ≡ prefix_len (λ gates. has_bit gates class) (map (λ (entry : Entry). entry.0) entries) = is in
    omega (
      arith,
      prefix_len-le-length (λ gates. has_bit gates class) (map (λ (entry : Entry). entry.0) entries),
      length-map entries
          (λ (entry : Entry). entry.0),
    )

-- the entry after the run closes the class
closed_after_run : (entries : List Entry) (class run : ℕ) → run ≡ open_run_of class (map (λ (entry : Entry). entry.0) entries) →
    run < length entries → ¬ IsBitSet (get_or entries run (0, 0)).0 class
closed_after_run entries class run is inside =
    let states : List ℕ = map (λ (entry : Entry). entry.0) entries in
    let long = length-map entries (λ (entry : Entry). entry.0) in
    let run_is : run ≡ prefix_len (λ gates. has_bit gates class) states = is in
    let stops = prefix_len_stops (λ gates. has_bit gates class) states 0 (omega arith) in
    let here : has_bit (get_or states run 0) class ≡ false = ap (λ k. has_bit (get_or states k 0) class) run_is ∙ stops in
    subst (λ x. ¬ IsBitSet x class) (state_of entries run inside) (closed_from_test (get_or states run 0) class here)

module _ (entries : List Entry) (class t index offset run : ℕ) (f : IsTxList entries) (force : InForce entries t index offset)
    (is : run ≡ open_run_of class (map (λ (entry : Entry). entry.0) (turned_to index entries))) where
  -- if the run has all entries, each opens the class
  pub all-open : run ≡ length (turned_to index entries) → All (λ (entry : Entry). IsBitSet entry.0 class) entries
  all-open whole =
      let opened : All (λ (entry : Entry). IsBitSet entry.0 class) (turned_to index entries) =
      All-from_get_or (λ (entry : Entry). IsBitSet entry.0 class) (turned_to index entries) (0, 0)
      (λ k inside. opened_by_run (turned_to index entries) class run is k (omega arith)) in
      let following = All-front (λ (entry : Entry). IsBitSet entry.0 class) (drop index entries) (take index entries) opened in
      let front = All-following (λ (entry : Entry). IsBitSet entry.0 class) (drop index entries) (take index entries) opened in
      subst (All (λ (entry : Entry). IsBitSet entry.0 class)) (take-append-drop index entries)
      (All-append (λ (entry : Entry). IsBitSet entry.0 class) (take index entries) (drop index entries) front following)

  -- and then the class is open at every instant
  pub open-always : run ≡ length (turned_to index entries) → (s : ℕ) → IsOpen entries class s
  open-always whole s =
      let opened = all-open whole in
      let within : s % round_of entries < round_of entries = omega (arith, round_positive entries f) in
      run_opens entries class (length entries) (s % round_of entries) (λ k inside. opened k (0, 0) inside)
      (rw (take_all (length entries) entries (omega arith)) within)

  -- without a run, the entry in force closes the class
  pub closed-now : run ≡ 0 → ¬ IsOpen entries class t
  closed-now none =
      let first : ¬ IsBitSet (get_or (turned_to index entries) run (0, 0)).0 class =
      closed_after_run (turned_to index entries) class run is (omega (arith, f.some, length-turned entries index)) in
      let here : get_or (turned_to index entries) run (0, 0) ≡ get_or entries index (0, 0) =
      ap (λ k. get_or (turned_to index entries) k (0, 0)) none ∙ first_of-turned entries index force.inside in
      subst (λ x. ¬ IsBitSet x class) (ap (λ (entry : Entry). entry.0) here ∙ sym (states_at-in_force entries t index offset force)) first

  -- if the run ends, the class is open up to its end, and closed there
  pub open-to_end : (end : ℕ) → 0 < run → run < length (turned_to index entries) → end ≡ t - offset + round_of (take run (turned_to index entries))
      → (t < end) × IsOpenThrough entries class t end × (¬ IsOpen entries class end)
  open-to_end end some followed end_is =
      let list : List Entry = turned_to index entries in
      let begun : t - offset ≡ force.round * round_of entries + round_of (take index entries) = omega (arith, force.spans) in
      let first : (get_or entries index (0, 0)).1 ≤ round_of (take run list) =
      subst (λ (e : Entry). e.1 ≤ round_of (take run list)) (first_of-turned entries index force.inside) (first_le_run list run some) in
      let lasts : 0 < (get_or list run (0, 0)).1 = All-append (λ (entry : Entry). 0 < entry.1) (drop index entries) (take index entries)
      (All-drop (λ (entry : Entry). 0 < entry.1) index entries f.lasting) (All-take (λ (entry : Entry). 0 < entry.1) index entries f.lasting)
      run (0, 0) followed in
      let short = in_round list run 0 followed lasts in
      let whole = round_of-turned entries index in
      let at : (x : ℕ) → x < round_of entries → states_at entries (t - offset + x) ≡ states_in list x =
      λ x within. ap (λ b. states_at entries (b + x)) begun ∙ states_at-turned entries force.round index x within in (
        omega (arith, force.spans, force.within),
        λ s from to.
            let since : t - offset + (s - (t - offset)) ≡ s = omega (arith, force.spans) in
            let states : states_at entries s ≡ states_in list (s - (t - offset)) = ap (states_at entries) (sym since)
            ∙ at (s - (t - offset)) (omega (arith, force.spans)) in
            subst (λ x. IsBitSet x class) (sym states) (run_opens list class run (s - (t - offset)) (opened_by_run list class run is)
            (omega (arith, force.spans))),
        (let states : states_at entries end ≡ (get_or list run (0, 0)).0 = ap (states_at entries) end_is ∙ at (round_of (take run list)) (omega arith)
            ∙ ap (states_in list) (let e : round_of (take run list) ≡ round_of (take run list) + 0 = omega arith in e) ∙ states_in-at list run 0 lasts in
            subst (λ x. ¬ IsBitSet x class) (sym states) (closed_after_run list class run is followed)),
      )

-- the run was counted among the states of the rotated list
pub run_of_turned : (list given turned seen : List Entry) (states shown : List ℕ) (index class run : ℕ) → given ≡ list → turned
    ≡ turned_to index given → seen ≡ turned → states ≡ map (λ (entry : Entry). entry.0) seen → shown ≡ states → run ≡ open_run_of class shown
    → run ≡ open_run_of class (map (λ (entry : Entry). entry.0) (turned_to index list))
run_of_turned list given turned seen states shown index class run given_is turned_is seen_is states_are shown_are is =
    is ∙ ap (open_run_of class) (shown_are ∙ states_are ∙ ap (map (λ (entry : Entry). entry.0)) (seen_is ∙ turned_is ∙ ap (turned_to index) given_is))
