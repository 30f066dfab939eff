-- The entries of a reservation form a list.
use Rattle.std.proofs.Common.{◌≡◌, ℕ, ◌+◌, ◌-◌, ◌*◌, ◌%◌, ◌<◌, ◌≤◌, List, [], ◌∷◌, ◌++◌, length, Bool, true, false, ◌||◌, if◌then◌else◌, not, ◌&&◌}
use Rattle.std.proofs.Common.{Some, Ok, refl, ap, ap₂, sym, ◌∙◌, arith, ◌==◌, inl, inr, subst, nat_lt, mod-lt, append_assoc, length-append}
use Rattle.std.specs.List.{list_any}
use Rattle.std.proofs.lemmas.Bool.Decides.{eqb_tells, nat_tests}
use Rattle.std.proofs.lemmas.Bool.{ne_eqb, le-ltb}
use Rattle.std.proofs.lemmas.List.Folds.{list_any-append}
use Rattle.std.proofs.lemmas.Nat.{mul-le}
use Rattle.cqf_model.specs.declared.gates.StreamEntry.{StreamEntry}
use Rattle.cqf_model.specs.declared.topology.Pace.{Pace}
use Rattle.cqf_gates.specs.ReservedSpans.{closed_for, first_active_cycle, open_in, reserved_spans, second_active_cycle, spans_from}
use Rattle.cqf_gates.specs.StreamGate.{is_bad_ipv, stream_list_of}

-- the entry is in force for no time
abbrev is_zero : StreamEntry → Bool
is_zero entry = entry.interval == 0

-- entries without a fault
record AreGood (entries : List StreamEntry) : Type 0 where
  pub lasting : list_any is_zero entries ≡ false
  pub valued : list_any is_bad_ipv entries ≡ false

none_good : AreGood []
none_good = record { lasting = refl; valued = refl }

good_after : (front back : List StreamEntry) → AreGood front → AreGood back → AreGood (front ++ back)
good_after front back one two = record {
  lasting = list_any-append is_zero front back ∙ ap₂ (λ (a b : Bool). a || b) one.lasting two.lasting;
  valued = list_any-append is_bad_ipv front back ∙ ap₂ (λ (a b : Bool). a || b) one.valued two.valued;
}

good_one : (e : StreamEntry) → is_zero e ≡ false → is_bad_ipv e ≡ false → AreGood (e ∷ [])
good_one e some valued = record { lasting = ap (λ (b : Bool). b || false) some; valued = ap (λ (b : Bool). b || false) valued }

-- a closed span is good
good_closed : (n cycles : ℕ) → 0 < n → AreGood (closed_for n cycles)
good_closed n cycles some =
    let shut : StreamEntry = record { ipv = 6; interval = cycles * n; octet_max = Some 0 } in
    let spans : Bool → List StreamEntry = λ b. if b then [] else shut ∷ [] in
    elim (eqb_tells cycles 0) [
      | inl none ↦ subst (λ (b : Bool). AreGood (spans b)) (sym none.0) none_good
      | inr more ↦
          let least : 1 * n ≤ cycles * n = mul-le 1 n cycles n (omega (arith, more.1)) (omega arith) in
          subst (λ (b : Bool). AreGood (spans b)) (sym more.0) (good_one shut (ne_eqb (cycles * n) 0 (λ none. absurd (omega (arith, none, least, some)))) refl)
    ]

-- an open one is good
good_open : (n reserved cycle : ℕ) → 0 < n → AreGood (open_in n reserved cycle ∷ [])
good_open n reserved cycle some =
    good_one (open_in n reserved cycle) (ne_eqb n 0 (λ none. absurd (omega (arith, none, some)))) (class (cycle % 2) (mod-lt cycle (omega arith)))
  where
    -- each class is 6 or 7
    class : (x : ℕ) → x < 2 → (not (6 + x == 6) && not (6 + x == 7)) ≡ false
    class x small = grind (arith, nat_tests, small)

-- the entries of a second period are good
good_second : (n reserved : ℕ) (pace : Pace) (active_cycle : ℕ) → 0 < n → AreGood (second_active_cycle n reserved pace active_cycle)
good_second n reserved pace active_cycle some = by ((pace.pause + 1) % 2 == 0)
  where
    by : (b : Bool) → AreGood (if b then [] else closed_for n pace.pause ++ open_in n reserved (active_cycle + (pace.pause + 1)) ∷ [])
    by true = none_good
    by false =
        good_after (closed_for n pace.pause) (open_in n reserved (active_cycle + (pace.pause + 1)) ∷ []) (good_closed n pace.pause some)
        (good_open n reserved (active_cycle + (pace.pause + 1)) some)

-- a closed span is at most one entry, and the rest of two periods at most two
few_closed : (n cycles : ℕ) → length (closed_for n cycles) ≤ 1
few_closed n cycles = by (cycles == 0)
  where
    shut : StreamEntry
    shut = record { ipv = 6; interval = cycles * n; octet_max = Some 0 }

    by : (b : Bool) → length (if b then [] else shut ∷ []) ≤ 1
    by true = omega arith
    by false = omega arith

few_second : (n reserved : ℕ) (pace : Pace) (active_cycle : ℕ) → length (second_active_cycle n reserved pace active_cycle) ≤ 2
few_second n reserved pace active_cycle = by ((pace.pause + 1) % 2 == 0)
  where
    by : (b : Bool) → length (if b then [] else closed_for n pace.pause ++ open_in n reserved (active_cycle + (pace.pause + 1)) ∷ []) ≤ 2
    by true = omega arith
    by false = omega (arith, few_closed n pace.pause, length-append (closed_for n pace.pause) (open_in n reserved (active_cycle + (pace.pause + 1)) ∷ []))

-- good entries, one to sixteen, form a list
good_made : (entries : List StreamEntry) → AreGood entries → 0 < length entries → length entries ≤ 16 → stream_list_of entries ≡ Ok entries
good_made entries good some few =
    let not_none : (length entries == 0) ≡ false = ne_eqb (length entries) 0 (λ none. absurd (omega (arith, none, some))) in
    let not_many : nat_lt 16 (length entries) ≡ false = le-ltb 16 (length entries) few in
    rw (not_none, not_many, good.lasting, good.valued)

-- so do a reservation's entries
pub spans_made : (n reserved : ℕ) (pace : Pace) (hop_number : ℕ) → 0 < n → stream_list_of (reserved_spans n reserved pace hop_number) ≡ Ok (reserved_spans n reserved pace hop_number)
spans_made n reserved pace hop_number some =
    let active_cycle = first_active_cycle pace hop_number in
    let front = closed_for n active_cycle in
    let own = open_in n reserved active_cycle in
    let more = second_active_cycle n reserved pace active_cycle in
    let back = closed_for n (pace.pause - active_cycle) in
    let rest = good_after (own ∷ []) (more ++ back) (good_open n reserved active_cycle some)
    (good_after more back (good_second n reserved pace active_cycle some) (good_closed n (pace.pause - active_cycle) some)) in
    let parts = length-append front (own ∷ (more ++ back)) in
    let following = length-append more back in
    good_made (reserved_spans n reserved pace hop_number) (good_after front (own ∷ (more ++ back)) (good_closed n active_cycle some) rest)
    (omega (arith, parts))
    (omega (arith, parts, following, few_closed n active_cycle, few_second n reserved pace active_cycle, few_closed n (pace.pause - active_cycle)))

-- put together one after the other they are the reservation's, in the terms of the calls that read the pace
pub put_together : (n reserved : ℕ) (pace : Pace) (hop_number pause phase deep : ℕ) (none closed own again all : List StreamEntry) → pause ≡ pace.pause →
    phase ≡ pace.phase → deep ≡ hop_number → none ≡ [] → closed ≡ none ++ closed_for n ((phase + deep) % (pause + 1)) →
    own ≡ closed ++ open_in n reserved ((phase + deep) % (pause + 1)) ∷ [] → again ≡ own ++ second_active_cycle n reserved pace ((phase + deep) % (pause + 1)) →
    all ≡ again ++ closed_for n (pause - (phase + deep) % (pause + 1)) → all ≡ reserved_spans n reserved pace hop_number
put_together n reserved pace hop_number pause phase deep none closed own again all is_pause is_phase is_deep e f g h k =
    let active_cycle = (phase + deep) % (pause + 1) in
    let m = second_active_cycle n reserved pace active_cycle in
    let is_active : active_cycle ≡ first_active_cycle pace hop_number =
    ap (λ z. (z + deep) % (pause + 1)) is_phase ∙ ap (λ z. (pace.phase + z) % (pause + 1)) is_deep ∙ ap (λ z. (pace.phase + hop_number) % (z + 1)) is_pause in
    k ∙ ap (λ z. again ++ closed_for n (z - active_cycle)) is_pause
    ∙ ap (λ xs. xs ++ closed_for n (pace.pause - active_cycle)) (h ∙ ap (λ xs. xs ++ m) (g ∙ ap (λ xs. xs ++ open_in n reserved active_cycle ∷ []) (f ∙ ap (λ xs. xs ++ closed_for n active_cycle) e)))
    ∙ (simp append_assoc) ∙ ap (spans_from n reserved pace) is_active
