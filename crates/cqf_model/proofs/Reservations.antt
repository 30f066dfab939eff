-- The stream gate control list of a reservation.
use Rattle.std.proofs.Common.{◌≡◌, ◌+◌, ◌-◌, ◌*◌, ◌/◌, ◌%◌, ◌<◌, ◌∙◌, ℕ, Bool, true, false, suc, zero, inl, inr, ap, arith, mod-lt, sym, List, ◌∷◌, [], length}
use Rattle.std.proofs.Common.{nat_lt, lt-ltb, le-ltb, if◌then◌else◌, Option, Some, ◌==◌, subst, refl}
use Rattle.std.specs.Prelude.{nat_le, slice_get}
use Rattle.std.proofs.lemmas.List.Sums.{sum_by_push}
use Rattle.std.proofs.lemmas.Nat.{div-mul-add}
use Rattle.std.specs.Option.{option_and_then, option_map_or}
use Rattle.std.proofs.lemmas.Bool.{cases_lt, cond-false, cond-true, eqb-true}
use Rattle.std.proofs.lemmas.Option.{slice_get-get_or}
use Rattle.std.proofs.Math.Nat.{mod-mod_of_dvd, div-eq_of_lt, div-eq-sub-div, div-div-eq-div-mul, mul_comm, mod_self, mul-mod_left, mul-mod_right}
use Rattle.std.proofs.Math.Arith.{mod-mul}
use Rattle.std.proofs.lemmas.Nat.Gcd.{dvd_of_mod-eq-zero}
use Rattle.cqf_lists.specs.Lists.{each_below}
use Rattle.cqf_lists.proofs.EachBelow.{first_below, get_or-singles, length-singles}
use Rattle.cqf_model.specs.declared.gates.StreamEntry.{StreamEntry}
use Rattle.cqf_model.specs.declared.topology.Pace.{Pace}
use Rattle.cqf_model.specs.Paces.{is_active}
use Rattle.cqf_model.specs.StreamGate.{gate_cycles, gate_round, index_at, index_in, round_at, stream_entry, stream_list, within}

-- the index of the entry in force, by a division, if all entries are equally long
equal_index : (n : ℕ) (e : ℕ → StreamEntry) (count offset : ℕ) → 0 < n → ((k : ℕ) → (e k).interval ≡ n) → offset < count * n →
    index_in (each_below (λ k. e k ∷ []) count) offset ≡ offset / n
equal_index n e zero offset some same inside = absurd (omega (arith, inside))
equal_index n e (suc count) offset some same inside =
    let more = each_below (λ k. e (k + 1) ∷ []) count in
    ap (λ (xs : List StreamEntry). index_in xs offset) (first_below (λ k. e k ∷ []) count)
    ∙ ap (λ z. if nat_lt offset z then 0 else suc (index_in more (offset - z))) (same 0)
    ∙ elim (cases_lt offset n) [
      | inl first ↦ cond-true (nat_lt offset n) 0 (suc (index_in more (offset - n))) (lt-ltb offset n first) ∙ sym (div-eq_of_lt first)
      | inr later ↦
          let less : offset - n < count * n = omega (arith, inside, later) in
          cond-false (nat_lt offset n) 0 (suc (index_in more (offset - n))) (le-ltb offset n later)
          ∙ ap suc (equal_index n (λ k. e (k + 1)) count (offset - n) some (λ k. same (k + 1)) less)
          ∙ omega (arith, div-eq-sub-div some later)
    ]

-- the time after which such a list repeats
equal_round : (n : ℕ) (e : ℕ → StreamEntry) (count : ℕ) → ((k : ℕ) → (e k).interval ≡ n) → gate_round (each_below (λ k. e k ∷ []) count) ≡ count * n
equal_round n e zero same = omega arith
equal_round n e (suc count) same =
    let before = equal_round n e count same in
    let last = same count in
    let pushed = sum_by_push (λ (entry : StreamEntry). entry.interval) (each_below (λ k. e k ∷ []) count) (e count) in
    omega (arith, before, last, pushed)

-- the index in a round of `count` intervals of length n
active_cycle_of : (n count t : ℕ) → 0 < n → 0 < count → t % (count * n) / n ≡ t / n % count
active_cycle_of n count t some more =
    ap (λ z. z / n) (mod-mul t more some) ∙ div-mul-add (t / n % count) n (t % n) (mod-lt t some)

-- a reservation's list repeats after a multiple of the pace's period
of_pace : (pace : Pace) → gate_cycles pace % (pace.pause + 1) ≡ 0
of_pace pace = by_test ((pace.pause + 1) % 2 == 0)
  where
    -- whether it is that number or its double
    by_test : (b : Bool) → (if b then pace.pause + 1 else 2 * (pace.pause + 1)) % (pace.pause + 1) ≡ 0
    by_test true = mod_self (pace.pause + 1)
    by_test false = mul-mod_left 2 (pace.pause + 1)

-- and after an even number of cycles
of_two : (pace : Pace) → gate_cycles pace % 2 ≡ 0
of_two pace = by_test ((pace.pause + 1) % 2 == 0) refl
  where
    -- it is the double of a number that isn't even
    by_test : (b : Bool) → ((pace.pause + 1) % 2 == 0) ≡ b → (if b then pace.pause + 1 else 2 * (pace.pause + 1)) % 2 ≡ 0
    by_test true e = eqb-true ((pace.pause + 1) % 2) 0 e
    by_test false e = mul-mod_right 2 (pace.pause + 1)

-- after at least one
pub some_cycles : (pace : Pace) → 0 < gate_cycles pace
some_cycles pace = by_test ((pace.pause + 1) % 2 == 0)
  where
    by_test : (b : Bool) → 0 < (if b then pace.pause + 1 else 2 * (pace.pause + 1))
    by_test true = omega arith
    by_test false = omega arith

-- a stream's active cycles repeat with the list's round
pub active_cycle_again : (pace : Pace) (hop_number cycle : ℕ) → is_active pace hop_number (cycle % gate_cycles pace) ≡ is_active pace hop_number cycle
active_cycle_again pace hop_number cycle =
    ap (λ z. (pace.phase + hop_number) % (pace.pause + 1) == z)
    (mod-mod_of_dvd (pace.pause + 1) cycle (dvd_of_mod-eq-zero (pace.pause + 1) (of_pace pace)))

-- and so do even and odd cycles
pub parity_again : (pace : Pace) (cycle : ℕ) → cycle % gate_cycles pace % 2 ≡ cycle % 2
parity_again pace cycle = mod-mod_of_dvd 2 cycle (dvd_of_mod-eq-zero 2 (of_two pace))

-- at an instant
module _ (n reserved : ℕ) (pace : Pace) (hop_number t : ℕ) (some : 0 < n) where
  -- the time after which the list repeats
  round_is : gate_round (stream_list n reserved pace hop_number) ≡ gate_cycles pace * n
  round_is = equal_round n (stream_entry n reserved pace hop_number) (gate_cycles pace) (λ k. refl)

  -- the index of the entry in force
  pub gate_index : index_at (stream_list n reserved pace hop_number) t ≡ t / n % gate_cycles pace
  gate_index =
      let rounds = gate_cycles pace * n in
      let positive : 0 < rounds = grind (arith, some, some_cycles pace) in
      ap (λ z. index_in (stream_list n reserved pace hop_number) (t % z)) round_is
      ∙ equal_index n (stream_entry n reserved pace hop_number) (gate_cycles pace) (t % rounds) some (λ k. refl) (mod-lt t positive)
      ∙ active_cycle_of n (gate_cycles pace) t some (some_cycles pace)

  -- the number of its round
  pub gate_round_at : round_at (stream_list n reserved pace hop_number) t ≡ t / n / gate_cycles pace
  gate_round_at = ap (λ z. t / z) (round_is ∙ mul_comm (gate_cycles pace) n) ∙ sym (div-div-eq-div-mul t n (gate_cycles pace))

  -- the entry in force
  pub gate_entry : slice_get (stream_list n reserved pace hop_number) (index_at (stream_list n reserved pace hop_number) t) ≡ Some (stream_entry n reserved pace hop_number (t / n % gate_cycles pace))
  gate_entry =
      let e = stream_entry n reserved pace hop_number in
      let index = t / n % gate_cycles pace in
      let below : index < gate_cycles pace = mod-lt (t / n) (some_cycles pace) in
      let inside : index < length (stream_list n reserved pace hop_number) = subst (λ z. index < z) (sym (length-singles e (gate_cycles pace))) below in
      ap (slice_get (stream_list n reserved pace hop_number)) gate_index ∙ slice_get-get_or (stream_list n reserved pace hop_number) index (e 0) inside ∙ ap Some (get_or-singles e (gate_cycles pace) index (e 0) below)

  -- its octet maximum is what the stream reserves in the cycle
  pub max_of_reservation :
      option_and_then (λ (entry : StreamEntry). entry.octet_max) (slice_get (stream_list n reserved pace hop_number) (index_at (stream_list n reserved pace hop_number) t)) ≡ Some (if is_active pace hop_number (t / n) then reserved else 0)
  max_of_reservation =
      ap (λ (z : Option StreamEntry). option_and_then (λ (entry : StreamEntry). entry.octet_max) z) gate_entry
      ∙ ap (λ (b : Bool). Some (if b then reserved else 0)) (active_cycle_again pace hop_number (t / n))

  -- what it passes is within what the stream reserves in the cycle
  pub within_reservation : (sum : ℕ) →
      option_map_or (λ (entry : StreamEntry). within entry.octet_max sum) (slice_get (stream_list n reserved pace hop_number) (index_at (stream_list n reserved pace hop_number) t)) false
      ≡ nat_le sum (if is_active pace hop_number (t / n) then reserved else 0)
  within_reservation sum =
      ap (λ (z : Option StreamEntry). option_map_or (λ (entry : StreamEntry). within entry.octet_max sum) z false) gate_entry
      ∙ ap (λ (b : Bool). nat_le sum (if b then reserved else 0)) (active_cycle_again pace hop_number (t / n))
