-- The entries of a reservation pass what its list of one entry a cycle passes.
use Rattle.std.proofs.Common.{◌≡◌, ◌≢◌, ℕ, ◌+◌, ◌-◌, ◌*◌, ◌/◌, ◌%◌, ◌<◌, ◌≤◌, List, [], ◌∷◌, ◌++◌, Bool, true, false, ◌&&◌, if◌then◌else◌}
use Rattle.std.proofs.Common.{Option, Some, refl, ap, ap₂, sym, ◌∙◌, subst, arith, ◌==◌, eqb-true, eq-eqb, length, inl, inr, mod-lt, append_assoc, append-nil}
use Rattle.std.specs.Prelude.{nat_le, slice_get, sum_by}
use Rattle.std.specs.Option.{option_map_or}
use Rattle.std.proofs.lemmas.Bool.{cases_Bool, cases_lt, false≢true}
use Rattle.std.proofs.lemmas.Bool.Decides.{nat_tests}
use Rattle.std.proofs.Math.Arith.{mod-mul}
use Rattle.std.proofs.Math.Nat.{mod-eq_of_lt, mul_comm, div-div-eq-div-mul}
use Rattle.std.proofs.lemmas.Nat.{mod-mul-add}
use Rattle.cqf_model.proofs.Reservations.{active_cycle_again, gate_entry, gate_index, gate_round_at, some_cycles, within_reservation}
use Rattle.cqf_model.specs.declared.gates.StreamEntry.{StreamEntry}
use Rattle.cqf_model.specs.declared.topology.Pace.{Pace}
use Rattle.cqf_model.specs.Paces.{is_active}
use Rattle.cqf_model.specs.StreamGate.{PassedFrame, gate_class, gate_cycles, gate_passes, gate_round, index_at, index_in, octets_in, round_at, same_interval}
use Rattle.cqf_model.specs.StreamGate.{stream_list, traffic_class, within}
use Rattle.cqf_gates.proofs.InSpans.{IsClosed, StandsAt, closed_within, round_after, round_closed, round_first, stands_found, stands_index}
use Rattle.cqf_gates.specs.ReservedSpans.{closed_for, first_active_cycle, open_in, reserved_spans}
use Rattle.cqf_gates.specs.SpanLaws.{PassTheSame, SpansPassTheSame}

-- a list of one period: `before` cycles, the stream's own, and `following` cycles
module _ (n reserved before following : ℕ) where
  abbrev one_period : List StreamEntry
  one_period = closed_for n before ++ (open_in n reserved before ∷ ([] ++ closed_for n following))

  -- it lasts its number of cycles
  one_round : gate_round one_period ≡ (before + 1 + following) * n
  one_round =
      let own = open_in n reserved before in
      omega (
        arith,
        round_after (closed_for n before) (own ∷ closed_for n following),
        round_first own (closed_for n following),
        round_closed n before,
        round_closed n following,
      )

  -- its own cycle
  one_open : StandsAt one_period n (open_in n reserved before) before
  one_open = record {
    front = closed_for n before;
    back = [] ++ closed_for n following;
    parted = refl;
    before = round_closed n before;
    long = refl;
  }

  -- in the other cycles it is closed
  one_closed : (cell rem : ℕ) → rem < n → cell < before + 1 + following → cell ≢ before → IsClosed one_period (cell * n + rem)
  one_closed cell rem small inside other =
      let own = open_in n reserved before in
      elim (cases_lt cell before) [
        | inl sooner ↦
            closed_within one_period [] (own ∷ ([] ++ closed_for n following)) n 0 before cell rem refl (omega arith) (omega arith) (omega (arith, sooner)) small
        | inr later ↦
            closed_within one_period (closed_for n before ++ (own ∷ [])) [] n (before + 1) following cell rem
            (simp (append_assoc, append-nil))
            (omega (arith, round_after (closed_for n before) (own ∷ []), round_first own [], round_closed n before))
            (omega (arith, later, other)) (omega (arith, inside)) small
      ]

-- a list of two periods, each with `before` cycles, the stream's own, and `following` cycles
module _ (n reserved before following : ℕ) where
  abbrev two_periods : List StreamEntry
  two_periods =
      closed_for n before
      ++ (open_in n reserved before ∷ ((closed_for n (before + following) ++ open_in n reserved (before + (before + following + 1)) ∷ []) ++ closed_for n following))

  -- it lasts their number of cycles
  two_round : gate_round two_periods ≡ 2 * (before + following + 1) * n
  two_round =
      let own = open_in n reserved before in
      let next = open_in n reserved (before + (before + following + 1)) in
      let between = closed_for n (before + following) in
      omega (
        arith,
        round_after (closed_for n before) (own ∷ ((between ++ next ∷ []) ++ closed_for n following)),
        round_first own ((between ++ next ∷ []) ++ closed_for n following),
        round_after (between ++ next ∷ []) (closed_for n following),
        round_after between (next ∷ []),
        round_first next [],
        round_closed n before,
        round_closed n (before + following),
        round_closed n following,
      )

  -- the entries before the second of its own cycles
  abbrev in_front : List StreamEntry
  in_front = closed_for n before ++ (open_in n reserved before ∷ closed_for n (before + following))

  front_round : gate_round in_front ≡ (before + (before + following + 1)) * n
  front_round =
      let own = open_in n reserved before in
      let between = closed_for n (before + following) in
      omega (
        arith,
        round_after (closed_for n before) (own ∷ between),
        round_first own between,
        round_closed n before,
        round_closed n (before + following),
      )

  -- its own cycles
  two_first : StandsAt two_periods n (open_in n reserved before) before
  two_first = record {
    front = closed_for n before;
    back = (closed_for n (before + following) ++ open_in n reserved (before + (before + following + 1)) ∷ []) ++ closed_for n following;
    parted = refl;
    before = round_closed n before;
    long = refl;
  }

  two_second : StandsAt two_periods n (open_in n reserved (before + (before + following + 1))) (before + (before + following + 1))
  two_second = record {
    front = in_front;
    back = closed_for n following;
    parted = simp (append_assoc, append-nil);
    before = front_round;
    long = refl;
  }

  -- in the other cycles it is closed
  two_closed : (cell rem : ℕ) → rem < n → cell < 2 * (before + following + 1) → cell ≢ before → cell ≢ before + (before + following + 1) →
      IsClosed two_periods (cell * n + rem)
  two_closed cell rem small inside first second =
      let own = open_in n reserved before in
      let next = open_in n reserved (before + (before + following + 1)) in
      let between = closed_for n (before + following) in
      elim (cases_lt cell before) [
        | inl sooner ↦
            closed_within two_periods [] (own ∷ ((between ++ next ∷ []) ++ closed_for n following)) n 0 before cell rem refl (omega arith) (omega arith)
            (omega (arith, sooner)) small
        | inr later ↦
            elim (cases_lt cell (before + (before + following + 1))) [
              | inl amid ↦
                  closed_within two_periods (closed_for n before ++ (own ∷ [])) (next ∷ closed_for n following) n (before + 1) (before + following) cell rem
                  (simp (append_assoc, append-nil))
                  (omega (arith, round_after (closed_for n before) (own ∷ []), round_first own [], round_closed n before))
                  (omega (arith, later, first)) (omega (arith, amid)) small
              | inr last ↦
                  closed_within two_periods (in_front ++ (next ∷ [])) [] n (before + (before + following + 1) + 1) following cell rem
                  (simp (append_assoc, append-nil))
                  (omega (arith, round_after in_front (next ∷ []), round_first next [], front_round))
                  (omega (arith, last, second)) (omega (arith, inside)) small
            ]
      ]

-- ---- the written gate in the cycles of its round

-- a cycle before the end of the first period is its own index in the period
in_period : (cell every : ℕ) → cell < every → cell % every ≡ cell
in_period cell every inside = mod-eq_of_lt inside

-- and a cycle of the second period has the index of the same cycle of the first
in_second : (cell every : ℕ) → 0 < every → every ≤ cell → cell < 2 * every → cell % every ≡ cell - every
in_second cell every some later inside =
    let rest : ℕ = cell - every in
    let apart : cell ≡ 1 * every + rest = omega (arith, later) in
    ap (λ z. z % every) apart ∙ mod-mul-add 1 every rest (omega (arith, inside, later, some))

-- the written gate in a cycle of its round: the stream's own, or closed
pub record IsInCell (n reserved : ℕ) (pace : Pace) (hop_number cell rem : ℕ) : Type 0 where
  pub own : is_active pace hop_number cell ≡ true → StandsAt (reserved_spans n reserved pace hop_number) n (open_in n reserved cell) cell
  pub other : is_active pace hop_number cell ≡ false → IsClosed (reserved_spans n reserved pace hop_number) (cell * n + rem)

module _ (n reserved : ℕ) (pace : Pace) (hop_number : ℕ) where
  abbrev every : ℕ
  every = pace.pause + 1

  abbrev active_cycle : ℕ
  active_cycle = first_active_cycle pace hop_number

  active_cycle_within : active_cycle < pace.pause + 1
  active_cycle_within = mod-lt (pace.phase + hop_number) (omega arith)

  -- the written gate, by whether a period has an even number of cycles
  abbrev spans_by : Bool → List StreamEntry
  spans_by b =
      closed_for n active_cycle
      ++ (open_in n reserved active_cycle ∷ ((if b then [] else closed_for n pace.pause ++ open_in n reserved (active_cycle + every) ∷ []) ++ closed_for n (pace.pause - active_cycle)))

  abbrev cycles_by : Bool → ℕ
  cycles_by b = if b then every else 2 * every

  -- for an odd number it has two periods
  as_two : spans_by false ≡ two_periods n reserved active_cycle (pace.pause - active_cycle)
  as_two =
      let whole : pace.pause ≡ active_cycle + (pace.pause - active_cycle) = omega (arith, active_cycle_within) in
      ap (λ p. closed_for n active_cycle ++ (open_in n reserved active_cycle ∷ ((closed_for n p ++ open_in n reserved (active_cycle + (p + 1)) ∷ []) ++ closed_for n (pace.pause - active_cycle)))) whole

  -- its round lasts as long as that of the list of one entry a cycle
  round_by : (b : Bool) → gate_round (spans_by b) ≡ cycles_by b * n
  round_by true =
      let cycles : active_cycle + 1 + (pace.pause - active_cycle) ≡ pace.pause + 1 = omega (arith, active_cycle_within) in
      one_round n reserved active_cycle (pace.pause - active_cycle) ∙ ap (λ z. z * n) cycles
  round_by false =
      let cycles : 2 * (active_cycle + (pace.pause - active_cycle) + 1) ≡ 2 * (pace.pause + 1) = omega (arith, active_cycle_within) in
      ap gate_round as_two ∙ two_round n reserved active_cycle (pace.pause - active_cycle) ∙ ap (λ z. z * n) cycles

  -- in its turn it is open
  own_by : (b : Bool) (cell : ℕ) → cell < cycles_by b → is_active pace hop_number cell ≡ true → StandsAt (spans_by b) n (open_in n reserved cell) cell
  own_by true cell inside is =
      let same : active_cycle ≡ cell = eqb-true active_cycle (cell % every) is ∙ in_period cell every inside in
      subst (λ z. StandsAt (spans_by true) n (open_in n reserved z) z) same (one_open n reserved active_cycle (pace.pause - active_cycle))
  own_by false cell inside is =
      let met : active_cycle ≡ cell % every = eqb-true active_cycle (cell % every) is in
      subst (λ (xs : List StreamEntry). StandsAt xs n (open_in n reserved cell) cell) (sym as_two)
      (elim (cases_lt cell every) [
        | inl early ↦
            let same : active_cycle ≡ cell = met ∙ in_period cell every early in
            subst (λ z. StandsAt (two_periods n reserved active_cycle (pace.pause - active_cycle)) n (open_in n reserved z) z) same (two_first n reserved active_cycle (pace.pause - active_cycle))
        | inr late ↦
            let after = in_second cell every (omega arith) late inside in
            let same : active_cycle + (active_cycle + (pace.pause - active_cycle) + 1) ≡ cell = omega (arith, met, after, late, active_cycle_within) in
            subst (λ z. StandsAt (two_periods n reserved active_cycle (pace.pause - active_cycle)) n (open_in n reserved z) z) same (two_second n reserved active_cycle (pace.pause - active_cycle))
      ])

  -- in other cycles it is closed
  other_by : (b : Bool) (cell rem : ℕ) → cell < cycles_by b → rem < n → is_active pace hop_number cell ≡ false → IsClosed (spans_by b) (cell * n + rem)
  other_by true cell rem inside small is =
      let apart : cell ≢ active_cycle = λ same. false≢true (sym is ∙ eq-eqb active_cycle (cell % every) (sym same ∙ sym (in_period cell every inside))) in
      one_closed n reserved active_cycle (pace.pause - active_cycle) cell rem small (omega (arith, inside, active_cycle_within)) apart
  other_by false cell rem inside small is =
      let last : ℕ = active_cycle + (active_cycle + (pace.pause - active_cycle) + 1) in
      let after : last ≡ active_cycle + every = omega (arith, active_cycle_within) in
      let first : cell ≢ active_cycle =
      λ same. false≢true (sym is ∙ eq-eqb active_cycle (cell % every) (sym same ∙ sym (in_period cell every (omega (arith, same, active_cycle_within))))) in
      let second : cell ≢ last =
      λ same. false≢true (sym is ∙ eq-eqb active_cycle (cell % every)
      (let e = in_second cell every (omega arith) (omega (arith, same, after)) inside in omega (arith, e, same, after))) in
      subst (λ (xs : List StreamEntry). IsClosed xs (cell * n + rem)) (sym as_two)
      (two_closed n reserved active_cycle (pace.pause - active_cycle) cell rem small (omega (arith, inside, active_cycle_within)) first second)

  pub in_cell : (cell rem : ℕ) → cell < gate_cycles pace → rem < n → IsInCell n reserved pace hop_number cell rem
  in_cell cell rem inside small = record {
    own = own_by ((pace.pause + 1) % 2 == 0) cell inside;
    other = other_by ((pace.pause + 1) % 2 == 0) cell rem inside small;
  }

  pub spans_round : gate_round (reserved_spans n reserved pace hop_number) ≡ gate_cycles pace * n
  spans_round = round_by ((pace.pause + 1) % 2 == 0)

-- ---- what passes

-- the totals of two intervals with the same instants are equal
sums_same : (one two : ℕ → Bool) (passed : List PassedFrame) → ((s : ℕ) → one s ≡ two s) →
    sum_by (λ (call : PassedFrame). if one call.0 then call.1 else 0) passed ≡ sum_by (λ (call : PassedFrame). if two call.0 then call.1 else 0) passed
sums_same one two passed same = ap (λ (f : ℕ → Bool). sum_by (λ (call : PassedFrame). if f call.0 then call.1 else 0) passed) (λ i. λ s. same s i)

-- no octets are within a maximum of 0
none_within : (sum octets : ℕ) → 0 < octets → nat_le (sum + octets) 0 ≡ false
none_within sum octets some = grind (arith, nat_tests, some)

module _ (n reserved : ℕ) (pace : Pace) (hop_number : ℕ) (some : 0 < n) where
  abbrev written : List StreamEntry
  written = reserved_spans n reserved pace hop_number

  abbrev each : List StreamEntry
  each = stream_list n reserved pace hop_number

  -- the cycle of its round that contains an instant
  abbrev cell_of : ℕ → ℕ
  cell_of t = t / n % gate_cycles pace

  cell_within : (t : ℕ) → cell_of t < gate_cycles pace
  cell_within t = mod-lt (t / n) (some_cycles pace)

  -- the offset of the instant in its round
  offset_at : (t : ℕ) → t % gate_round written ≡ cell_of t * n + t % n
  offset_at t = ap (λ z. t % z) (spans_round n reserved pace hop_number) ∙ mod-mul t (some_cycles pace) some

  rounds_same : (t : ℕ) → round_at written t ≡ round_at each t
  rounds_same t =
      ap (λ z. t / z) (spans_round n reserved pace hop_number ∙ mul_comm (gate_cycles pace) n) ∙ sym (div-div-eq-div-mul t n (gate_cycles pace))
      ∙ sym (gate_round_at n reserved pace hop_number t some)

  in_cell_at : (t : ℕ) → IsInCell n reserved pace hop_number (cell_of t) (t % n)
  in_cell_at t = in_cell n reserved pace hop_number (cell_of t) (t % n) (cell_within t) (mod-lt t some)

  -- the position of the stream's own cycle
  own_at : (t : ℕ) → is_active pace hop_number (t / n) ≡ true → StandsAt written n (open_in n reserved (cell_of t)) (cell_of t)
  own_at t active_cycle = (in_cell_at t).own (active_cycle_again pace hop_number (t / n) ∙ active_cycle)

  -- in its own cycle the entry in force is open
  open_found : (t : ℕ) → is_active pace hop_number (t / n) ≡ true → slice_get written (index_at written t) ≡ Some (open_in n reserved (cell_of t))
  open_found t active_cycle =
      ap (λ z. slice_get written (index_in written z)) (offset_at t)
      ∙ (stands_found written n (open_in n reserved (cell_of t)) (cell_of t) (own_at t active_cycle) (t % n) (mod-lt t some)).1

  -- and its interval is that of the list
  intervals_same : (t : ℕ) → is_active pace hop_number (t / n) ≡ true → (s : ℕ) → same_interval written s t ≡ same_interval each s t
  intervals_same t active_cycle s =
      let at = own_at t active_cycle in
      let e = open_in n reserved (cell_of t) in
      let there : index_at written t ≡ length at.front =
      ap (index_in written) (offset_at t) ∙ (stands_found written n e (cell_of t) at (t % n) (mod-lt t some)).0 in
      let indices : (index_at written s == index_at written t) ≡ (index_at each s == index_at each t) =
      ap (λ z. index_at written s == z) there
      ∙ ap (λ z. index_in written z == length at.front) (offset_at s)
      ∙ stands_index written n e (cell_of t) at (cell_of s) (s % n) (mod-lt s some)
      ∙ sym (ap₂ (λ a b. a == b) (gate_index n reserved pace hop_number s some) (gate_index n reserved pace hop_number t some)) in
      ap₂ (λ (a b : Bool). a && b) (ap₂ (λ a b. a == b) (rounds_same s) (rounds_same t)) indices

  taken_same : (passed : List PassedFrame) (t : ℕ) → is_active pace hop_number (t / n) ≡ true → octets_in written passed t ≡ octets_in each passed t
  taken_same passed t active_cycle = sums_same (λ s. same_interval written s t) (λ s. same_interval each s t) passed (intervals_same t active_cycle)

  -- in its own cycles as much passes
  open_passes : (passed : List PassedFrame) (t octets : ℕ) → is_active pace hop_number (t / n) ≡ true → gate_passes written passed t octets ≡ gate_passes each passed t octets
  open_passes passed t octets active_cycle =
      ap (λ (o : Option StreamEntry). option_map_or (λ (entry : StreamEntry). within entry.octet_max (octets_in written passed t + octets)) o false) (open_found t active_cycle)
      ∙ ap (λ z. nat_le (z + octets) reserved) (taken_same passed t active_cycle)
      ∙ sym (ap (λ (b : Bool). nat_le (octets_in each passed t + octets) (if b then reserved else 0)) active_cycle)
      ∙ sym (within_reservation n reserved pace hop_number t some (octets_in each passed t + octets))

  -- in the others nothing passes
  closed_passes : (passed : List PassedFrame) (t octets : ℕ) → is_active pace hop_number (t / n) ≡ false → 0 < octets → gate_passes written passed t octets ≡ false
  closed_passes passed t octets active_cycle more =
      let shut = (in_cell_at t).other (active_cycle_again pace hop_number (t / n) ∙ active_cycle) in
      ap (λ (o : Option StreamEntry). option_map_or (λ (entry : StreamEntry). within entry.octet_max (octets_in written passed t + octets)) o false)
      (ap (λ z. slice_get written (index_in written z)) (offset_at t) ∙ shut.in_force)
      ∙ ap (λ (most : Option ℕ). within most (octets_in written passed t + octets)) shut.shut
      ∙ none_within (octets_in written passed t) octets more

  closed_each : (passed : List PassedFrame) (t octets : ℕ) → is_active pace hop_number (t / n) ≡ false → 0 < octets → gate_passes each passed t octets ≡ false
  closed_each passed t octets active_cycle more =
      within_reservation n reserved pace hop_number t some (octets_in each passed t + octets)
      ∙ ap (λ (b : Bool). nat_le (octets_in each passed t + octets) (if b then reserved else 0)) active_cycle
      ∙ none_within (octets_in each passed t) octets more

  -- with the same class
  class_same : (t : ℕ) → is_active pace hop_number (t / n) ≡ true → gate_class written t ≡ gate_class each t
  class_same t active_cycle =
      let class : Option StreamEntry → ℕ = λ o. traffic_class (option_map_or (λ (entry : StreamEntry). entry.ipv) o 0) in
      ap class (open_found t active_cycle) ∙ sym (ap class (gate_entry n reserved pace hop_number t some))

  pub pass_the_same : PassTheSame written each
  pass_the_same = record {
    passes = λ passed t octets more. elim (cases_Bool (is_active pace hop_number (t / n))) [
      | inl active_cycle ↦ open_passes passed t octets active_cycle
      | inr no_active_cycle ↦ closed_passes passed t octets no_active_cycle more ∙ sym (closed_each passed t octets no_active_cycle more)
    ];
    class = λ passed t octets more passes. elim (cases_Bool (is_active pace hop_number (t / n))) [
      | inl active_cycle ↦ class_same t active_cycle
      | inr no_active_cycle ↦ absurd (false≢true (sym (closed_passes passed t octets no_active_cycle more) ∙ passes))
    ];
  }

-- the law, at each pace and each hop number
pub spans_pass : SpansPassTheSame
spans_pass cycle_time reserved pace hop_number some = pass_the_same cycle_time reserved pace hop_number some
