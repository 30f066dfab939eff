-- What the compiled gate lists do in a cycle.
use Rattle.std.proofs.Common.{◌≡◌, ℕ, ◌+◌, ◌-◌, ◌*◌, ◌/◌, ◌%◌, ◌<◌, ◌≤◌, ◌↔◌, ◌⊎◌, ◌∷◌, [], Bool, true, false, ltb, inl, inr, sym, refl, ap, ap₂, ◌∙◌, subst}
use Rattle.std.proofs.Common.{arith, lt-ltb, le-ltb, eq-eqb, ne_eqb, eqb-true}
use Rattle.cqf_model.specs.declared.gates.StreamEntry.{StreamEntry}
use Rattle.cqf_model.specs.StreamGate.{gate_cycles}
use Rattle.cqf_model.proofs.Reservations.{gate_entry, gate_index, gate_round_at, parity_again}
use Rattle.std.proofs.Common.{Option, div-add-mod'}
use Rattle.std.proofs.lemmas.Bool.{and_from, and_parts, agree_below, agree_below_at, cases_eq, cases_lt, false_from_ne_true, ltb-true, or_cases, or_left}
use Rattle.std.proofs.lemmas.Bool.{or_right}
use Rattle.std.proofs.lemmas.Nat.{and_le_l, bit_set_by_shift}
use Rattle.std.proofs.lemmas.Nat.Bits.{bit_at_above, shr_and_one}
use Rattle.std.specs.Int.{bit_at}
use Rattle.std.specs.Prelude.{IsBitSet, if◌then◌else◌, ◌==◌, ◌^◌, ◌&&◌, ◌||◌}
use Rattle.std.specs.Option.{option_map_or}
use Rattle.cqf_model.specs.GateList.{states_in, states_at, round_of, port_list, IsOpenThrough}
use Rattle.cqf_laws_cycle.specs.Compiled.{PortListIsOpen, PortListSends, GateGivesClass, GateCountsCycles, ClassesAlternate, IsSentIn, given_class, guard_from}
use Rattle.cqf_laws_cycle.specs.Compiled.{IsIn, open_class}
use Rattle.cqf_units.proofs.Cycles.{in_round, parity}

-- the states at an offset in a round: before the guard band of an even cycle
before_guard : (w g o : ℕ) → o < w → states_in ((191, w) ∷ (0, g) ∷ (127, w) ∷ (0, g) ∷ []) o ≡ 191
before_guard w g o h = let e : ltb o w ≡ true = lt-ltb o w h in rw e

-- in the guard band of an even cycle
in_guard : (w g o : ℕ) → w ≤ o → o < w + g → states_in ((191, w) ∷ (0, g) ∷ (127, w) ∷ (0, g) ∷ []) o ≡ 0
in_guard w g o from upto =
    let e : ltb o w ≡ false = le-ltb o w from in
    let f : ltb (o - w) g ≡ true = lt-ltb (o - w) g (omega arith) in
    rw (e, f)

-- in an odd cycle
before_second : (w g o : ℕ) → w + g ≤ o → o < w + g + w → states_in ((191, w) ∷ (0, g) ∷ (127, w) ∷ (0, g) ∷ []) o ≡ 127
before_second w g o from upto =
    let e : ltb o w ≡ false = le-ltb o w (omega arith) in
    let f : ltb (o - w) g ≡ false = le-ltb (o - w) g (omega arith) in
    let h : ltb (o - w - g) w ≡ true = lt-ltb (o - w - g) w (omega arith) in
    rw (e, f, h)

-- in the guard band of an odd cycle
in_second : (w g o : ℕ) → w + g + w ≤ o → o < w + g + w + g → states_in ((191, w) ∷ (0, g) ∷ (127, w) ∷ (0, g) ∷ []) o ≡ 0
in_second w g o from upto =
    let e : ltb o w ≡ false = le-ltb o w (omega arith) in
    let f : ltb (o - w) g ≡ false = le-ltb (o - w) g (omega arith) in
    let h : ltb (o - w - g) w ≡ false = le-ltb (o - w - g) w (omega arith) in
    let k : ltb (o - w - g - w) g ≡ true = lt-ltb (o - w - g - w) g (omega arith) in
    rw (e, f, h, k)

-- the offset in the round of the compiled list
index_in_round : (n g c t : ℕ) → g < n → IsIn n c t → t % round_of (port_list n g) ≡ (c % 2) * n + (t - c * n)
index_in_round n g c t short inside =
    let whole : 0 + (n - g) + g + (n - g) + g ≡ n + n = omega arith in
    ap (λ x. t % x) whole ∙ in_round n c t inside.0 inside.1

-- in a cycle the states are those of its class, until the guard band begins
pub states_sending : (n g c t : ℕ) → g < n → IsIn n c t → t < guard_from n g c → states_at (port_list n g) t ≡ (if c % 2 == 0 then 191 else 127)
states_sending n g c t short inside early =
    let index = index_in_round n g c t short inside in
    elim (parity c) [
      | inl e ↦
          let o : t % round_of (port_list n g) ≡ t - c * n = index ∙ even n (c % 2) (t - c * n) e in
          ap (λ x. states_in (port_list n g) x) o ∙ before_guard (n - g) g (t - c * n) (omega arith) ∙ rw e
      | inr e ↦
          let o : t % round_of (port_list n g) ≡ n + (t - c * n) = index ∙ odd n (c % 2) (t - c * n) e in
          ap (λ x. states_in (port_list n g) x) o ∙ before_second (n - g) g (n + (t - c * n)) (omega arith) (omega arith) ∙ rw e
    ]
  where
    -- in an even cycle the offset in the round is that in the cycle
    even : (n b r : ℕ) → b ≡ 0 → b * n + r ≡ r
    even n b r e = rw e (omega arith)

    -- in an odd cycle it is one cycle more
    odd : (n b r : ℕ) → b ≡ 1 → b * n + r ≡ n + r
    odd n b r e = rw e (omega arith)

-- in the guard band all gates are closed
pub states_in_guard : (n g c t : ℕ) → g < n → IsIn n c t → guard_from n g c ≤ t → states_at (port_list n g) t ≡ 0
states_in_guard n g c t short inside late =
    let index = index_in_round n g c t short inside in
    elim (parity c) [
      | inl e ↦
          let o : t % round_of (port_list n g) ≡ t - c * n = index ∙ even n (c % 2) (t - c * n) e in
          ap (λ x. states_in (port_list n g) x) o ∙ in_guard (n - g) g (t - c * n) (omega arith) (omega arith)
      | inr e ↦
          let o : t % round_of (port_list n g) ≡ n + (t - c * n) = index ∙ odd n (c % 2) (t - c * n) e in
          ap (λ x. states_in (port_list n g) x) o ∙ in_second (n - g) g (n + (t - c * n)) (omega arith) (omega arith)
    ]
  where
    -- in an even cycle the offset in the round is that in the cycle
    even : (n b r : ℕ) → b ≡ 0 → b * n + r ≡ r
    even n b r e = rw e (omega arith)

    -- in an odd cycle it is one cycle more
    odd : (n b r : ℕ) → b ≡ 1 → b * n + r ≡ n + r
    odd n b r e = rw e (omega arith)

-- if no bit is set, no class is open
no_bit : (class : ℕ) → IsBitSet 0 class → ⊥
no_bit class set = set (omega (arith, and_le_l 0 (2 ^ class)))

-- whether a class is the one of streams, or one of background frames
abbrev is_sent : ℕ → ℕ → Bool
is_sent stream_class class = (class == stream_class) || ltb class 6

-- states of eight gates open exactly the class of streams and those of background frames, if this holds for each of the eight bits
bits_are_sent : (states stream_class class : ℕ) → states < 2 ^ 8 → stream_class < 8 → agree_below (λ k. bit_at states k == 1) (is_sent stream_class) 8 ≡ true →
    IsBitSet states class ↔ ((class ≡ stream_class) ⊎ (class < 6))
bits_are_sent states stream_class class small few agree = (
  λ set. is_one (sym (shr_and_one states class) ∙ (bit_set_by_shift states class).1 set),
  λ either. (bit_set_by_shift states class).0 (shr_and_one states class ∙ eqb-true (bit_at states class) 1 (same_test (low either) ∙ passes either)),
)
  where
    -- each of the eight bits is set exactly if its class is sent
    same_test : class < 8 → (bit_at states class == 1) ≡ is_sent stream_class class
    same_test below = agree_below_at (λ k. bit_at states k == 1) (is_sent stream_class) 8 class agree below

    -- a class whose bit is set is that of streams or one of background frames
    is_one : bit_at states class ≡ 1 → (class ≡ stream_class) ⊎ (class < 6)
    is_one one = elim (cases_lt class 8) [
      | inl below ↦ elim (or_cases (class == stream_class) (ltb class 6) (sym (same_test below) ∙ eq-eqb (bit_at states class) 1 one)) [
        | inl same ↦ inl (eqb-true class stream_class same)
        | inr less ↦ inr (ltb-true class 6 less)
      ]
      | inr above ↦ absurd (omega (arith, bit_at_above states 8 class small above, one))
    ]

    -- each of those classes is one of the eight
    low : (class ≡ stream_class) ⊎ (class < 6) → class < 8
    low either = elim either [ inl same ↦ omega (arith, same, few) | inr less ↦ omega (arith, less) ]

    -- each of those classes is sent
    passes : (class ≡ stream_class) ⊎ (class < 6) → is_sent stream_class class ≡ true
    passes either = elim either [
      | inl same ↦ or_left (class == stream_class) (ltb class 6) (eq-eqb class stream_class same)
      | inr less ↦ or_right (class == stream_class) (ltb class 6) (lt-ltb class 6 less)
    ]

-- what a cycle's states open, by its parity
bit_of : (b class : ℕ) → IsBitSet (if b == 0 then 191 else 127) class ↔ ((class ≡ (if b == 0 then 7 else 6)) ⊎ (class < 6))
bit_of b class = elim (b == 0) as
    (λ x. IsBitSet (if x then 191 else 127) class ↔ ((class ≡ (if x then 7 else 6)) ⊎ (class < 6))) [
      | true ↦
          bits_are_sent 191 7 class (omega arith) (omega arith) refl
      | false ↦ bits_are_sent 127 6 class (omega arith) (omega arith) refl
    ]

-- the laws
pub port_list_opens : PortListIsOpen
port_list_opens n g c t class short inside = elim (cases_lt t (guard_from n g c)) [
  | inl early ↦
      let s = states_sending n g c t short inside early in (
        λ set. ((bit_of (c % 2) class).0 (subst (λ x. IsBitSet x class) s set), early),
        λ both. subst (λ x. IsBitSet x class) (sym s)
            ((bit_of (c % 2) class).1 both.0),
      )
  | inr late ↦
      let s = states_in_guard n g c t short inside late in
      (λ set. absurd (no_bit class (subst (λ x. IsBitSet x class) s set)), λ both. absurd (omega (arith, both.1)))
]

-- a gate is open to an end exactly if the end is not after the guard band's first instant
pub port_list_sends_until : PortListSends
port_list_sends_until n g c t end class some short inside more = (there, back)
  where
    -- if a gate is open to an end, it is of a class that the cycle sends, and the end is not after the guard band's first instant
    there : IsOpenThrough (port_list n g) class t end → IsSentIn c class × (end ≤ guard_from n g c)
    there through =
        let here = (port_list_opens n g c t class short inside).0 (through t (omega arith) more) in
        let early = here.1 in
        elim (cases_lt (guard_from n g c) end) [
          | inl past ↦
              let late : IsIn n c (guard_from n g c) = (omega arith, omega arith) in
              let closed = (port_list_opens n g c (guard_from n g c) class short late).0 (through (guard_from n g c) (omega arith) past) in
              absurd (omega (arith, closed.1))
          | inr fits ↦ (here.0, fits)
        ]

    -- the gate of a class that the cycle sends is open to each end that is not after the guard band's first instant
    back : IsSentIn c class × (end ≤ guard_from n g c) → IsOpenThrough (port_list n g) class t end
    back both s from upto =
        let s_inside : IsIn n c s = (omega (arith, inside.0), omega (arith, both.1)) in
        (port_list_opens n g c s class short s_inside).1 (both.0, omega (arith, both.1))

-- the gate gives the cycle's class
pub gate_gives : GateGivesClass
gate_gives n r pace hop_number t some =
    let cycle = t / n % gate_cycles pace in
    ap (λ (z : Option StreamEntry). option_map_or (λ (entry : StreamEntry). entry.ipv) z 0) (gate_entry n r pace hop_number t some)
    ∙ ap (λ z. 6 + z) (parity_again pace (t / n)) ∙ by_parity (t / n)
  where
    -- class 6 in even cycles and class 7 in odd ones
    by_parity : (c : ℕ) → 6 + c % 2 ≡ given_class c
    by_parity c = elim (parity c) [ inl e ↦ rw e | inr e ↦ rw e ]

-- the gate counts by the cycle: the same round and the same index in it mean the same cycle
pub gate_counts : GateCountsCycles
gate_counts n r pace hop_number s t some =
    let count = gate_cycles pace in
    let indices = ap₂ (λ x y. x == y) (gate_index n r pace hop_number s some) (gate_index n r pace hop_number t some) in
    let rounds = ap₂ (λ x y. x == y) (gate_round_at n r pace hop_number s some) (gate_round_at n r pace hop_number t some) in
    ap₂ (λ x y. x && y) rounds indices ∙ parts count (s / n) (t / n)
  where
    -- two cycles are the same exactly if their rounds and their indices in the rounds are
    parts : (m c e : ℕ) → ((c / m == e / m) && (c % m == e % m)) ≡ (c == e)
    parts m c e = elim (cases_eq c e) [
      | inl same ↦ and_from (c / m == e / m) (c % m == e % m) (eq-eqb (c / m) (e / m) (ap (λ x. x / m) same)) (eq-eqb (c % m) (e % m) (ap (λ x. x % m) same))
          ∙ sym (eq-eqb c e same)
      | inr differ ↦ false_from_ne_true ((c / m == e / m) && (c % m == e % m)) (λ both.
          let p = and_parts (c / m == e / m) (c % m == e % m) both in
          differ (sym (div-add-mod' c m)
          ∙ ap₂ (λ q r. q * m + r) (eqb-true (c / m) (e / m) p.0) (eqb-true (c % m) (e % m) p.1) ∙ div-add-mod' e m)) ∙ sym (ne_eqb c e differ)
    ]

-- the next cycle sends what this one gives
pub classes_take_turns : ClassesAlternate
classes_take_turns c = elim (parity c) [
  | inl e ↦ let f : (c + 1) % 2 ≡ 1 = omega arith in rw (e, f)
  | inr e ↦ let f : (c + 1) % 2 ≡ 0 = omega arith in rw (e, f)
]

-- a cycle's frames aren't of the class that it sends
pub sends_no_own : (c : ℕ) → open_class c ≡ given_class c → ⊥
sends_no_own c same = elim (parity c) [
  | inl e ↦
      let own : open_class c ≡ 7 = rw e in
      let given : given_class c ≡ 6 = rw e in
      omega (arith, own, given, same)
  | inr e ↦
      let own : open_class c ≡ 6 = rw e in
      let given : given_class c ≡ 7 = rw e in
      omega (arith, own, given, same)
]
