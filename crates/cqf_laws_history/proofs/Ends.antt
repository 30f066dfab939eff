-- When the streams that are held end.
use Rattle.std.proofs.Common.{◌≡◌, ℕ, ◌+◌, ◌<◌, ◌≤◌, ◌%◌, Bool, true, false, not, List, Option, Some, None, length, refl, sym, ap, ◌∙◌, subst, arith, inl, inr}
use Rattle.std.specs.Prelude.{[], ◌∷◌, if◌then◌else◌, ◌==◌, ◌&&◌, nat_le, nat_lt, map, slice_get, take, Contains}
use Rattle.std.specs.Option.{option_map_or}
use Rattle.std.proofs.lemmas.Bool.{and_parts, cases_Bool, eq-eqb, eqb-true, eqb-false, ne_eqb, le-leb, leb-true, lt-ltb, ltb-true, ltb-false, le-ltb}
use Rattle.std.proofs.lemmas.List.{take_all}
use Rattle.cqf_units.specs.declared.reservations.Cycle.{Cycle}
use Rattle.cqf_lists.specs.Lists.{each_below}
use Rattle.cqf_lists.proofs.EachBelow.{contains_from_below}
use Rattle.cqf_lists.proofs.Filters.{filter_alike}
use Rattle.cqf_lists.proofs.Members.{contains_at, contains_from_filter, contains_from_map, contains_none, contains_one}
use Rattle.cqf_model.specs.declared.history.Reply.{Reply}
use Rattle.cqf_model.specs.declared.history.Reply.TheVariants.{Accepted, Sealed, Refused as RefusedFor}
use Rattle.cqf_model.specs.declared.topology.Hop.{Hop}
use Rattle.cqf_model.specs.declared.topology.Row.{Row}
use Rattle.cqf_model.specs.Domain.{Domain}
use Rattle.cqf_model.specs.History.{Act, Admits, Recorded, Seals, Withdraws, seals, streams_of, withdrawal_by}
use Rattle.cqf_model.specs.Table.{IsTree, is_held, residence}
use Rattle.cqf_model.proofs.Residence.{residence_met}
use Rattle.cqf_laws_history.specs.StateLaws.{IsState}
use Rattle.cqf_laws_history.proofs.Growth.{held_are_sound}
use Rattle.cqf_laws_history.proofs.Indices.{admitted_before, sealed_before, sealed_more, streams_front, with_end, withdrawn_at, withdrawn_before}
use Rattle.cqf_laws_history.specs.LedgerLaws.{EndsAreSoon, RingFindsThoseThatEnd, SealLetsGoThoseThatEnd, end_from, ends_in, is_in_slot}

-- ---- a held row that ends

-- a row that is held in a cycle is held in the next one unless it ends there
pub next_by_end : (row : Row) (cycle : ℕ) → is_held row cycle ≡ true → is_held row (cycle + 1) ≡ not (ends_in (cycle + 1) row)
next_by_end row cycle held = by_end row.withdrawn refl
  where
    parts : (nat_le row.admitted.0 cycle ≡ true) × (option_map_or (λ (w : Cycle). nat_lt cycle (end_from row w)) row.withdrawn true ≡ true)
    parts = and_parts (nat_le row.admitted.0 cycle) (option_map_or (λ (w : Cycle). nat_lt cycle (end_from row w)) row.withdrawn true) held

    begun : nat_le row.admitted.0 (cycle + 1) ≡ true
    begun = le-leb row.admitted.0 (cycle + 1) (omega (arith, leb-true row.admitted.0 cycle parts.0))

    by_end : (o : Option Cycle) → row.withdrawn ≡ o → is_held row (cycle + 1) ≡ not (ends_in (cycle + 1) row)
    by_end None e =
        ap (λ (b : Bool). b && option_map_or (λ (w : Cycle). nat_lt (cycle + 1) (end_from row w)) row.withdrawn true) begun
        ∙ ap (λ (x : Option Cycle). option_map_or (λ (w : Cycle). nat_lt (cycle + 1) (end_from row w)) x true) e
        ∙ sym (ap (λ (x : Option Cycle). not (option_map_or (λ (w : Cycle). end_from row w == cycle + 1) x false)) e)
    by_end (Some w) e =
        ap (λ (b : Bool). b && option_map_or (λ (w : Cycle). nat_lt (cycle + 1) (end_from row w)) row.withdrawn true) begun
        ∙ ap (λ (x : Option Cycle). option_map_or (λ (w : Cycle). nat_lt (cycle + 1) (end_from row w)) x true) e
        ∙ just (end_from row w) (ltb-true cycle (end_from row w)
        (sym (ap (λ (x : Option Cycle). option_map_or (λ (w : Cycle). nat_lt cycle (end_from row w)) x true) e) ∙ parts.1))
        ∙ sym (ap (λ (x : Option Cycle). not (option_map_or (λ (w : Cycle). end_from row w == cycle + 1) x false)) e)
      where
        just : (end : ℕ) → cycle < end → nat_lt (cycle + 1) end ≡ not (end == cycle + 1)
        just end later = elim (cases_Bool (end == cycle + 1)) [
          | inl t ↦ (le-ltb (cycle + 1) end (omega (arith, eqb-true end (cycle + 1) t)) ∙ sym (ap not t))
          | inr f ↦ (lt-ltb (cycle + 1) end (past end later (eqb-false end (cycle + 1) f)) ∙ sym (ap not f))
        ]
          where
            past : (end : ℕ) → cycle < end → (end ≡ cycle + 1 → ⊥) → cycle + 1 < end
            past end later other = elim (cases_Bool (nat_lt (cycle + 1) end)) [
              | inl t ↦ ltb-true (cycle + 1) end t
              | inr f ↦ absurd (other (omega (arith, later, ltb-false (cycle + 1) end f)))
            ]

-- a member of a running state is held in the next cycle to be closed
held_now : (d : Domain) (entries : List Recorded) (rows : List Row) (next : ℕ) (row : Row) → IsState d entries rows next → Contains rows row →
    Contains (streams_of d entries) row × (is_held row (seals entries) ≡ true)
held_now d entries rows next row state c =
    contains_from_filter (λ (r : Row). is_held r (seals entries)) (streams_of d entries) row (subst (λ (xs : List Row). Contains xs row) (sym state.held) c)

pub seal_lets_go_those_that_end : SealLetsGoThoseThatEnd
seal_lets_go_those_that_end d entries rows next state =
    filter_alike (λ (row : Row). is_held row (seals entries + 1)) (λ (row : Row). not (ends_in (seals entries + 1) row)) rows
    (λ row c. next_by_end row (seals entries) (held_now d entries rows next row state c).1)

-- ---- ends are soon

-- an entry withdraws a stream from its own cycle on
withdrawn_by : (effect number : ℕ) (act : Act) (reply : Reply) (w : Cycle) → Contains (withdrawal_by effect number act reply) w → w.0 ≡ effect
withdrawn_by effect number (Admits asked) reply w c = absurd (contains_none w c)
withdrawn_by effect number Seals reply w c = absurd (contains_none w c)
withdrawn_by effect number (Withdraws name) (RefusedFor refused) w c = absurd (contains_none w c)
withdrawn_by effect number (Withdraws name) Sealed w c = absurd (contains_none w c)
withdrawn_by effect number (Withdraws name) (Accepted receipt) w c = by_number (receipt.no == number) c
  where
    by_number : (b : Bool) → Contains (if b then record { 0 = effect } ∷ [] else []) w → w.0 ≡ effect
    by_number true h = ap (λ (x : Cycle). x.0) (sym (contains_one (record { 0 = effect }) w h))
    by_number false h = absurd (contains_none w h)

-- so an entry at an index withdraws a stream from the cycle on that is next to be closed there
withdrawn_there : (effect number : ℕ) (o : Option Recorded) (w : Cycle) →
    Contains (option_map_or (λ (e : Recorded). withdrawal_by effect number e.act e.reply) o []) w → w.0 ≡ effect
withdrawn_there effect number None w c = absurd (contains_none w c)
withdrawn_there effect number (Some e) w c = withdrawn_by effect number e.act e.reply w c

-- no stream is withdrawn from a cycle on that is later than the next one to be closed
withdrawn_so_far : (d : Domain) (entries : List Recorded) (row : Row) (w : Cycle) → Contains (streams_of d entries) row → row.withdrawn ≡ Some w →
    w.0 ≤ seals entries
withdrawn_so_far d entries row w c e =
    let n = length entries in
    let all : take n entries ≡ entries = take_all n entries (omega arith) in
    let streams : streams_of d entries ≡ map (with_end (withdrawn_before entries n)) (admitted_before d entries n) =
    ap (streams_of d) (sym all) ∙ streams_front entries n (omega arith) d in
    let made = contains_from_map (with_end (withdrawn_before entries n)) (admitted_before d entries n) row
    (subst (λ (xs : List Row). Contains xs row) streams c) in
    let found : withdrawn_before entries n made.0.no ≡ Some w = ap (λ (r : Row). r.withdrawn) made.2 ∙ e in
    let member = contains_from_below (withdrawn_at entries made.0.no) n w (contains_at (each_below (withdrawn_at entries made.0.no) n) 0 w found) in
    let effect : w.0 ≡ sealed_before entries member.0 = withdrawn_there (sealed_before entries member.0) made.0.no (slice_get entries member.0) w member.2 in
    omega (arith, effect, sealed_more entries member.0 n (omega (arith, member.1)) (omega arith), ap seals all)

-- a tree's links have hop numbers of at most 64
residence_few : (d : Domain) (row : Row) → IsTree d row.tree.items → residence row ≤ 64
residence_few d row tree =
    let met = (residence_met row tree.some).1 in
    let hop = met.of_tree in
    let deep : met.hop.hop_number ≤ 64 = subst (λ (h : Hop). h.hop_number ≤ 64) hop.2 (tree.deep hop.0 met.hop hop.1) in
    omega (arith, deep, met.is_hop_number)

pub ends_are_soon : EndsAreSoon
ends_are_soon d entries rows next row w legal state c e =
    let now = held_now d entries rows next row state c in
    let begun : w.0 ≤ seals entries = withdrawn_so_far d entries row w now.0 e in
    let sound = held_are_sound d entries rows next legal state in
    let parts = and_parts (nat_le row.admitted.0 (seals entries)) (option_map_or (λ (x : Cycle). nat_lt (seals entries) (end_from row x)) row.withdrawn true)
    now.1 in
    let later : nat_lt (seals entries) (end_from row w) ≡ true =
    sym (ap (λ (o : Option Cycle). option_map_or (λ (x : Cycle). nat_lt (seals entries) (end_from row x)) o true) e) ∙ parts.1 in
    record {
      begun = begun;
      later = ltb-true (seals entries) (end_from row w) later;
      soon = omega (arith, begun, residence_few d row (sound.trees row c));
    }

-- ---- the slot

-- among the 64 numbers after `cycle`, only the next one falls into its slot
pub slot_reports : (cycle end : ℕ) → cycle < end → end ≤ cycle + 64 → (end == cycle + 1) ≡ (end % 128 == (cycle + 1) % 128)
slot_reports cycle end later soon = elim (cases_Bool (end == cycle + 1)) [
  | inl t ↦ t ∙ sym (eq-eqb (end % 128) ((cycle + 1) % 128) (ap (λ (n : ℕ). n % 128) (eqb-true end (cycle + 1) t)))
  | inr f ↦ f ∙ sym (ne_eqb (end % 128) ((cycle + 1) % 128) (λ same. eqb-false end (cycle + 1) f (omega (arith, same, later, soon))))
]

pub ring_finds_those_that_end : RingFindsThoseThatEnd
ring_finds_those_that_end d entries rows next legal state =
    filter_alike (ends_in (seals entries + 1)) (is_in_slot ((seals entries + 1) % 128)) rows (λ row c. by_end row c row.withdrawn refl)
  where
    by_end : (row : Row) → Contains rows row → (o : Option Cycle) → row.withdrawn ≡ o →
        ends_in (seals entries + 1) row ≡ is_in_slot ((seals entries + 1) % 128) row
    by_end row c None e =
        ap (λ (x : Option Cycle). option_map_or (λ (w : Cycle). end_from row w == seals entries + 1) x false) e
        ∙ sym (ap (λ (x : Option Cycle). option_map_or (λ (w : Cycle). end_from row w % 128 == (seals entries + 1) % 128) x false) e)
    by_end row c (Some w) e =
        let soon = ends_are_soon d entries rows next row w legal state c e in
        ap (λ (x : Option Cycle). option_map_or (λ (w : Cycle). end_from row w == seals entries + 1) x false) e
        ∙ slot_reports (seals entries) (end_from row w) soon.later soon.soon
        ∙ sym (ap (λ (x : Option Cycle). option_map_or (λ (w : Cycle). end_from row w % 128 == (seals entries + 1) % 128) x false) e)
