-- The ring of a history's streams.
use Rattle.std.proofs.Common.{◌≡◌, ℕ, ◌+◌, ◌<◌, ◌%◌, Bool, true, false, List, Option, Some, None, map, get_or, length}
use Rattle.std.proofs.Common.{refl, sym, ap, ◌∙◌, arith, mod-lt, inl, inr}
use Rattle.std.specs.Prelude.{Contains, slice_index_or, slice_set, ◌++◌, ◌∷◌, [], ◌==◌, ◌&&◌}
use Rattle.std.specs.Option.{option_map_or}
use Rattle.std.proofs.lemmas.Bool.{cases_Bool}
use Rattle.std.proofs.lemmas.List.{get_or-map, length-map}
use Rattle.std.proofs.lemmas.List.Elements.{Contains-get_or}
use Rattle.cqf_units.specs.declared.reservations.Cycle.{Cycle}
use Rattle.cqf_lists.proofs.Members.{contains_filter}
use Rattle.cqf_model.specs.declared.topology.Row.{Row}
use Rattle.cqf_model.specs.Domain.{Domain}
use Rattle.cqf_model.specs.History.{IsLegalHistory, Recorded, held_in, next_number, seals, streams_of}
use Rattle.cqf_model.specs.Table.{is_held, residence}
use Rattle.cqf_laws_history.specs.LedgerLaws.{end_from, ends_in}
use Rattle.cqf_laws_history.proofs.Ends.{ends_are_soon, slot_reports}
use Rattle.cqf_admission.specs.Holdings.{AreLetGo, IsHeldAt, Standing, with_row}
use Rattle.cqf_admission.specs.Rows.{ended}
use Rattle.cqf_admission.specs.Ring.{IsRing, in_slot}
use Rattle.cqf_admission.specs.Streams.{stand_of}
use Rattle.cqf_admission.proofs.Ring.{ring_sealed, ring_withdrawn}
use Rattle.cqf_admission.proofs.Streams.{ListsEnds}

-- the slot of the next cycle lists exactly the streams of a legal history that end in it
abbrev pub RingListsEnds : Type 0
RingListsEnds =
    (d : Domain) (entries : List Recorded) (slots : List (List ℕ)) → IsLegalHistory d entries →
    IsRing (map (stand_of (seals entries)) (streams_of d entries)) slots →
    ListsEnds (streams_of d entries) (seals entries) (slice_index_or slots ((seals entries + 1) % 128) [])

-- it is still a ring after a slot is emptied and its streams are released, and after a held stream is withdrawn and listed
abbrev pub RingStaysSealed : Type 0
RingStaysSealed =
    (stands after : List Standing) (slots : List (List ℕ)) (slot : ℕ) → IsRing stands slots → slot < 128 → AreLetGo (slice_index_or slots slot []) stands after →
    IsRing after (slice_set slots slot [])

abbrev pub RingStaysWithdrawn : Type 0
RingStaysWithdrawn =
    (stands : List Standing) (slots : List (List ℕ)) (number slot : ℕ) (cycle : Cycle) (stand : Standing) → IsRing stands slots → IsHeldAt stands number →
    ((d : Standing) → slice_index_or stands number d ≡ stand) → stand.row.withdrawn ≡ None → slot ≡ (cycle.0 + residence stand.row) % 128 → slot < 128 →
    IsRing (slice_set stands number (with_row stand (ended stand.row cycle))) (slice_set slots slot (slice_index_or slots slot [] ++ number ∷ []))

-- a held row is in the slot of the next cycle if and only if it ends there
slot_is_end : (d : Domain) (entries : List Recorded) (row : Row) → IsLegalHistory d entries →
    Contains (streams_of d entries) row →
    in_slot ((seals entries + 1) % 128) (stand_of (seals entries) row) ≡ (is_held row (seals entries) && ends_in (seals entries + 1) row)
slot_is_end d entries row legal c = elim (cases_Bool (is_held row (seals entries))) [
  | inl t ↦ by_end t row.withdrawn refl
  | inr f ↦
      (ap (λ (b : Bool). b && option_map_or (λ (w : Cycle). (w.0 + residence row) % 128 == (seals entries + 1) % 128) row.withdrawn false) f
      ∙ sym (ap (λ (b : Bool). b && ends_in (seals entries + 1) row) f))
]
  where
    by_end : is_held row (seals entries) ≡ true → (o : Option Cycle) → row.withdrawn ≡ o →
        in_slot ((seals entries + 1) % 128) (stand_of (seals entries) row) ≡ (is_held row (seals entries) && ends_in (seals entries + 1) row)
    by_end t None e =
        ap (λ (x : Option Cycle). is_held row (seals entries) && option_map_or (λ (w : Cycle). (w.0 + residence row) % 128 == (seals entries + 1) % 128) x false)
        e
        ∙ sym (ap (λ (x : Option Cycle). is_held row (seals entries) && option_map_or (λ (w : Cycle). end_from row w == seals entries + 1) x false) e)
    by_end t (Some w) e =
        let held = contains_filter (λ (r : Row). is_held r (seals entries)) (streams_of d entries) row c t in
        let soon = ends_are_soon d entries (held_in d entries (seals entries)) (next_number d entries) row w legal
        (record { held = refl; number = refl }) held e in
        ap (λ (x : Option Cycle). is_held row (seals entries) && option_map_or (λ (w : Cycle). (w.0 + residence row) % 128 == (seals entries + 1) % 128) x false)
        e
        ∙ ap (λ (b : Bool). is_held row (seals entries) && b) (sym (slot_reports (seals entries) (end_from row w) soon.later soon.soon))
        ∙ sym (ap (λ (x : Option Cycle). is_held row (seals entries) && option_map_or (λ (w : Cycle). end_from row w == seals entries + 1) x false) e)

pub ring_lists_ends : RingListsEnds
ring_lists_ends d entries slots legal r k row inside =
    let c = seals entries in
    let rows = streams_of d entries in
    let s = (c + 1) % 128 in
    let stand = stand_of c row in
    let below : s < 128 = mod-lt (c + 1) (omega arith) in
    let many : k < length (map (stand_of c) rows) = omega (arith, inside, length-map rows (stand_of c)) in
    r.lists s k stand below many ∙ ap (in_slot s) (get_or-map (stand_of c) rows k row stand inside)
    ∙ slot_is_end d entries (get_or rows k row) legal (Contains-get_or rows k row inside)

pub ring_stays_sealed : RingStaysSealed
ring_stays_sealed stands after slots slot r low gone = ring_sealed stands slots r slot after low gone

pub ring_stays_withdrawn : RingStaysWithdrawn
ring_stays_withdrawn stands slots number slot cycle stand r held was open_end is_slot low =
    ring_withdrawn stands slots r number cycle stand held was open_end slot is_slot low
