-- The tables of a legal history may be given to bridges whose links go on separately.
use Rattle.std.proofs.Common.{◌≡◌, ℕ, ◌+◌, ◌<◌, ◌≤◌, ◌==◌, List, [], true, false, Option, Some, None, inl, inr, refl, sym, ap, ◌∙◌, subst, arith}
use Rattle.std.proofs.Common.{AllPairs, Contains, eq-eqb, get_or, length, map, nat_le, nat_lt}
use Rattle.std.specs.List.{list_any}
use Rattle.std.specs.Option.{option_map_or}
use Rattle.std.proofs.lemmas.Bool.{and_from, and_parts, both_ways, cases_lt, le-leb, leb-true, lt-ltb, ltb-true}
use Rattle.std.proofs.lemmas.List.{get_or_past}
use Rattle.std.proofs.lemmas.Option.{slice_get-get_or}
use Rattle.cqf_units.specs.declared.reservations.Cycle.{Cycle}
use Rattle.cqf_lists.proofs.EachBelow.{get_or-singles, length-singles}
use Rattle.cqf_lists.proofs.Members.{contains_filter, contains_from_filter, contains_from_map, contains_map, contains_none, member_any}
use Rattle.cqf_lists.proofs.Pairs.{one_of_pairs}
use Rattle.cqf_model.specs.declared.topology.Row.{Row}
use Rattle.cqf_model.specs.Domain.{Domain}
use Rattle.cqf_model.specs.History.{IsLegalHistory, Recorded, held_in, seals, streams_of, table_at, tables_of}
use Rattle.cqf_model.specs.Table.{is_held, residence, table_of}
use Rattle.cqf_laws_history.specs.HistoryLaws.{TablesAreOrderly, TablesAscend}
use Rattle.cqf_laws_history.proofs.Numbers.{numbered}
use Rattle.cqf_laws_coverage.specs.Rows.{RowsSayTheTables, RowsStandAsTheyBegin, as_of}
use Rattle.cqf_laws_relay.specs.Following.{TablesMayCome}

-- what hasn't ended by a cycle hasn't ended by an earlier one
ends_no_earlier : (end : Option Cycle) (long cycle earlier : ℕ) → earlier ≤ cycle →
    option_map_or (λ (w : Cycle). nat_lt cycle (w.0 + long)) end true ≡ true → option_map_or (λ (w : Cycle). nat_lt earlier (w.0 + long)) end true ≡ true
ends_no_earlier None long cycle earlier before lasts = refl
ends_no_earlier (Some w) long cycle earlier before lasts =
    lt-ltb earlier (w.0 + long) (omega (arith, before, ltb-true cycle (w.0 + long) lasts))

-- a stream that is held in a cycle was admitted by then, and is held in the cycle of its admission
held_since_admission : (row : Row) (cycle : ℕ) → is_held row cycle ≡ true → (row.admitted.0 ≤ cycle) × (is_held row row.admitted.0 ≡ true)
held_since_admission row cycle held =
    let parts = and_parts (nat_le row.admitted.0 cycle) (option_map_or (λ (w : Cycle). nat_lt cycle (w.0 + residence row)) row.withdrawn true) held in
    let begun : row.admitted.0 ≤ cycle = leb-true row.admitted.0 cycle parts.0 in (
      begun,
      and_from (nat_le row.admitted.0 row.admitted.0) (option_map_or (λ (w : Cycle). nat_lt row.admitted.0 (w.0 + residence row)) row.withdrawn true)
          (le-leb row.admitted.0 row.admitted.0 (omega arith)) (ends_no_earlier row.withdrawn (residence row) cycle row.admitted.0 begun parts.1),
    )

module _ (says : RowsSayTheTables) (begin : RowsStandAsTheyBegin) (d : Domain) (entries : List Recorded) (cycles : ℕ) (legal : IsLegalHistory d entries)
    (few : cycles ≤ seals entries) where
  -- the tables, and the streams that were ever granted
  abbrev tables : List (List Row)
  tables = tables_of d entries cycles

  abbrev streams : List Row
  streams = streams_of d entries

  -- the table of a run's cycle is the streams that are held in it, as of then
  table_is_held : (cycle : ℕ) → cycle < cycles → table_of tables cycle ≡ map (as_of cycle) (held_in d entries cycle)
  table_is_held cycle within = get_or-singles (table_at d entries) cycles cycle [] within ∙ says d entries cycle (omega (arith, within, few))

  -- and no other table has a row
  row_in_run : (cycle : ℕ) (row : Row) → Contains (table_of tables cycle) row → cycle < cycles
  row_in_run cycle row among =
      elim (cases_lt cycle cycles) [
        | inl within ↦ within
        | inr past ↦ (let none : table_of tables cycle ≡ [] =
            get_or_past tables cycle [] (omega (arith, past, length-singles (table_at d entries) cycles)) in
            absurd (contains_none row (subst (λ (rows : List Row). Contains rows row) none among)))
      ]

  -- a row of a table is that of a stream that is held in its cycle
  record HasStream (cycle : ℕ) (row : Row) : Type 0 where
    within : cycle < cycles
    stream : Row
    among : Contains streams stream
    held : is_held stream cycle ≡ true
    number : row.no ≡ stream.no

  row_has_stream : (cycle : ℕ) (row : Row) → Contains (table_of tables cycle) row → HasStream cycle row
  row_has_stream cycle row among =
      let within = row_in_run cycle row among in
      let made = contains_from_map (as_of cycle) (held_in d entries cycle) row
      (subst (λ (rows : List Row). Contains rows row) (table_is_held cycle within) among) in
      let kept = contains_from_filter (λ (r : Row). is_held r cycle) streams made.0 made.1 in
      record { within = within; stream = made.0; among = kept.0; held = kept.1; number = ap (λ (r : Row). r.no) (sym made.2) }

  -- a stream that is held in a cycle of the run is in the cycle's table by its number
  stream_stands : (cycle : ℕ) (stream : Row) (number : ℕ) → cycle < cycles → Contains streams stream → is_held stream cycle ≡ true → stream.no ≡ number →
      list_any (λ (it : Row). it.no == number) (table_of tables cycle) ≡ true
  stream_stands cycle stream number within among held is =
      let there : Contains (map (as_of cycle) (held_in d entries cycle)) (as_of cycle stream) =
      contains_map (as_of cycle) (held_in d entries cycle) stream (contains_filter (λ (r : Row). is_held r cycle) streams stream among held) in
      member_any (λ (it : Row). it.no == number) (table_of tables cycle) (as_of cycle stream)
      (subst (λ (rows : List Row). Contains rows (as_of cycle stream)) (sym (table_is_held cycle within)) there) (eq-eqb stream.no number is)

  -- streams are in order of number, and in order of admission
  abbrev stands_before : Row → Row → Type 0
  stands_before a b = (a.no < b.no) × (a.admitted.0 ≤ b.admitted.0)

  streams_stand : AllPairs stands_before streams
  streams_stand i j e first inside =
      let at : (k : ℕ) → k < length streams → (get_or streams k e).no ≡ k =
      λ k below. numbered d entries legal k (get_or streams k e) (slice_get-get_or streams k e below) in
      (omega (arith, first, at i (omega (arith, first, inside)), at j inside), begin d entries i j e first inside)

  -- so one that was admitted earlier has a lower number
  earlier_is_lower : (a b : Row) → Contains streams a → Contains streams b → a.admitted.0 < b.admitted.0 → a.no < b.no
  earlier_is_lower a b in_a in_b earlier =
      elim (cases_lt a.no b.no) [
        | inl lower ↦ lower
        | inr no_lower ↦ (let same : a ≡ b =
            one_of_pairs stands_before streams a b streams_stand in_a in_b (λ h. omega (arith, h.0, no_lower)) (λ h. omega (arith, h.1, earlier)) in
            absurd (omega (arith, earlier, ap (λ (r : Row). r.admitted.0) same)))
      ]

  -- a row whose number no earlier table has is of a stream that is admitted in the cycle
  new_is_admitted : (later : ℕ) (other : Row) (of : HasStream later other) →
      ((before : ℕ) → before < later → list_any (λ (it : Row). it.no == other.no) (table_of tables before) ≡ false) → later ≤ of.stream.admitted.0
  new_is_admitted later other of none =
      let since = held_since_admission of.stream later of.held in
      let begins = of.stream.admitted.0 in
      elim (cases_lt begins later) [
        | inr at_last ↦ at_last
        | inl before ↦ absurd (both_ways (list_any (λ (it : Row). it.no == other.no) (table_of tables begins)) (none begins before)
            (stream_stands begins of.stream other.no (omega (arith, before, of.within)) of.among since.1 (sym of.number)))
      ]

  -- and follows those of all earlier tables
  new_is_after : (cycle later : ℕ) (row other : Row) → cycle < later → Contains (table_of tables cycle) row → Contains (table_of tables later) other →
      ((before : ℕ) → before < later → list_any (λ (it : Row). it.no == other.no) (table_of tables before) ≡ false) → row.no < other.no
  new_is_after cycle later row other earlier in_row in_other none =
      let early = row_has_stream cycle row in_row in
      let late = row_has_stream later other in_other in
      let begun = (held_since_admission early.stream cycle early.held).0 in
      let new = new_is_admitted later other late none in
      let lower = earlier_is_lower early.stream late.stream early.among late.among (omega (arith, begun, new, earlier)) in
      omega (arith, lower, early.number, late.number)

-- the law
pub tables_may_come : TablesAreOrderly → TablesAscend → RowsSayTheTables → RowsStandAsTheyBegin → TablesMayCome
tables_may_come orderly ascend says begin d entries cycles legal few = record {
  orderly = orderly d entries cycles legal few;
  by_number = λ cycle. ascend d entries cycles cycle legal few;
  following = new_is_after says begin d entries cycles legal few;
}
