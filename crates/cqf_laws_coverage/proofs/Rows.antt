-- The rows that a history ever accepted determine the table of each cycle that the history closes.
use Rattle.std.proofs.Common.{◌≡◌, ◌≢◌, ℕ, ◌+◌, ◌<◌, ◌≤◌, ◌∷◌, [], ◌++◌, List, Bool, true, false, ◌&&◌, Option, Some, None, option_map, inl, inr, sym, ap}
use Rattle.std.proofs.Common.{◌∙◌, subst, arith, refl, AllPairs, Contains, filter, map, length, get_or, append-nil, if◌then◌else◌, nat_le, nat_lt, ◌==◌}
use Rattle.std.specs.Prelude.{slice_get, suc, cond}
use Rattle.std.specs.Option.{option_map_or}
use Rattle.std.proofs.lemmas.Bool.{and_left, both_ways, lt-leb, le-ltb, lt-ltb, ltb-true}
use Rattle.std.proofs.lemmas.List.{map-append, take_all}
use Rattle.std.proofs.lemmas.List.Elements.{filter-append}
use Rattle.std.proofs.lemmas.Option.{same_Some}
use Rattle.cqf_units.specs.declared.reservations.Cycle.{Cycle}
use Rattle.cqf_lists.specs.Lists.{each_below}
use Rattle.cqf_lists.proofs.EachBelow.{contains_from_below, filter_none, get_or-singles}
use Rattle.cqf_lists.proofs.Filters.{filter-map, filter_alike}
use Rattle.cqf_lists.proofs.Fronts.{each_front}
use Rattle.cqf_lists.proofs.Members.{contains_at, contains_cases, contains_from_map, contains_none}
use Rattle.cqf_lists.proofs.Pairs.{pairs_from_map, pairs_of_kept}
use Rattle.cqf_lists.proofs.Indices.{first_stays, nil_from_none}
use Rattle.cqf_model.specs.declared.history.Reply.{Reply}
use Rattle.cqf_model.specs.declared.history.Reply.TheVariants.{Accepted, Sealed, Refused as RefusedFor}
use Rattle.cqf_model.specs.declared.topology.Row.{Row}
use Rattle.cqf_model.specs.Domain.{Domain, is_text}
use Rattle.cqf_model.specs.History.{Act, Admits, Recorded, Seals, Withdraws, held_in, is_seal, seal_indices, seals, stream_by, streams_of, table_at, tables_of}
use Rattle.cqf_model.specs.History.{withdrawal_by}
use Rattle.cqf_model.specs.Table.{is_held, residence, row_named, table_of}
use Rattle.cqf_laws_history.specs.HistoryLaws.{TablesAreOrderly}
use Rattle.cqf_laws_history.proofs.Indices.{SealAt, admitted_at, admitted_before, entry_at, seal_at, sealed-suc, sealed_before, sealed_more, streams_front}
use Rattle.cqf_laws_history.proofs.Indices.{with_end, withdrawn_at, withdrawn_before}
use Rattle.cqf_laws_coverage.specs.Rows.{AsLive, OneIsInForce, RowsAreFound, RowsSayTheTables, as_of, end_as_of}
use Rattle.cqf_laws_coverage.proofs.Found.{find-filter, find-map, map-join}

-- a later withdrawal leaves a stream live, as none does
live_end : (cycle : ℕ) (o : Option Cycle) →
    option_map_or (λ (w : Cycle). nat_lt cycle w.0) (end_as_of cycle o) true ≡ option_map_or (λ (w : Cycle). nat_lt cycle w.0) o true
live_end cycle None = refl
live_end cycle (Some w) = by (nat_lt cycle w.0) refl
  where
    by : (b : Bool) → nat_lt cycle w.0 ≡ b →
        option_map_or (λ (w : Cycle). nat_lt cycle w.0) (if b then None else Some w) true ≡ nat_lt cycle w.0
    by true e = sym e
    by false e = refl

-- and held
held_end : (cycle long : ℕ) (o : Option Cycle) →
    option_map_or (λ (w : Cycle). nat_lt cycle (w.0 + long)) (end_as_of cycle o) true ≡ option_map_or (λ (w : Cycle). nat_lt cycle (w.0 + long)) o true
held_end cycle long None = refl
held_end cycle long (Some w) = by (nat_lt cycle w.0) refl
  where
    by : (b : Bool) → nat_lt cycle w.0 ≡ b →
        option_map_or (λ (w : Cycle). nat_lt cycle (w.0 + long)) (if b then None else Some w) true ≡ nat_lt cycle (w.0 + long)
    by true e = sym (lt-ltb cycle (w.0 + long) (omega (arith, ltb-true cycle w.0 e)))
    by false e = refl

-- so a row is live, and held, exactly if the table's row is
pub as_live : AsLive
as_live row cycle = ap (λ (b : Bool). nat_le row.admitted.0 cycle && b) (live_end cycle row.withdrawn)

as_held : (row : Row) (cycle : ℕ) → is_held (as_of cycle row) cycle ≡ is_held row cycle
as_held row cycle = ap (λ (b : Bool). nat_le row.admitted.0 cycle && b) (held_end cycle (residence row) row.withdrawn)

-- the element of a list of at most one
one_or_none : {X : Type 0} (b : Bool) (y x : X) → Contains (if b then y ∷ [] else []) x → y ≡ x
one_or_none true y x h = elim (contains_cases y [] x h) [ inl e ↦ e | inr n ↦ absurd (contains_none x n) ]
one_or_none false y x h = absurd (contains_none x h)

-- an entry that withdraws is no Seal, and it takes effect in the cycle of the Seals before it
effect_by : (effect number : ℕ) (act : Act) (reply : Reply) (x : Cycle) → Contains (withdrawal_by effect number act reply) x → (is_seal act ≡ false) ×
    (x.0 ≡ effect)
effect_by effect number (Admits asked) reply x h = absurd (contains_none x h)
effect_by effect number Seals reply x h = absurd (contains_none x h)
effect_by effect number (Withdraws name) (RefusedFor refused) x h = absurd (contains_none x h)
effect_by effect number (Withdraws name) Sealed x h = absurd (contains_none x h)
effect_by effect number (Withdraws name) (Accepted receipt) x h =
    (refl, ap (λ (c : Cycle). c.0) (sym (one_or_none (receipt.no == number) (record { 0 = effect }) x h)))

-- and so does an entry that admits
admitted_by : (d : Domain) (effect : ℕ) (act : Act) (reply : Reply) (x : Row) → Contains (stream_by d [] effect act reply) x → (is_seal act ≡ false) ×
    (x.admitted.0 ≡ effect)
admitted_by d effect (Withdraws name) reply x h = absurd (contains_none x h)
admitted_by d effect Seals reply x h = absurd (contains_none x h)
admitted_by d effect (Admits asked) (RefusedFor refused) x h = absurd (contains_none x h)
admitted_by d effect (Admits asked) Sealed x h = absurd (contains_none x h)
admitted_by d effect (Admits asked) (Accepted receipt) x h = elim (contains_cases _ [] x h) [
  | inl e ↦ (refl, ap (λ (r : Row). r.admitted.0) (sym e))
  | inr n ↦ absurd (contains_none x n)
]

-- an entry at an index that withdraws is no Seal, and it takes effect in the cycle of the Seals before it
pub effect_of_withdrawn : (entries : List Recorded) (k number : ℕ) → k < length entries → (x : Cycle) → Contains (withdrawn_at entries number k) x →
    (e : Recorded) × (slice_get entries k ≡ Some e) × (is_seal e.act ≡ false) × (x.0 ≡ sealed_before entries k)
effect_of_withdrawn entries k number inside x h =
    let e = entry_at entries k inside in
    let made = effect_by (sealed_before entries k) number e.0.act e.0.reply x
    (subst (λ (o : Option Recorded). Contains (option_map_or (λ (y : Recorded). withdrawal_by (sealed_before entries k) number y.act y.reply) o []) x) e.1 h) in
    (e.0, e.1, made.0, made.1)

-- and so does one that admits
pub effect_of_admitted : (d : Domain) (entries : List Recorded) (k : ℕ) → k < length entries → (x : Row) → Contains (admitted_at d entries k) x →
    (e : Recorded) × (slice_get entries k ≡ Some e) × (is_seal e.act ≡ false) × (x.admitted.0 ≡ sealed_before entries k)
effect_of_admitted d entries k inside x h =
    let e = entry_at entries k inside in
    let made = admitted_by d (sealed_before entries k) e.0.act e.0.reply x
    (subst (λ (o : Option Recorded). Contains (option_map_or (λ (y : Recorded). stream_by d [] (sealed_before entries k) y.act y.reply) o []) x) e.1 h) in
    (e.0, e.1, made.0, made.1)

-- the streams of all entries: those that are admitted, each with its end
pub all_streams : (d : Domain) (entries : List Recorded) →
    streams_of d entries ≡ map (with_end (withdrawn_before entries (length entries))) (admitted_before d entries (length entries))
all_streams d entries =
    ap (streams_of d) (sym (take_all (length entries) entries (omega arith))) ∙ streams_front entries (length entries) (omega arith) d

module _ (d : Domain) (entries : List Recorded) (cycle : ℕ) (closed : cycle < seals entries) where
  -- the index of the Seal that closes the cycle
  abbrev index : ℕ
  index = get_or (seal_indices entries) cycle (length entries)

  seal : SealAt entries cycle index
  seal = seal_at entries cycle closed

  within : index ≤ length entries
  within = omega (arith, seal.inside)

  -- after the Seal one more cycle is closed
  one_more : sealed_before entries (suc index) ≡ cycle + 1
  one_more = sealed-suc entries index seal.entry seal.is ∙ ap (λ (b : Bool). sealed_before entries index + cond b 1 0) seal.seal
      ∙ ap (λ (c : ℕ). c + 1) seal.before

  -- an entry after it that is no Seal takes effect later
  later : (k : ℕ) → index ≤ k → k < length entries → (e : Recorded) → slice_get entries k ≡ Some e → is_seal e.act ≡ false →
      cycle < sealed_before entries k
  later k following inside e is no_seal =
      let apart : index ≢ k = λ q. both_ways (is_seal e.act) no_seal
      (ap (λ (y : Recorded). is_seal y.act) (same_Some e seal.entry (sym is ∙ ap (slice_get entries) (sym q) ∙ seal.is)) ∙ seal.seal) in
      omega (arith, one_more, sealed_more entries (suc index) k (omega (arith, apart, following)) (omega (arith, inside)))

  -- a withdrawal after it takes effect later
  withdrawn_when : (k number : ℕ) → k < length entries → (x : Cycle) → Contains (withdrawn_at entries number k) x →
      (x.0 ≡ sealed_before entries k) × (index ≤ k → cycle < x.0)
  withdrawn_when k number inside x h =
      let made = effect_of_withdrawn entries k number inside x h in
      (made.3, λ following. omega (arith, made.3, later k following inside made.0 made.1 made.2))

  -- and so does an admission after it
  admitted_later : (k : ℕ) → index ≤ k → k < length entries → (x : Row) → Contains (admitted_at d entries k) x → cycle < x.admitted.0
  admitted_later k following inside x h =
      let made = effect_of_admitted d entries k inside x h in
      omega (arith, made.3, later k following inside made.0 made.1 made.2)

  -- as of the cycle, the withdrawal of a number by all entries is that before the Seal
  ends : (number : ℕ) → end_as_of cycle (withdrawn_before entries (length entries) number) ≡ withdrawn_before entries index number
  ends number = by_front (withdrawn_before entries index number) refl
    where
      -- the withdrawals before the Seal, and those after it
      front : List Cycle
      front = each_below (withdrawn_at entries number) index

      by_all : (o : Option Cycle) → withdrawn_before entries (length entries) number ≡ o → ((x : Cycle) → o ≡ Some x → cycle < x.0) →
          end_as_of cycle (withdrawn_before entries (length entries) number) ≡ None
      by_all None f late = ap (end_as_of cycle) f
      by_all (Some x) f late = ap (end_as_of cycle) f ∙ ap (λ (b : Bool). if b then None else Some x) (lt-ltb cycle x.0 (late x refl))

      by_front : (o : Option Cycle) → withdrawn_before entries index number ≡ o →
          end_as_of cycle (withdrawn_before entries (length entries) number) ≡ withdrawn_before entries index number
      by_front (Some y) f =
          let more = each_front (withdrawn_at entries number) index (length entries) within in
          let stayed : withdrawn_before entries (length entries) number ≡ Some y =
          ap (λ (xs : List Cycle). slice_get xs 0) more.is ∙ first_stays front more.rest y f in
          let w = contains_from_below (withdrawn_at entries number) index y (contains_at front 0 y f) in
          let early : y.0 ≤ cycle =
          omega (
            arith,
            (withdrawn_when w.0 number (omega (arith, w.1, within)) y w.2).0,
            sealed_more entries w.0 index (omega (arith, w.1))
                within,
            seal.before,
          ) in
          ap (end_as_of cycle) stayed ∙ ap (λ (b : Bool). if b then None else Some y) (le-ltb cycle y.0 early) ∙ sym f
      by_front None f =
          let more = each_front (withdrawn_at entries number) index (length entries) within in
          let is : each_below (withdrawn_at entries number) (length entries) ≡ more.rest =
          more.is ∙ ap (λ (xs : List Cycle). xs ++ more.rest) (nil_from_none front f) in
          by_all (withdrawn_before entries (length entries) number) refl (λ x e.
          let late = more.late x (contains_at more.rest 0 x (ap (λ (xs : List Cycle). slice_get xs 0) (sym is) ∙ e)) in
          (withdrawn_when late.0 number late.2 x late.3).1 late.1)
          ∙ sym f

  -- so as of the cycle, a stream with its end by all entries is the one with its end before the Seal
  stream_as_of : (row : Row) → as_of cycle (with_end (withdrawn_before entries (length entries)) row) ≡ with_end (withdrawn_before entries index) row
  stream_as_of row =
      ap (λ (o : Option Cycle). let made : Row =
      record { no = row.no; name = row.name; octets = row.octets; overhead = row.overhead; pace = row.pace; tree = row.tree; admitted = row.admitted; withdrawn = o } in made) (ends row.no)

  -- whether a row is held in the cycle
  abbrev held : Row → Bool
  held row = is_held row cycle

  -- what is held in the cycle was admitted before the Seal
  held_front : held_in d entries cycle ≡ filter held (map (with_end (withdrawn_before entries (length entries))) (admitted_before d entries index))
  held_front =
      let w = withdrawn_before entries (length entries) in
      let more = each_front (admitted_at d entries) index (length entries) within in
      let none : filter held (map (with_end w) more.rest) ≡ [] =
      filter_none held (map (with_end w) more.rest) (λ row h.
      let made = contains_from_map (with_end w) more.rest row h in
      let late = more.late made.0 made.1 in
      let begins : cycle < row.admitted.0 =
      omega (arith, admitted_later late.0 late.1 late.2 made.0 late.3, ap (λ (r : Row). r.admitted.0) made.2) in
      and_left (nat_le row.admitted.0 cycle) (option_map_or (λ (x : Cycle). nat_lt cycle (x.0 + residence row)) row.withdrawn true)
      (lt-leb row.admitted.0 cycle begins)) in
      ap (filter held) (all_streams d entries ∙ ap (map (with_end w)) more.is ∙ map-append (with_end w) (admitted_before d entries index) more.rest)
      ∙ filter-append held (map (with_end w) (admitted_before d entries index)) (map (with_end w) more.rest)
      ∙ ap (λ (xs : List Row). filter held (map (with_end w) (admitted_before d entries index)) ++ xs) none
      ∙ append-nil (filter held (map (with_end w) (admitted_before d entries index)))

  -- the table
  pub rows_say : table_at d entries cycle ≡ map (as_of cycle) (held_in d entries cycle)
  rows_say =
      let w = withdrawn_before entries (length entries) in
      let rows = map (with_end w) (admitted_before d entries index) in
      ap (filter held) (streams_front entries index within d)
      ∙ ap (filter held) (sym (map-join (as_of cycle) (with_end w) (with_end (withdrawn_before entries index)) (admitted_before d entries index) stream_as_of))
      ∙ filter-map (as_of cycle) held rows
      ∙ ap (map (as_of cycle)) (filter_alike (λ (row : Row). held (as_of cycle row)) held rows (λ row h. as_held row cycle))
      ∙ ap (map (as_of cycle)) (sym held_front)

-- the law
pub rows_say_the_tables : RowsSayTheTables
rows_say_the_tables d entries cycle closed = rows_say d entries cycle closed

-- so the row of a name
pub rows_are_found : RowsAreFound
rows_are_found d entries cycle name closed =
    ap (λ (rows : List Row). row_named rows name) (rows_say d entries cycle closed)
    ∙ find-map (as_of cycle) (λ (row : Row). is_text row.name name) (held_in d entries cycle)
    ∙ ap (option_map (as_of cycle)) (find-filter (λ (row : Row). is_text row.name name) (λ (row : Row). is_held row cycle) (streams_of d entries))

-- and no two rows of the same name are held
pub one_is_in_force : TablesAreOrderly → OneIsInForce
one_is_in_force orderly d entries cycle legal closed =
    let differ : Row → Row → Type 0 = λ (a b : Row). a.name ≢ b.name in
    let tables = tables_of d entries (seals entries) in
    let table : table_of tables cycle ≡ map (as_of cycle) (held_in d entries cycle) =
    get_or-singles (table_at d entries) (seals entries) cycle [] closed ∙ rows_say d entries cycle closed in
    let names = subst (AllPairs differ) table ((orderly d entries (seals entries) legal (omega arith)).names cycle) in
    pairs_of_kept differ (λ (row : Row). is_held row cycle) (streams_of d entries) (pairs_from_map differ (as_of cycle) (held_in d entries cycle) names)
