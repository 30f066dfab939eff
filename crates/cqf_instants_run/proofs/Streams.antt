-- The streams of a legal history: they are few, and the tables have them.
use Rattle.std.proofs.Common.{◌≡◌, ℕ, suc, zero, ◌+◌, ◌<◌, ◌≤◌, [], List, Bool, true, Option, Some, None, refl, sym, ap}
use Rattle.std.proofs.Common.{◌∙◌, subst, arith, length, map, Contains, get_or, nat_le, nat_lt, ◌&&◌, cond}
use Rattle.std.proofs.Common.{if◌then◌else◌}
use Rattle.std.specs.Prelude.{slice_get}
use Rattle.std.specs.Option.{option_map_or}
use Rattle.std.proofs.lemmas.Bool.{and_from, and_parts, le-leb, leb-true, lt-ltb, ltb-true}
use Rattle.std.proofs.lemmas.List.{length-append, length-map, take_all}
use Rattle.std.proofs.lemmas.Option.{slice_get-get_or}
use Rattle.cqf_units.specs.declared.reservations.Cycle.{Cycle}
use Rattle.cqf_lists.proofs.EachBelow.{get_or-singles}
use Rattle.cqf_lists.proofs.Members.{contains_filter, contains_map}
use Rattle.cqf_model.specs.declared.history.Reply.{Reply}
use Rattle.cqf_model.specs.declared.history.Reply.TheVariants.{Accepted, Sealed, Refused as RefusedFor}
use Rattle.cqf_model.specs.declared.topology.Row.{Row}
use Rattle.cqf_model.specs.Domain.{Domain}
use Rattle.cqf_model.specs.History.{Act, Admits, IsLegalHistory, Recorded, Seals, Withdraws, held_in, is_seal, seals}
use Rattle.cqf_model.specs.History.{stream_by, streams_of, table_at, tables_of}
use Rattle.cqf_model.specs.Table.{is_held, is_live, table_of}
use Rattle.cqf_laws_history.proofs.Indices.{admitted_at, admitted_before, sealed-suc, sealed_before, withdrawn_before, with_end}
use Rattle.cqf_laws_coverage.specs.Rows.{RowsSayTheTables, as_of, end_as_of}
use Rattle.cqf_laws_coverage.proofs.Rows.{all_streams}
use Rattle.cqf_instants_run.proofs.Covers.{live_held}
use Rattle.cqf_instants_run.specs.Laid.{is_live_below}

-- a row as the tables have it while its stream is live: its end is not yet known
abbrev pub while_live : Row → Row
while_live row =
    record { no = row.no; name = row.name; octets = row.octets; overhead = row.overhead; pace = row.pace; tree = row.tree; admitted = row.admitted; withdrawn = None }

-- an entry is a Seal, or admits at most one stream
one_or_seal : (d : Domain) (entries : List Recorded) (effect : ℕ) (act : Act) (reply : Reply) →
    length (stream_by d entries effect act reply) + cond (is_seal act) 1 0 ≤ 1
one_or_seal d entries effect (Admits asked) (Accepted receipt) = omega arith
one_or_seal d entries effect (Admits asked) (RefusedFor refused) = omega arith
one_or_seal d entries effect (Admits asked) Sealed = omega arith
one_or_seal d entries effect (Withdraws name) reply = omega arith
one_or_seal d entries effect Seals reply = omega arith

-- so there are at most as many streams and Seals as entries
few_admitted : (d : Domain) (entries : List Recorded) (n : ℕ) → n ≤ length entries → length (admitted_before d entries n) + sealed_before entries n ≤ n
few_admitted d entries zero within = omega arith
few_admitted d entries (suc n) within =
    let none : Recorded = record { seat = 0; act = Seals; reply = Sealed } in
    let e : Recorded = get_or entries n none in
    let is : slice_get entries n ≡ Some e = slice_get-get_or entries n none (omega (arith, within)) in
    let made : admitted_at d entries n ≡ stream_by d [] (sealed_before entries n) e.act e.reply =
    ap (λ (o : Option Recorded). option_map_or (λ (x : Recorded). stream_by d [] (sealed_before entries n) x.act x.reply) o []) is in
    omega (
      arith,
      few_admitted d entries n (omega (arith, within)),
      length-append (admitted_before d entries n) (admitted_at d entries n),
      ap length made,
      one_or_seal d [] (sealed_before entries n) e.act e.reply,
      sealed-suc entries n e is,
    )

-- the streams of a legal history are few
pub few_streams : (d : Domain) (entries : List Recorded) → IsLegalHistory d entries → length (streams_of d entries) ≤ 100000
few_streams d entries legal =
    omega (
      arith,
      few_admitted d entries (length entries) (omega arith),
      ap length (all_streams d entries),
      length-map (admitted_before d entries (length entries)) (with_end (withdrawn_before entries (length entries))),
      ap seals (take_all (length entries) entries (omega arith)),
      legal.few_calls,
    )

-- a live stream has no end yet
no_end : (row : Row) (cycle : ℕ) → is_live row cycle ≡ true → end_as_of cycle row.withdrawn ≡ None
no_end row cycle live = by row.withdrawn live
  where
    by : (end : Option Cycle) → (nat_le row.admitted.0 cycle && option_map_or (λ (w : Cycle). nat_lt cycle w.0) end true) ≡ true →
        end_as_of cycle end ≡ None
    by None h = refl
    by (Some w) h = ap (λ (b : Bool). if b then None else Some w) (and_parts (nat_le row.admitted.0 cycle) (nat_lt cycle w.0) h).1

-- so the tables of all cycles in which a stream is live have the same row
pub live_as : (row : Row) (cycle : ℕ) → is_live row cycle ≡ true → as_of cycle row ≡ while_live row
live_as row cycle live =
    ap (λ (end : Option Cycle). let made : Row =
    record { no = row.no; name = row.name; octets = row.octets; overhead = row.overhead; pace = row.pace; tree = row.tree; admitted = row.admitted; withdrawn = end } in made) (no_end row cycle live)

-- and a stream that is live in one of the first cycles is live in the cycle of its admission
pub live_below : (row : Row) (cycle cycles : ℕ) → is_live row cycle ≡ true → cycle < cycles → is_live_below cycles row ≡ true
live_below row cycle cycles live early = by row.withdrawn live
  where
    by : (end : Option Cycle) → (nat_le row.admitted.0 cycle && option_map_or (λ (w : Cycle). nat_lt cycle w.0) end true) ≡ true →
        (nat_lt row.admitted.0 cycles && (nat_le row.admitted.0 row.admitted.0 && option_map_or (λ (w : Cycle). nat_lt row.admitted.0 w.0) end true)) ≡ true
    by None h =
        let parts = and_parts (nat_le row.admitted.0 cycle) true h in
        and_from (nat_lt row.admitted.0 cycles) (nat_le row.admitted.0 row.admitted.0 && true)
        (lt-ltb row.admitted.0 cycles (omega (arith, leb-true row.admitted.0 cycle parts.0, early)))
        (and_from (nat_le row.admitted.0 row.admitted.0) true (le-leb row.admitted.0 row.admitted.0 (omega arith)) refl)
    by (Some w) h =
        let parts = and_parts (nat_le row.admitted.0 cycle) (nat_lt cycle w.0) h in
        let begun = leb-true row.admitted.0 cycle parts.0 in
        and_from (nat_lt row.admitted.0 cycles) (nat_le row.admitted.0 row.admitted.0 && nat_lt row.admitted.0 w.0)
        (lt-ltb row.admitted.0 cycles (omega (arith, begun, early)))
        (and_from (nat_le row.admitted.0 row.admitted.0) (nat_lt row.admitted.0 w.0) (le-leb row.admitted.0 row.admitted.0 (omega arith))
        (lt-ltb row.admitted.0 w.0 (omega (arith, begun, ltb-true cycle w.0 parts.1))))

-- the table of that cycle has it
pub in_table : (say : RowsSayTheTables) (d : Domain) (entries : List Recorded) (cycles : ℕ) (row : Row) → cycles ≤ seals entries →
    Contains (streams_of d entries) row → is_live_below cycles row ≡ true →
    Contains (table_of (tables_of d entries cycles) row.admitted.0) (while_live row)
in_table say d entries cycles row sealed inside is =
    let c = row.admitted.0 in
    let parts = and_parts (nat_lt c cycles) (is_live row c) is in
    let below : c < cycles = ltb-true c cycles parts.0 in
    let table : table_of (tables_of d entries cycles) c ≡ map (as_of c) (held_in d entries c) =
    get_or-singles (table_at d entries) cycles c [] below ∙ say d entries c (omega (arith, below, sealed)) in
    let held : Contains (held_in d entries c) row =
    contains_filter (λ (r : Row). is_held r c) (streams_of d entries) row inside (live_held row c parts.1) in
    subst (λ (rows : List Row). Contains rows (while_live row)) (sym table)
    (subst (Contains (map (as_of c) (held_in d entries c))) (live_as row c parts.1) (contains_map (as_of c) (held_in d entries c) row held))
