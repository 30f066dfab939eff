-- The values that are read from a network file's text are in their ranges and forms.
use Rattle.std.proofs.Common.{◌≡◌, ℕ, All, IsTrue, Bool, true, false, ◌&&◌, List, [], ◌∷◌}
use Rattle.std.proofs.Common.{Option, Some, None, Result, Ok, Err, cond, length, nat_le, ok_or, option_map}
use Rattle.std.proofs.Common.{ap, refl, subst, sym, arith}
use Rattle.std.specs.Prelude.{IfSome, codes}
use Rattle.std.specs.Option.{ForSome}
use Rattle.std.proofs.lemmas.Bool.{and_parts}
use Rattle.std.proofs.lemmas.Bool.Decides.{nat_tests}
use Rattle.std.proofs.lemmas.List.Elements.{All-cons, All-nil}
use Rattle.toml.specs.Data.{Data, Items, Members, as_array, as_integer, as_table, get_member}
use Rattle.cqf_lists.specs.Results.{and_then}
use Rattle.cqf_units.specs.Name.{is_name}
use Rattle.cqf_model.specs.declared.limits.Limits.{Limits}
use Rattle.cqf_topology.specs.declared.keys.Key.TheVariants.{Cycle, Guard, Bridges, Stations, Links, From, To}
use Rattle.cqf_topology.specs.declared.toml_faults.TomlFault.{TomlFault}
use Rattle.cqf_topology.specs.declared.toml_faults.TomlFault.TheVariants.{BadValue}
use Rattle.cqf_topology.specs.Fields.{are_tables, name_from, names_at, number_from, read_at, value_at, whole_document, within_range}
use Rattle.cqf_topology.specs.DomainText.{domain_keys, if_some, link_keys, overhead_from, sync_from}
use Rattle.cqf_topology.specs.LinkTimes.{AreReadTimes, times_read}
use Rattle.cqf_topology.proofs.Ordered.{overhead-range, sync-range, times-read}
use Rattle.cqf_topology.proofs.Refusals.{and_then-Ok, and_then-Some, each_from-All, if_some-Ok, names-named, number-range, ok_or-Ok, within_range-Some}
use Rattle.cqf_network.specs.declared.draft.NetworkLink.{NetworkLink}
use Rattle.cqf_network.specs.declared.draft.OneDirection.{OneDirection}
use Rattle.cqf_network.specs.Faults.{or_network, network_fault}
use Rattle.cqf_network.specs.declared.faults.NetworkFault.TheVariants.{BadOther}
use Rattle.cqf_network.specs.NetworkDomain.{AreCandidates, IsCycleTime, IsFrameSize, IsReadLink, IsReadableNetwork}
use Rattle.cqf_network.specs.NetworkText.{NetworkText, candidates_by, candidates_of, candidates_read, cycle_from, cycles_from, duplex_at, link_read, links_from}
use Rattle.cqf_network.specs.NetworkText.{links_of_array, links_read, one_from, one_of_text, one_direction_read, other_at, other_by, draft_from, network_keys}
use Rattle.cqf_network.specs.NetworkText.{draft_of_text, network_with_cycles, some_few}

-- if reading as a network file succeeds, so did reading
or_network_read : {A : Type 0} (r : Result A TomlFault) (x : A) → or_network r ≡ Ok x → r ≡ Ok x
or_network_read (Ok y) x h = cc
or_network_read (Err e) x h = absurd cc

-- a cycle time that is read is in its range
cycle_range : (d : Data) (cycle : ℕ) → cycle_from d ≡ Some cycle → IsCycleTime cycle
cycle_range d cycle h =
    let (z, integer, within) = and_then-Some (within_range 10000 10000000) (as_integer d) cycle h in
    let range = within_range-Some 10000 10000000 z cycle within in
    record { least = range.0; most = range.1 }

-- 1 to 1,000 cycle times are candidates
few_range : (cycles found : List ℕ) → All IsCycleTime cycles → some_few cycles ≡ Ok found → AreCandidates found
few_range cycles found all h = by (nat_le 1 (length cycles) && nat_le (length cycles) 1000) refl h
  where
    by : (b : Bool) → (nat_le 1 (length cycles) && nat_le (length cycles) 1000) ≡ b → cond b (Ok cycles) (Err (BadValue Cycle)) ≡ Ok found → AreCandidates found
    by true e h =
        let same : cycles ≡ found = cc in
        let parts = and_parts (nat_le 1 (length cycles)) (nat_le (length cycles) 1000) e in
        let low : nat_le 1 (length cycles) ≡ true = parts.0 in
        let high : nat_le (length cycles) 1000 ≡ true = parts.1 in
        subst AreCandidates same (record { some_cycle = grind (arith, nat_tests); few_cycles = grind (arith, nat_tests); cycle_times = all })
    by false e h = absurd cc

-- one cycle time is a candidate
one_candidate : (cycle : ℕ) → IsCycleTime cycle → AreCandidates (cycle ∷ [])
one_candidate cycle is = record {
  some_cycle = omega arith;
  few_cycles = omega arith;
  cycle_times = All-cons IsCycleTime cycle [] is (All-nil IsCycleTime);
}

-- the candidates of a value
value_range : (o : Option Items) (d : Data) (found : List ℕ) → candidates_by o d ≡ Ok found → AreCandidates found
value_range None d found h =
    let (cycle, is, one) = and_then-Ok (ok_or (cycle_from d) (BadValue Cycle)) _ found h in
    let same : (cycle ∷ []) ≡ found = cc in
    subst AreCandidates same (one_candidate cycle (cycle_range d cycle (ok_or-Ok _ (BadValue Cycle) cycle is)))
value_range (Some items) d found h =
    let (cycles, are, few) = and_then-Ok (cycles_from items) some_few found h in
    few_range cycles found
    (each_from-All IsCycleTime (λ e. ok_or (cycle_from e) (BadValue Cycle))
    (λ e cycle is. cycle_range e cycle (ok_or-Ok _ (BadValue Cycle) cycle is)) items cycles are)
    few

-- those of a domain's table, and those that are given
table_range : (o : Option Data) (found : List ℕ) → candidates_of o ≡ Ok found → AreCandidates found
table_range None found h = absurd cc
table_range (Some d) found h = value_range (as_array d) d found h

candidates_range : (given : Option (List ℕ)) (table : Members) (found : List ℕ) → IfSome given AreCandidates → candidates_read given table ≡ Ok found →
    AreCandidates found
candidates_range None table found are h = table_range (value_at Cycle table) found h
candidates_range (Some cycles) table found are h = let same : cycles ≡ found = cc in subst AreCandidates same are

-- the times of a link
path_range : (table : Members) (path : OneDirection) → one_direction_read table ≡ Ok path → AreReadTimes path.times
path_range table path h =
    let (from, from_is, h1) = and_then-Ok (read_at From name_from table) _ path h in
    let (to, to_is, h2) = and_then-Ok (read_at To name_from table) _ path h1 in
    let (times, times_are, h3) = and_then-Ok (times_read table) _ path h2 in
    let made : OneDirection = record { from = from; to = to; times = times } in
    let same : made ≡ path = cc in
    subst (λ (w : OneDirection). AreReadTimes w.times) same (times-read table times times_are)

-- what its station may send beside streams
other_range : (o : Option Data) (found : Option ℕ) → other_by o ≡ Ok found → ForSome found IsFrameSize
other_range None found h octets said = absurd cc
other_range (Some d) found h octets said =
    let (size, is, rest) = and_then-Ok (ok_or (number_from 64 1522 d) BadOther) _ found h in
    let (z, integer, within) = and_then-Some (within_range 64 1522) (as_integer d) size (ok_or-Ok _ BadOther size is) in
    let range = within_range-Some 64 1522 z size within in
    let same : size ≡ octets = cc in
    subst IsFrameSize same (record { least = range.0; most = range.1 })

link_range : (table : Members) (link : NetworkLink) → link_read table ≡ Ok link → IsReadLink link
link_range table link h =
    let (there, there_is, h1) = and_then-Ok (or_network (one_direction_read table)) _ link h in
    let (duplex, duplex_is, h2) = and_then-Ok (duplex_at table) _ link h1 in
    let (other, other_is, h3) = and_then-Ok (other_at table) _ link h2 in
    let made : NetworkLink = record { there = there; duplex = duplex; other = other } in
    let same : made ≡ link = cc in
    subst IsReadLink same (record {
      times_are_read = path_range table there (or_network_read (one_direction_read table) there there_is);
      other_is_read = other_range (get_member (codes "other") table) other other_is;
    })

element_range : (d : Data) (link : NetworkLink) → and_then (ok_or (as_table d) (network_fault (BadValue Links))) link_read ≡ Ok link → IsReadLink link
element_range d link h =
    let (table, is, read) = and_then-Ok (ok_or (as_table d) (network_fault (BadValue Links))) link_read link h in link_range table link read

-- those of all
array_range : (items : Items) (links : List NetworkLink) → links_of_array items ≡ Ok links → All IsReadLink links
array_range items links h = by (are_tables items) h
  where
    by : (b : Bool) → cond b (links_from items) (Err (network_fault (BadValue Links))) ≡ Ok links → All IsReadLink links
    by true read =
        each_from-All IsReadLink (λ d. and_then (ok_or (as_table d) (network_fault (BadValue Links))) link_read) element_range items links read
    by false read = absurd cc

links_range : (table : Members) (links : List NetworkLink) → links_read table ≡ Ok links → All IsReadLink links
links_range table links h =
    let (items, is, array) = and_then-Ok (or_network (read_at Links as_array table)) links_of_array links h in array_range items links array

-- what a domain's table says with cycle times, and within which limits
cycles_readable : (limits : Limits) (table : Members) (candidates : List ℕ) (text : NetworkText) → AreCandidates candidates →
    network_with_cycles limits table candidates ≡ Ok text → IsReadableNetwork text
cycles_readable limits table candidates text are h =
    let (guard, guard_is, h2) = and_then-Ok (or_network (read_at Guard (number_from 1 10000000) table)) _ text h in
    let (sync, sync_is, h3) = and_then-Ok (or_network (sync_from table)) _ text h2 in
    let (overhead, overhead_is, h4) = and_then-Ok (or_network (overhead_from table)) _ text h3 in
    let (bridges, bridges_are, h5) = and_then-Ok (or_network (and_then (names_at Bridges table) (if_some Bridges))) _ text h4 in
    let (stations, stations_are, h6) = and_then-Ok (or_network (names_at Stations table)) _ text h5 in
    let (links, links_are, h7) = and_then-Ok (links_read table) _ text h6 in
    let (names, named, some) = and_then-Ok (names_at Bridges table) (if_some Bridges) bridges (or_network_read _ bridges bridges_are) in
    let some_is = if_some-Ok Bridges names bridges some in
    let made : NetworkText =
    record { limits = limits; candidates = candidates; guard = guard; sync = sync; overhead = overhead; bridges = bridges; stations = stations; links = links } in
    let same : made ≡ text = cc in
    subst IsReadableNetwork same (record {
      are_candidates = are;
      guard_some = (number-range Guard 1 10000000 table guard (or_network_read _ guard guard_is)).0;
      sync_most = sync-range table sync (or_network_read _ sync sync_is);
      overhead_most = overhead-range table overhead (or_network_read _ overhead overhead_is);
      some_bridge = some_is.1;
      bridges_named = subst (All (λ name. IsTrue (is_name name))) some_is.0 (names-named Bridges table names named);
      stations_named = names-named Stations table stations (or_network_read _ stations stations_are);
      links_are_read = links_range table links links_are;
    })

cycles_limits : (limits : Limits) (table : Members) (candidates : List ℕ) (text : NetworkText) → network_with_cycles limits table candidates ≡ Ok text →
    text.limits ≡ limits
cycles_limits limits table candidates text h =
    let (guard, guard_is, h2) = and_then-Ok (or_network (read_at Guard (number_from 1 10000000) table)) _ text h in
    let (sync, sync_is, h3) = and_then-Ok (or_network (sync_from table)) _ text h2 in
    let (overhead, overhead_is, h4) = and_then-Ok (or_network (overhead_from table)) _ text h3 in
    let (bridges, bridges_are, h5) = and_then-Ok (or_network (and_then (names_at Bridges table) (if_some Bridges))) _ text h4 in
    let (stations, stations_are, h6) = and_then-Ok (or_network (names_at Stations table)) _ text h5 in
    let (links, links_are, h7) = and_then-Ok (links_read table) _ text h6 in
    let made : NetworkText =
    record { limits = limits; candidates = candidates; guard = guard; sync = sync; overhead = overhead; bridges = bridges; stations = stations; links = links } in
    let same : made ≡ text = cc in ap (λ (t : NetworkText). t.limits) (sym same)

-- within which limits a text is read
pub draft_limits : (limits : Limits) (given : Option (List ℕ)) (text : List ℕ) (draft : NetworkText) → draft_of_text limits given text ≡ Ok draft →
    draft.limits ≡ limits
draft_limits limits given text draft h =
    let (table, whole, from) = and_then-Ok (or_network (whole_document (network_keys given) Links link_keys text)) (draft_from limits given) draft h in
    let (candidates, are, rest) = and_then-Ok (or_network (candidates_read given table)) (network_with_cycles limits table) draft from in
    cycles_limits limits table candidates draft rest

pub one_draft_limits : (limits : Limits) (text : List ℕ) (draft : NetworkText) → one_of_text limits text ≡ Ok draft → draft.limits ≡ limits
one_draft_limits limits text draft h =
    let (table, whole, from) = and_then-Ok (or_network (whole_document domain_keys Links link_keys text)) (one_from limits) draft h in
    let (cycle, is, rest) = and_then-Ok (or_network (read_at Cycle (number_from 10000 10000000) table)) _ draft from in
    cycles_limits limits table (cycle ∷ []) draft rest

-- what is read from a network file's text
pub network_readable : (limits : Limits) (given : Option (List ℕ)) (text : List ℕ) (draft : NetworkText) → IfSome given AreCandidates →
    draft_of_text limits given text ≡ Ok draft → IsReadableNetwork draft
network_readable limits given text draft are h =
    let (table, whole, from) = and_then-Ok (or_network (whole_document (network_keys given) Links link_keys text)) (draft_from limits given) draft h in
    let (candidates, candidates_are, rest) = and_then-Ok (or_network (candidates_read given table)) (network_with_cycles limits table) draft from in
    cycles_readable limits table candidates draft (candidates_range given table candidates are (or_network_read _ candidates candidates_are)) rest

-- and one whose cycle time isn't open
pub one_readable : (limits : Limits) (text : List ℕ) (draft : NetworkText) → one_of_text limits text ≡ Ok draft → IsReadableNetwork draft
one_readable limits text draft h =
    let (table, whole, from) = and_then-Ok (or_network (whole_document domain_keys Links link_keys text)) (one_from limits) draft h in
    let (cycle, is, rest) = and_then-Ok (or_network (read_at Cycle (number_from 10000 10000000) table)) _ draft from in
    let range = number-range Cycle 10000 10000000 table cycle (or_network_read _ cycle is) in
    cycles_readable limits table (cycle ∷ []) draft (one_candidate cycle (record { least = range.0; most = range.1 })) rest

-- candidates that are given, as the list of them
pub given_candidates : {A : Type 0} (items : A → List ℕ) (given : Option A) → IfSome given (λ cycles. AreCandidates (items cycles)) →
    IfSome (option_map items given) AreCandidates
given_candidates items None are = tt
given_candidates items (Some cycles) are = are
