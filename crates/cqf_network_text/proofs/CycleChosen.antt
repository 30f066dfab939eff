-- Reading a network's text with a chosen cycle time.
use Rattle.std.proofs.Common.{◌≡◌, ◌∙◌, ◌<◌, ◌≤◌, ◌&&◌, ℕ, pos, List, [], ◌∷◌, Bool, true, false, not, cond, Option, IsSome, is_some, Some, None, Result, Ok, Err, find, is_none, map, max}
use Rattle.std.proofs.Common.{nat_le, ok_or, option_map, unwrap_or, refl, ap, sym, subst, arith}
use Rattle.std.specs.Option.{option_and_then, option_or}
use Rattle.toml.specs.Data.{Data, Members, array, as_array, integer}
use Rattle.cqf_lists.specs.Results.{and_then, refuse}
use Rattle.cqf_model.specs.declared.limits.Limits.{Limits}
use Rattle.cqf_model.specs.declared.topology.Link.{Link}
use Rattle.cqf_topology.specs.declared.keys.Key.{Key}
use Rattle.cqf_topology.specs.declared.keys.Key.TheVariants as key
use Rattle.cqf_topology.specs.declared.faults.DomainFault.TheVariants as domain
use Rattle.cqf_topology.specs.declared.toml_faults.TomlFault.TheVariants.{BadValue}
use Rattle.cqf_topology.specs.Fields.{first_absent, first_absent_within, first_missing, key_text, lacks, names_at, names_from, number_from, read_at, value_at}
use Rattle.cqf_topology.specs.Fields.{whole_document}
use Rattle.cqf_topology.specs.DomainText.{domain_keys, first_taken, if_so, if_some, link_keys, overhead_from, sync_from}
use Rattle.cqf_topology.specs.LinkTimes.{guard_within}
use Rattle.cqf_topology.proofs.Refusals.{and_then-Ok, refuse-Ok}
use Rattle.cqf_network.specs.declared.draft.NetworkLink.{NetworkLink}
use Rattle.cqf_network.specs.declared.faults.NetworkFault.{NetworkFault}
use Rattle.cqf_network.specs.declared.faults.NetworkFault.TheVariants as fault
use Rattle.cqf_network.specs.Edges.{Edge, first_long_delay, first_long_gap, first_long_guard, first_long_sync, first_misplaced, first_twice, has_long_guard}
use Rattle.cqf_network.specs.Edges.{is_talkers, joined, reaches_each}
use Rattle.cqf_network.specs.Faults.{or_network, network_fault}
use Rattle.cqf_network.specs.NetworkText.{NetworkText, candidates_of, candidates_read, links_of_array, links_read, one_from, draft_from, network_keys, draft_of_text}
use Rattle.cqf_network.specs.NetworkText.{network_with_cycles}
use Rattle.cqf_network.specs.NetworkDomain.{IsOpenCycle, NetworkDomain, checked, is_guard_too_long, is_too_many, link_of, longest_guard, longest_of, name_taken}
use Rattle.cqf_network.specs.NetworkDomain.{network_of_text, bridge_edges, open_network_of_text, network_with, with_edges, with_names}
use Rattle.cqf_network.proofs.StreamParts.{map_both-Ok, or_None}
use Rattle.cqf_network_text.specs.declared.filling.FilledStream.{FilledStream}
use Rattle.cqf_network_text.specs.DomainMembers.{put}
use Rattle.cqf_network_text.specs.Networks.{filled_network, filled_streams, streams_of, table_of}
use Rattle.cqf_network_text.specs.NetworkLaws.{with_cycle}
use Rattle.cqf_network_text.proofs.DomainChecks.{unreached}
use Rattle.cqf_network_text.proofs.DomainReading.{number_reads}
use Rattle.cqf_network_text.proofs.Puts.{put_apart, put_here}
use Rattle.cqf_network_text.proofs.TablesRead.{number_if_same, one_table, read_same, table_is, whole_is, whole_parts}

-- what a text says, with another cycle time
abbrev text_with : ℕ → NetworkText → NetworkText
text_with cycle text = record {
  limits = text.limits;
  candidates = cycle ∷ [];
  guard = text.guard;
  sync = text.sync;
  overhead = text.overhead;
  bridges = text.bridges;
  stations = text.stations;
  links = text.links;
}

-- ---- its checks

-- the longest guard band is no shorter than that of all others
longest_others : (guard : ℕ) (links : List Link) → guard ≤ longest_of guard links
longest_others guard [] = omega arith
longest_others guard (link ∷ links) =
    let more : max guard (unwrap_or link.guard guard) ≤ longest_of guard (link ∷ links) = longest_others (max guard (unwrap_or link.guard guard)) links in
    omega arith

-- an edge's own guard band is no longer than the longest of it and others
own_within : (own : Option ℕ) (guard others : ℕ) → guard ≤ others → unwrap_or own guard ≤ max others (unwrap_or own others)
own_within None guard others few = omega arith
own_within (Some n) guard others few = omega arith

-- no guard band reaches a cycle time above the longest one
short_guards : (cycle guard others : ℕ) (edges : List Edge) → guard ≤ others → longest_of others (map link_of (bridge_edges edges)) < cycle →
    find (has_long_guard (cycle ∷ []) guard) edges ≡ None
short_guards cycle guard others [] few above = refl
short_guards cycle guard others (edge ∷ edges) few above =
    by (λ more enough long. short_guards cycle guard more edges enough long) (is_talkers edge) refl above
  where
    -- what is found among these, by what is known of the first
    rest : (b : Bool) → has_long_guard (cycle ∷ []) guard edge ≡ b → b ≡ false → find (has_long_guard (cycle ∷ []) guard) edges ≡ None →
        find (has_long_guard (cycle ∷ []) guard) (edge ∷ edges) ≡ None
    rest b is short none = ap (λ c. cond c (Some edge) (find (has_long_guard (cycle ∷ []) guard) edges)) (is ∙ short) ∙ none

    by : ((more : ℕ) → guard ≤ more → longest_of more (map link_of (bridge_edges edges)) < cycle → find (has_long_guard (cycle ∷ []) guard) edges ≡ None) →
        (b : Bool) → is_talkers edge ≡ b → longest_of others (map link_of (cond (not b) (edge ∷ bridge_edges edges) (bridge_edges edges))) < cycle →
        find (has_long_guard (cycle ∷ []) guard) (edge ∷ edges) ≡ None
    by those true is above =
        rest (not true && reaches_each (cycle ∷ []) (guard_within guard edge.times)) (ap (λ b. not b && reaches_each (cycle ∷ []) (guard_within guard edge.times)) is) refl
        (those others few above)
    by those false is above =
        let own : ℕ = guard_within guard edge.times in
        let both : ℕ = max others (unwrap_or edge.times.guard others) in
        let within : own ≤ both = own_within edge.times.guard guard others few in
        let more : both ≤ longest_of both (map link_of (bridge_edges edges)) = longest_others both (map link_of (bridge_edges edges)) in
        let all : longest_of both (map link_of (bridge_edges edges)) < cycle = above in
        let short : nat_le cycle own ≡ false = unreached cycle own (omega (arith, within, more, all)) in
        let few_both : guard ≤ both = omega (arith, few) in
        rest (not false && reaches_each (cycle ∷ []) own) (ap (λ b. not b && reaches_each (cycle ∷ []) own) is) (λ i. short i && true)
        (those both few_both all)

module _ (text : NetworkText) (cycle : ℕ) where
  -- checks that pass go on passing
  edges_pass : (edges : List Edge) (network : NetworkDomain) → with_edges text edges ≡ Ok network → longest_guard network < cycle →
      with_edges (text_with cycle text) edges ≡ Ok (with_cycle cycle network)
  edges_pass edges network h above =
      let (twice, h1) = refuse-Ok (first_twice edges) (λ element. fault.Domain (domain.LinkTwice element)) _ network h in
      let (guard, h2) = refuse-Ok (if_so (is_guard_too_long text)) (λ _. fault.Domain domain.GuardTooLong) _ network h1 in
      let (guards, h3) = refuse-Ok (first_long_guard text.candidates text.guard edges) (λ element. fault.Domain (domain.LinkGuardTooLong element)) _ network h2 in
      let (delays, h4) = refuse-Ok (first_long_delay text.sync text.guard edges) (λ element. fault.Domain (domain.DelayTooLong element)) _ network h3 in
      let (gaps, h5) = refuse-Ok (first_long_gap text.guard edges) (λ element. fault.Domain (domain.GapTooLong element)) _ network h4 in
      let (many, h6) = refuse-Ok (if_so (is_too_many text edges)) (λ _. fault.Domain domain.TooMany) _ network h5 in
      let (syncs, h7) = refuse-Ok (first_long_sync text.sync edges) (λ element. fault.Domain (domain.SyncTooLong element)) _ network h6 in
      let (misplaced, same) = refuse-Ok (first_misplaced edges) fault.NoAccessLink _ network h7 in
      let is : network_with text edges ≡ network = cc in
      let long : longest_of text.guard (map link_of (bridge_edges edges)) < cycle = subst (λ (d : NetworkDomain). longest_guard d < cycle) (sym is) above in
      let most : text.guard ≤ longest_of text.guard (map link_of (bridge_edges edges)) = longest_others text.guard (map link_of (bridge_edges edges)) in
      let short : nat_le cycle text.guard ≡ false = unreached cycle text.guard (omega (arith, long, most)) in
      let shorts : find (has_long_guard (cycle ∷ []) text.guard) edges ≡ None = short_guards cycle text.guard text.guard edges (omega arith) long in
      (λ i. refuse (twice i) (λ element. fault.Domain (domain.LinkTwice element)) (
      refuse (if_so (short i && true)) (λ _. fault.Domain domain.GuardTooLong) (
      refuse (option_map (λ (edge : Edge). edge.element) (shorts i)) (λ element. fault.Domain (domain.LinkGuardTooLong element)) (
      refuse (delays i) (λ element. fault.Domain (domain.DelayTooLong element)) (
      refuse (gaps i) (λ element. fault.Domain (domain.GapTooLong element)) (
      refuse (many i) (λ _. fault.Domain domain.TooMany) (
      refuse (syncs i) (λ element. fault.Domain (domain.SyncTooLong element)) (
      refuse (misplaced i) fault.NoAccessLink (
      Ok (with_cycle cycle (is i)))))))))))

  pub checks_pass : (network : NetworkDomain) → checked text ≡ Ok network → longest_guard network < cycle →
      checked (text_with cycle text) ≡ Ok (with_cycle cycle network)
  checks_pass network h above =
      let (bridges, h1) = refuse-Ok (first_taken [] text.bridges) name_taken _ network h in
      let (stations, h2) = refuse-Ok (first_taken text.bridges text.stations) name_taken (with_names text) network h1 in
      let (edges, at, passed) = and_then-Ok (joined text.bridges text.stations 0 text.links) (with_edges text) network h2 in
      (λ i. refuse (bridges i) name_taken (refuse (stations i) name_taken (and_then (at i) (with_edges (text_with cycle text)))))
      ∙ edges_pass edges network passed above

-- ---- its reading

-- what is read with some candidates is read with any
other_cycle : (limits : Limits) (guard sync overhead : Result ℕ NetworkFault) (bridges stations : Result (List (List ℕ)) NetworkFault)
    (links : Result (List NetworkLink) NetworkFault) (candidates : List ℕ) (cycle : ℕ) (text : NetworkText) →
    and_then guard (λ guard. and_then sync (λ sync. and_then overhead (λ overhead. and_then bridges (λ bridges. and_then stations (λ stations.
    and_then links (λ links. Ok (record {
      limits = limits;
      candidates = candidates;
      guard = guard;
      sync = sync;
      overhead = overhead;
      bridges = bridges;
      stations = stations;
      links = links;
    }))))))) ≡ Ok text →
    and_then guard (λ guard. and_then sync (λ sync. and_then overhead (λ overhead. and_then bridges (λ bridges. and_then stations (λ stations.
    and_then links (λ links. Ok (record {
      limits = limits;
      candidates = cycle ∷ [];
      guard = guard;
      sync = sync;
      overhead = overhead;
      bridges = bridges;
      stations = stations;
      links = links;
    }))))))) ≡ Ok (text_with cycle text)
other_cycle limits (Ok guard) (Ok sync) (Ok overhead) (Ok bridges) (Ok stations) (Ok links) candidates cycle text h =
    let read : NetworkText = record {
      limits = limits;
      candidates = candidates;
      guard = guard;
      sync = sync;
      overhead = overhead;
      bridges = bridges;
      stations = stations;
      links = links;
    } in
    let is : read ≡ text = cc in
    ap (λ t. Ok (text_with cycle t)) is
other_cycle limits (Err e) sync overhead bridges stations links candidates cycle text h = absurd cc
other_cycle limits (Ok guard) (Err e) overhead bridges stations links candidates cycle text h = absurd cc
other_cycle limits (Ok guard) (Ok sync) (Err e) bridges stations links candidates cycle text h = absurd cc
other_cycle limits (Ok guard) (Ok sync) (Ok overhead) (Err e) stations links candidates cycle text h = absurd cc
other_cycle limits (Ok guard) (Ok sync) (Ok overhead) (Ok bridges) (Err e) links candidates cycle text h = absurd cc
other_cycle limits (Ok guard) (Ok sync) (Ok overhead) (Ok bridges) (Ok stations) (Err e) candidates cycle text h = absurd cc

-- the keys after the cycle time
abbrev keys_after : List Key
keys_after = key.Guard ∷ key.Bridges ∷ key.Stations ∷ key.Links ∷ []

-- none of them is absent where none of those that are owed is
after_none : (given : Option (List ℕ)) (table : Members) → first_absent (network_keys given) table ≡ None → first_absent keys_after table ≡ None
after_none None table h = by (lacks key.Cycle table) h
  where
    by : (b : Bool) → cond b (Some key.Cycle) (first_absent keys_after table) ≡ None → first_absent keys_after table ≡ None
    by true h = absurd cc
    by false h = h
after_none (Some given) table h = h

module _ (limits : Limits) (cycle : ℕ) (filled : List FilledStream) (members streams : Members) where
  -- the table with the cycle time, and with the streams
  abbrev pub all : Members
  all = filled_network cycle filled members streams

  abbrev pub with_time : Members
  with_time = put (key_text key.Cycle) (integer (pos cycle)) members

  abbrev pub all_streams : Data
  all_streams = array (filled_streams filled (streams_of streams))

  cycle_at : value_at key.Cycle all ≡ Some (integer (pos cycle))
  cycle_at = put_apart (key_text key.Cycle) (key_text key.Streams) all_streams with_time refl ∙ put_here (key_text key.Cycle) (integer (pos cycle)) members

  guard_at : value_at key.Guard all ≡ value_at key.Guard members
  guard_at =
      put_apart (key_text key.Guard) (key_text key.Streams) all_streams with_time refl
      ∙ put_apart (key_text key.Guard) (key_text key.Cycle) (integer (pos cycle)) members refl

  sync_at : value_at key.Sync all ≡ value_at key.Sync members
  sync_at =
      put_apart (key_text key.Sync) (key_text key.Streams) all_streams with_time refl
      ∙ put_apart (key_text key.Sync) (key_text key.Cycle) (integer (pos cycle)) members refl

  overhead_at : value_at key.GateOverhead all ≡ value_at key.GateOverhead members
  overhead_at =
      put_apart (key_text key.GateOverhead) (key_text key.Streams) all_streams with_time refl
      ∙ put_apart (key_text key.GateOverhead) (key_text key.Cycle) (integer (pos cycle)) members refl

  bridges_at : value_at key.Bridges all ≡ value_at key.Bridges members
  bridges_at =
      put_apart (key_text key.Bridges) (key_text key.Streams) all_streams with_time refl
      ∙ put_apart (key_text key.Bridges) (key_text key.Cycle) (integer (pos cycle)) members refl

  stations_at : value_at key.Stations all ≡ value_at key.Stations members
  stations_at =
      put_apart (key_text key.Stations) (key_text key.Streams) all_streams with_time refl
      ∙ put_apart (key_text key.Stations) (key_text key.Cycle) (integer (pos cycle)) members refl

  links_at : value_at key.Links all ≡ value_at key.Links members
  links_at =
      put_apart (key_text key.Links) (key_text key.Streams) all_streams with_time refl
      ∙ put_apart (key_text key.Links) (key_text key.Cycle) (integer (pos cycle)) members refl

  -- nothing is missing
  after_same : first_absent keys_after all ≡ first_absent keys_after members
  after_same =
      (λ i. cond (is_none (guard_at i) && true) (Some key.Guard) (
      cond (is_none (bridges_at i) && true) (Some key.Bridges) (
      cond (is_none (stations_at i) && true) (Some key.Stations) (
      cond (is_none (links_at i) && true) (Some key.Links) None))))

  lacks_nothing : (given : Option (List ℕ)) → first_missing (network_keys given) key.Links link_keys members ≡ None →
      first_missing domain_keys key.Links link_keys all ≡ None
  lacks_nothing given h =
      let (own, within) = or_None (first_absent (network_keys given) members)
      (option_and_then (first_absent_within link_keys) (option_and_then as_array (value_at key.Links members))) h in
      let following : first_absent keys_after all ≡ None = after_same ∙ after_none given members own in
      let inside : option_and_then (first_absent_within link_keys) (option_and_then as_array (value_at key.Links all)) ≡ None =
      ap (λ o. option_and_then (first_absent_within link_keys) (option_and_then as_array o)) links_at ∙ within in
      (λ i. option_or (cond (is_none (cycle_at i) && true) (Some key.Cycle) (following i)) (inside i))

  -- what is read but for the cycle time is the same
  rest_same : (candidates : List ℕ) → network_with_cycles limits all candidates ≡ network_with_cycles limits members candidates
  rest_same candidates =
      let guard_is = read_same key.Guard (number_from 1 10000000) all members guard_at in
      let sync_is : sync_from all ≡ sync_from members =
      ap (λ r. and_then r (λ sync. Ok (unwrap_or sync 0))) (number_if_same key.Sync 0 10000000 all members sync_at) in
      let overhead_is : overhead_from all ≡ overhead_from members =
      ap (λ r. and_then r (λ overhead. Ok (unwrap_or overhead 0))) (number_if_same key.GateOverhead 0 22 all members overhead_at) in
      let bridges_are : names_at key.Bridges all ≡ names_at key.Bridges members =
      ap (λ r. and_then r (names_from key.Bridges)) (read_same key.Bridges as_array all members bridges_at) in
      let stations_are : names_at key.Stations all ≡ names_at key.Stations members =
      ap (λ r. and_then r (names_from key.Stations)) (read_same key.Stations as_array all members stations_at) in
      let links_are : links_read all ≡ links_read members =
      ap (λ r. and_then (or_network r) links_of_array) (read_same key.Links as_array all members links_at) in
      (λ i. and_then (or_network (guard_is i)) (λ (guard : ℕ).
      and_then (or_network (sync_is i)) (λ (sync : ℕ).
      and_then (or_network (overhead_is i)) (λ (overhead : ℕ).
      and_then (or_network (and_then (bridges_are i) (if_some key.Bridges))) (λ (bridges : List (List ℕ)).
      and_then (or_network (stations_are i)) (λ (stations : List (List ℕ)).
      and_then (links_are i) (λ (links : List NetworkLink).
      let text : NetworkText = record {
        limits = limits;
        candidates = candidates;
        guard = guard;
        sync = sync;
        overhead = overhead;
        bridges = bridges;
        stations = stations;
        links = links;
      } in
      Ok text)))))))

  -- so it is what was read, with the cycle time
  chosen_read : (given : Option (List ℕ)) (text : NetworkText) → draft_from limits given members ≡ Ok text →
      network_with_cycles limits all (cycle ∷ []) ≡ Ok (text_with cycle text)
  chosen_read given text h =
      let (candidates, _, read) = and_then-Ok (or_network (candidates_read given members)) (network_with_cycles limits members) text h in
      rest_same (cycle ∷ [])
      ∙ other_cycle limits (or_network (read_at key.Guard (number_from 1 10000000) members)) (or_network (sync_from members)) (or_network (overhead_from members))
      (or_network (and_then (names_at key.Bridges members) (if_some key.Bridges))) (or_network (names_at key.Stations members)) (links_read members)
      candidates cycle text read

  -- the cycle time, read as the only one, and as the only candidate
  one_read : 10000 ≤ cycle → cycle ≤ 10000000 → read_at key.Cycle (number_from 10000 10000000) all ≡ Ok cycle
  one_read least most =
      ap (λ o. ok_or (option_and_then (number_from 10000 10000000) o) (BadValue key.Cycle)) cycle_at
      ∙ ap (λ o. ok_or o (BadValue key.Cycle)) (number_reads 10000 10000000 cycle least most)

  candidate_read : 10000 ≤ cycle → cycle ≤ 10000000 → candidates_read None all ≡ Ok (cycle ∷ [])
  candidate_read least most =
      ap candidates_of cycle_at
      ∙ ap (λ o. and_then (ok_or o (BadValue key.Cycle)) (λ c. Ok (c ∷ []))) (number_reads 10000 10000000 cycle least most)

  module _ (given : Option (List ℕ)) (from text : List ℕ) (network : NetworkDomain) (read : open_network_of_text limits given from ≡ Ok network)
      (open_to : IsOpenCycle network cycle) (from_table : table_of from ≡ Some members) (is : table_of text ≡ Some all) where
    -- what was read
    record WasRead : Type 0 where
      said : NetworkText
      none : first_missing (network_keys given) key.Links link_keys members ≡ None
      from_members : draft_from limits given members ≡ Ok said
      passed : checked said ≡ Ok network

    was_read : WasRead
    was_read =
        let (said, at, passed) = and_then-Ok (draft_of_text limits given from) checked network read in
        let (table, whole, rest) = and_then-Ok (or_network (whole_document (network_keys given) key.Links link_keys from)) (draft_from limits given) said at in
        let parts = whole_parts (network_keys given) key.Links link_keys from table
        (map_both-Ok network_fault (whole_document (network_keys given) key.Links link_keys from) table whole) in
        let same : table ≡ members = one_table from table members parts.document from_table in
        record {
          said = said;
          none = rw (← same) parts.none;
          from_members = rw (← same) rest;
          passed = passed;
        }

    whole : whole_document domain_keys key.Links link_keys text ≡ Ok all
    whole = whole_is domain_keys key.Links link_keys text all is (lacks_nothing given was_read.none)

    chosen : network_with_cycles limits all (cycle ∷ []) ≡ Ok (text_with cycle was_read.said)
    chosen = chosen_read given was_read.said was_read.from_members

    passes : checked (text_with cycle was_read.said) ≡ Ok (with_cycle cycle network)
    passes = checks_pass was_read.said cycle network was_read.passed open_to.above_guards

    -- the network is read back with the cycle time
    pub network_reads_back : network_of_text limits text ≡ Ok (with_cycle cycle network)
    network_reads_back =
        let one = one_read open_to.in_range.least open_to.in_range.most in
        (λ i. and_then (and_then (or_network (whole i)) (one_from limits)) checked)
        ∙ (λ i. and_then (and_then (or_network (one i)) (λ c. network_with_cycles limits all (c ∷ []))) checked)
        ∙ (λ i. and_then (chosen i) checked) ∙ passes

    -- and so it is by `plan`
    pub open_network_reads_back : open_network_of_text limits None text ≡ Ok (with_cycle cycle network)
    open_network_reads_back =
        let one = candidate_read open_to.in_range.least open_to.in_range.most in
        (λ i. and_then (and_then (or_network (whole i)) (draft_from limits None)) checked)
        ∙ (λ i. and_then (and_then (or_network (one i)) (network_with_cycles limits all)) checked)
        ∙ (λ i. and_then (chosen i) checked) ∙ passes

-- a text whose domain was read has a table
pub domain_has_table : (limits : Limits) (given : Option (List ℕ)) (text : List ℕ) (network : NetworkDomain) → open_network_of_text limits given text ≡ Ok network →
    IsSome (table_of text)
domain_has_table limits given text network read =
    let (said, at, _) = and_then-Ok (draft_of_text limits given text) checked network read in
    let (table, whole, _) = and_then-Ok (or_network (whole_document (network_keys given) key.Links link_keys text)) (draft_from limits given) said at in
    let parts = whole_parts (network_keys given) key.Links link_keys text table
    (map_both-Ok network_fault (whole_document (network_keys given) key.Links link_keys text) table whole) in
    ap is_some (table_is text table parts.document)
