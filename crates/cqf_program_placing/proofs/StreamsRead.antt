-- What is read of the streams of a network file's text.
use Rattle.std.proofs.Common.{◌≡◌, ◌≢◌, ◌∙◌, ◌<◌, ℕ, Bool, true, false, ◌&&◌, ◌++◌, List, [], ◌∷◌, Option, Some, None, Result, Ok, Err, All, AllPairs}
use Rattle.std.proofs.Common.{IfSome, cond, find, is_none, length, ok_or, option_map, ap, arith, refl, subst, sym}
use Rattle.std.specs.Prelude.{nat_le, option_and_then}
use Rattle.std.specs.Option.{option_or}
use Rattle.std.specs.Result.{result_map_both}
use Rattle.std.proofs.lemmas.Bool.{and_parts, leb-true}
use Rattle.std.proofs.lemmas.List.Elements.{All-cons, All-nil}
use Rattle.toml.specs.Data.{Data, Items, Members, as_array, as_str, as_table, item, no_items}
use Rattle.cqf_lists.specs.Results.{and_then}
use Rattle.cqf_lists.proofs.Pairs.{pairs_one}
use Rattle.cqf_topology.specs.declared.toml_faults.TomlFault.{TomlFault}
use Rattle.cqf_topology.specs.declared.toml_faults.TomlFault.TheVariants as toml_fault
use Rattle.cqf_topology.specs.declared.keys.Key.{Key}
use Rattle.cqf_topology.specs.declared.keys.Key.TheVariants.{From, Name, Octets, Streams, To}
use Rattle.cqf_topology.specs.Fields.{are_tables, each_from, first_absent, lacks, name_from, names_from, number_from, read_at, value_at, whole_document}
use Rattle.cqf_topology.specs.DomainText.{first_taken}
use Rattle.cqf_topology.specs.PlannedText.{deadline_from}
use Rattle.cqf_topology.specs.StreamsText.{streams_keys}
use Rattle.cqf_topology.proofs.Distinct.{first_taken-None}
use Rattle.cqf_topology.proofs.Refusals.{and_then-Ok, ok_or-Ok, refuse-Ok}
use Rattle.cqf_traffic.specs.declared.faults.FlowsFault.{FlowsFault}
use Rattle.cqf_traffic.specs.declared.faults.FlowsFault.TheVariants as flows_fault
use Rattle.cqf_traffic.specs.declared.keys.TrafficKey.{TrafficKey}
use Rattle.cqf_traffic.specs.FlowsText.{or_streams, traffic_or}
use Rattle.cqf_traffic.specs.TrafficText.{TrafficText, first_owed, has_traffic, numbers_from, traffic_from}
use Rattle.cqf_network_text.proofs.Ranges.{traffic_in_range}
use Rattle.cqf_network.specs.declared.talkers.Talker.{Talker}
use Rattle.cqf_network.specs.StreamsText.{Along, Between, StreamText, WantedText, branches_if, first_lack, first_lack_of, first_lack_within, has_path, if_listeners}
use Rattle.cqf_network.specs.StreamsText.{listeners_by, listeners_if, listeners_read, octets_by, octets_from, owed_keys, pacing_from, shortest_read, network_streams_of_text}
use Rattle.cqf_network.specs.StreamsText.{path_by, stream_from, streams_from, streams_in, streams_of_array, talker_read}
use Rattle.cqf_network.proofs.StreamParts.{each_stream, has_read, map_None, or_None}
use Rattle.cqf_program_placing.specs.Room.{AreListeners, IsReadStream}
use Rattle.cqf_program_placing.proofs.SettledLemmas.{found_none}

none_is : {A : Type 0} (o : Option A) → is_none o ≡ true → o ≡ None
none_is None e = refl
none_is (Some x) e = absurd cc

-- ---- listeners

-- listeners: at least one, and no two the same
listeners_in : (names to : List (List ℕ)) → if_listeners names ≡ Ok to → (0 < length to) × AllPairs (λ a b. a ≢ b) to
listeners_in names to e = by (nat_le 1 (length names) && nat_le (length names) 64 && is_none (first_taken [] names)) refl e
  where
    by : (b : Bool) → (nat_le 1 (length names) && nat_le (length names) 64 && is_none (first_taken [] names)) ≡ b →
        cond b (Ok names) (Err (toml_fault.BadValue To)) ≡ Ok to → (0 < length to) × AllPairs (λ a b. a ≢ b) to
    by true passes h =
        let same : names ≡ to = cc in
        let parts = and_parts (nat_le 1 (length names) && nat_le (length names) 64) (is_none (first_taken [] names)) passes in
        let some = (and_parts (nat_le 1 (length names)) (nat_le (length names) 64) parts.0).0 in
        subst (λ (xs : List (List ℕ)). (0 < length xs) × AllPairs (λ a b. a ≢ b) xs) same (
          omega (arith, leb-true 1 (length names) some),
          (first_taken-None [] names (none_is (first_taken [] names) parts.1)).1,
        )
    by false passes h = absurd cc

-- the listeners that a value means
those_read : (d : Data) (to : List (List ℕ)) → listeners_by (as_array d) d ≡ Ok to → (0 < length to) × AllPairs (λ a b. a ≢ b) to
those_read d to e = by (as_array d) e
  where
    by : (items : Option Items) → listeners_by items d ≡ Ok to → (0 < length to) × AllPairs (λ a b. a ≢ b) to
    by None h =
        let (name, is, one) = and_then-Ok (ok_or (name_from d) (toml_fault.BadValue To)) _ to h in
        let same : (name ∷ []) ≡ to = cc in
        subst (λ (xs : List (List ℕ)). (0 < length xs) × AllPairs (λ a b. a ≢ b) xs) same (omega arith, pairs_one (λ (a b : List ℕ). a ≢ b) name)
    by (Some items) h = let (names, are, few) = and_then-Ok (names_from To items) if_listeners to h in listeners_in names to few

-- and those of a stream's table, if it has them
abbrev AreApart : Option (List (List ℕ)) → Type 0
AreApart listeners = IfSome listeners (λ to. (0 < length to) × AllPairs (λ a b. a ≢ b) to)

any_read : (found : Option Data) (listeners : Option (List (List ℕ))) → listeners_if found ≡ Ok listeners → AreApart listeners
any_read None listeners e = let none : None ≡ listeners = cc in subst AreApart none tt
any_read (Some d) listeners e =
    let (to, are, some) = and_then-Ok (listeners_by (as_array d) d) (λ names. Ok (Some names)) listeners e in
    let same : Some to ≡ listeners = cc in
    subst AreApart same (those_read d to are)

-- the path of a stream, by its branches and its ends
path_read : (paths : Option (List (List (List ℕ)))) (talker : Option Talker) (listeners : Option (List (List ℕ))) (path : WantedText) → AreApart listeners →
    path_by paths talker listeners ≡ Ok path → AreListeners path
path_read (Some paths) talker listeners path apart e = let is : Along paths ≡ path = cc in subst AreListeners is tt
path_read None None listeners path apart e = absurd cc
path_read None (Some talker) None path apart e = absurd cc
path_read None (Some talker) (Some to) path apart e = let is : Between talker.node to ≡ path = cc in subst AreListeners is apart

module _ (table : Members) where
  -- ---- octets and traffic

  -- if the key of octets isn't lacked, octets are there
  octets_there : (found : Option Data) → is_none found ≡ false → octets_by found table ≡ Ok None → ⊥
  octets_there None there e = absurd cc
  octets_there (Some d) there e = let (octets, are, some) = and_then-Ok (read_at Octets (number_from 0 4294967295) table) _ None e in absurd cc

  -- a key that is owed, as the first or the second
  owed_second : (first second : Key) (keys : List Key) → find (λ key. lacks key table) (first ∷ second ∷ keys) ≡ None → lacks second table ≡ false
  owed_second first second keys none =
      (found_none (λ key. lacks key table) second keys (found_none (λ key. lacks key table) first (second ∷ keys) none).1).0

  -- no other value is in the place of octets
  octets_owed : lacks Octets table ≡ false → is_none (value_at Octets table) ≡ false
  octets_owed e = by (is_none (value_at Octets table)) e
    where
      by : (b : Bool) → (b && true) ≡ false → b ≡ false
      by true h = absurd cc
      by false h = refl

  -- so there are octets if there is no traffic
  some_reserved : (octets : Option ℕ) (traffic : Option TrafficText) → first_lack table ≡ None → octets_from table ≡ Ok octets →
      traffic_from table ≡ Ok traffic → octets ≡ None → traffic ≡ None → ⊥
  some_reserved octets traffic lack at_octets at_traffic no_octets no_traffic = by (has_traffic table) refl at_traffic absent
    where
      ends : List Key
      ends = cond (has_path table) [] (From ∷ To ∷ [])

      absent : find (λ key. lacks key table) (Name ∷ (cond (has_traffic table) [] (Octets ∷ []) ++ ends)) ≡ None
      absent = map_None (λ key. flows_fault.Streams (toml_fault.Missing key)) (first_absent (owed_keys table) table)
          (or_None (option_map (λ key. flows_fault.Streams (toml_fault.Missing key)) (first_absent (owed_keys table) table))
          (option_map flows_fault.Missing (first_owed table)) lack).0

      by : (b : Bool) → has_traffic table ≡ b → cond b (and_then (numbers_from table) (λ t. Ok (Some t))) (Ok None) ≡ Ok traffic →
          find (λ key. lacks key table) (Name ∷ (cond b [] (Octets ∷ []) ++ ends)) ≡ None → ⊥
      by true is read none =
          let (t, numbers, some) = and_then-Ok (numbers_from table) (λ t. Ok (Some t)) traffic read in absurd cc
      by false is read none =
          octets_there (value_at Octets table) (octets_owed (owed_second Name Octets ends none)) (at_octets ∙ ap (λ (o : Option ℕ). Ok o) no_octets)

  -- a stream that is read
  stream_read : (stream : StreamText) → first_lack table ≡ None → stream_from table ≡ Ok stream → IsReadStream stream
  stream_read stream lack e =
      let was = has_read table stream e in
      let apart = any_read (value_at To table) stream.listeners was.listeners in
      record {
        reserves = some_reserved stream.octets stream.traffic lack was.octets was.traffic;
        traffic = traffic_in_range table stream.traffic was.traffic;
        listeners = path_read was.given stream.talker stream.listeners stream.path apart was.path;
      }

-- the streams of a text
pub streams_read : (text : List ℕ) (texts : List StreamText) → network_streams_of_text text ≡ Ok texts → All IsReadStream texts
streams_read text = each_stream IsReadStream (λ table stream lack read. stream_read table stream lack read) text
