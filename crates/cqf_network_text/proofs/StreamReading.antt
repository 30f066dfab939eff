-- Reading a stream's table.
use Rattle.std.proofs.Common.{◌≡◌, ◌==◌, ◌≤◌, ◌∙◌, ℕ, List, [], ◌∷◌, ◌||◌, ◌&&◌, Bool, true, false, cond, Option, Some, None, Ok, IfSome, option_map}
use Rattle.std.proofs.Common.{find, is_none, is_some, map, ok_or, unwrap_or, refl, ap, arith}
use Rattle.std.proofs.lemmas.Bool.{and_parts}
use Rattle.std.proofs.lemmas.Bool.Decides.{nat_tests}
use Rattle.std.specs.Option.{option_and_then, option_or}
use Rattle.std.specs.Result.{result_map_both}
use Rattle.toml.specs.Data.{Members, as_array, as_str, string}
use Rattle.toml.specs.View.{items_of}
use Rattle.cqf_lists.specs.Results.{and_then}
use Rattle.cqf_topology.specs.declared.keys.Key.{Key}
use Rattle.cqf_topology.specs.declared.keys.Key.TheVariants as key
use Rattle.cqf_topology.specs.declared.toml_faults.TomlFault.TheVariants.{BadValue, Missing}
use Rattle.cqf_topology.specs.Fields.{and_first, first_absent, lacks, number_from, number_or, number_or_by, read_at, text_lists_at, text_lists_from}
use Rattle.cqf_topology.specs.Fields.{texts_at, texts_from, value_at}
use Rattle.cqf_topology.specs.PacedText.{PacedText, paced_from}
use Rattle.cqf_topology.specs.PlannedText.{deadline_from, planned_from}
use Rattle.cqf_topology.specs.StreamsText.{branches_by, branches_from, request_from, stream_keys}
use Rattle.cqf_traffic.specs.declared.faults.FlowsFault.TheVariants as flows_fault
use Rattle.cqf_traffic.specs.declared.keys.TrafficKey.{TrafficKey}
use Rattle.cqf_traffic.specs.declared.keys.TrafficKey.TheVariants.{Interval, Frames, Size, Jitter, Offset}
use Rattle.cqf_traffic.specs.Keys.{least_of, most_of, traffic_keys}
use Rattle.cqf_traffic.specs.TrafficText.{TrafficText, first_owed, has_traffic, is_lacked, number_at, number_by, numbers_from}
use Rattle.cqf_traffic.specs.TrafficText.{traffic_from, value_at as traffic_at}
use Rattle.cqf_traffic.specs.FlowsText.{FlowText, first_lack, flow_from, or_streams}
use Rattle.cqf_network_text.specs.DomainMembers.{texts_data}
use Rattle.cqf_network_text.specs.StreamMembers.{branches_data, every_written, is_each_cycle, number_of_traffic, phase_written, stream_members}
use Rattle.cqf_network_text.specs.Plans.{IsExpressible, IsExpressibleNumber, IsExpressibleTraffic, unpaced}
use Rattle.cqf_network_text.proofs.DomainReading.{number_if_reads, number_reads, written_or}
use Rattle.cqf_network_text.proofs.StreamValues.{HasStream, has_stream, number_data, path_data, paths_data}

-- texts, and branches
texts_read : (at : Key) (texts : List (List ℕ)) → texts_from at (items_of (map string texts)) ≡ Ok texts
texts_read at [] = refl
texts_read at (text ∷ texts) = ap (and_first (Ok text)) (texts_read at texts)

branches_read : (at : Key) (paths : List (List (List ℕ))) → text_lists_from at (items_of (map texts_data paths)) ≡ Ok paths
branches_read at [] = refl
branches_read at (path ∷ paths) = (λ i. and_first (texts_read at path i) (branches_read at paths i))

-- a stream that is offered in each cycle has `every` 1 and `phase` 0
each_every : (every phase : ℕ) → is_each_cycle every phase ≡ true → every ≡ 1
each_every every phase is = let parts = and_parts (every == 1) (phase == 0) is in let one : (every == 1) ≡ true = parts.0 in grind (arith, nat_tests)

each_phase : (every phase : ℕ) → is_each_cycle every phase ≡ true → phase ≡ 0
each_phase every phase is = let parts = and_parts (every == 1) (phase == 0) is in let none : (phase == 0) ≡ true = parts.1 in grind (arith, nat_tests)

module _ (table : Members) where
  -- the texts at `path`, and the branches at `paths`
  path_reads : (path : List (List ℕ)) → value_at key.Path table ≡ Some (texts_data path) → texts_at key.Path table ≡ Ok path
  path_reads path at =
      ap (λ o. and_then (ok_or (option_and_then as_array o) (BadValue key.Path)) (texts_from key.Path)) at ∙ texts_read key.Path path

  paths_read : (some : List (List (List ℕ))) → value_at key.Paths table ≡ Some (branches_data some) → text_lists_at key.Paths table ≡ Ok some
  paths_read some at =
      ap (λ o. and_then (ok_or (option_and_then as_array o) (BadValue key.Paths)) (text_lists_from key.Paths)) at ∙ branches_read key.Paths some

  -- so the branches of a stream are read
  pub branches_by_read : (some : List (List (List ℕ))) → value_at key.Path table ≡ path_data some → value_at key.Paths table ≡ paths_data some
      → branches_from table ≡ Ok some
  branches_by_read [] at_path at_paths = (λ i. branches_by (at_path i) (at_paths i) table) ∙ paths_read [] at_paths
  branches_by_read (path ∷ []) at_path at_paths =
      (λ i. branches_by (at_path i) (at_paths i) table) ∙ ap (λ r. and_then r (λ branch. Ok (branch ∷ []))) (path_reads path at_path)
  branches_by_read (path ∷ other ∷ more) at_path at_paths = (λ i. branches_by (at_path i) (at_paths i) table) ∙ paths_read (path ∷ other ∷ more) at_paths

module _ (table : Members) (request : PacedText) (deadline : Option ℕ) (traffic : Option TrafficText)
    (has : HasStream table request deadline traffic) where
  -- its name, reservation and branches
  name_read : read_at key.Name as_str table ≡ Ok request.name
  name_read = ap (λ o. ok_or (option_and_then as_str o) (BadValue key.Name)) has.name_at

  octets_read : request.octets ≤ 4294967295 → read_at key.Octets (number_from 0 4294967295) table ≡ Ok request.octets
  octets_read few =
      ap (λ o. ok_or (option_and_then (number_from 0 4294967295) o) (BadValue key.Octets)) has.octets_at
      ∙ ap (λ o. ok_or o (BadValue key.Octets)) (number_reads 0 4294967295 request.octets (omega arith) few)

  branches_are : branches_from table ≡ Ok request.paths
  branches_are = branches_by_read table request.paths has.path_at has.paths_at

  -- a number that may be absent
  number_or_reads : (at : Key) (default : ℕ) (some : Option ℕ) → value_at at table ≡ option_map number_data some → IfSome some (λ n. n ≤ 4294967295)
      → number_or at default table ≡ Ok (unwrap_or some default)
  number_or_reads at default None is few = ap (λ o. number_or_by o at default table) is
  number_or_reads at default (Some n) is few =
      ap (λ o. number_or_by o at default table) is ∙ ap (λ o. ok_or (option_and_then (number_from 0 4294967295) o) (BadValue at)) is
      ∙ ap (λ o. ok_or o (BadValue at)) (number_reads 0 4294967295 n (omega arith) few)

  -- the cycles in which it is offered
  written_few : (same : Bool) (n : ℕ) → n ≤ 4294967295 → IfSome (cond same None (Some n)) (λ n. n ≤ 4294967295)
  written_few true n few = tt
  written_few false n few = few

  every_read : request.every ≤ 4294967295 → number_or key.Every 1 table ≡ Ok request.every
  every_read few =
      let same : Bool = is_each_cycle request.every request.phase in
      number_or_reads key.Every 1 (every_written request) has.every_at (written_few same request.every few)
      ∙ ap Ok (written_or same request.every 1 (λ is. each_every request.every request.phase is))

  phase_read : request.phase ≤ 4294967295 → number_or key.Phase 0 table ≡ Ok request.phase
  phase_read few =
      let same : Bool = is_each_cycle request.every request.phase in
      number_or_reads key.Phase 0 (phase_written request) has.phase_at (written_few same request.phase few)
      ∙ ap Ok (written_or same request.phase 0 (λ is. each_phase request.every request.phase is))

  -- the request, with its cycles and without
  request_reads : request.octets ≤ 4294967295 → request_from table ≡ Ok (unpaced request)
  request_reads few =
      (λ i. and_then (name_read i) (λ name. and_then (octets_read few i) (λ octets. and_then (branches_are i) (λ paths.
      Ok (record { name = name; octets = octets; paths = paths })))))

  paced_reads : request.octets ≤ 4294967295 → request.every ≤ 4294967295 → request.phase ≤ 4294967295 → paced_from table ≡ Ok request
  paced_reads few_octets few_every few_phase =
      (λ i. and_then (name_read i) (λ name. and_then (octets_read few_octets i) (λ octets. and_then (every_read few_every i) (λ every.
      and_then (phase_read few_phase i) (λ phase. and_then (branches_are i) (λ paths.
      Ok (record { name = name; octets = octets; every = every; phase = phase; paths = paths })))))))

  -- a number of traffic
  number_is_read : (at : TrafficKey) (n : ℕ) → traffic_at at table ≡ Some (number_data n) → IsExpressibleNumber at n → number_at at table ≡ Ok n
  number_is_read at n is good =
      ap (λ o. number_by o at) is ∙ ap (λ o. ok_or o at) (number_reads (least_of at) (most_of at) n good.least good.most)

  -- all of them
  numbers_read : (t : TrafficText) → IsExpressibleTraffic t → ((at : TrafficKey) → traffic_at at table ≡ Some (number_data (number_of_traffic at t)))
      → numbers_from table ≡ Ok t
  numbers_read t good at =
      let interval_is = number_is_read Interval t.interval (at Interval) good.interval in
      let frames_are = number_is_read Frames t.frames (at Frames) good.frames in
      let size_is = number_is_read Size t.size (at Size) good.size in
      let jitter_is = number_is_read Jitter t.jitter (at Jitter) good.jitter in
      let offset_is = number_is_read Offset t.offset (at Offset) good.offset in
      (λ i. and_then (interval_is i) (λ interval. and_then (frames_are i) (λ frames. and_then (size_is i) (λ size. and_then (jitter_is i) (λ jitter.
      and_then (offset_is i) (λ offset. Ok (record { interval = interval; frames = frames; size = size; jitter = jitter; offset = offset })))))))

  -- whether there is traffic
  no_traffic : ((at : TrafficKey) → traffic_at at table ≡ None) → has_traffic table ≡ false
  no_traffic at =
      (λ i. is_some (at Interval i) || (is_some (at Frames i) || (is_some (at Size i) || (is_some (at Jitter i) || (is_some (at Offset i) || false)))))

  some_traffic : (n : ℕ) → traffic_at Interval table ≡ Some (number_data n) → has_traffic table ≡ true
  some_traffic n at =
      (λ i. is_some (at i)
      || (is_some (traffic_at Frames table) || (is_some (traffic_at Size table)
      || (is_some (traffic_at Jitter table) || (is_some (traffic_at Offset table) || false)))))

  -- the traffic
  traffic_by_reads : (some : Option TrafficText) → IfSome some IsExpressibleTraffic
      → ((at : TrafficKey) → traffic_at at table ≡ option_map (λ t. number_data (number_of_traffic at t)) some) → traffic_from table ≡ Ok some
  traffic_by_reads None good at = ap (λ b. cond b (and_then (numbers_from table) (λ t. Ok (Some t))) (Ok None)) (no_traffic at)
  traffic_by_reads (Some t) good at =
      ap (λ b. cond b (and_then (numbers_from table) (λ t. Ok (Some t))) (Ok None)) (some_traffic t.interval (at Interval))
      ∙ ap (λ r. and_then r (λ t. Ok (Some t))) (numbers_read t good at)

  -- no key that each stream needs is missing
  has_branches : (some : List (List (List ℕ))) → (is_none (path_data some) && is_none (paths_data some)) ≡ false
  has_branches [] = refl
  has_branches (path ∷ []) = refl
  has_branches (path ∷ other ∷ more) = refl

  none_absent : first_absent stream_keys table ≡ None
  none_absent =
      let name_there : lacks key.Name table ≡ false = (λ i. is_none (has.name_at i) && true) in
      let octets_there : lacks key.Octets table ≡ false = (λ i. is_none (has.octets_at i) && true) in
      let branches_there : lacks key.Path table ≡ false = (λ i. is_none (has.path_at i) && is_none (has.paths_at i)) ∙ has_branches request.paths in
      (λ i. cond (name_there i) (Some key.Name) (cond (octets_there i) (Some key.Octets) (cond (branches_there i) (Some key.Path) None)))

  -- nor is a key that traffic needs
  none_owed : (some : Option TrafficText) → ((at : TrafficKey) → traffic_at at table ≡ option_map (λ t. number_data (number_of_traffic at t)) some)
      → first_owed table ≡ None
  none_owed None at = ap (λ b. cond b (find (is_lacked table) traffic_keys) None) (no_traffic at)
  none_owed (Some t) at =
      ap (λ b. cond b (find (is_lacked table) traffic_keys) None) (some_traffic t.interval (at Interval))
      ∙ (λ i. cond (is_none (at Interval i)) (Some Interval) (cond (is_none (at Size i)) (Some Size) None))

-- a stream's table has the stream's values
has_values : (flow : FlowText) → HasStream (stream_members flow) flow.0.0 flow.0.1 flow.1
has_values flow = has_stream flow.0.0 flow.0.1 flow.1

-- it is read as the stream's request, with its cycles, with its deadline, and with its traffic
pub request_is_read : (flow : FlowText) → IsExpressible flow → request_from (stream_members flow) ≡ Ok (unpaced flow.0.0)
request_is_read flow good = request_reads (stream_members flow) _ _ _ (has_values flow) good.octets

pub paced_is_read : (flow : FlowText) → IsExpressible flow → paced_from (stream_members flow) ≡ Ok flow.0.0
paced_is_read flow good = paced_reads (stream_members flow) _ _ _ (has_values flow) good.octets good.every good.phase

pub planned_is_read : (flow : FlowText) → IsExpressible flow → planned_from (stream_members flow) ≡ Ok flow.0
planned_is_read flow good =
    let deadline_is : deadline_from (stream_members flow) ≡ Ok flow.0.1 =
    number_if_reads key.Deadline 1 4294967295 (stream_members flow) flow.0.1 (has_values flow).deadline_at good.deadline in
    (λ i. and_then (paced_is_read flow good i) (λ request. and_then (deadline_is i) (λ deadline. Ok (request, deadline))))

pub flow_is_read : (flow : FlowText) → IsExpressible flow → flow_from (stream_members flow) ≡ Ok flow
flow_is_read flow good =
    let traffic_is : traffic_from (stream_members flow) ≡ Ok flow.1 =
    traffic_by_reads (stream_members flow) _ _ _ (has_values flow) flow.1 good.traffic (has_values flow).traffic_is in
    (λ i. and_then (or_streams (planned_is_read flow good i)) (λ planned.
    and_then (result_map_both (λ t. t) flows_fault.BadValue (traffic_is i)) (λ traffic. Ok (planned, traffic))))

-- and no key is missing
pub stream_lacks_no_key : (flow : FlowText) → first_absent stream_keys (stream_members flow) ≡ None
stream_lacks_no_key flow = none_absent (stream_members flow) _ _ _ (has_values flow)

pub stream_lacks_nothing : (flow : FlowText) → first_lack (stream_members flow) ≡ None
stream_lacks_nothing flow =
    let owed_none : first_owed (stream_members flow) ≡ None =
    none_owed (stream_members flow) _ _ _ (has_values flow) flow.1 (has_values flow).traffic_is in
    (λ i. option_or (option_map (λ at. flows_fault.Streams (Missing at)) (stream_lacks_no_key flow i)) (option_map flows_fault.Missing (owed_none i)))
