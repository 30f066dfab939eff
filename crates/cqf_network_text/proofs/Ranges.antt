-- The numbers of a stream that is read from a table fit in a text.
use Rattle.std.proofs.Common.{◌≡◌, ◌≤◌, ℕ, Bool, true, false, cond, Option, Some, None, Result, Ok, Err, IfSome, List, [], All, ok_or, subst, ap, arith}
use Rattle.toml.specs.Data.{Data, Items, Members, as_array, as_str, as_table, member, no_members}
use Rattle.cqf_lists.specs.Results.{and_then}
use Rattle.cqf_topology.specs.declared.keys.Key.{Key}
use Rattle.cqf_topology.specs.declared.keys.Key.TheVariants as key
use Rattle.cqf_topology.specs.declared.toml_faults.TomlFault.TheVariants.{BadValue}
use Rattle.cqf_topology.specs.Fields.{are_tables, key_text, number_from, number_or, number_or_by, read_at, value_at}
use Rattle.cqf_topology.specs.Fields.{whole_document}
use Rattle.cqf_topology.specs.PacedText.{PacedText, paced_from}
use Rattle.cqf_topology.specs.PlannedText.{deadline_from, planned_from}
use Rattle.cqf_topology.specs.StreamsText.{branches_from, streams_keys}
use Rattle.cqf_topology.proofs.Refusals.{and_then-Ok, each_from-All, number-range, number_if-range, ok_or-Ok, refuse-Ok}
use Rattle.cqf_traffic.specs.declared.faults.FlowsFault.{FlowsFault}
use Rattle.cqf_traffic.specs.declared.faults.FlowsFault.TheVariants as flows_fault
use Rattle.cqf_traffic.specs.declared.keys.TrafficKey.{TrafficKey}
use Rattle.cqf_traffic.specs.declared.keys.TrafficKey.TheVariants.{Interval, Frames, Size, Jitter, Offset}
use Rattle.cqf_traffic.specs.FlowsText.{FlowText, first_lack_of, flow_from, flows_from, flows_in, flows_of_array, or_streams, traffic_or}
use Rattle.cqf_traffic.specs.Keys.{default_of, least_of, most_of}
use Rattle.cqf_traffic.specs.TrafficText.{IsInRange, IsTrafficText, TrafficText, has_traffic, number_at, number_by, numbers_from, traffic_from}
use Rattle.cqf_traffic.specs.TrafficText.{value_at as traffic_at}
use Rattle.cqf_network.proofs.StreamParts.{map_both-Ok}
use Rattle.cqf_network_text.specs.Plans.{IsExpressible, IsExpressibleNumber, IsExpressibleTraffic, ReadStreamsAreExpressible}

-- a number that is read is in its range
number_in_range : (least most : ℕ) (d : Data) (n : ℕ) → number_from least most d ≡ Some n → (least ≤ n) × (n ≤ most)
number_in_range least most d n h =
    number-range key.Octets least most (member (key_text key.Octets) d no_members) n (ap (λ o. ok_or o (BadValue key.Octets)) h)

-- and so is the default of an absent number
default_in_range : (at : TrafficKey) (n : ℕ) → default_of at ≡ Some n → IsExpressibleNumber at n
default_in_range Interval n h = absurd (cc)
default_in_range Frames n h = let e : 1 ≡ n = cc in subst (IsExpressibleNumber Frames) e (record { least = omega arith; most = omega arith })
default_in_range Size n h = absurd (cc)
default_in_range Jitter n h = let e : 0 ≡ n = cc in subst (IsExpressibleNumber Jitter) e (record { least = omega arith; most = omega arith })
default_in_range Offset n h = let e : 0 ≡ n = cc in subst (IsExpressibleNumber Offset) e (record { least = omega arith; most = omega arith })

-- a number that can be written is represented
represented : (at : TrafficKey) (n : ℕ) → IsExpressibleNumber at n → IsInRange at n
represented Interval n reported = record { least = reported.least; most = reported.most }
represented Frames n reported = record { least = reported.least; most = reported.most }
represented Size n reported = record { least = reported.least; most = reported.most }
represented Jitter n reported = record { least = reported.least; most = omega (arith, reported.most) }
represented Offset n reported = record { least = reported.least; most = omega (arith, reported.most) }

-- a request's numbers are at most 2^32 - 1
record HasFew (request : PacedText) : Type 0 where
  octets : request.octets ≤ 4294967295
  every : request.every ≤ 4294967295
  phase : request.phase ≤ 4294967295

module _ (table : Members) where
  -- each number of traffic
  number_in : (at : TrafficKey) (n : ℕ) → number_at at table ≡ Ok n → IsExpressibleNumber at n
  number_in at n h = by (traffic_at at table) h
    where
      -- whether or not the key is there
      by : (o : Option Data) → number_by o at ≡ Ok n → IsExpressibleNumber at n
      by None h = default_in_range at n (ok_or-Ok (default_of at) at n h)
      by (Some d) h =
          let range = number_in_range (least_of at) (most_of at) d n (ok_or-Ok (number_from (least_of at) (most_of at) d) at n h) in
          record { least = range.0; most = range.1 }

  numbers_in : (t : TrafficText) → numbers_from table ≡ Ok t → IsExpressibleTraffic t
  numbers_in t h =
      let (interval, at_interval, h1) = and_then-Ok (number_at Interval table) _ t h in
      let (frames, at_frames, h2) = and_then-Ok (number_at Frames table) _ t h1 in
      let (size, at_size, h3) = and_then-Ok (number_at Size table) _ t h2 in
      let (jitter, at_jitter, h4) = and_then-Ok (number_at Jitter table) _ t h3 in
      let (offset, at_offset, h5) = and_then-Ok (number_at Offset table) _ t h4 in
      let read : TrafficText = record { interval = interval; frames = frames; size = size; jitter = jitter; offset = offset } in
      let same : read ≡ t = cc in
      let good : IsExpressibleTraffic read = record {
        interval = number_in Interval interval at_interval;
        frames = number_in Frames frames at_frames;
        size = number_in Size size at_size;
        jitter = number_in Jitter jitter at_jitter;
        offset = number_in Offset offset at_offset;
      } in
      subst IsExpressibleTraffic same good

  -- traffic that is read can be written
  traffic_is_expressible : (traffic : Option TrafficText) → traffic_from table ≡ Ok traffic → IfSome traffic IsExpressibleTraffic
  traffic_is_expressible traffic h = by (has_traffic table) h
    where
      -- whether or not there is traffic
      by : (b : Bool) → cond b (and_then (numbers_from table) (λ t. Ok (Some t))) (Ok None) ≡ Ok traffic → IfSome traffic IsExpressibleTraffic
      by true h =
          let (t, read, some) = and_then-Ok (numbers_from table) (λ t. Ok (Some t)) traffic h in
          let same : Some t ≡ traffic = cc in
          subst (λ (o : Option TrafficText). IfSome o IsExpressibleTraffic) same (numbers_in t read)
      by false h = let same : None ≡ traffic = cc in subst (λ (o : Option TrafficText). IfSome o IsExpressibleTraffic) same tt

  -- so it is represented
  pub traffic_in_range : (traffic : Option TrafficText) → traffic_from table ≡ Ok traffic → IfSome traffic IsTrafficText
  traffic_in_range None h = tt
  traffic_in_range (Some t) h =
      let reported : IsExpressibleTraffic t = traffic_is_expressible (Some t) h in
      let good : IsTrafficText t = record {
        interval = represented Interval t.interval reported.interval;
        frames = represented Frames t.frames reported.frames;
        size = represented Size t.size reported.size;
        jitter = represented Jitter t.jitter reported.jitter;
        offset = represented Offset t.offset reported.offset;
      } in
      good

  -- so is a deadline
  pub deadline_in_range : (deadline : Option ℕ) → deadline_from table ≡ Ok deadline → IfSome deadline (λ n. (1 ≤ n) × (n ≤ 4294967295))
  deadline_in_range deadline h = number_if-range key.Deadline 1 4294967295 table deadline h

  -- and a number that may be absent
  number_or_in_range : (at : Key) (default n : ℕ) → default ≤ 4294967295 → number_or at default table ≡ Ok n → n ≤ 4294967295
  number_or_in_range at default n few h = by (value_at at table) h
    where
      -- whether or not the key is there
      by : (o : Option Data) → number_or_by o at default table ≡ Ok n → n ≤ 4294967295
      by None h = let same : default ≡ n = cc in subst (λ m. m ≤ 4294967295) same few
      by (Some d) h = (number-range at 0 4294967295 table n h).1

  -- a request that is read has numbers of at most 32 bits
  request_in_range : (request : PacedText) → paced_from table ≡ Ok request → HasFew request
  request_in_range request h =
      let (name, at_name, h1) = and_then-Ok (read_at key.Name as_str table) _ request h in
      let (octets, at_octets, h2) = and_then-Ok (read_at key.Octets (number_from 0 4294967295) table) _ request h1 in
      let (every, at_every, h3) = and_then-Ok (number_or key.Every 1 table) _ request h2 in
      let (phase, at_phase, h4) = and_then-Ok (number_or key.Phase 0 table) _ request h3 in
      let (paths, at_paths, h5) = and_then-Ok (branches_from table) _ request h4 in
      let read : PacedText = record { name = name; octets = octets; every = every; phase = phase; paths = paths } in
      let same : read ≡ request = cc in
      let good : HasFew read = record {
        octets = (number-range key.Octets 0 4294967295 table octets at_octets).1;
        every = number_or_in_range key.Every 1 every (omega arith) at_every;
        phase = number_or_in_range key.Phase 0 phase (omega arith) at_phase;
      } in
      subst HasFew same good

  -- the numbers of a stream that is read fit in a text
  pub flow_is_expressible : (flow : FlowText) → flow_from table ≡ Ok flow → IsExpressible flow
  flow_is_expressible flow h =
      let (planned, at_planned, h1) = and_then-Ok (or_streams (planned_from table)) _ flow h in
      let (traffic, at_traffic, h2) = and_then-Ok (traffic_or table) _ flow h1 in
      let (request, at_request, h3) = and_then-Ok (paced_from table) _ planned (map_both-Ok flows_fault.Streams (planned_from table) planned at_planned) in
      let (deadline, at_deadline, h4) = and_then-Ok (deadline_from table) _ planned h3 in
      let read : FlowText = ((request, deadline), traffic) in
      let same : read ≡ flow = cc in
      let few : HasFew request = request_in_range request at_request in
      let good : IsExpressible read = record {
        octets = few.octets;
        every = few.every;
        phase = few.phase;
        deadline = deadline_in_range deadline at_deadline;
        traffic = traffic_is_expressible traffic (map_both-Ok flows_fault.BadValue (traffic_from table) traffic at_traffic);
      } in
      subst IsExpressible same good

-- the numbers of the streams of an array that is read fit in a text
array_is_expressible : (items : Items) (flows : List FlowText) → flows_of_array items ≡ Ok flows → All IsExpressible flows
array_is_expressible items flows h = by (are_tables items) h
  where
    -- the fault if an element isn't a table
    fault : FlowsFault
    fault = flows_fault.Streams (BadValue key.Streams)

    -- a reader of values
    reader : Data → Result FlowText FlowsFault
    reader = λ (d : Data). and_then (ok_or (as_table d) fault) flow_from

    -- a value that is read is a table that is read
    good : (d : Data) (flow : FlowText) → reader d ≡ Ok flow → IsExpressible flow
    good d flow is = let (table, at, read) = and_then-Ok (ok_or (as_table d) fault) flow_from flow is in flow_is_expressible table flow read

    -- the elements are tables
    by : (b : Bool) → cond b (flows_from items) (Err fault) ≡ Ok flows → All IsExpressible flows
    by true read = each_from-All IsExpressible reader good items flows read
    by false read = absurd (cc)

-- and so for the streams of a text
pub read_is_expressible : ReadStreamsAreExpressible
read_is_expressible text flows h =
    let (table, whole, read) = and_then-Ok (or_streams (whole_document streams_keys key.Streams [] text)) _ flows h in
    let (lack, all) = refuse-Ok (first_lack_of table) (λ fault. fault) (flows_in table) flows read in
    let (items, at, each) = and_then-Ok (or_streams (read_at key.Streams as_array table)) flows_of_array flows all in
    array_is_expressible items flows each
