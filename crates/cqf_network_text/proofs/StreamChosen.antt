-- Reading a stream's table with what was chosen for it.
use Rattle.std.proofs.Common.{◌≡◌, ◌∙◌, ◌≤◌, ◌&&◌, ◌||◌, ◌++◌, ℕ, pos, List, [], ◌∷◌, Bool, true, false, cond, Option, Some, None, Result, Ok, Err, IfSome, IsSome, find, is_none, is_some}
use Rattle.std.proofs.Common.{codes, nat_cmp, is_eq, ok_or, option_map, unwrap_or, refl, ap, subst, arith}
use Rattle.std.proofs.lemmas.Bool.{true≢false, false≢true}
use Rattle.std.specs.Option.{option_and_then, option_map_or, option_or}
use Rattle.std.specs.Result.{result_map_both}
use Rattle.std.specs.Cmp.Lexicographic.{slice_cmp}
use Rattle.toml.specs.Data.{Data, Members, as_array, as_str, get_member, integer}
use Rattle.cqf_lists.specs.Results.{and_then}
use Rattle.cqf_topology.specs.declared.keys.Key.{Key}
use Rattle.cqf_topology.specs.declared.keys.Key.TheVariants as key
use Rattle.cqf_topology.specs.declared.paced.PacedRequest.{PacedRequest}
use Rattle.cqf_topology.specs.declared.toml_faults.TomlFault.TheVariants.{BadValue, Missing}
use Rattle.cqf_topology.specs.Fields.{first_absent, key_text, lacks, number_from, number_or, number_or_by, read_at, text_lists_from, texts_from, value_at}
use Rattle.cqf_topology.specs.PacedText.{PacedText, paced_from, paced_text}
use Rattle.cqf_topology.specs.PlannedText.{PlannedText, deadline_from, planned_from}
use Rattle.cqf_topology.specs.StreamsText.{RequestText, branches_by, branches_from, request_from, stream_keys}
use Rattle.cqf_topology.proofs.Refusals.{and_then-Ok}
use Rattle.cqf_traffic.specs.declared.faults.FlowsFault.{FlowsFault}
use Rattle.cqf_traffic.specs.declared.faults.FlowsFault.TheVariants as flows_fault
use Rattle.cqf_traffic.specs.declared.keys.TrafficKey.{TrafficKey}
use Rattle.cqf_traffic.specs.declared.keys.TrafficKey.TheVariants.{Interval, Frames, Size, Jitter, Offset}
use Rattle.cqf_traffic.specs.Keys.{key_text as traffic_key_text, traffic_keys}
use Rattle.cqf_traffic.specs.FlowsText.{FlowText, first_lack as first_flow_lack, flow_from, or_streams, traffic_or}
use Rattle.cqf_traffic.specs.PacedFlows.{paced_flow_from}
use Rattle.cqf_traffic.specs.TrafficText.{TrafficText, first_owed, has_traffic, is_lacked, number_at, number_by, numbers_from, traffic_from}
use Rattle.cqf_traffic.specs.TrafficText.{value_at as traffic_at}
use Rattle.cqf_network.specs.declared.pacing.Pacing.{Pacing}
use Rattle.cqf_network.specs.declared.pacing.Pacing.TheVariants.{Given, InStep}
use Rattle.cqf_network.specs.declared.talkers.Talker.{Talker}
use Rattle.cqf_network.specs.NetworkFlows.{NetworkFlowText, network_flow_from}
use Rattle.cqf_network.specs.StreamsText.{StreamText, WantedText, Along, Between, branches_if, first_lack, has_path, in_step_at, in_step_by, listeners_if}
use Rattle.cqf_network.specs.StreamsText.{listeners_read, octets_by, octets_from, owed_keys, pacing_from, shortest_by, shortest_read, stream_from}
use Rattle.cqf_network.specs.StreamsText.{path_by, talker_from, talker_if, talker_read}
use Rattle.cqf_network.proofs.StreamParts.{HasRead, has_read, map_None, map_both-Ok, or_None}
use Rattle.cqf_network_text.specs.declared.filling.FilledStream.{FilledStream}
use Rattle.cqf_network_text.specs.DomainMembers.{put, texts_data}
use Rattle.cqf_network_text.specs.StreamMembers.{branches_data, put_branches}
use Rattle.cqf_network_text.specs.Networks.{active_cycles_by, filled_stream, has_branches, put_active_cycles}
use Rattle.cqf_network_text.specs.NetworkLaws.{IsChoice, beginning_at, chosen_flow, chosen_network_flow, chosen_pacing, chosen_path, chosen_stream, chosen_traffic}
use Rattle.cqf_network_text.specs.NetworkLaws.{chosen_paced, chosen_paced_flow, chosen_planned, chosen_request, every_of, paths_of, phase_of}
use Rattle.cqf_network_text.proofs.DomainReading.{number_reads}
use Rattle.cqf_network_text.proofs.Puts.{put_apart, put_here}
use Rattle.cqf_network_text.proofs.StreamReading.{branches_by_read}
use Rattle.cqf_network_text.proofs.StreamValues.{path_data, paths_data}
use Rattle.cqf_network_text.proofs.TablesRead.{number_if_same, number_or_same, read_same}

-- ---- the values at its keys

-- a key is another than those of the cycles in which a stream is offered, and than those of its way
record IsNoActiveCycle (at : List ℕ) : Type 0 where
  every : is_eq (slice_cmp nat_cmp at (key_text key.Every)) ≡ false
  phase : is_eq (slice_cmp nat_cmp at (key_text key.Phase)) ≡ false
  offset : is_eq (slice_cmp nat_cmp at (traffic_key_text Offset)) ≡ false

record IsNoWay (at : List ℕ) : Type 0 where
  path : is_eq (slice_cmp nat_cmp at (key_text key.Path)) ≡ false
  paths : is_eq (slice_cmp nat_cmp at (key_text key.Paths)) ≡ false

-- its value is unchanged
active_cycles_apart : (request : PacedRequest) (offset : Option ℕ) (at : List ℕ) (table : Members) → IsNoActiveCycle at →
    get_member at (active_cycles_by request offset table) ≡ get_member at table
active_cycles_apart request None at table no_active_cycle = refl
active_cycles_apart request (Some offset) at table no_active_cycle =
    let with_every : Members = put (key_text key.Every) (integer (pos request.every)) table in
    let with_phase : Members = put (key_text key.Phase) (integer (pos request.phase)) with_every in
    put_apart at (traffic_key_text Offset) (integer (pos offset)) with_phase no_active_cycle.offset
    ∙ put_apart at (key_text key.Phase) (integer (pos request.phase)) with_every no_active_cycle.phase
    ∙ put_apart at (key_text key.Every) (integer (pos request.every)) table no_active_cycle.every

branches_apart : (paths : List (List (List ℕ))) (at : List ℕ) (table : Members) → IsNoWay at → get_member at (put_branches paths table) ≡ get_member at table
branches_apart [] at table no_way = put_apart at (key_text key.Paths) (branches_data []) table no_way.paths
branches_apart (path ∷ []) at table no_way = put_apart at (key_text key.Path) (texts_data path) table no_way.path
branches_apart (path ∷ other ∷ paths) at table no_way = put_apart at (key_text key.Paths) (branches_data (path ∷ other ∷ paths)) table no_way.paths

path_apart : (b : Bool) (paths : List (List (List ℕ))) (at : List ℕ) (table : Members) → IsNoWay at →
    get_member at (cond b table (put_branches paths table)) ≡ get_member at table
path_apart true paths at table no_way = refl
path_apart false paths at table no_way = branches_apart paths at table no_way

-- branches that are put into a table
put_path_at : (paths : List (List (List ℕ))) (table : Members) → value_at key.Path table ≡ None → value_at key.Path (put_branches paths table) ≡ path_data paths
put_path_at [] table none = put_apart (key_text key.Path) (key_text key.Paths) (branches_data []) table refl ∙ none
put_path_at (path ∷ []) table none = put_here (key_text key.Path) (texts_data path) table
put_path_at (path ∷ other ∷ paths) table none =
    put_apart (key_text key.Path) (key_text key.Paths) (branches_data (path ∷ other ∷ paths)) table refl ∙ none

put_paths_at : (paths : List (List (List ℕ))) (table : Members) → value_at key.Paths table ≡ None →
    value_at key.Paths (put_branches paths table) ≡ paths_data paths
put_paths_at [] table none = put_here (key_text key.Paths) (branches_data []) table
put_paths_at (path ∷ []) table none = put_apart (key_text key.Paths) (key_text key.Path) (texts_data path) table refl ∙ none
put_paths_at (path ∷ other ∷ paths) table none = put_here (key_text key.Paths) (branches_data (path ∷ other ∷ paths)) table

some_branches : (paths : List (List (List ℕ))) → (is_some (path_data paths) || is_some (paths_data paths)) ≡ true
some_branches [] = refl
some_branches (path ∷ []) = refl
some_branches (path ∷ other ∷ paths) = refl

-- without branches, neither key is there
neither : (a b : Option Data) → (is_some a || is_some b) ≡ false → (a ≡ None) × (b ≡ None)
neither None None h = (refl, refl)
neither None (Some d) h = absurd (true≢false h)
neither (Some d) b h = absurd (true≢false h)

-- with branches, `path` isn't lacking
either : (a b : Option Data) → (is_some a || is_some b) ≡ true → (is_none a && is_none b) ≡ false
either None None h = absurd (false≢true h)
either None (Some d) h = refl
either (Some d) b h = refl

-- tables with the same branches are read alike
branches_same : (a b : Members) → value_at key.Path a ≡ value_at key.Path b → value_at key.Paths a ≡ value_at key.Paths b → branches_from a ≡ branches_from b
branches_same a b path paths = (λ i. branches_by (path i) (paths i) a) ∙ by (value_at key.Path b) (value_at key.Paths b)
  where
    by : (o p : Option Data) → branches_by o p a ≡ branches_by o p b
    by None p = ap (λ r. and_then r (text_lists_from key.Paths)) (read_same key.Paths as_array a b paths)
    by (Some d) None = ap (λ r. and_then (and_then r (texts_from key.Path)) (λ found. Ok (found ∷ []))) (read_same key.Path as_array a b path)
    by (Some d) (Some e) = ap (λ r. and_then (and_then r (texts_from key.Path)) (λ found. Err (BadValue key.Paths))) (read_same key.Path as_array a b path)

-- ---- its traffic

-- tables with the same traffic are read alike
module _ (a b : Members) (alike : (at : TrafficKey) → traffic_at at a ≡ traffic_at at b) where
  any_same : has_traffic a ≡ has_traffic b
  any_same =
      (λ i. is_some (alike Interval i) || (is_some (alike Frames i) || (is_some (alike Size i) || (is_some (alike Jitter i) || (is_some (alike Offset i) || false)))))

  number_same : (at : TrafficKey) → number_at at a ≡ number_at at b
  number_same at = ap (λ o. number_by o at) (alike at)

  numbers_same : numbers_from a ≡ numbers_from b
  numbers_same =
      let interval_is = number_same Interval in
      let frames_are = number_same Frames in
      let size_is = number_same Size in
      let jitter_is = number_same Jitter in
      let offset_is = number_same Offset in
      (λ i. and_then (interval_is i) (λ (interval : ℕ). and_then (frames_are i) (λ (frames : ℕ). and_then (size_is i) (λ (size : ℕ). and_then (jitter_is i) (λ (jitter : ℕ).
      and_then (offset_is i) (λ (offset : ℕ).
      let t : TrafficText = record { interval = interval; frames = frames; size = size; jitter = jitter; offset = offset } in Ok t))))))

  traffic_same : traffic_from a ≡ traffic_from b
  traffic_same =
      let any = any_same in
      let numbers = numbers_same in
      (λ i. cond (any i) (and_then (numbers i) (λ (t : TrafficText). Ok (Some t))) (Ok None))

-- the required keys have the same values
owed_same : (a b : Members) → traffic_at Interval a ≡ traffic_at Interval b → traffic_at Size a ≡ traffic_at Size b →
    find (is_lacked a) traffic_keys ≡ find (is_lacked b) traffic_keys
owed_same a b interval size = (λ i. cond (is_none (interval i)) (Some Interval) (cond (is_none (size i)) (Some Size) None))

-- the last one is there
any_last : (a b c d : Bool) → (a || (b || (c || (d || (true || false))))) ≡ true
any_last true b c d = refl
any_last false true c d = refl
any_last false false true d = refl
any_last false false false true = refl
any_last false false false false = refl

-- traffic with another beginning
module _ (a b : Members) (offset : ℕ) (few : offset ≤ 1000000000) (interval : traffic_at Interval a ≡ traffic_at Interval b)
    (frames : traffic_at Frames a ≡ traffic_at Frames b) (size : traffic_at Size a ≡ traffic_at Size b) (jitter : traffic_at Jitter a ≡ traffic_at Jitter b)
    (begins : traffic_at Offset a ≡ Some (integer (pos offset))) where
  begun_any : has_traffic a ≡ true
  begun_any =
      (λ i. is_some (traffic_at Interval a) || (is_some (traffic_at Frames a) || (is_some (traffic_at Size a) || (is_some (traffic_at Jitter a) || (is_some (begins i) || false)))))
      ∙ any_last (is_some (traffic_at Interval a)) (is_some (traffic_at Frames a)) (is_some (traffic_at Size a)) (is_some (traffic_at Jitter a))

  begun_numbers : (t : TrafficText) → numbers_from b ≡ Ok t → numbers_from a ≡ Ok (beginning_at offset t)
  begun_numbers t h =
      let (i1, at_interval, h1) = and_then-Ok (number_at Interval b) _ t h in
      let (f1, at_frames, h2) = and_then-Ok (number_at Frames b) _ t h1 in
      let (s1, at_size, h3) = and_then-Ok (number_at Size b) _ t h2 in
      let (j1, at_jitter, h4) = and_then-Ok (number_at Jitter b) _ t h3 in
      let (o1, at_offset, h5) = and_then-Ok (number_at Offset b) _ t h4 in
      let read : TrafficText = record { interval = i1; frames = f1; size = s1; jitter = j1; offset = o1 } in
      let same : read ≡ t = cc in
      let interval_is : number_at Interval a ≡ Ok i1 = ap (λ o. number_by o Interval) interval ∙ at_interval in
      let frames_are : number_at Frames a ≡ Ok f1 = ap (λ o. number_by o Frames) frames ∙ at_frames in
      let size_is : number_at Size a ≡ Ok s1 = ap (λ o. number_by o Size) size ∙ at_size in
      let jitter_is : number_at Jitter a ≡ Ok j1 = ap (λ o. number_by o Jitter) jitter ∙ at_jitter in
      let offset_is : number_at Offset a ≡ Ok offset =
      ap (λ o. number_by o Offset) begins ∙ ap (λ o. ok_or o Offset) (number_reads 0 1000000000 offset (omega arith) few) in
      (λ i. and_then (interval_is i) (λ (interval : ℕ). and_then (frames_are i) (λ (frames : ℕ). and_then (size_is i) (λ (size : ℕ). and_then (jitter_is i) (λ (jitter : ℕ).
      and_then (offset_is i) (λ (offset : ℕ).
      let t : TrafficText = record { interval = interval; frames = frames; size = size; jitter = jitter; offset = offset } in Ok t))))))
      ∙ ap (λ t. Ok (beginning_at offset t)) same

  begun_traffic : (t : TrafficText) → numbers_from b ≡ Ok t → traffic_from a ≡ Ok (Some (beginning_at offset t))
  begun_traffic t h =
      let any = begun_any in
      let numbers = begun_numbers t h in
      (λ i. cond (any i) (and_then (numbers i) (λ (t : TrafficText). Ok (Some t))) (Ok None))

-- what was read of traffic that there is
pub record HasNumbers (table : Members) (t : TrafficText) : Type 0 where
  pub any : has_traffic table ≡ true
  pub numbers : numbers_from table ≡ Ok t

has_numbers : (table : Members) (t : TrafficText) → traffic_from table ≡ Ok (Some t) → HasNumbers table t
has_numbers table t h = by (has_traffic table) refl h
  where
    by : (b : Bool) → has_traffic table ≡ b → cond b (and_then (numbers_from table) (λ t. Ok (Some t))) (Ok None) ≡ Ok (Some t) → HasNumbers table t
    by true is h =
        let (found, numbers, some) = and_then-Ok (numbers_from table) (λ t. Ok (Some t)) (Some t) h in
        let same : found ≡ t = cc in
        record { any = is; numbers = numbers ∙ ap (λ t. Ok t) same }
    by false is h = absurd cc

-- ---- the cycles in which it is offered

-- what is read of them by number
pacing_numbers : (every_value phase_value : Option Data) (in_step : Bool) (every phase : ℕ) (pacing : Pacing) (table : Members) →
    number_or_by every_value key.Every 1 table ≡ Ok every → number_or_by phase_value key.Phase 0 table ≡ Ok phase →
    cond (in_step && is_none every_value) (cond (is_some phase_value) (Err (flows_fault.Streams (BadValue key.Phase))) (Ok InStep)) (Ok (Given every phase)) ≡ Ok pacing →
    (every ≡ every_of pacing) × (phase ≡ phase_of pacing)
pacing_numbers None None true every phase pacing table every_is phase_is h =
    let is : InStep ≡ pacing = cc in
    let one : every ≡ 1 = cc in
    let none : phase ≡ 0 = cc in
    (one ∙ ap every_of is, none ∙ ap phase_of is)
pacing_numbers None (Some d) true every phase pacing table every_is phase_is h = absurd cc
pacing_numbers None phase_value false every phase pacing table every_is phase_is h =
    let is : Given every phase ≡ pacing = cc in (ap every_of is, ap phase_of is)
pacing_numbers (Some d) phase_value true every phase pacing table every_is phase_is h =
    let is : Given every phase ≡ pacing = cc in (ap every_of is, ap phase_of is)
pacing_numbers (Some d) phase_value false every phase pacing table every_is phase_is h =
    let is : Given every phase ≡ pacing = cc in (ap every_of is, ap phase_of is)

-- a number of 32 bits at a key
number_stands : (at : Key) (default n : ℕ) (table : Members) → value_at at table ≡ Some (integer (pos n)) → n ≤ 4294967295 → number_or at default table ≡ Ok n
number_stands at default n table is few =
    ap (λ o. number_or_by o at default table) is ∙ ap (λ o. ok_or (option_and_then (number_from 0 4294967295) o) (BadValue at)) is
    ∙ ap (λ o. ok_or o (BadValue at)) (number_reads 0 4294967295 n (omega arith) few)

-- with `every`, the pacing isn't open
closed : (in_step : Bool) → (in_step && false) ≡ false
closed true = refl
closed false = refl

-- ---- its way

path_is : (given : Option (List (List (List ℕ)))) (paths : List (List (List ℕ))) (talker : Option Talker) (listeners : Option (List (List ℕ))) (path : WantedText) →
    path_by given talker listeners ≡ Ok path → Along (unwrap_or given paths) ≡ chosen_path paths path
path_is (Some found) paths talker listeners path h = let is : Along found ≡ path = cc in ap (chosen_path paths) is
path_is None paths (Some talker) (Some listeners) path h = let is : Between talker.node listeners ≡ path = cc in ap (chosen_path paths) is
path_is None paths (Some talker) None path h = absurd cc
path_is None paths None listeners path h = absurd cc

-- ---- what is put in of its cycles

-- a table into which no cycles were put yet
record IsBase (before base : Members) : Type 0 where
  every : value_at key.Every base ≡ value_at key.Every before
  phase : value_at key.Phase base ≡ value_at key.Phase before
  in_step : get_member (codes "in-step") base ≡ get_member (codes "in-step") before
  traffic : (at : TrafficKey) → traffic_at at base ≡ traffic_at at before

-- what is read of the cycles, with what was chosen
record HasActiveCycles (request : PacedRequest) (offset : Option ℕ) (before table : Members) : Type 0 where
  pacing : (pacing : Pacing) → pacing_from before ≡ Ok pacing → pacing_from table ≡ Ok (chosen_pacing request offset pacing)
  every : (pacing : Pacing) → pacing_from before ≡ Ok pacing → number_or key.Every 1 table ≡ Ok (every_of (chosen_pacing request offset pacing))
  phase : (pacing : Pacing) → pacing_from before ≡ Ok pacing → number_or key.Phase 0 table ≡ Ok (phase_of (chosen_pacing request offset pacing))
  traffic : (traffic : Option TrafficText) → traffic_from before ≡ Ok traffic → IfSome offset (λ begins. IsSome traffic) →
      traffic_from table ≡ Ok (chosen_traffic offset traffic)
  owed : (traffic : Option TrafficText) → traffic_from before ≡ Ok traffic → IfSome offset (λ begins. IsSome traffic) → first_owed before ≡ None →
      first_owed table ≡ None

-- what was read of them
record HasPacing (before : Members) (pacing : Pacing) : Type 0 where
  every : ℕ
  phase : ℕ
  in_step : Bool
  every_read : number_or key.Every 1 before ≡ Ok every
  phase_read : number_or key.Phase 0 before ≡ Ok phase
  in_step_read : in_step_at before ≡ Ok in_step
  every_is : every ≡ every_of pacing
  phase_is : phase ≡ phase_of pacing

has_pacing : (before : Members) (pacing : Pacing) → pacing_from before ≡ Ok pacing → HasPacing before pacing
has_pacing before pacing h =
    let (every, at_every, h1) = and_then-Ok (or_streams (number_or key.Every 1 before)) _ pacing h in
    let (phase, at_phase, h2) = and_then-Ok (or_streams (number_or key.Phase 0 before)) _ pacing h1 in
    let (in_step, at_step, h3) = and_then-Ok (in_step_at before) _ pacing h2 in
    let every_read = map_both-Ok flows_fault.Streams (number_or key.Every 1 before) every at_every in
    let phase_read = map_both-Ok flows_fault.Streams (number_or key.Phase 0 before) phase at_phase in
    let numbers = pacing_numbers (value_at key.Every before) (value_at key.Phase before) in_step every phase pacing before every_read phase_read h3 in
    record {
      every = every;
      phase = phase;
      in_step = in_step;
      every_read = every_read;
      phase_read = phase_read;
      in_step_read = at_step;
      every_is = numbers.0;
      phase_is = numbers.1;
    }

-- nothing is owed where it wasn't
none_owed : (b : Bool) (o : Option TrafficKey) → o ≡ None → cond b o None ≡ None
none_owed true o none = none
none_owed false o none = refl

-- what is owed where there is traffic
owed_there : (b : Bool) (o : Option TrafficKey) → b ≡ true → cond b o None ≡ None → o ≡ None
owed_there true o is none = none
owed_there false o is none = absurd (false≢true is)

module _ (request : PacedRequest) (few_every : request.every ≤ 4294967295) (few_phase : request.phase ≤ 4294967295) (before base : Members) (kept : IsBase before base) where
  -- none were chosen
  none_chosen : HasActiveCycles request None before base
  none_chosen =
      let every_same = number_or_same key.Every 1 base before kept.every in
      let phase_same = number_or_same key.Phase 0 base before kept.phase in
      let step_same : in_step_at base ≡ in_step_at before = ap in_step_by kept.in_step in
      let every_at = kept.every in
      let phase_at = kept.phase in
      let pacing_same : pacing_from base ≡ pacing_from before =
      (λ i. and_then (or_streams (every_same i)) (λ (every : ℕ). and_then (or_streams (phase_same i)) (λ (phase : ℕ). and_then (step_same i) (λ (in_step : Bool).
      cond (in_step && is_none (every_at i)) (cond (is_some (phase_at i)) (Err (flows_fault.Streams (BadValue key.Phase))) (Ok InStep)) (Ok (Given every phase)))))) in
      let owed = owed_same base before (kept.traffic Interval) (kept.traffic Size) in
      let any = any_same base before kept.traffic in
      record {
        pacing = λ pacing h. pacing_same ∙ h;
        every = λ pacing h. let has = has_pacing before pacing h in every_same ∙ has.every_read ∙ ap (λ n. Ok n) has.every_is;
        phase = λ pacing h. let has = has_pacing before pacing h in phase_same ∙ has.phase_read ∙ ap (λ n. Ok n) has.phase_is;
        traffic = λ traffic h some. traffic_same base before kept.traffic ∙ h;
        owed = λ traffic h some none. (λ i. cond (any i) (owed i) None) ∙ none;
      }

  -- some were chosen
  module _ (offset : ℕ) (few : offset ≤ 1000000000) where
    abbrev turned : Members
    turned = put_active_cycles request offset base

    abbrev with_every : Members
    with_every = put (key_text key.Every) (integer (pos request.every)) base

    abbrev with_phase : Members
    with_phase = put (key_text key.Phase) (integer (pos request.phase)) with_every

    every_there : value_at key.Every turned ≡ Some (integer (pos request.every))
    every_there =
        put_apart (key_text key.Every) (traffic_key_text Offset) (integer (pos offset)) with_phase refl
        ∙ put_apart (key_text key.Every) (key_text key.Phase) (integer (pos request.phase)) with_every refl
        ∙ put_here (key_text key.Every) (integer (pos request.every)) base

    phase_there : value_at key.Phase turned ≡ Some (integer (pos request.phase))
    phase_there =
        put_apart (key_text key.Phase) (traffic_key_text Offset) (integer (pos offset)) with_phase refl
        ∙ put_here (key_text key.Phase) (integer (pos request.phase)) with_every

    offset_there : traffic_at Offset turned ≡ Some (integer (pos offset))
    offset_there = put_here (traffic_key_text Offset) (integer (pos offset)) with_phase

    other_there : (at : List ℕ) → IsNoActiveCycle at → get_member at turned ≡ get_member at base
    other_there at no_active_cycle = active_cycles_apart request (Some offset) at base no_active_cycle

    interval_there : traffic_at Interval turned ≡ traffic_at Interval before
    interval_there = other_there (traffic_key_text Interval) (record { every = refl; phase = refl; offset = refl }) ∙ kept.traffic Interval

    frames_there : traffic_at Frames turned ≡ traffic_at Frames before
    frames_there = other_there (traffic_key_text Frames) (record { every = refl; phase = refl; offset = refl }) ∙ kept.traffic Frames

    size_there : traffic_at Size turned ≡ traffic_at Size before
    size_there = other_there (traffic_key_text Size) (record { every = refl; phase = refl; offset = refl }) ∙ kept.traffic Size

    jitter_there : traffic_at Jitter turned ≡ traffic_at Jitter before
    jitter_there = other_there (traffic_key_text Jitter) (record { every = refl; phase = refl; offset = refl }) ∙ kept.traffic Jitter

    step_there : in_step_at turned ≡ in_step_at before
    step_there = ap in_step_by (other_there (codes "in-step") (record { every = refl; phase = refl; offset = refl }) ∙ kept.in_step)

    every_read : number_or key.Every 1 turned ≡ Ok request.every
    every_read = number_stands key.Every 1 request.every turned every_there few_every

    phase_read : number_or key.Phase 0 turned ≡ Ok request.phase
    phase_read = number_stands key.Phase 0 request.phase turned phase_there few_phase

    pacing_read : (pacing : Pacing) → pacing_from before ≡ Ok pacing → pacing_from turned ≡ Ok (Given request.every request.phase)
    pacing_read pacing h =
        let has = has_pacing before pacing h in
        let in_step = has.in_step in
        let step_is : in_step_at turned ≡ Ok in_step = step_there ∙ has.in_step_read in
        let every_is = every_read in
        let phase_is = phase_read in
        let every_at = every_there in
        let phase_at = phase_there in
        let open_not = closed in_step in
        (λ i. and_then (or_streams (every_is i)) (λ (every : ℕ). and_then (or_streams (phase_is i)) (λ (phase : ℕ). and_then (step_is i) (λ (stepped : Bool).
        cond (stepped && is_none (every_at i)) (cond (is_some (phase_at i)) (Err (flows_fault.Streams (BadValue key.Phase))) (Ok InStep)) (Ok (Given every phase))))))
        ∙ (λ i. cond (open_not i) (Err (flows_fault.Streams (BadValue key.Phase))) (Ok (Given request.every request.phase)))

    traffic_read : (traffic : Option TrafficText) → traffic_from before ≡ Ok traffic → IsSome traffic → traffic_from turned ≡ Ok (option_map (beginning_at offset) traffic)
    traffic_read None h some = absurd (false≢true some)
    traffic_read (Some t) h some =
        begun_traffic turned before offset few interval_there frames_there size_there jitter_there offset_there t (has_numbers before t h).numbers

    owed_read : (traffic : Option TrafficText) → traffic_from before ≡ Ok traffic → IsSome traffic → first_owed before ≡ None → first_owed turned ≡ None
    owed_read None h some none = absurd (false≢true some)
    owed_read (Some t) h some none =
        let any = (has_numbers before t h).any in
        let there : find (is_lacked before) traffic_keys ≡ None = owed_there (has_traffic before) (find (is_lacked before) traffic_keys) any none in
        none_owed (has_traffic turned) (find (is_lacked turned) traffic_keys) (owed_same turned before interval_there size_there ∙ there)

    some_chosen : HasActiveCycles request (Some offset) before turned
    some_chosen = record {
      pacing = pacing_read;
      every = λ pacing h. every_read;
      phase = λ pacing h. phase_read;
      traffic = traffic_read;
      owed = owed_read;
    }

  -- so it is in either case
  has_active_cycles : (offset : Option ℕ) → IfSome offset (λ begins. begins ≤ 1000000000) → HasActiveCycles request offset before (active_cycles_by request offset base)
  has_active_cycles None few = none_chosen
  has_active_cycles (Some offset) few = some_chosen offset few

-- ---- its table

module _ (one : FilledStream) (before : Members) where
  -- with what it reserves, and with its way
  abbrev pub with_reserved : Members
  with_reserved = put (key_text key.Octets) (integer (pos one.request.octets)) before

  abbrev pub with_branches : Members
  with_branches = cond (has_branches with_reserved) with_reserved (put_branches (paced_text one.request).paths with_reserved)

  abbrev pub after : Members
  after = filled_stream one before

  -- a key that nothing was chosen for
  record IsOther (at : List ℕ) : Type 0 where
    active_cycle : IsNoActiveCycle at
    no_way : IsNoWay at
    octets : is_eq (slice_cmp nat_cmp at (key_text key.Octets)) ≡ false

  reserved_apart : (at : List ℕ) → is_eq (slice_cmp nat_cmp at (key_text key.Octets)) ≡ false → get_member at with_reserved ≡ get_member at before
  reserved_apart at apart = put_apart at (key_text key.Octets) (integer (pos one.request.octets)) before apart

  branches_kept : (at : List ℕ) → IsNoWay at → get_member at with_branches ≡ get_member at with_reserved
  branches_kept at no_way = path_apart (has_branches with_reserved) (paced_text one.request).paths at with_reserved no_way

  active_cycles_kept : (at : List ℕ) → IsNoActiveCycle at → get_member at after ≡ get_member at with_branches
  active_cycles_kept at no_active_cycle = active_cycles_apart one.request one.offset at with_branches no_active_cycle

  kept : (at : List ℕ) → IsOther at → get_member at after ≡ get_member at before
  kept at other = active_cycles_kept at other.active_cycle ∙ branches_kept at other.no_way ∙ reserved_apart at other.octets

  apart : (at : List ℕ) → is_eq (slice_cmp nat_cmp at (key_text key.Every)) ≡ false → is_eq (slice_cmp nat_cmp at (key_text key.Phase)) ≡ false →
      is_eq (slice_cmp nat_cmp at (traffic_key_text Offset)) ≡ false → is_eq (slice_cmp nat_cmp at (key_text key.Path)) ≡ false →
      is_eq (slice_cmp nat_cmp at (key_text key.Paths)) ≡ false → is_eq (slice_cmp nat_cmp at (key_text key.Octets)) ≡ false →
      get_member at after ≡ get_member at before
  apart at every phase offset path paths octets = kept at (record {
    active_cycle = record { every = every; phase = phase; offset = offset };
    no_way = record { path = path; paths = paths };
    octets = octets;
  })

  name_at : value_at key.Name after ≡ value_at key.Name before
  name_at = apart (key_text key.Name) refl refl refl refl refl refl

  from_at : value_at key.From after ≡ value_at key.From before
  from_at = apart (key_text key.From) refl refl refl refl refl refl

  to_at : value_at key.To after ≡ value_at key.To before
  to_at = apart (key_text key.To) refl refl refl refl refl refl

  deadline_at : value_at key.Deadline after ≡ value_at key.Deadline before
  deadline_at = apart (key_text key.Deadline) refl refl refl refl refl refl

  in_step_at_is : get_member (codes "in-step") after ≡ get_member (codes "in-step") before
  in_step_at_is = apart (codes "in-step") refl refl refl refl refl refl

  least_at : get_member (codes "least-size") after ≡ get_member (codes "least-size") before
  least_at = apart (codes "least-size") refl refl refl refl refl refl

  interval_at : traffic_at Interval after ≡ traffic_at Interval before
  interval_at = apart (traffic_key_text Interval) refl refl refl refl refl refl

  frames_at : traffic_at Frames after ≡ traffic_at Frames before
  frames_at = apart (traffic_key_text Frames) refl refl refl refl refl refl

  size_at : traffic_at Size after ≡ traffic_at Size before
  size_at = apart (traffic_key_text Size) refl refl refl refl refl refl

  jitter_at : traffic_at Jitter after ≡ traffic_at Jitter before
  jitter_at = apart (traffic_key_text Jitter) refl refl refl refl refl refl

  -- what was chosen
  octets_at : value_at key.Octets after ≡ Some (integer (pos one.request.octets))
  octets_at =
      active_cycles_kept (key_text key.Octets) (record { every = refl; phase = refl; offset = refl })
      ∙ branches_kept (key_text key.Octets) (record { path = refl; paths = refl })
      ∙ put_here (key_text key.Octets) (integer (pos one.request.octets)) before

  -- the branches, as they were, or those that were chosen
  path_kept : value_at key.Path with_reserved ≡ value_at key.Path before
  path_kept = reserved_apart (key_text key.Path) refl

  paths_kept : value_at key.Paths with_reserved ≡ value_at key.Paths before
  paths_kept = reserved_apart (key_text key.Paths) refl

  any_kept : has_branches with_reserved ≡ has_path before
  any_kept = (λ i. is_some (path_kept i) || is_some (paths_kept i))

  path_after : value_at key.Path after ≡ value_at key.Path with_branches
  path_after = active_cycles_kept (key_text key.Path) (record { every = refl; phase = refl; offset = refl })

  paths_after : value_at key.Paths after ≡ value_at key.Paths with_branches
  paths_after = active_cycles_kept (key_text key.Paths) (record { every = refl; phase = refl; offset = refl })

  -- the branches of the table
  record HasRoute (given : Option (List (List (List ℕ)))) : Type 0 where
    some : has_path after ≡ true
    read : branches_from after ≡ Ok (unwrap_or given (paced_text one.request).paths)

  has_route : (given : Option (List (List (List ℕ)))) → branches_if before ≡ Ok given → HasRoute given
  has_route given h = by (has_path before) refl h
    where
      by : (b : Bool) → has_path before ≡ b → cond b (and_then (branches_from before) (λ paths. Ok (Some paths))) (Ok None) ≡ Ok given → HasRoute given
      by true is h =
          let (found, read, same) = and_then-Ok (branches_from before) (λ paths. Ok (Some paths)) given h in
          let stays : with_branches ≡ with_reserved =
          ap (λ b. cond b with_reserved (put_branches (paced_text one.request).paths with_reserved)) (any_kept ∙ is) in
          let path : value_at key.Path after ≡ value_at key.Path before = path_after ∙ ap (value_at key.Path) stays ∙ path_kept in
          let paths : value_at key.Paths after ≡ value_at key.Paths before = paths_after ∙ ap (value_at key.Paths) stays ∙ paths_kept in
          let some : Some found ≡ given = cc in
          record {
            some = (λ i. is_some (path i) || is_some (paths i)) ∙ is;
            read = branches_same after before path paths ∙ read ∙ ap (λ o. Ok (unwrap_or o (paced_text one.request).paths)) some;
          }
      by false is h =
          let (no_path, no_paths) = neither (value_at key.Path before) (value_at key.Paths before) is in
          let new : with_branches ≡ put_branches (paced_text one.request).paths with_reserved =
          ap (λ b. cond b with_reserved (put_branches (paced_text one.request).paths with_reserved)) (any_kept ∙ is) in
          let path : value_at key.Path after ≡ path_data (paced_text one.request).paths =
          path_after ∙ ap (value_at key.Path) new ∙ put_path_at (paced_text one.request).paths with_reserved (path_kept ∙ no_path) in
          let paths : value_at key.Paths after ≡ paths_data (paced_text one.request).paths =
          paths_after ∙ ap (value_at key.Paths) new ∙ put_paths_at (paced_text one.request).paths with_reserved (paths_kept ∙ no_paths) in
          let none : None ≡ given = cc in
          record {
            some = (λ i. is_some (path i) || is_some (paths i)) ∙ some_branches (paced_text one.request).paths;
            read =
                branches_by_read after (paced_text one.request).paths path paths
                ∙ ap (λ o. Ok (unwrap_or o (paced_text one.request).paths)) none;
          }

  -- into the table with its way no cycles were put yet
  base_is : IsBase before with_branches
  base_is = record {
    every = branches_kept (key_text key.Every) (record { path = refl; paths = refl }) ∙ reserved_apart (key_text key.Every) refl;
    phase = branches_kept (key_text key.Phase) (record { path = refl; paths = refl }) ∙ reserved_apart (key_text key.Phase) refl;
    in_step = branches_kept (codes "in-step") (record { path = refl; paths = refl }) ∙ reserved_apart (codes "in-step") refl;
    traffic = traffic_kept;
  }
    where
      traffic_kept : (at : TrafficKey) → traffic_at at with_branches ≡ traffic_at at before
      traffic_kept Interval = branches_kept (traffic_key_text Interval) (record { path = refl; paths = refl }) ∙ reserved_apart (traffic_key_text Interval) refl
      traffic_kept Frames = branches_kept (traffic_key_text Frames) (record { path = refl; paths = refl }) ∙ reserved_apart (traffic_key_text Frames) refl
      traffic_kept Size = branches_kept (traffic_key_text Size) (record { path = refl; paths = refl }) ∙ reserved_apart (traffic_key_text Size) refl
      traffic_kept Jitter = branches_kept (traffic_key_text Jitter) (record { path = refl; paths = refl }) ∙ reserved_apart (traffic_key_text Jitter) refl
      traffic_kept Offset = branches_kept (traffic_key_text Offset) (record { path = refl; paths = refl }) ∙ reserved_apart (traffic_key_text Offset) refl

-- tables with the same talker are read alike
talker_same : (a b : Members) → value_at key.From a ≡ value_at key.From b → talker_read a ≡ talker_read b
talker_same a b same = ap (λ o. talker_if o a) same ∙ by (value_at key.From b)
  where
    by : (o : Option Data) → talker_if o a ≡ talker_if o b
    by None = refl
    by (Some d) = ap (λ r. and_then r (λ talker. Ok (Some talker))) (read_same key.From talker_from a b same)

-- traffic with another beginning has frames as long
longest_same : (offset : Option ℕ) (traffic : Option TrafficText) →
    option_map_or (λ (t : TrafficText). t.size) (chosen_traffic offset traffic) 1522 ≡ option_map_or (λ (t : TrafficText). t.size) traffic 1522
longest_same None traffic = refl
longest_same (Some offset) None = refl
longest_same (Some offset) (Some t) = refl

-- what no table lacks
first_there : (b : Bool) (rest : Option Key) → cond b (Some key.Name) rest ≡ None → b ≡ false
first_there true rest h = absurd cc
first_there false rest h = refl

module _ (one : FilledStream) (before : Members) (s : StreamText) (choice : IsChoice one s) (read : stream_from before ≡ Ok s) (lack : first_lack before ≡ None) where
  abbrev filled : Members
  filled = filled_stream one before

  was : HasRead before s
  was = has_read before s read

  routes : HasRoute one before (has_read before s read).given
  routes = has_route one before (has_read before s read).given (has_read before s read).branches

  active_cycles : HasActiveCycles one.request one.offset before filled
  active_cycles = has_active_cycles one.request choice.every choice.phase before (with_branches one before) (base_is one before) one.offset choice.offset

  -- its parts
  name_is : read_at key.Name as_str filled ≡ Ok s.name
  name_is = read_same key.Name as_str filled before (name_at one before) ∙ was.name

  number_is : read_at key.Octets (number_from 0 4294967295) filled ≡ Ok one.request.octets
  number_is =
      ap (λ o. ok_or (option_and_then (number_from 0 4294967295) o) (BadValue key.Octets)) (octets_at one before)
      ∙ ap (λ o. ok_or o (BadValue key.Octets)) (number_reads 0 4294967295 one.request.octets (omega arith) choice.octets)

  octets_are : octets_from filled ≡ Ok (Some one.request.octets)
  octets_are = ap (λ o. octets_by o filled) (octets_at one before) ∙ ap (λ r. and_then r (λ octets. Ok (Some octets))) number_is

  pacing_is : pacing_from filled ≡ Ok (chosen_pacing one.request one.offset s.pacing)
  pacing_is = active_cycles.pacing s.pacing was.pacing

  branches_are : branches_from filled ≡ Ok (unwrap_or (has_read before s read).given (paced_text one.request).paths)
  branches_are = routes.read

  branches_if_are : branches_if filled ≡ Ok (Some (unwrap_or (has_read before s read).given (paced_text one.request).paths))
  branches_if_are =
      ap (λ b. cond b (and_then (branches_from filled) (λ paths. Ok (Some paths))) (Ok None)) routes.some
      ∙ ap (λ r. and_then r (λ paths. Ok (Some paths))) branches_are

  talker_is : talker_read filled ≡ Ok s.talker
  talker_is = talker_same filled before (from_at one before) ∙ was.talker

  listeners_are : listeners_read filled ≡ Ok s.listeners
  listeners_are = ap listeners_if (to_at one before) ∙ was.listeners

  along_is : Along (unwrap_or (has_read before s read).given (paced_text one.request).paths) ≡ chosen_path (paced_text one.request).paths s.path
  along_is = path_is (has_read before s read).given (paced_text one.request).paths s.talker s.listeners s.path (has_read before s read).path

  deadline_is : deadline_from filled ≡ Ok s.deadline
  deadline_is = number_if_same key.Deadline 1 4294967295 filled before (deadline_at one before) ∙ was.deadline

  traffic_is : traffic_or filled ≡ Ok (chosen_traffic one.offset s.traffic)
  traffic_is = ap (result_map_both (λ t. t) flows_fault.BadValue) (active_cycles.traffic s.traffic was.traffic choice.has_traffic)

  shortest_is : shortest_read (chosen_traffic one.offset s.traffic) filled ≡ Ok s.shortest
  shortest_is =
      let size_is = longest_same one.offset s.traffic in
      let value_is = least_at one before in
      (λ i. shortest_by (value_is i) (size_is i)) ∙ was.shortest

  -- `plan` reads the stream with what was chosen
  pub stream_is_chosen : stream_from filled ≡ Ok (chosen_stream one s)
  stream_is_chosen =
      let names = name_is in
      let octets_read = octets_are in
      let pacing_read = pacing_is in
      let branches_read = branches_if_are in
      let talker_found = talker_is in
      let listeners_found = listeners_are in
      let deadline_read = deadline_is in
      let traffic_found = traffic_is in
      let shortest_found = shortest_is in
      let path_found = along_is in
      (λ i. and_then (or_streams (names i)) (λ (name : List ℕ).
      and_then (or_streams (octets_read i)) (λ (octets : Option ℕ).
      and_then (pacing_read i) (λ (pacing : Pacing).
      and_then (or_streams (branches_read i)) (λ (paths : Option (List (List (List ℕ)))).
      and_then (or_streams (talker_found i)) (λ (talker : Option Talker).
      and_then (or_streams (listeners_found i)) (λ (listeners : Option (List (List ℕ))).
      and_then (or_streams (path_by paths talker listeners)) (λ (path : WantedText).
      and_then (or_streams (deadline_read i)) (λ (deadline : Option ℕ).
      and_then (traffic_found i) (λ (traffic : Option TrafficText).
      and_then (shortest_read traffic filled) (λ (shortest : Option ℕ).
      let found : StreamText = record {
        name = name;
        octets = octets;
        pacing = pacing;
        path = path;
        talker = talker;
        listeners = listeners;
        deadline = deadline;
        traffic = traffic;
        shortest = shortest;
      } in Ok found)))))))))))
      ∙ (λ i. and_then (shortest_found i) (λ (shortest : Option ℕ).
      let found : StreamText = record {
        name = s.name;
        octets = Some one.request.octets;
        pacing = chosen_pacing one.request one.offset s.pacing;
        path = path_found i;
        talker = s.talker;
        listeners = s.listeners;
        deadline = s.deadline;
        traffic = chosen_traffic one.offset s.traffic;
        shortest = shortest;
      } in Ok found))

  -- the other commands do
  pub paced_is_chosen : paced_from filled ≡ Ok (chosen_paced one s)
  paced_is_chosen =
      let names = name_is in
      let octets_read = number_is in
      let every_read = active_cycles.every s.pacing was.pacing in
      let phase_read = active_cycles.phase s.pacing was.pacing in
      let branches_read : branches_from filled ≡ Ok (paths_of (chosen_path (paced_text one.request).paths s.path)) =
      branches_are ∙ ap (λ path. Ok (paths_of path)) along_is in
      (λ i. and_then (names i) (λ (name : List ℕ).
      and_then (octets_read i) (λ (octets : ℕ).
      and_then (every_read i) (λ (every : ℕ).
      and_then (phase_read i) (λ (phase : ℕ).
      and_then (branches_read i) (λ (paths : List (List (List ℕ))).
      let found : PacedText = record { name = name; octets = octets; every = every; phase = phase; paths = paths } in Ok found))))))

  pub request_is_chosen : request_from filled ≡ Ok (chosen_request one s)
  request_is_chosen =
      let names = name_is in
      let octets_read = number_is in
      let branches_read : branches_from filled ≡ Ok (paths_of (chosen_path (paced_text one.request).paths s.path)) =
      branches_are ∙ ap (λ path. Ok (paths_of path)) along_is in
      (λ i. and_then (names i) (λ (name : List ℕ).
      and_then (octets_read i) (λ (octets : ℕ).
      and_then (branches_read i) (λ (paths : List (List (List ℕ))).
      let found : RequestText = record { name = name; octets = octets; paths = paths } in Ok found))))

  pub planned_is_chosen : planned_from filled ≡ Ok (chosen_planned one s)
  planned_is_chosen =
      let paced_read = paced_is_chosen in
      let deadline_read = deadline_is in
      (λ i. and_then (paced_read i) (λ (request : PacedText). and_then (deadline_read i) (λ (deadline : Option ℕ). Ok (request, deadline))))

  pub flow_is_chosen : flow_from filled ≡ Ok (chosen_flow one s)
  flow_is_chosen =
      let planned_read = planned_is_chosen in
      let traffic_found = traffic_is in
      (λ i. and_then (or_streams (planned_read i)) (λ (planned : PlannedText). and_then (traffic_found i) (λ (traffic : Option TrafficText). Ok (planned, traffic))))

  pub paced_flow_is_chosen : paced_flow_from filled ≡ Ok (chosen_paced_flow one s)
  paced_flow_is_chosen =
      let paced_read = paced_is_chosen in
      let traffic_found = traffic_is in
      (λ i. and_then (or_streams (paced_read i)) (λ (request : PacedText). and_then (traffic_found i) (λ (traffic : Option TrafficText). Ok (request, traffic))))

  pub network_flow_is_chosen : network_flow_from filled ≡ Ok (chosen_network_flow one s)
  network_flow_is_chosen =
      let flow_read = flow_is_chosen in
      let talker_found = talker_is in
      let listeners_found = listeners_are in
      let shortest_found = shortest_is in
      (λ i. and_then (flow_read i) (λ (flow : FlowText).
      and_then (or_streams (talker_found i)) (λ (talker : Option Talker).
      and_then (or_streams (listeners_found i)) (λ (listeners : Option (List (List ℕ))).
      and_then (shortest_read flow.1 filled) (λ (shortest : Option ℕ).
      let found : NetworkFlowText = record { flow = flow; talker = talker; listeners = listeners; shortest = shortest } in Ok found)))))
      ∙ (λ i. and_then (shortest_found i) (λ (shortest : Option ℕ).
      let found : NetworkFlowText = record { flow = chosen_flow one s; talker = s.talker; listeners = s.listeners; shortest = shortest } in Ok found))

  -- and nothing is missing for either
  lacked : (first_absent (owed_keys before) before ≡ None) × (first_owed before ≡ None)
  lacked =
      let (keys, owed) = or_None (option_map (λ at. flows_fault.Streams (Missing at)) (first_absent (owed_keys before) before))
      (option_map flows_fault.Missing (first_owed before)) lack in (
        map_None (λ at. flows_fault.Streams (Missing at)) (first_absent (owed_keys before) before) keys,
        map_None flows_fault.Missing (first_owed before) owed,
      )

  name_there : lacks key.Name filled ≡ false
  name_there =
      ap (λ o. is_none o && true) (name_at one before)
      ∙ first_there (lacks key.Name before)
      (first_absent ((cond (has_traffic before) [] (key.Octets ∷ [])) ++ (cond (has_path before) [] (key.From ∷ key.To ∷ []))) before) lacked.0

  octets_there : lacks key.Octets filled ≡ false
  octets_there = ap (λ o. is_none o && true) (octets_at one before)

  path_there : lacks key.Path filled ≡ false
  path_there = either (value_at key.Path filled) (value_at key.Paths filled) routes.some

  owed_none : first_owed filled ≡ None
  owed_none = active_cycles.owed s.traffic was.traffic choice.has_traffic lacked.1

  pub stream_lacks_none : first_lack filled ≡ None
  stream_lacks_none =
      let some = routes.some in
      let named = name_there in
      let sized = octets_there in
      let owed = owed_none in
      let none : first_absent (owed_keys filled) filled ≡ None =
      ap (λ b. first_absent (key.Name ∷ ((cond (has_traffic filled) [] (key.Octets ∷ [])) ++ (cond b [] (key.From ∷ key.To ∷ [])))) filled) some
      ∙ by (has_traffic filled) in
      (λ i. option_or (option_map (λ at. flows_fault.Streams (Missing at)) (none i)) (option_map flows_fault.Missing (owed i)))
    where
      by : (b : Bool) → first_absent (key.Name ∷ ((cond b [] (key.Octets ∷ [])) ++ [])) filled ≡ None
      by true = let named = name_there in (λ i. cond (named i) (Some key.Name) None)
      by false = let named = name_there in let sized = octets_there in (λ i. cond (named i) (Some key.Name) (cond (sized i) (Some key.Octets) None))

  pub keys_lack_none : first_absent stream_keys filled ≡ None
  keys_lack_none =
      let named = name_there in
      let sized = octets_there in
      let placed = path_there in
      (λ i. cond (named i) (Some key.Name) (cond (sized i) (Some key.Octets) (cond (placed i) (Some key.Path) None)))

  pub flow_lacks_none : first_flow_lack filled ≡ None
  flow_lacks_none =
      let keys = keys_lack_none in
      let owed = owed_none in
      (λ i. option_or (option_map (λ at. flows_fault.Streams (Missing at)) (keys i)) (option_map flows_fault.Missing (owed i)))
