-- A stream of a plan that is read arrives at its edge bridge as it was placed.
use Rattle.std.proofs.Common.{◌≡◌, ◌∙◌, ◌+◌, ◌-◌, ◌*◌, ◌%◌, ◌<◌, ◌≤◌, ℕ, Bool, true, false, List, [], Option, Some, None, IfSome, IsSome, Result, Ok, Err, ap, arith, length, refl, subst, sym}
use Rattle.std.proofs.Math.Nat.{mul-le-mul}
use Rattle.std.specs.Prelude.{if◌then◌else◌, nat_lt, option_and_then, option_map, unwrap_or}
use Rattle.std.specs.Option.{option_map_or}
use Rattle.std.specs.Result.{result_map_both}
use Rattle.std.proofs.lemmas.Bool.{ltb-true}
use Rattle.std.proofs.lemmas.Option.{same_Some}
use Rattle.cqf_lists.specs.Results.{and_then}
use Rattle.cqf_units.specs.Name.{is_name}
use Rattle.cqf_model.specs.Limits.{most_every, most_reserved}
use Rattle.cqf_laws_timing.specs.Traffic.{needed}
use Rattle.cqf_topology.specs.DomainText.{IsDomain, index_of}
use Rattle.cqf_topology.specs.PacedText.{PacedText, paced_text}
use Rattle.cqf_traffic.specs.FlowsText.{FlowText}
use Rattle.cqf_traffic.specs.TrafficText.{TrafficText, promise_of}
use Rattle.cqf_network.specs.declared.domain.TalkerLink.{TalkerLink}
use Rattle.cqf_network.specs.declared.pacing.Pacing.{Pacing}
use Rattle.cqf_network.specs.declared.pacing.Pacing.TheVariants.{Given, InStep}
use Rattle.cqf_network.specs.declared.talkers.Talker.{Talker}
use Rattle.cqf_network.specs.NetworkFlows.{NetworkFlowText}
use Rattle.cqf_network.specs.NetworkDomain.{HasTalkerLinks, NetworkDomain, domain_at}
use Rattle.cqf_network.specs.StreamsText.{Along, Between, StreamText, WantedText}
use Rattle.cqf_edge.specs.declared.edge.AccessTimes.{AccessTimes}
use Rattle.cqf_edge.specs.declared.edge.Passage.{Passage}
use Rattle.cqf_edge.specs.declared.entrances.Entrance.{Entrance}
use Rattle.cqf_edge.specs.declared.entrances.Entrance.TheVariants.{AtBridge, ByAccess}
use Rattle.cqf_edge.specs.declared.faults.EdgeFault.{EdgeFault}
use Rattle.cqf_edge.specs.declared.faults.EdgeFault.TheVariants as fault
use Rattle.cqf_edge.specs.declared.uses.AccessBound.{AccessBound}
use Rattle.cqf_edge.specs.declared.uses.Handed.{Handed}
use Rattle.cqf_edge.specs.Edge.{closer_word, grid_word, left_by, steps_on, times_by, times_on, word_from, word_on}
use Rattle.cqf_edge.specs.EdgeFlows.{flow_at_edge, handed_by, handed_of, handed_with, passage_of}
use Rattle.cqf_edge.specs.EdgeStreams.{deadline_at_edge, entrance_by, entrance_of_stream, entrance_with, handed_at, path_at_edge, reported_now, stream_at_edge, traffic_at_edge, word_at}
use Rattle.cqf_edge.specs.Entrances.{IsEntrance, agrees_with, at_node, by_station, by_that_to, entrance_of, listeners_agree}
use Rattle.cqf_edge.specs.Uses.{handed_over}
use Rattle.cqf_network_text.specs.NetworkLaws.{IsChoice, chosen_flow, chosen_network_flow, chosen_pacing, chosen_path, chosen_stream, chosen_traffic, every_of, paths_of, phase_of}
use Rattle.cqf_network_text.specs.NetworkLaws.{with_cycle}
use Rattle.cqf_program_placing.specs.declared.faults.PlanFault.TheVariants as plan_fault
use Rattle.cqf_program_placing.specs.Placing.{active_cycles_on, is_chosen_on, reserved_by}
use Rattle.cqf_program_placing.specs.Settled.{open_domain, longest_of, settled_path, taken_on, talker_of_stream}
use Rattle.cqf_program_placing.specs.Settled.{deadline_after as settled_deadline}
use Rattle.cqf_program_placing.specs.ActiveCycles.{MayBeFirst, active_cycles_by, every_in, is_in_step}
use Rattle.cqf_program_placing.proofs.IndexLemmas.{reserved_few, reserved_there}
use Rattle.cqf_program_placing.proofs.Stepping.{first_is_early}
use Rattle.cqf_program_planning.specs.PlanOutput.{offset_before, taken_by}
use Rattle.cqf_program_planning.specs.ReadPlans.{ComesAsPlaced, ComesIn}
use Rattle.cqf_program_planning.proofs.EndsRead.{EndsOf}
use Rattle.cqf_program_planning.proofs.Entered.{entered_by, entrance_inside, enters, no_link, paths_agree, paths_after, paths_read}
use Rattle.cqf_program_planning.proofs.Erased.{erased}
use Rattle.cqf_program_planning.proofs.Ones.{IsOne, One}
use Rattle.cqf_program_planning.proofs.WithOffset.{Found, erased_with_offset, found_at, handed_with_offset, made, passage_found, passage_with, with_offset, round_kept, times_with_offset}
use Rattle.cqf_program_planning.proofs.Rounds.{comes_round, within_round}

-- ---- the network with the chosen cycle time

module _ (network : NetworkDomain) (cycle_time : ℕ) where
  that_same : (station : ℕ) (o : Option ℕ) → by_that_to (with_cycle cycle_time network) station o ≡ by_that_to network station o
  that_same station None = refl
  that_same station (Some b) = refl

  station_same : (station : ℕ) (o : Option (List ℕ)) → by_station (with_cycle cycle_time network) station o ≡ by_station network station o
  station_same station None = refl
  station_same station (Some bridge) = that_same station (index_of bridge network.bridges)

  node_same : (b s : Option ℕ) (o : Option (List ℕ)) → at_node (with_cycle cycle_time network) b s o ≡ at_node network b s o
  node_same (Some b) s o = refl
  node_same None (Some s) o = station_same s o
  node_same None None o = refl

  pub entrance_same : (talker : Talker) → entrance_of (with_cycle cycle_time network) talker ≡ entrance_of network talker
  entrance_same talker = node_same (index_of talker.node network.bridges) (index_of talker.node network.stations) talker.bridge

  pub agrees_same : (paths : List (List (List ℕ))) (e : Entrance) → agrees_with (with_cycle cycle_time network) paths e ≡ agrees_with network paths e
  agrees_same paths (AtBridge b) = refl
  agrees_same paths (ByAccess index) = refl

-- ---- streams from their edge bridges on

module _ (network : NetworkDomain) where
  after_name : (e : Option Entrance) (p : Option Passage) (s : StreamText) → (stream_at_edge network e p s).name ≡ s.name
  after_name None p s = refl
  after_name (Some e) p s = refl

  after_octets : (e : Option Entrance) (p : Option Passage) (s : StreamText) → (stream_at_edge network e p s).octets ≡ s.octets
  after_octets None p s = refl
  after_octets (Some e) p s = refl

  after_pacing : (e : Option Entrance) (p : Option Passage) (s : StreamText) → (stream_at_edge network e p s).pacing ≡ s.pacing
  after_pacing None p s = refl
  after_pacing (Some e) p s = refl

pub after_request : (p : Option Passage) (flow : FlowText) → (flow_at_edge p flow).0.0 ≡ flow.0.0
after_request None flow = refl
after_request (Some p) flow = refl

-- one that promises nothing promises nothing there
silent : (pacing : Pacing) (h : Handed) (q : Found) → h.traffic ≡ None → traffic_at_edge (passage_with q h) pacing None ≡ None
silent pacing h None none = refl
silent (Given every phase) h (Some both) none = ap (option_map (λ (t : TrafficText). word_from (made both.0 h both.1) t (closer_word (made both.0 h both.1) t).jitter)) none
silent InStep h (Some both) none = ap (option_map (λ (t : TrafficText). word_from (made both.0 h both.1) t (grid_word (made both.0 h both.1) t).jitter)) none

-- ---- traffic that comes in a round

plain_back : (traffic : Option TrafficText) (u : TrafficText) (at cycle_time every : ℕ) → traffic ≡ Some u → 0 < every * cycle_time →
    ComesIn (every * cycle_time) (Some (record u { offset = at })) (chosen_traffic (Some (offset_before at 0 cycle_time every)) traffic)
plain_back traffic u at cycle_time every is some =
    let zero : offset_before at 0 cycle_time every + 0 ≡ offset_before at 0 cycle_time every = omega arith in
    subst (λ (o : Option TrafficText). ComesIn (every * cycle_time) (Some (record u { offset = at })) (chosen_traffic (Some (offset_before at 0 cycle_time every)) o))
    (sym is) (record {
      interval = refl;
      frames = refl;
      size = refl;
      jitter = omega arith;
      offset = ap (λ n. n % (every * cycle_time)) (sym zero) ∙ comes_round at 0 (every * cycle_time) some;
    })

link_back : (l : TalkerLink) (b : AccessBound) (h : Handed) (u : TrafficText) (at cycle_time every : ℕ) → steps_on (made l h b) ≡ Some u → 0 < every * cycle_time →
    ComesIn (every * cycle_time) (Some (record u { offset = at }))
    (word_on (made l (with_offset h (Some (offset_before at (taken_by (times_by (made l h b))) cycle_time every))) b))
link_back l b h u at cycle_time every is some = by h.traffic is
  where
    x : Option TrafficText → ℕ
    x o = offset_before at (taken_by (option_map (times_on (made l h b)) o)) cycle_time every

    by : (o : Option TrafficText) → option_map (λ (t : TrafficText). word_from (made l h b) t (grid_word (made l h b) t).jitter) o ≡ Some u →
        ComesIn (every * cycle_time) (Some (record u { offset = at }))
        (option_map (λ (t : TrafficText). word_from (made l (with_offset h (Some (x o))) b) t (closer_word (made l (with_offset h (Some (x o))) b) t).jitter)
        (chosen_traffic (Some (x o)) o))
    by None h = absurd cc
    by (Some t) found =
        let same : word_from (made l h b) t (grid_word (made l h b) t).jitter ≡ u = same_Some _ u found in
        subst (λ (v : TrafficText). ComesIn (every * cycle_time) (Some (record v { offset = at }))
        (option_map (λ (v : TrafficText). word_from (made l (with_offset h (Some (x (Some t)))) b) v (closer_word (made l (with_offset h (Some (x (Some t)))) b) v).jitter)
        (chosen_traffic (Some (x (Some t))) (Some t))))
        same (round_kept l b h at cycle_time every t some)

-- ---- one stream

module _ (network : NetworkDomain) (talkers : HasTalkerLinks network) (cycle_time : ℕ) (good : IsDomain (domain_at network cycle_time)) (bounds : List AccessBound)
    (o : One) (is : IsOne network bounds (open_domain network) (domain_at network cycle_time) o) where
  abbrev pub s : StreamText
  s = o.stream

  abbrev pub found : NetworkFlowText
  found = chosen_network_flow o.filled s

  abbrev pub p : Option Passage
  p = passage_of network bounds (handed_at network.overhead s o.entrance)

  named : is_name s.name ≡ true
  named = ap is_name (sym (after_name network o.entrance p s)) ∙ is.settles.named

  settles_none : o.entrance ≡ None → settled_path network (open_domain network) s.path ≡ Ok o.settled.path
  settles_none none = ap (λ (e : Option Entrance). settled_path network (open_domain network) (stream_at_edge network e p s).path) (sym none) ∙ is.settles.path_is

  settles_at : (e : Entrance) → o.entrance ≡ Some e → settled_path network (open_domain network) (path_at_edge network e s.path) ≡ Ok o.settled.path
  settles_at e at = ap (λ (e : Option Entrance). settled_path network (open_domain network) (stream_at_edge network e p s).path) (sym at) ∙ is.settles.path_is

  -- where a talker's stream enters
  record Enters (talker : Talker) : Type 0 where
    e : Entrance
    at : o.entrance ≡ Some e
    with_it : entrance_with network s talker ≡ Ok e

  abbrev pub entrance_if : Option Talker → Result (Option Entrance) EdgeFault
  entrance_if t = option_map_or (λ (talker : Talker). if is_name s.name then reported_now s talker (entrance_with network s talker) else Ok None) t (Ok None)

  enters_there : (talker : Talker) → s.talker ≡ Some talker → entrance_if (Some talker) ≡ Ok o.entrance → Enters talker
  enters_there talker at h =
      let reported = sym (ap (λ (b : Bool). if b then reported_now s talker (entrance_with network s talker) else Ok None) named) ∙ h in
      let ends = subst (λ (t : Option Talker). EndsOf s.path t s.listeners) at is.ends in
      let (e, is_e, with_it) = enters network talkers cycle_time good s talker o.entrance o.settled.path ends reported settles_none in
      record { e = e; at = is_e; with_it = with_it }

  -- one that enters nowhere has no talker
  nowhere : o.entrance ≡ None → s.talker ≡ None
  nowhere none = by s.talker refl is.entered
    where
      by : (t : Option Talker) → s.talker ≡ t → entrance_if t ≡ Ok o.entrance → t ≡ None
      by None at h = refl
      by (Some talker) at h = let there = enters_there talker at h in let both = sym none ∙ there.at in absurd cc

  -- so it goes along given branches
  never_between : o.entrance ≡ None → (from : List ℕ) (to : List (List ℕ)) → s.path ≡ Between from to → ⊥
  never_between none from to path =
      let ends = subst (λ (w : WantedText). EndsOf w s.talker s.listeners) path is.ends in
      let both = sym (nowhere none) ∙ ends.is_talker in
      absurd cc

  same_paths : (paced_text o.filled.request).paths ≡ o.flow.0.0.paths
  same_paths = ap (λ (r : PacedText). r.paths) is.choice.request

  -- ---- what it hands over

  -- the paths that are read agree with it
  record AgreeThere (talker : Talker) (e : Entrance) : Type 0 where
    enters : entrance_of (with_cycle cycle_time network) talker ≡ Ok e
    begins : agrees_with (with_cycle cycle_time network) found.flow.0.0.paths e ≡ Ok tt
    ends : listeners_agree found.flow.0.0.paths s.listeners ≡ Ok tt

  agree_there : (talker : Talker) (e : Entrance) → o.entrance ≡ Some e → entrance_with network s talker ≡ Ok e → AgreeThere talker e
  agree_there talker e at with_it =
      let entered = entered_by network talkers cycle_time good s talker e with_it in
      let placed = paths_agree network talkers cycle_time good s e o.settled.path o.flow.0.0.paths s.path (entrance_inside network talker e entered.at) is.ends
      entered.by (settles_at e at) is.paths in
      let paths = found.flow.0.0.paths in
      let same : paths ≡ paths_of (chosen_path o.flow.0.0.paths s.path) = ap (λ (ps : List (List (List ℕ))). paths_of (chosen_path ps s.path)) same_paths in
      record {
        enters = entrance_same network cycle_time talker ∙ entered.at;
        begins = agrees_same network cycle_time paths e ∙ ap (λ (ps : List (List (List ℕ))). agrees_with network ps e) same ∙ placed.begins;
        ends = ap (λ (ps : List (List (List ℕ))). listeners_agree ps s.listeners) same ∙ placed.ends;
      }

  handed_is : (talker : Talker) (e : Entrance) → o.entrance ≡ Some e → entrance_with network s talker ≡ Ok e →
      handed_with (with_cycle cycle_time network) found talker ≡ Ok (handed_at network.overhead (chosen_stream o.filled s) (Some e))
  handed_is talker e at with_it =
      let agree = agree_there talker e at with_it in
      let paths = found.flow.0.0.paths in
      (λ i. and_then (agree.enters i) (λ entrance. and_then (agrees_with (with_cycle cycle_time network) paths entrance) (λ _. and_then (listeners_agree paths s.listeners) (λ _.
      Ok (handed_by network.overhead entrance found.flow.0.0.octets s.shortest found.flow.1)))))
      ∙ (λ i. and_then (agree.begins i) (λ _. and_then (listeners_agree paths s.listeners) (λ _. Ok (handed_by network.overhead e found.flow.0.0.octets s.shortest found.flow.1))))
      ∙ (λ i. and_then (agree.ends i) (λ _. Ok (handed_by network.overhead e found.flow.0.0.octets s.shortest found.flow.1)))

  -- so it enters there again
  abbrev pub again : StreamText
  again = chosen_stream o.filled s

  along_again : (paths : List (List (List ℕ))) (path : WantedText) → chosen_path paths path ≡ Along (paths_of (chosen_path paths path))
  along_again paths (Along given) = refl
  along_again paths (Between from to) = refl

  enters_with : (talker : Talker) (e : Entrance) → o.entrance ≡ Some e → entrance_with network s talker ≡ Ok e →
      entrance_with (with_cycle cycle_time network) again talker ≡ Ok e
  enters_with talker e at with_it =
      let agree = agree_there talker e at with_it in
      let paths = found.flow.0.0.paths in
      (λ i. and_then (agree.enters i) (λ entrance. entrance_by (with_cycle cycle_time network) again entrance again.path))
      ∙ ap (entrance_by (with_cycle cycle_time network) again e) (along_again (paced_text o.filled.request).paths s.path)
      ∙ (λ i. and_then (agree.begins i) (λ _. and_then (listeners_agree paths s.listeners) (λ _. Ok e)))
      ∙ (λ i. and_then (agree.ends i) (λ _. Ok e))

  pub enters_again : entrance_of_stream (with_cycle cycle_time network) again ≡ Ok o.entrance
  enters_again = by s.talker refl is.entered
    where
      by : (t : Option Talker) → s.talker ≡ t → entrance_if t ≡ Ok o.entrance →
          option_map_or (λ (talker : Talker). if is_name s.name then reported_now again talker (entrance_with (with_cycle cycle_time network) again talker) else Ok None) t
          (Ok None) ≡ Ok o.entrance
      by None at h = h
      by (Some talker) at h =
          let there = enters_there talker at h in
          ap (λ (b : Bool). if b then reported_now again talker (entrance_with (with_cycle cycle_time network) again talker) else Ok None) named
          ∙ ap (reported_now again talker) (enters_with talker there.e there.at there.with_it)
          ∙ ap Ok (sym there.at)

  pub handed_back : handed_of (with_cycle cycle_time network) found ≡ Ok (handed_at network.overhead (chosen_stream o.filled s) o.entrance)
  handed_back = by s.talker refl is.entered
    where
      by : (t : Option Talker) → s.talker ≡ t → entrance_if t ≡ Ok o.entrance →
          option_map_or (λ (talker : Talker). if is_name s.name then result_map_both (λ handed. handed) (λ why. fault.Talker s.name why)
          (handed_with (with_cycle cycle_time network) found talker) else Ok None) t (Ok None) ≡ Ok (handed_at network.overhead (chosen_stream o.filled s) o.entrance)
      by None at h = let same : None ≡ o.entrance = cc in ap (λ (e : Option Entrance). Ok (handed_at network.overhead (chosen_stream o.filled s) e)) same
      by (Some talker) at h =
          let there = enters_there talker at h in
          ap (λ (b : Bool). if b then result_map_both (λ handed. handed) (λ why. fault.Talker s.name why)
          (handed_with (with_cycle cycle_time network) found talker) else Ok None) named
          ∙ ap (result_map_both (λ handed. handed) (λ why. fault.Talker s.name why)) (handed_is talker there.e there.at there.with_it)
          ∙ ap (λ (e : Option Entrance). Ok (handed_at network.overhead (chosen_stream o.filled s) e)) (sym there.at)

  -- one that promises nothing has its octets from its text
  no_traffic : (e : Option Entrance) → s.traffic ≡ None → (stream_at_edge network e (passage_of network bounds (handed_at network.overhead s e)) s).traffic ≡ None
  no_traffic None none = none
  no_traffic (Some (AtBridge b)) none = none
  no_traffic (Some (ByAccess index)) none =
      let h = handed_over network.overhead index (unwrap_or s.octets 0) s.shortest s.traffic in
      ap (λ (q : Option Passage). traffic_at_edge q s.pacing s.traffic) (passage_found network bounds h)
      ∙ ap (traffic_at_edge (passage_with (found_at network bounds index) h) s.pacing) none ∙ silent s.pacing h (found_at network bounds index) none

  own_octets : s.traffic ≡ None → unwrap_or s.octets 0 ≡ o.filled.request.octets
  own_octets none =
      let quiet : o.settled.traffic ≡ None = sym is.settles.traffic_is ∙ no_traffic o.entrance none in
      let octets : o.settled.octets ≡ s.octets = sym is.settles.octets_are ∙ after_octets network o.entrance p s in
      let there = (reserved_there network.overhead cycle_time network.sync o.settled o.flow.0.0.octets is.reserved).1 in
      let plain : reserved_by s.octets None ≡ Ok o.flow.0.0.octets =
      sym (λ i. reserved_by (octets i) (option_map (λ (t : TrafficText). needed network.overhead cycle_time (promise_of t)) (quiet i))) ∙ there in
      reserved_none s.octets o.flow.0.0.octets plain ∙ sym (ap (λ (r : PacedText). r.octets) is.choice.request)
    where
      reserved_none : (x : Option ℕ) (n : ℕ) → reserved_by x None ≡ Ok n → unwrap_or x 0 ≡ n
      reserved_none (Some m) n h = cc
      reserved_none None n h = cc

  pub erased_back : option_map erased (handed_at network.overhead (chosen_stream o.filled s) o.entrance) ≡ option_map erased (handed_at network.overhead s o.entrance)
  erased_back = by o.entrance
    where
      by : (e : Option Entrance) → option_map erased (handed_at network.overhead (chosen_stream o.filled s) e) ≡ option_map erased (handed_at network.overhead s e)
      by None = refl
      by (Some (AtBridge b)) = refl
      by (Some (ByAccess index)) =
          let h = handed_over network.overhead index (unwrap_or s.octets 0) s.shortest s.traffic in
          ap (λ (x : Handed). Some (erased x)) (handed_with_offset network.overhead index (unwrap_or s.octets 0) o.filled.request.octets s.shortest o.filled.offset s.traffic own_octets)
          ∙ ap Some (erased_with_offset h o.filled.offset)

  -- ---- when it is offered

  -- its cycles were chosen
  record IsTurned : Type 0 where
    u : TrafficText
    has : o.settled.traffic ≡ Some u
    flow_has : o.flow.1 ≡ Some (record u { offset = o.flow.0.0.phase * cycle_time + u.offset % cycle_time })
    in_step : s.pacing ≡ InStep
    begins : o.filled.offset ≡ Some (offset_before (o.flow.0.0.phase * cycle_time + u.offset % cycle_time) (taken_by (option_and_then times_by p)) cycle_time o.flow.0.0.every)

  own_pacing : s.pacing ≡ o.settled.pacing
  own_pacing = sym (after_pacing network o.entrance p s) ∙ is.settles.pacing_is

  turned : is_chosen_on cycle_time o.settled ≡ true → IsTurned
  turned chosen = by o.settled.traffic refl o.settled.pacing refl chosen
    where
      by : (traffic : Option TrafficText) → o.settled.traffic ≡ traffic → (pacing : Pacing) → o.settled.pacing ≡ pacing →
          option_map_or (is_in_step cycle_time pacing) traffic false ≡ true → IsTurned
      by None at pacing paced h = absurd cc
      by (Some u) at (Given every phase) paced h = absurd cc
      by (Some u) at InStep paced h =
          let begun : Option TrafficText = Some (record u { offset = o.flow.0.0.phase * cycle_time + u.offset % cycle_time }) in
          let has : o.flow.1 ≡ begun =
          is.taken.chosen chosen ∙ ap (option_map (λ (t : TrafficText). record t { offset = o.flow.0.0.phase * cycle_time + t.offset % cycle_time })) at in
          let reported = ap (λ (b : Bool). if b then option_map (λ (t : TrafficText). offset_before t.offset (taken_by (option_and_then times_by p)) cycle_time
          o.flow.0.0.every) o.flow.1 else None) chosen in
          record {
            u = u;
            has = at;
            flow_has = has;
            in_step = own_pacing ∙ paced;
            begins = is.choice.offset ∙ reported
                ∙ ap (option_map (λ (t : TrafficText). offset_before t.offset (taken_by (option_and_then times_by p)) cycle_time o.flow.0.0.every)) has;
          }

  -- or they weren't
  given_begins : is_chosen_on cycle_time o.settled ≡ false → o.filled.offset ≡ None
  given_begins given =
      is.choice.offset
      ∙ ap (λ (b : Bool). if b then option_map (λ (t : TrafficText). offset_before t.offset (taken_by (option_and_then times_by p)) cycle_time o.flow.0.0.every)
      o.flow.1 else None) given

  -- its pacing is that of its request
  record IsPaced : Type 0 where
    every : every_of (chosen_pacing o.filled.request o.filled.offset s.pacing) ≡ o.flow.0.0.every
    phase : phase_of (chosen_pacing o.filled.request o.filled.offset s.pacing) ≡ o.flow.0.0.phase

  paced_by : IsPaced
  paced_by = by (is_chosen_on cycle_time o.settled) refl
    where
      by_given : (pacing : Pacing) → s.pacing ≡ pacing → is_chosen_on cycle_time o.settled ≡ false → IsPaced
      by_given InStep at given =
          let chosen = is.taken.in_step (sym own_pacing ∙ at) in
          let both = sym chosen ∙ given in absurd cc
      by_given (Given every phase) at given =
          let active_cycles : active_cycles_on cycle_time o.settled ≡ active_cycles_by cycle_time (Given every phase) o.settled.traffic =
          ap (λ (x : Pacing). active_cycles_by cycle_time x o.settled.traffic) (sym own_pacing ∙ at) in
          let first = subst (λ t. MayBeFirst t o.flow.0.0.phase) active_cycles is.taken.phase in
          let none = given_begins given in
          record {
            every = (λ i. every_of (chosen_pacing o.filled.request (none i) (at i))) ∙ sym (is.taken.every ∙ ap every_in active_cycles);
            phase = (λ i. phase_of (chosen_pacing o.filled.request (none i) (at i))) ∙ sym first;
          }

      by : (b : Bool) → is_chosen_on cycle_time o.settled ≡ b → IsPaced
      by true chosen =
          let there = turned chosen in
          record {
            every = ap (λ (x : Option ℕ). every_of (chosen_pacing o.filled.request x s.pacing)) there.begins ∙ ap (λ (r : PacedText). r.every) is.choice.request;
            phase = ap (λ (x : Option ℕ). phase_of (chosen_pacing o.filled.request x s.pacing)) there.begins ∙ ap (λ (r : PacedText). r.phase) is.choice.request;
          }
      by false given = by_given s.pacing refl given

  -- its cycles are given there
  pub given_again : again.pacing ≡ Given (every_of again.pacing) (phase_of again.pacing)
  given_again = by (is_chosen_on cycle_time o.settled) refl
    where
      by_given : (pacing : Pacing) → s.pacing ≡ pacing → is_chosen_on cycle_time o.settled ≡ false →
          chosen_pacing o.filled.request None pacing ≡ Given (every_of (chosen_pacing o.filled.request None pacing)) (phase_of (chosen_pacing o.filled.request None pacing))
      by_given (Given every phase) at given = refl
      by_given InStep at given =
          let both = sym (is.taken.in_step (sym own_pacing ∙ at)) ∙ given in absurd cc

      by : (b : Bool) → is_chosen_on cycle_time o.settled ≡ b → again.pacing ≡ Given (every_of again.pacing) (phase_of again.pacing)
      by true chosen =
          let there = turned chosen in
          subst (λ (x : Option ℕ). chosen_pacing o.filled.request x s.pacing
          ≡ Given (every_of (chosen_pacing o.filled.request x s.pacing)) (phase_of (chosen_pacing o.filled.request x s.pacing))) (sym there.begins) refl
      by false given =
          subst (λ (x : Option ℕ). chosen_pacing o.filled.request x s.pacing
          ≡ Given (every_of (chosen_pacing o.filled.request x s.pacing)) (phase_of (chosen_pacing o.filled.request x s.pacing))) (sym (given_begins given))
          (by_given s.pacing refl given)

  paths_same : paths_of (chosen_path o.flow.0.0.paths s.path) ≡ o.flow.0.0.paths
  paths_same = by o.entrance refl
    where
      by : (e : Option Entrance) → o.entrance ≡ e → paths_of (chosen_path o.flow.0.0.paths s.path) ≡ o.flow.0.0.paths
      by None none = paths_read network talkers cycle_time good o.settled.path o.flow.0.0.paths s.path (never_between none) (settles_none none) is.paths
      by (Some e) at = paths_after network talkers cycle_time good e o.settled.path o.flow.0.0.paths s.path (settles_at e at) is.paths

  pub request_same : (chosen_flow o.filled s).0.0 ≡ o.flow.0.0
  request_same =
      let name : s.name ≡ o.flow.0.0.name = sym (after_name network o.entrance p s) ∙ is.settles.name_is ∙ sym is.taken.name in
      let octets : o.filled.request.octets ≡ o.flow.0.0.octets = ap (λ (r : PacedText). r.octets) is.choice.request in
      let paths = ap (λ (ps : List (List (List ℕ))). paths_of (chosen_path ps s.path)) same_paths ∙ paths_same in
      let paced = paced_by in
      (λ i. record { name = name i; octets = octets i; every = paced.every i; phase = paced.phase i; paths = paths i })

  -- ---- at its edge bridge

  -- what is left of its deadline is what was settled
  none_taken : (left after : Option ℕ) → settled_deadline 0 left ≡ Ok after → left ≡ after
  none_taken None after h = cc
  none_taken (Some n) after h = by (nat_lt 0 n) h
    where
      plain : n - 0 ≡ n
      plain = omega arith

      by : (b : Bool) → (if b then Ok (Some (n - 0)) else Err plan_fault.TooSoon) ≡ Ok after → Some n ≡ after
      by true h = let same : Some (n - 0) ≡ after = cc in ap Some (sym plain) ∙ same
      by false h = absurd cc

  entrance_there : (e : Entrance) → o.entrance ≡ Some e → IsEntrance network e
  entrance_there e at = by s.talker refl is.entered
    where
      by : (t : Option Talker) → s.talker ≡ t → entrance_if t ≡ Ok o.entrance → IsEntrance network e
      by None same h = let both = h ∙ ap Ok at in absurd cc
      by (Some talker) same h =
          let there = enters_there talker same h in
          let is_e : there.e ≡ e = same_Some there.e e (sym there.at ∙ at) in
          let entered = entered_by network talkers cycle_time good s talker there.e there.with_it in
          subst (IsEntrance network) is_e (entrance_inside network talker there.e entered.at)

  no_talker : talker_of_stream network (open_domain network) (stream_at_edge network o.entrance p s).path ≡ None
  no_talker = by o.entrance refl
    where
      along : (w : WantedText) → ((from : List ℕ) (to : List (List ℕ)) → w ≡ Between from to → ⊥) → talker_of_stream network (open_domain network) w ≡ None
      along (Along paths) never = refl
      along (Between from to) never = absurd (never from to refl)

      at_edge : (e : Entrance) (w : WantedText) → o.entrance ≡ Some e → talker_of_stream network (open_domain network) (path_at_edge network e w) ≡ None
      at_edge e (Along paths) at = refl
      at_edge e (Between from to) at = no_link network talkers cycle_time good e to (entrance_there e at)

      by : (e : Option Entrance) → o.entrance ≡ e → talker_of_stream network (open_domain network) (stream_at_edge network e p s).path ≡ None
      by None none = along s.path (never_between none)
      by (Some e) at = at_edge e s.path at

  left_same : (stream_at_edge network o.entrance p s).deadline ≡ o.settled.deadline
  left_same =
      none_taken (stream_at_edge network o.entrance p s).deadline o.settled.deadline
      (ap (λ (link : Option TalkerLink). settled_deadline (taken_on link (longest_of (stream_at_edge network o.entrance p s).octets
      (stream_at_edge network o.entrance p s).traffic)) (stream_at_edge network o.entrance p s).deadline) (sym no_talker) ∙ is.settles.deadline_is)

  -- and something is left
  left_some : (left after : Option ℕ) (x : ℕ) → settled_deadline 0 left ≡ Ok after → after ≡ Some x → 1 ≤ x
  left_some None after x h has = let none : None ≡ after = cc in let both = none ∙ has in absurd cc
  left_some (Some n) after x h has = by (nat_lt 0 n) refl h
    where
      by : (b : Bool) → nat_lt 0 n ≡ b → (if b then Ok (Some (n - 0)) else Err plan_fault.TooSoon) ≡ Ok after → 1 ≤ x
      by true is h =
          let same : Some (n - 0) ≡ after = cc in
          let value : n - 0 ≡ x = same_Some (n - 0) x (same ∙ has) in
          let some : 0 < n = ltb-true 0 n is in
          omega (arith, value, some)
      by false is h = absurd cc

  pub some_left : (x : ℕ) → o.flow.0.1 ≡ Some x → 1 ≤ x
  some_left x has =
      left_some (stream_at_edge network o.entrance p s).deadline o.settled.deadline x
      (ap (λ (link : Option TalkerLink). settled_deadline (taken_on link (longest_of (stream_at_edge network o.entrance p s).octets
      (stream_at_edge network o.entrance p s).traffic)) (stream_at_edge network o.entrance p s).deadline) (sym no_talker) ∙ is.settles.deadline_is)
      (sym is.taken.deadline ∙ has)

  -- how it comes there
  abbrev pub passed : Option Entrance → Option Passage
  passed e = passage_of network bounds (handed_at network.overhead (chosen_stream o.filled s) e)

  abbrev pub own_passage : Option Entrance → Option Passage
  own_passage e = passage_of network bounds (handed_at network.overhead s e)

  -- the same passage, but for when it begins
  abbrev pub hands : ℕ → Handed
  hands index = handed_over network.overhead index (unwrap_or s.octets 0) s.shortest s.traffic

  passed_is : (index : ℕ) → passed (Some (ByAccess index)) ≡ passage_with (found_at network bounds index) (with_offset (hands index) o.filled.offset)
  passed_is index =
      ap (λ (h : Handed). passage_of network bounds (Some h))
      (handed_with_offset network.overhead index (unwrap_or s.octets 0) o.filled.request.octets s.shortest o.filled.offset s.traffic own_octets)
      ∙ passage_found network bounds (with_offset (hands index) o.filled.offset)

  own_is : (index : ℕ) → own_passage (Some (ByAccess index)) ≡ passage_with (found_at network bounds index) (hands index)
  own_is index = passage_found network bounds (hands index)

  -- its deadline
  deadline_same : (e : Option Entrance) → (flow_at_edge (passed e) (chosen_flow o.filled s)).0.1 ≡ (stream_at_edge network e (own_passage e) s).deadline
  deadline_same None = refl
  deadline_same (Some (AtBridge b)) = refl
  deadline_same (Some (ByAccess index)) =
      ap (λ (q : Option Passage). (flow_at_edge q (chosen_flow o.filled s)).0.1) (passed_is index) ∙ by (found_at network bounds index)
      ∙ sym (ap (λ (q : Option Passage). deadline_at_edge q s.deadline) (own_is index))
    where
      by : (q : Found) → (flow_at_edge (passage_with q (with_offset (hands index) o.filled.offset)) (chosen_flow o.filled s)).0.1
          ≡ deadline_at_edge (passage_with q (hands index)) s.deadline
      by None = refl
      by (Some both) = ap (λ (times : Option AccessTimes). left_by times s.deadline) (times_with_offset both.0 both.1 (hands index) o.filled.offset)

  -- its traffic, where its cycles are given
  whole_same : (e : Option Entrance) (every phase : ℕ) → s.pacing ≡ Given every phase → o.filled.offset ≡ None →
      (flow_at_edge (passed e) (chosen_flow o.filled s)).1 ≡ (stream_at_edge network e (own_passage e) s).traffic
  whole_same None every phase paced none = ap (λ (x : Option ℕ). chosen_traffic x s.traffic) none
  whole_same (Some (AtBridge b)) every phase paced none = ap (λ (x : Option ℕ). chosen_traffic x s.traffic) none
  whole_same (Some (ByAccess index)) every phase paced none =
      ap (λ (q : Option Passage). (flow_at_edge q (chosen_flow o.filled s)).1) (passed_is index)
      ∙ ap (λ (x : Option ℕ). (flow_at_edge (passage_with (found_at network bounds index) (with_offset (hands index) x)) (chosen_flow o.filled s)).1) none
      ∙ by (found_at network bounds index)
      ∙ sym (ap (λ (q : Option Passage). traffic_at_edge q s.pacing s.traffic) (own_is index))
    where
      by : (q : Found) → (flow_at_edge (passage_with q (with_offset (hands index) None)) (chosen_flow o.filled s)).1
          ≡ traffic_at_edge (passage_with q (hands index)) s.pacing s.traffic
      by None = ap (λ (x : Option ℕ). chosen_traffic x s.traffic) none
      by (Some both) = sym (ap (λ (x : Pacing). word_at x (made both.0 (hands index) both.1)) paced)

  -- and where they were chosen
  round_same : (e : Option Entrance) (at : ℕ) (u : TrafficText) → s.pacing ≡ InStep → 0 < o.flow.0.0.every * cycle_time →
      (stream_at_edge network e (own_passage e) s).traffic ≡ Some u →
      o.filled.offset ≡ Some (offset_before at (taken_by (option_and_then times_by (own_passage e))) cycle_time o.flow.0.0.every) →
      ComesIn (o.flow.0.0.every * cycle_time) (Some (record u { offset = at })) (flow_at_edge (passed e) (chosen_flow o.filled s)).1
  round_same None at u paced some has begins =
      subst (λ (x : Option ℕ). ComesIn (o.flow.0.0.every * cycle_time) (Some (record u { offset = at })) (chosen_traffic x s.traffic)) (sym begins)
      (plain_back s.traffic u at cycle_time o.flow.0.0.every has some)
  round_same (Some (AtBridge b)) at u paced some has begins =
      subst (λ (x : Option ℕ). ComesIn (o.flow.0.0.every * cycle_time) (Some (record u { offset = at })) (chosen_traffic x s.traffic)) (sym begins)
      (plain_back s.traffic u at cycle_time o.flow.0.0.every has some)
  round_same (Some (ByAccess index)) at u paced some has begins =
      subst (λ (q : Option Passage). ComesIn (o.flow.0.0.every * cycle_time) (Some (record u { offset = at })) (flow_at_edge q (chosen_flow o.filled s)).1)
      (sym (passed_is index))
      (by (found_at network bounds index) (sym (ap (λ (q : Option Passage). traffic_at_edge q s.pacing s.traffic) (own_is index)) ∙ has)
      (begins ∙ ap (λ (q : Option Passage). Some (offset_before at (taken_by (option_and_then times_by q)) cycle_time o.flow.0.0.every)) (own_is index)))
    where
      by : (q : Found) → traffic_at_edge (passage_with q (hands index)) s.pacing s.traffic ≡ Some u →
          o.filled.offset ≡ Some (offset_before at (taken_by (option_and_then times_by (passage_with q (hands index)))) cycle_time o.flow.0.0.every) →
          ComesIn (o.flow.0.0.every * cycle_time) (Some (record u { offset = at }))
          (flow_at_edge (passage_with q (with_offset (hands index) o.filled.offset)) (chosen_flow o.filled s)).1
      by None h begun =
          subst (λ (x : Option ℕ). ComesIn (o.flow.0.0.every * cycle_time) (Some (record u { offset = at })) (chosen_traffic x s.traffic)) (sym begun)
          (plain_back s.traffic u at cycle_time o.flow.0.0.every h some)
      by (Some both) h begun =
          let steps : steps_on (made both.0 (hands index) both.1) ≡ Some u =
          sym (ap (λ (x : Pacing). word_at x (made both.0 (hands index) both.1)) paced) ∙ h in
          subst (λ (x : Option ℕ). ComesIn (o.flow.0.0.every * cycle_time) (Some (record u { offset = at })) (word_on (made both.0 (with_offset (hands index) x) both.1)))
          (sym begun) (link_back both.0 both.1 (hands index) u at cycle_time o.flow.0.0.every steps some)

  given_pacing : is_chosen_on cycle_time o.settled ≡ false → (every : ℕ) × (phase : ℕ) × (s.pacing ≡ Given every phase)
  given_pacing given = by s.pacing refl
    where
      by : (pacing : Pacing) → s.pacing ≡ pacing → (every : ℕ) × (phase : ℕ) × (pacing ≡ Given every phase)
      by (Given every phase) at = (every, phase, refl)
      by InStep at = let both = sym (is.taken.in_step (sym own_pacing ∙ at)) ∙ given in absurd cc

  pub comes_back : 0 < o.flow.0.0.every * cycle_time →
      ComesAsPlaced cycle_time o.settled o.flow (flow_at_edge (passed o.entrance) (chosen_flow o.filled s))
  comes_back some = record {
    request = after_request (passed o.entrance) (chosen_flow o.filled s) ∙ request_same;
    deadline = deadline_same o.entrance ∙ left_same ∙ sym is.taken.deadline;
    whole = λ given. let (every, phase, paced) = given_pacing given in
        whole_same o.entrance every phase paced (given_begins given) ∙ is.settles.traffic_is ∙ sym (is.taken.whole given);
    chosen = λ chosen. let there = turned chosen in
        subst (λ (x : Option TrafficText). ComesIn (o.flow.0.0.every * cycle_time) x (flow_at_edge (passed o.entrance) (chosen_flow o.filled s)).1)
        (sym there.flow_has)
        (round_same o.entrance (o.flow.0.0.phase * cycle_time + there.u.offset % cycle_time) there.u there.in_step some (is.settles.traffic_is ∙ there.has)
        there.begins);
  }

  -- ---- what was chosen may be written

  own_traffic : (u : TrafficText) → o.settled.traffic ≡ Some u → IsSome s.traffic
  own_traffic u has = by s.traffic refl
    where
      by : (traffic : Option TrafficText) → s.traffic ≡ traffic → IsSome traffic
      by (Some t) at = refl
      by None at = let both = sym (sym is.settles.traffic_is ∙ no_traffic o.entrance at) ∙ has in absurd cc

  pub choice_kept : o.flow.0.0.every ≤ most_every → cycle_time ≤ 10000000 → 0 < o.flow.0.0.every * cycle_time → IsChoice o.filled s
  choice_kept few short some =
      let reserves = (reserved_there network.overhead cycle_time network.sync o.settled o.flow.0.0.octets is.reserved).1 in
      let octets : o.filled.request.octets ≡ o.flow.0.0.octets = ap (λ (r : PacedText). r.octets) is.choice.request in
      let every : o.filled.request.every ≡ o.flow.0.0.every = ap (λ (r : PacedText). r.every) is.choice.request in
      let phase : o.filled.request.phase ≡ o.flow.0.0.phase = ap (λ (r : PacedText). r.phase) is.choice.request in
      let most : o.flow.0.0.octets ≤ most_reserved = reserved_few o.settled.octets (option_map (λ (t : TrafficText). needed network.overhead cycle_time (promise_of t)) o.settled.traffic) o.flow.0.0.octets is.settles.reservable reserves in
      let early : o.flow.0.0.phase < most_every =
      first_is_early cycle_time o.settled.pacing o.settled.traffic o.flow.0.0.phase is.settles.paced is.taken.phase in
      record {
        octets = omega (arith, octets, most);
        every = omega (arith, every, few);
        phase = omega (arith, phase, early);
        offset = begins_soon;
        has_traffic = begins_something;
      }
    where
      begins_soon : IfSome o.filled.offset (λ offset. offset ≤ 1000000000)
      begins_soon = by (is_chosen_on cycle_time o.settled) refl
        where
          by : (b : Bool) → is_chosen_on cycle_time o.settled ≡ b → IfSome o.filled.offset (λ offset. offset ≤ 1000000000)
          by false given = subst (λ (x : Option ℕ). IfSome x (λ offset. offset ≤ 1000000000)) (sym (given_begins given)) tt
          by true chosen =
              let there = turned chosen in
              let at : ℕ = o.flow.0.0.phase * cycle_time + there.u.offset % cycle_time in
              let taken : ℕ = taken_by (option_and_then times_by p) in
              let within : offset_before at taken cycle_time o.flow.0.0.every < o.flow.0.0.every * cycle_time = within_round at taken (o.flow.0.0.every * cycle_time) some in
              let long : o.flow.0.0.every * cycle_time ≤ 80 * 10000000 = mul-le-mul few short in
              let product : 80 * 10000000 ≡ 800000000 = refl in
              subst (λ (x : Option ℕ). IfSome x (λ offset. offset ≤ 1000000000)) (sym there.begins) (omega (arith, within, long, product))

      begins_something : IfSome o.filled.offset (λ offset. IsSome s.traffic)
      begins_something = by (is_chosen_on cycle_time o.settled) refl
        where
          by : (b : Bool) → is_chosen_on cycle_time o.settled ≡ b → IfSome o.filled.offset (λ offset. IsSome s.traffic)
          by false given = subst (λ (x : Option ℕ). IfSome x (λ offset. IsSome s.traffic)) (sym (given_begins given)) tt
          by true chosen =
              let there = turned chosen in
              subst (λ (x : Option ℕ). IfSome x (λ offset. IsSome s.traffic)) (sym there.begins) (own_traffic there.u there.has)

  -- where there is no access link, nothing is handed over
  pub none_handed : network.talkers ≡ [] → handed_at network.overhead (chosen_stream o.filled s) o.entrance ≡ None
  none_handed none = by o.entrance refl
    where
      by : (e : Option Entrance) → o.entrance ≡ e → handed_at network.overhead (chosen_stream o.filled s) e ≡ None
      by None at = refl
      by (Some (AtBridge b)) at = refl
      by (Some (ByAccess index)) at =
          let inside : index < length network.talkers = entrance_there (ByAccess index) at in
          let nothing : length network.talkers ≡ 0 = ap length none in
          absurd (omega (arith, inside, nothing))

  -- ---- planned again

  -- what is left of it at its edge bridge
  abbrev pub flow_again : FlowText
  flow_again = flow_at_edge (passed o.entrance) (chosen_flow o.filled s)

  abbrev pub stream_again : StreamText
  stream_again = record {
    name = s.name;
    octets = Some o.filled.request.octets;
    pacing = Given (every_of again.pacing) (phase_of again.pacing);
    path = Along (chosen_flow o.filled s).0.0.paths;
    talker = s.talker;
    listeners = s.listeners;
    deadline = flow_again.0.1;
    traffic = flow_again.1;
    shortest = s.shortest;
  }

  pub after_again : stream_at_edge (with_cycle cycle_time network) o.entrance (passed o.entrance) again ≡ stream_again
  after_again = by o.entrance
    where
      along : again.path ≡ Along (chosen_flow o.filled s).0.0.paths
      along = along_again (paced_text o.filled.request).paths s.path

      -- its deadline and its traffic are those of its flow
      left : (q : Option Passage) → deadline_at_edge q s.deadline ≡ (flow_at_edge q (chosen_flow o.filled s)).0.1
      left None = refl
      left (Some p) = refl

      word : (q : Option Passage) (every phase : ℕ) → traffic_at_edge q (Given every phase) again.traffic ≡ (flow_at_edge q (chosen_flow o.filled s)).1
      word None every phase = refl
      word (Some p) every phase = refl

      by : (e : Option Entrance) → stream_at_edge (with_cycle cycle_time network) e (passed e) again ≡ record {
        name = s.name;
        octets = Some o.filled.request.octets;
        pacing = Given (every_of again.pacing) (phase_of again.pacing);
        path = Along (chosen_flow o.filled s).0.0.paths;
        talker = s.talker;
        listeners = s.listeners;
        deadline = (flow_at_edge (passed e) (chosen_flow o.filled s)).0.1;
        traffic = (flow_at_edge (passed e) (chosen_flow o.filled s)).1;
        shortest = s.shortest;
      }
      by None = (λ i. record {
        name = s.name;
        octets = Some o.filled.request.octets;
        pacing = given_again i;
        path = along i;
        talker = s.talker;
        listeners = s.listeners;
        deadline = s.deadline;
        traffic = again.traffic;
        shortest = s.shortest;
      })
      by (Some e) =
          let given : StreamText = record {
            name = s.name;
            octets = Some o.filled.request.octets;
            pacing = Given (every_of again.pacing) (phase_of again.pacing);
            path = Along (chosen_flow o.filled s).0.0.paths;
            talker = s.talker;
            listeners = s.listeners;
            deadline = deadline_at_edge (passed (Some e)) s.deadline;
            traffic = traffic_at_edge (passed (Some e)) (Given (every_of again.pacing) (phase_of again.pacing)) again.traffic;
            shortest = s.shortest;
          } in
          let first : stream_at_edge (with_cycle cycle_time network) (Some e) (passed (Some e)) again ≡ given =
          (λ i. record {
            name = s.name;
            octets = Some o.filled.request.octets;
            pacing = given_again i;
            path = path_at_edge (with_cycle cycle_time network) e (along i);
            talker = s.talker;
            listeners = s.listeners;
            deadline = deadline_at_edge (passed (Some e)) s.deadline;
            traffic = traffic_at_edge (passed (Some e)) (given_again i) again.traffic;
            shortest = s.shortest;
          }) in
          first ∙ (λ i. record {
            name = s.name;
            octets = Some o.filled.request.octets;
            pacing = Given (every_of again.pacing) (phase_of again.pacing);
            path = Along (chosen_flow o.filled s).0.0.paths;
            talker = s.talker;
            listeners = s.listeners;
            deadline = left (passed (Some e)) i;
            traffic = word (passed (Some e)) (every_of again.pacing) (phase_of again.pacing) i;
            shortest = s.shortest;
          })
