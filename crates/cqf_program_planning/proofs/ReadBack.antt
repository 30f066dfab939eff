-- The text of a plan is read as the plan.
use Rattle.std.proofs.Common.{◌≡◌, ◌∙◌, ◌++◌, ◌-◌, ◌*◌, ◌<◌, ◌≤◌, ℕ, zero, suc, All, Bool, true, false, List, [], ◌∷◌, Option, Some, None, Ok, ap, arith, map, nat_lt, refl, subst, subst₂, sym}
use Rattle.std.specs.Prelude.{cond, option_and_then, slice_get, unwrap_or}
use Rattle.std.specs.Option.{ForSome}
use Rattle.std.proofs.Math.Nat.{mul-le-mul}
use Rattle.std.proofs.lemmas.Bool.{lt-ltb}
use Rattle.std.proofs.lemmas.List.{length-map}
use Rattle.std.proofs.lemmas.List.Elements.{All-cons, All-head, All-nil, All-tail}
use Rattle.std.proofs.lemmas.Option.{same_Some}
use Rattle.cqf_lists.specs.Results.{and_then}
use Rattle.cqf_model.specs.Domain.{Domain}
use Rattle.cqf_model.specs.History.{Recorded, held_in, seals}
use Rattle.cqf_laws_timing.specs.Streams.{AreGranted}
use Rattle.cqf_topology.specs.PacedText.{PacedText}
use Rattle.cqf_topology.specs.Fields.{and_first}
use Rattle.cqf_topology.specs.DomainText.{IsDomain}
use Rattle.cqf_laws_timing.specs.Traffic.{needed}
use Rattle.cqf_traffic.specs.FlowsText.{FlowText}
use Rattle.cqf_traffic.specs.TrafficText.{TrafficText, promise_of}
use Rattle.cqf_network.specs.NetworkFlows.{NetworkFlowText}
use Rattle.cqf_network.specs.NetworkDomain.{HasTalkerLinks, NetworkDomain, domain_at, longest_guard}
use Rattle.cqf_network.specs.declared.pacing.Pacing.TheVariants.{Given}
use Rattle.cqf_network.specs.StreamsText.{Along, StreamText}
use Rattle.cqf_edge.specs.declared.edge.Passage.{Passage}
use Rattle.cqf_edge.specs.declared.entrances.Entrance.{Entrance}
use Rattle.cqf_edge.specs.declared.uses.AccessBound.{AccessBound}
use Rattle.cqf_edge.specs.declared.uses.Handed.{Handed}
use Rattle.cqf_edge.specs.declared.edge.AccessTimes.{AccessTimes}
use Rattle.cqf_edge.specs.Edge.{left_by, times_by}
use Rattle.cqf_edge.specs.EdgeFlows.{EdgeFlowsText, at_edges, edge_flows, edges_with, flow_at_edge, flows_at_edge, handed_of_all, passage_of}
use Rattle.cqf_edge.specs.EdgeStreams.{entrances_of, handed_at, handed_at_each, stream_at_edge, streams_at_edge}
use Rattle.cqf_edge.specs.Uses.{bounds_of, full_station}
use Rattle.cqf_network_text.specs.declared.filling.FilledStream.{FilledStream}
use Rattle.cqf_network_text.specs.NetworkLaws.{AreChoices, IsChoice, chosen_flow, chosen_network_flow, chosen_stream, each_chosen, every_of, phase_of, with_cycle}
use Rattle.cqf_program_scenario.specs.Networks.{domain_of}
use Rattle.cqf_program_plans.specs.Latency.Text.{deadline_of, is_not_sure, latencies_of, times_of}
use Rattle.cqf_program_plans.specs.declared.latency.latencies.Latency.{Latency}
use Rattle.cqf_program_plans.specs.Compile.Output.{admitted_from, with_asked}
use Rattle.cqf_admission.specs.Asking.{asked_by}
use Rattle.cqf_program_offers.specs.OffersOutput.{asked_in}
use Rattle.cqf_network.proofs.StreamParts.{and_first-Ok}
use Rattle.cqf_program_placing.specs.Placing.{active_cycles_on, is_chosen_on}
use Rattle.cqf_program_placing.specs.ActiveCycles.{IsGoodEvery}
use Rattle.cqf_program_placing.proofs.Stepping.{active_cycles_good, every_is_good_in}
use Rattle.cqf_program_placing.specs.Settled.{SettledStream, open_domain, refusal_after, settled_after, settled_next}
use Rattle.cqf_program_placing.proofs.SettledLemmas.{settled_by}
use Rattle.cqf_program_planning.specs.PlanLaws.{IsSoundPlan, ReservesEnough, deadlines_of}
use Rattle.cqf_program_planning.specs.ReadPlans.{ComeAsPlaced, ComesAsPlaced, ComesIn, IsGoodPlan}
use Rattle.cqf_program_planning.specs.Steps.{IsTurned}
use Rattle.cqf_program_planning.proofs.ComesBack.{after_again, after_request, choice_kept, comes_back, enters_again, erased_back, handed_back, none_handed, some_left}
use Rattle.cqf_program_planning.proofs.Again.{IsAllowed, allowed_by, settled_again, settled_flow}
use Rattle.cqf_program_planning.proofs.Erased.{all_erased, bounds_alike}
use Rattle.cqf_program_planning.proofs.Ones.{IsOne, One}
use Rattle.cqf_program_planning.proofs.Rounds.{needs_no_more}
use Rattle.cqf_program_planning.proofs.SoundPlans.{none_lacks}
use Rattle.cqf_program_planning.proofs.Strict.{IsLeft}

-- ---- streams that come as they were placed are as good

-- less is enough for less jitter
enough_in : (overhead cycle_time round octets : ℕ) (placed there : Option TrafficText) → ComesIn round placed there →
    ForSome placed (λ (t : TrafficText). needed overhead cycle_time (promise_of t) ≤ octets) → ForSome there (λ (t : TrafficText). needed overhead cycle_time (promise_of t) ≤ octets)
enough_in overhead cycle_time round octets None there h enough t has = let both = sym h ∙ has in absurd cc
enough_in overhead cycle_time round octets (Some u) None h enough t has = absurd h
enough_in overhead cycle_time round octets (Some u) (Some v) h enough t has =
    let same : v ≡ t = same_Some v t has in
    let less = needs_no_more overhead cycle_time (promise_of u) (promise_of v) h.interval h.frames h.size h.jitter in
    let own = enough u refl in
    subst (λ (x : TrafficText). needed overhead cycle_time (promise_of x) ≤ octets) same (omega (arith, less, own))

enough_there : (overhead cycle_time : ℕ) (stream : SettledStream) (flow there : FlowText) → ComesAsPlaced cycle_time stream flow there → ReservesEnough overhead cycle_time flow →
    ReservesEnough overhead cycle_time there
enough_there overhead cycle_time stream flow there comes enough = by (is_chosen_on cycle_time stream) refl
  where
    octets : there.0.0.octets ≡ flow.0.0.octets
    octets = ap (λ r. r.octets) comes.request

    with_octets : ForSome there.1 (λ (t : TrafficText). needed overhead cycle_time (promise_of t) ≤ flow.0.0.octets) → ReservesEnough overhead cycle_time there
    with_octets few t has = let own = few t has in omega (arith, own, octets)

    by : (b : Bool) → is_chosen_on cycle_time stream ≡ b → ReservesEnough overhead cycle_time there
    by false given = with_octets (λ t has. enough t (sym (comes.whole given) ∙ has))
    by true chosen = with_octets (enough_in overhead cycle_time (flow.0.0.every * cycle_time) flow.0.0.octets flow.1 there.1 (comes.chosen chosen) enough)

-- ---- lists of them

abbrev pub streams_of : List One → List StreamText
streams_of ones = map (λ (o : One). o.stream) ones

abbrev pub filled_of : List One → List FilledStream
filled_of ones = map (λ (o : One). o.filled) ones

abbrev pub flows_of : List One → List FlowText
flows_of ones = map (λ (o : One). o.flow) ones

abbrev pub settled_of_ones : List One → List SettledStream
settled_of_ones ones = map (λ (o : One). o.settled) ones

abbrev pub entrances_of_ones : List One → List (Option Entrance)
entrances_of_ones ones = map (λ (o : One). o.entrance) ones

-- what is read of one, and what it hands over
abbrev pub read_of : One → NetworkFlowText
read_of o = chosen_network_flow o.filled o.stream

-- what is read of one, and what it hands over, given the gate overhead
abbrev pub hands_of : ℕ → One → Option Handed
hands_of overhead o = handed_at overhead (chosen_stream o.filled o.stream) o.entrance

pub all_read : (ones : List One) → each_chosen chosen_network_flow (filled_of ones) (streams_of ones) ≡ map read_of ones
all_read [] = refl
all_read (o ∷ ones) = ap (λ xs. read_of o ∷ xs) (all_read ones)

all_flows_read : (ones : List One) → each_chosen chosen_flow (filled_of ones) (streams_of ones) ≡ map (λ (o : One). (read_of o).flow) ones
all_flows_read [] = refl
all_flows_read (o ∷ ones) = ap (λ xs. (read_of o).flow ∷ xs) (all_flows_read ones)

module _ (network : NetworkDomain) (talkers : HasTalkerLinks network) (cycle_time : ℕ) (good : IsDomain (domain_at network cycle_time)) (bounds : List AccessBound)
  where
    abbrev Is : One → Type 0
    Is o = IsOne network bounds (open_domain network) (domain_at network cycle_time) o

    -- one at its edge bridge
    abbrev pub at_edge : One → FlowText
    at_edge o = flow_at_edge (passage_of network bounds (hands_of network.overhead o)) (read_of o).flow

    all_handed : (ones : List One) → All Is ones → handed_of_all (with_cycle cycle_time network) (map read_of ones) ≡ Ok (map (hands_of network.overhead) ones)
    all_handed [] each = refl
    all_handed (o ∷ ones) each =
        let first = handed_back network talkers cycle_time good bounds o (All-head Is o ones each) in
        let rest = all_handed ones (All-tail Is o ones each) in
        (λ i. and_first (first i) (rest i))

    all_alike : (ones : List One) → All Is ones → all_erased (map (hands_of network.overhead) ones) ≡ all_erased (handed_at_each network.overhead (streams_of ones) (entrances_of_ones ones))
    all_alike [] each = refl
    all_alike (o ∷ ones) each =
        let first = erased_back network talkers cycle_time good bounds o (All-head Is o ones each) in
        let rest = all_alike ones (All-tail Is o ones each) in
        (λ i. first i ∷ rest i)

    all_after : (ones : List One) → flows_at_edge (map (passage_of network bounds) (map (hands_of network.overhead) ones)) (map read_of ones) ≡ map at_edge ones
    all_after [] = refl
    all_after (o ∷ ones) = ap (λ xs. at_edge o ∷ xs) (all_after ones)

    -- each is offered in one of some cycles
    one_turned : (o : One) → Is o → IsTurned o.flow
    one_turned o is =
        let good_every : IsGoodEvery o.flow.0.0.every =
        subst IsGoodEvery (sym is.taken.every)
        (every_is_good_in (active_cycles_on cycle_time o.settled) (active_cycles_good cycle_time o.settled.pacing o.settled.traffic is.settles.paced)) in
        record { some = good_every.some; few = good_every.few }

    pub all_turned : (ones : List One) → All Is ones → All IsTurned (flows_of ones)
    all_turned [] each = All-nil IsTurned
    all_turned (o ∷ ones) each =
        All-cons IsTurned o.flow (flows_of ones) (one_turned o (All-head Is o ones each)) (all_turned ones (All-tail Is o ones each))

    -- each comes as it was placed
    some_round : (flow : FlowText) → IsTurned flow → 0 < cycle_time → 0 < flow.0.0.every * cycle_time
    some_round flow turned some =
        let one : 1 ≤ flow.0.0.every = turned.some in
        let more : 1 ≤ cycle_time = some in
        let product : 1 * 1 ≤ flow.0.0.every * cycle_time = mul-le-mul one more in
        omega (arith, product)

    one_comes : (o : One) → 0 < cycle_time → Is o → IsTurned o.flow → ComesAsPlaced cycle_time o.settled o.flow (at_edge o)
    one_comes o some is turned = comes_back network talkers cycle_time good bounds o is (some_round o.flow turned some)

    each_comes : (ones : List One) → 0 < cycle_time → All Is ones → All IsTurned (flows_of ones) → (index : ℕ) (stream : SettledStream) (flow one : FlowText) →
        slice_get (settled_of_ones ones) index ≡ Some stream → slice_get (flows_of ones) index ≡ Some flow → slice_get (map at_edge ones) index ≡ Some one →
        ComesAsPlaced cycle_time stream flow one
    each_comes [] some each turned index stream flow one a b c = absurd cc
    each_comes (o ∷ ones) some each turned zero stream flow one a b c =
        let first = one_comes o some (All-head Is o ones each) (All-head IsTurned o.flow (flows_of ones) turned) in
        subst (λ (x : SettledStream). ComesAsPlaced cycle_time x flow one) (same_Some o.settled stream a)
        (subst₂ (λ (x y : FlowText). ComesAsPlaced cycle_time o.settled x y) (same_Some o.flow flow b) (same_Some (at_edge o) one c) first)
    each_comes (o ∷ ones) some each turned (suc index) stream flow one a b c =
        each_comes ones some (All-tail Is o ones each) (All-tail IsTurned o.flow (flows_of ones) turned) index stream flow one a b c

    pub all_come : (ones : List One) → 0 < cycle_time → All Is ones → All IsTurned (flows_of ones) →
        ComeAsPlaced cycle_time (settled_of_ones ones) (flows_of ones) (map at_edge ones)
    all_come ones some each turned = record {
      as_many = length-map ones at_edge ∙ sym (length-map ones (λ (o : One). o.flow));
      each = each_comes ones some each turned;
    }

    -- so they are asked for as they were
    pub all_asked : (ones : List One) → 0 < cycle_time → All Is ones → All IsTurned (flows_of ones) → map asked_in (map at_edge ones) ≡ map asked_in (flows_of ones)
    all_asked [] some each turned = refl
    all_asked (o ∷ ones) some each turned =
        let first = one_comes o some (All-head Is o ones each) (All-head IsTurned o.flow (flows_of ones) turned) in
        let rest = all_asked ones some (All-tail Is o ones each) (All-tail IsTurned o.flow (flows_of ones) turned) in
        (λ i. asked_by (first.request i) ∷ rest i)

    all_due : (ones : List One) → 0 < cycle_time → All Is ones → All IsTurned (flows_of ones) → deadlines_of (map at_edge ones) ≡ deadlines_of (flows_of ones)
    all_due [] some each turned = refl
    all_due (o ∷ ones) some each turned =
        let first = one_comes o some (All-head Is o ones each) (All-head IsTurned o.flow (flows_of ones) turned) in
        let rest = all_due ones some (All-tail Is o ones each) (All-tail IsTurned o.flow (flows_of ones) turned) in
        (λ i. first.deadline i ∷ rest i)

    all_enough : (ones : List One) → 0 < cycle_time → All Is ones → All IsTurned (flows_of ones) → All (ReservesEnough network.overhead cycle_time) (flows_of ones) →
        All (ReservesEnough network.overhead cycle_time) (map at_edge ones)
    all_enough [] some each turned enough = All-nil (ReservesEnough network.overhead cycle_time)
    all_enough (o ∷ ones) some each turned enough =
        let first = one_comes o some (All-head Is o ones each) (All-head IsTurned o.flow (flows_of ones) turned) in
        All-cons (ReservesEnough network.overhead cycle_time) (at_edge o) (map at_edge ones)
        (enough_there network.overhead cycle_time o.settled o.flow (at_edge o) first (All-head (ReservesEnough network.overhead cycle_time) o.flow (flows_of ones) enough))
        (all_enough ones some (All-tail Is o ones each) (All-tail IsTurned o.flow (flows_of ones) turned)
        (All-tail (ReservesEnough network.overhead cycle_time) o.flow (flows_of ones) enough))

    -- and the plan is as good
    pub all_good : (ones : List One) → 0 < cycle_time → All Is ones → All IsTurned (flows_of ones) →
        IsSoundPlan (settled_of_ones ones) (domain_at network cycle_time) (flows_of ones) → IsGoodPlan (domain_at network cycle_time) (map at_edge ones)
    all_good ones some each turned sound =
        let d = domain_at network cycle_time in
        let enough = all_enough ones some each turned sound.enough in
        record {
          entries = sound.entries;
          admitted = ap (admitted_from d [] 1) (all_asked ones some each turned) ∙ sound.admitted;
          enough = enough;
          none_lacks = none_lacks network.overhead cycle_time 1 (map at_edge ones) enough;
          in_time = subst (λ (due : List (Option ℕ)). All (λ (latency : Latency). is_not_sure latency ≡ false) (latencies_of d (held_in d sound.entries 0) due))
              (sym (all_due ones some each turned)) sound.in_time;
        }

    -- ---- what was chosen may be written

    each_kept : (ones : List One) → 0 < cycle_time → cycle_time ≤ 10000000 → All Is ones → All IsTurned (flows_of ones) → (index : ℕ) (one : FilledStream)
        (s : StreamText) → slice_get (filled_of ones) index ≡ Some one → slice_get (streams_of ones) index ≡ Some s → IsChoice one s
    each_kept [] some short each turned index one s a b = absurd cc
    each_kept (o ∷ ones) some short each turned zero one s a b =
        let here = All-head IsTurned o.flow (flows_of ones) turned in
        let first = choice_kept network talkers cycle_time good bounds o (All-head Is o ones each) here.few short (some_round o.flow here some) in
        subst₂ (λ (x : FilledStream) (y : StreamText). IsChoice x y) (same_Some o.filled one a) (same_Some o.stream s b) first
    each_kept (o ∷ ones) some short each turned (suc index) one s a b =
        each_kept ones some short (All-tail Is o ones each) (All-tail IsTurned o.flow (flows_of ones) turned) index one s a b

    pub all_kept : (ones : List One) → 0 < cycle_time → cycle_time ≤ 10000000 → All Is ones → All IsTurned (flows_of ones) →
        AreChoices (filled_of ones) (streams_of ones)
    all_kept ones some short each turned = record {
      one_each = length-map ones (λ (o : One). o.filled) ∙ sym (length-map ones (λ (o : One). o.stream));
      each = each_kept ones some short each turned;
    }

    -- ---- all of them at their edge bridges

    abbrev pub all_at_edge : List One → EdgeFlowsText
    all_at_edge ones = edges_with (with_cycle cycle_time network) (map read_of ones) (map (hands_of network.overhead) ones)

    pub edges_found : (ones : List One) → All Is ones →
        edge_flows (with_cycle cycle_time network) (each_chosen chosen_network_flow (filled_of ones) (streams_of ones)) ≡ Ok (all_at_edge ones)
    edges_found ones each =
        ap (edge_flows (with_cycle cycle_time network)) (all_read ones)
        ∙ ap (λ r. and_then r (λ handed. Ok (edges_with (with_cycle cycle_time network) (map read_of ones) handed))) (all_handed ones each)

    -- with the bounds with which they were planned
    pub bounds_found : (ones : List One) → All Is ones → bounds ≡ bounds_of network (handed_at_each network.overhead (streams_of ones) (entrances_of_ones ones)) →
        bounds_of network (map (hands_of network.overhead) ones) ≡ bounds
    bounds_found ones each is =
        bounds_alike network (map (hands_of network.overhead) ones) (handed_at_each network.overhead (streams_of ones) (entrances_of_ones ones)) (all_alike ones each) ∙ sym is

    pub flows_found : (ones : List One) → All Is ones → bounds ≡ bounds_of network (handed_at_each network.overhead (streams_of ones) (entrances_of_ones ones)) →
        (all_at_edge ones).flows ≡ map at_edge ones
    flows_found ones each is =
        ap (λ (bs : List AccessBound). flows_at_edge (map (passage_of network bs) (map (hands_of network.overhead) ones)) (map read_of ones)) (bounds_found ones each is)
        ∙ all_after ones

    pub none_found_full : (ones : List One) → All Is ones → bounds ≡ bounds_of network (handed_at_each network.overhead (streams_of ones) (entrances_of_ones ones)) →
        full_station network bounds ≡ None → (all_at_edge ones).full ≡ None
    none_found_full ones each is none = ap (full_station network) (bounds_found ones each is) ∙ none

    -- ---- where no station has an access link, each begins at its edge bridge

    plain_flows : (bs : List AccessBound) (ones : List One) → network.talkers ≡ [] → All Is ones →
        map (λ (one : NetworkFlowText). one.flow) (map read_of ones) ≡ flows_at_edge (map (passage_of network bs) (map (hands_of network.overhead) ones)) (map read_of ones)
    plain_flows bs [] none each = refl
    plain_flows bs (o ∷ ones) none each =
        let first = none_handed network talkers cycle_time good bounds o (All-head Is o ones each) none in
        let rest = plain_flows bs ones none (All-tail Is o ones each) in
        (λ i. flow_at_edge (passage_of network bs (sym first i)) (read_of o).flow ∷ rest i)

    plain_times : (bs : List AccessBound) (ones : List One) → network.talkers ≡ [] → All Is ones →
        map (λ (flow : FlowText). None) (map (λ (one : NetworkFlowText). one.flow) (map read_of ones))
        ≡ map (option_and_then times_by) (map (passage_of network bs) (map (hands_of network.overhead) ones))
    plain_times bs [] none each = refl
    plain_times bs (o ∷ ones) none each =
        let first = none_handed network talkers cycle_time good bounds o (All-head Is o ones each) none in
        let rest = plain_times bs ones none (All-tail Is o ones each) in
        (λ i. option_and_then times_by (passage_of network bs (sym first i)) ∷ rest i)

    plain_handed : (ones : List One) → network.talkers ≡ [] → All Is ones →
        map (λ (flow : FlowText). None) (map (λ (one : NetworkFlowText). one.flow) (map read_of ones)) ≡ map (hands_of network.overhead) ones
    plain_handed [] none each = refl
    plain_handed (o ∷ ones) none each =
        let first = none_handed network talkers cycle_time good bounds o (All-head Is o ones each) none in
        let rest = plain_handed ones none (All-tail Is o ones each) in
        (λ i. sym first i ∷ rest i)

    plain_due : (ones : List One) →
        map (λ (flow : FlowText). flow.0.1) (map (λ (one : NetworkFlowText). one.flow) (map read_of ones))
        ≡ map (λ (one : NetworkFlowText). one.flow.0.1) (map read_of ones)
    plain_due [] = refl
    plain_due (o ∷ ones) = ap (λ xs. (read_of o).flow.0.1 ∷ xs) (plain_due ones)

    pub plain_edges : (ones : List One) → network.talkers ≡ [] → All Is ones → (all_at_edge ones).full ≡ None →
        at_edges (map (λ (one : NetworkFlowText). one.flow) (map read_of ones)) ≡ all_at_edge ones
    plain_edges ones none each open_to =
        let bs = bounds_of network (map (hands_of network.overhead) ones) in
        (λ i. record {
          flows = plain_flows bs ones none each i;
          deadlines = plain_due ones i;
          times = plain_times bs ones none each i;
          handed = plain_handed ones none each i;
          full = sym open_to i;
        })

    -- ---- their deadlines

    deadline_left : (q : Option Passage) (flow : FlowText) → ((x : ℕ) → (flow_at_edge q flow).0.1 ≡ Some x → 1 ≤ x) →
        IsLeft flow.0.1 (flow_at_edge q flow).0.1 (option_and_then times_by q)
    deadline_left None flow some = refl
    deadline_left (Some q) flow some = by (times_by q) flow.0.1 some
      where
        by : (times : Option AccessTimes) (written : Option ℕ) → ((x : ℕ) → left_by times written ≡ Some x → 1 ≤ x) →
            IsLeft written (left_by times written) times
        by None written some = refl
        by (Some times) None some = refl
        by (Some times) (Some deadline) some = (refl, some (deadline - times.most) refl)

    one_left : (o : One) → 0 < cycle_time → Is o → IsTurned o.flow → (x : ℕ) → (at_edge o).0.1 ≡ Some x → 1 ≤ x
    one_left o some is turned x has =
        some_left network talkers cycle_time good bounds o is x (sym (one_comes o some is turned).deadline ∙ has)

    -- those of all streams, as they are read
    abbrev pub AllLeft : List AccessBound → List One → ℕ → Type 0
    AllLeft bs ones n =
        let ps = map (passage_of network bs) (map (hands_of network.overhead) ones) in
        IsLeft (deadline_of (map (λ (one : NetworkFlowText). one.flow.0.1) (map read_of ones)) n)
        (deadline_of (deadlines_of (flows_at_edge ps (map read_of ones))) n) (times_of (map (option_and_then times_by) ps) n)

    left_there : (ones : List One) → 0 < cycle_time → All Is ones → All IsTurned (flows_of ones) → (n : ℕ) → AllLeft bounds ones n
    left_there [] some each turned n = refl
    left_there (o ∷ ones) some each turned zero =
        deadline_left (passage_of network bounds (hands_of network.overhead o)) (read_of o).flow
        (one_left o some (All-head Is o ones each) (All-head IsTurned o.flow (flows_of ones) turned))
    left_there (o ∷ ones) some each turned (suc n) =
        left_there ones some (All-tail Is o ones each) (All-tail IsTurned o.flow (flows_of ones) turned) n

    pub all_left : (ones : List One) → 0 < cycle_time → All Is ones → All IsTurned (flows_of ones) →
        bounds ≡ bounds_of network (handed_at_each network.overhead (streams_of ones) (entrances_of_ones ones)) → (n : ℕ) →
        IsLeft (deadline_of (all_at_edge ones).deadlines n) (deadline_of (deadlines_of (all_at_edge ones).flows) n) (times_of (all_at_edge ones).times n)
    all_left ones some each turned is n =
        subst (λ (bs : List AccessBound). AllLeft bs ones n) (sym (bounds_found ones each is)) (left_there ones some each turned n)

    -- ---- they are planned again

    -- one as it is read to be planned, and at its edge bridge
    abbrev pub again_of : One → StreamText
    again_of o = chosen_stream o.filled o.stream

    pub all_again_read : (ones : List One) → each_chosen chosen_stream (filled_of ones) (streams_of ones) ≡ map again_of ones
    all_again_read [] = refl
    all_again_read (o ∷ ones) = ap (λ xs. again_of o ∷ xs) (all_again_read ones)

    pub all_enter : (ones : List One) → All Is ones → entrances_of (with_cycle cycle_time network) (map again_of ones) ≡ Ok (entrances_of_ones ones)
    all_enter [] each = refl
    all_enter (o ∷ ones) each =
        let first = enters_again network talkers cycle_time good bounds o (All-head Is o ones each) in
        let rest = all_enter ones (All-tail Is o ones each) in
        (λ i. and_first (first i) (rest i))

    pub all_hand : (ones : List One) → handed_at_each network.overhead (map again_of ones) (entrances_of_ones ones) ≡ map (hands_of network.overhead) ones
    all_hand [] = refl
    all_hand (o ∷ ones) = ap (λ xs. hands_of network.overhead o ∷ xs) (all_hand ones)

    -- one at its edge bridge, by its flow there
    abbrev pub arriving : One → StreamText
    arriving o = record {
      name = o.stream.name;
      octets = Some o.filled.request.octets;
      pacing = Given (every_of (again_of o).pacing) (phase_of (again_of o).pacing);
      path = Along (read_of o).flow.0.0.paths;
      talker = o.stream.talker;
      listeners = o.stream.listeners;
      deadline = (at_edge o).0.1;
      traffic = (at_edge o).1;
      shortest = o.stream.shortest;
    }

    pub all_arriving : (ones : List One) → All Is ones →
        streams_at_edge (with_cycle cycle_time network) (entrances_of_ones ones) (map (passage_of network bounds) (map (hands_of network.overhead) ones)) (map again_of ones)
        ≡ map arriving ones
    all_arriving [] each = refl
    all_arriving (o ∷ ones) each =
        let first = after_again network talkers cycle_time good bounds o (All-head Is o ones each) in
        let rest = all_arriving ones (All-tail Is o ones each) in
        (λ i. first i ∷ rest i)

    -- no name was taken before
    abbrev pub AreApart : List (List ℕ) → List One → Type 0
    AreApart before [] = Unit {0}
    AreApart before (o ∷ ones) = (refusal_after (open_domain network) before o.stream.name ≡ None) × AreApart (before ++ o.stream.name ∷ []) ones

    abbrev planned_after : One → StreamText
    planned_after o = stream_at_edge network o.entrance (passage_of network bounds (handed_at network.overhead o.stream o.entrance)) o.stream

    after_named : (o : One) → (planned_after o).name ≡ o.stream.name
    after_named o = by o.entrance
      where
        by : (e : Option Entrance) → (stream_at_edge network e (passage_of network bounds (handed_at network.overhead o.stream o.entrance)) o.stream).name ≡ o.stream.name
        by None = refl
        by (Some e) = refl

    pub all_apart : (before : List (List ℕ)) (ones : List One) (settled : List SettledStream) →
        settled_after network (open_domain network) before (streams_at_edge network (entrances_of_ones ones)
        (map (passage_of network bounds) (handed_at_each network.overhead (streams_of ones) (entrances_of_ones ones))) (streams_of ones)) ≡ Ok settled → AreApart before ones
    all_apart before [] settled h = tt
    all_apart before (o ∷ ones) settled h =
        let more = streams_at_edge network (entrances_of_ones ones)
        (map (passage_of network bounds) (handed_at_each network.overhead (streams_of ones) (entrances_of_ones ones))) (streams_of ones) in
        let both = and_first-Ok (settled_next network (open_domain network) before (planned_after o))
        (settled_after network (open_domain network) (before ++ (planned_after o).name ∷ []) more) settled h in
        let own = settled_by network (open_domain network) before (planned_after o) both.one both.first_is in
        let named = after_named o in
        let rest = ap (λ (n : List ℕ). settled_after network (open_domain network) (before ++ n ∷ []) more) (sym named) ∙ both.others_are in
        (ap (refusal_after (open_domain network) before) (sym named) ∙ own.stands, all_apart (before ++ o.stream.name ∷ []) ones both.more rest)

    -- so all are settled again
    abbrev d : Domain
    d = domain_at network cycle_time

    settled_one : (before : List (List ℕ)) (o : One) → 0 < cycle_time → Is o → IsTurned o.flow → IsAllowed d (at_edge o).0.0 →
        refusal_after d before o.stream.name ≡ None → settled_next (with_cycle cycle_time network) d before (arriving o) ≡ Ok (settled_flow (at_edge o))
    settled_one before o some is turned allowed apart =
        let same = after_request (passage_of network bounds (hands_of network.overhead o)) (read_of o).flow in
        let name : o.stream.name ≡ (at_edge o).0.0.name = ap (λ (r : PacedText). r.name) (sym same) in
        settled_again (with_cycle cycle_time network) d before (arriving o) (at_edge o).0.0 name (ap (λ (r : PacedText). Some r.octets) (sym same))
        (ap (λ (r : PacedText). Given r.every r.phase) (sym same)) (ap (λ (r : PacedText). Along r.paths) (sym same)) allowed
        (ap (refusal_after d before) (sym name) ∙ apart) (one_left o some is turned)

    pub all_settled : (before : List (List ℕ)) (ones : List One) (entries : List Recorded) → 0 < cycle_time → All Is ones → All IsTurned (flows_of ones) →
        AreGranted d entries (map asked_in (map at_edge ones)) → AreApart before ones →
        settled_after (with_cycle cycle_time network) d before (map arriving ones) ≡ Ok (map settled_flow (map at_edge ones))
    all_settled before [] entries some each turned granted apart = refl
    all_settled before (o ∷ ones) entries some each turned granted apart =
        let is = All-head Is o ones each in
        let here = All-head IsTurned o.flow (flows_of ones) turned in
        let allowed = allowed_by d (held_in d entries (seals entries)) (at_edge o).0.0 granted.0 in
        let first = settled_one before o some is here allowed apart.0 in
        let rest = all_settled (before ++ o.stream.name ∷ []) ones (with_asked d entries (asked_in (at_edge o))) some (All-tail Is o ones each)
        (All-tail IsTurned o.flow (flows_of ones) turned) granted.1 apart.1 in
        (λ i. and_first (first i) (rest i))

-- ---- the domain

pub domain_found : (network : NetworkDomain) (cycle_time : ℕ) → longest_guard network < cycle_time →
    domain_of (with_cycle cycle_time network) ≡ domain_at network cycle_time
domain_found network cycle_time above =
    let open_to : nat_lt (longest_guard network) cycle_time ≡ true = lt-ltb (longest_guard network) cycle_time above in
    ap (λ (b : Bool). domain_at network (unwrap_or (cond b (Some cycle_time) None) 0)) open_to
