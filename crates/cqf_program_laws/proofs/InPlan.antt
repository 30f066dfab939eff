-- A stream of a written plan, as its row in a run has it, and its deadlines.
use Rattle.std.proofs.Common.{◌≡◌, ◌≢◌, ◌∙◌, ◌≤◌, ◌∷◌, [], ℕ, Bool, true, false, List, Option, Some, None}
use Rattle.std.proofs.Common.{ap, sym, subst, subst₂, refl, All, Contains, fold, if◌then◌else◌, map, max}
use Rattle.std.specs.Prelude.{option_map, slice_get}
use Rattle.std.specs.Option.{ForSome}
use Rattle.std.proofs.lemmas.List.Elements.{All-contains}
use Rattle.std.proofs.lemmas.Option.{get_or_from_slice_get, slice_get-map}
use Rattle.cqf_lists.specs.Lists.{each_below}
use Rattle.cqf_lists.proofs.Members.{contains_filter, contains_flat, contains_map, find_member, index_of_member}
use Rattle.cqf_lists.proofs.Pairs.{one_of_pairs}
use Rattle.cqf_model.specs.declared.frames.Background.{Background}
use Rattle.cqf_model.specs.declared.frames.Offer.{Offer}
use Rattle.cqf_model.specs.declared.frames.Offered.{Offered}
use Rattle.cqf_model.specs.declared.topology.Hop.{Hop}
use Rattle.cqf_model.specs.declared.topology.Node.TheVariants.{Station}
use Rattle.cqf_model.specs.declared.topology.Pace.{Pace}
use Rattle.cqf_model.specs.declared.topology.Row.{Row}
use Rattle.cqf_model.specs.Domain.{Domain, end_of, is_text}
use Rattle.cqf_model.specs.History.{Asked, Recorded, held_in, most_beside, pace_of, tables_of}
use Rattle.cqf_model.specs.Limits.{most_every}
use Rattle.cqf_model.specs.Paces.{is_active}
use Rattle.cqf_model.specs.HistoryBook.{run_of_history}
use Rattle.cqf_model.specs.Run.{Run}
use Rattle.cqf_model.specs.Shift.{offer_cycle}
use Rattle.cqf_model.specs.Table.{IsHop, reserved_in, table_of, uses}
use Rattle.cqf_laws_history.specs.StateLaws.{GrantedFindsRoom, GrantedIsHeld, HistoryGoesOn, SealsAreCounted}
use Rattle.cqf_laws_timing.specs.Latency.{least_of, most_of}
use Rattle.cqf_laws_timing.specs.Streams.{AdmitsOnly, AdmittedHaveNames, AreGranted, IsOfList, ListCostsItsTable, RowsAreOfList, most_beside_all}
use Rattle.cqf_laws_timing.specs.Verdicts.{InTime, Late, MayBeLate, Sure, sure_of, sure_on}
use Rattle.cqf_laws_timing.specs.Traffic.{needed}
use Rattle.cqf_laws_timing.specs.Reported.{planned_rows}
use Rattle.cqf_traffic.specs.FlowsText.{FlowText}
use Rattle.cqf_traffic.specs.TrafficText.{TrafficText, promise_of}
use Rattle.cqf_program_plans.specs.declared.latency.latencies.Latency.{Latency}
use Rattle.cqf_program_plans.specs.Latency.Text.{deadline_of, is_not_sure, is_station, latencies_of, latencies_of_row, latency_to, listeners_of, may_miss}
use Rattle.cqf_program_plans.specs.Latency.Text.{said_of_latency}
use Rattle.cqf_program_offers.specs.OffersOutput.{asked_in}
use Rattle.cqf_program_laws.specs.PlanLaws.{IsKeptPlan, IsPromised}
use Rattle.cqf_program_laws.proofs.Judged.{all_granted}
use Rattle.cqf_program_laws.proofs.PlannedRows.{HasItsRow, plan_has_row}

-- ---- deadlines that surely hold

in_time_if_sure : (sure : Sure) → may_miss (Some (said_of_latency sure)) ≡ false → sure ≡ InTime
in_time_if_sure InTime e = refl
in_time_if_sure Late e = absurd (cc)
in_time_if_sure MayBeLate e = absurd (cc)

-- a latency whose frames may not miss its deadline
keeps_deadline : (latency : Latency) (most : ℕ) → is_not_sure latency ≡ false → latency.deadline ≡ Some most →
    sure_of latency.least latency.most most ≡ InTime
keeps_deadline latency most e is =
    in_time_if_sure (sure_of latency.least latency.most most)
    (ap (λ (o : Option ℕ). may_miss (option_map (λ (deadline : ℕ). said_of_latency (sure_of latency.least latency.most deadline)) o)) (sym is) ∙ e)

-- the plan's deadline of a stream holds at the last link of each branch
module _ (costs : ListCostsItsTable) (d : Domain) (flows : List FlowText) (plan : IsKeptPlan d flows) (granted : AreGranted d [] (map asked_in flows))
    (index : ℕ) (flow : FlowText) (there : slice_get flows index ≡ Some flow)
    (has : HasItsRow d (planned_rows d (map asked_in flows)) index (asked_in flow)) where
  abbrev streams : List Asked
  streams = map asked_in flows

  abbrev rows : List Row
  rows = planned_rows d (map asked_in flows)

  abbrev deadlines : List (Option ℕ)
  deadlines = map (λ (f : FlowText). f.0.1) flows

  -- no frame of the plan may miss its deadline
  all_sure : All (λ (latency : Latency). is_not_sure latency ≡ false) (latencies_of d rows deadlines)
  all_sure =
      let is = (all_granted d [] plan.entries 1 streams plan.admitted).1 in
      subst (λ (entries : List Recorded). All (λ (latency : Latency). is_not_sure latency ≡ false) (latencies_of d (held_in d entries 0) deadlines)) is
      plan.in_time

  -- the deadline of the stream's row
  is_deadline : (most : ℕ) → flow.0.1 ≡ Some most → deadline_of deadlines has.row.no ≡ Some most
  is_deadline most deadline =
      ap (deadline_of deadlines) has.is_number
      ∙ get_or_from_slice_get deadlines index (Some most) None
      (slice_get-map (λ (f : FlowText). f.0.1) flows index ∙ ap (λ (o : Option FlowText). option_map (λ (f : FlowText). f.0.1) o) there ∙ ap Some deadline)

  -- the most that the rows cost of a link in the stream's own cycles is the most that the list costs
  same_most : (link : ℕ) → most_beside rows has.row.tree.items has.row.pace link ≡ most_beside_all d streams (asked_in flow) link
  same_most link =
      λ i. fold max 0 (each_below (λ k. if uses (has.tree i) (has.pace i) link k then costs d streams link k granted i ∷ [] else []) most_every)

  pub is_sure : (bridges link station : ℕ) → IsHop has.row bridges link → end_of d link ≡ Some (Station station) → (most : ℕ) →
      flow.0.1 ≡ Some most → sure_on d streams (asked_in flow) link bridges most ≡ InTime
  is_sure bridges link station at ends most deadline =
      let row = has.row in
      let to_hop : Hop → Latency = λ hop. latency_to d (most_beside rows row.tree.items row.pace hop.link) row (deadline_of deadlines row.no) hop in
      let at_station : is_station (end_of d at.hop.link) ≡ true = ap (λ (l : ℕ). is_station (end_of d l)) at.is_link ∙ ap is_station ends in
      let among = contains_filter (λ (hop : Hop). is_station (end_of d hop.link)) row.tree.items at.hop at.of_tree at_station in
      let of_row = contains_map to_hop (listeners_of d row) at.hop among in
      let reported = contains_flat (λ (r : Row). latencies_of_row d rows r (deadline_of deadlines r.no)) rows row (to_hop at.hop) has.among of_row in
      let kept = All-contains (λ (latency : Latency). is_not_sure latency ≡ false) (latencies_of d rows deadlines) (to_hop at.hop) all_sure reported in
      let sure = keeps_deadline (to_hop at.hop) most kept (is_deadline most deadline) in
      subst (λ (cost : ℕ). sure_of (least_of d link bridges) (most_of d link bridges cost) most ≡ InTime) (same_most link)
      (subst₂ (λ (l k : ℕ). sure_of (least_of d l k) (most_of d l k (most_beside rows row.tree.items row.pace l)) most ≡ InTime) at.is_link at.is_hop_number sure)

-- ---- the row of a stream in a run

module _ (held : GrantedIsHeld) (goes_on : HistoryGoesOn) (counted : SealsAreCounted) (room : GrantedFindsRoom) (of_list : RowsAreOfList)
    (names : AdmittedHaveNames) (d : Domain) (flows : List FlowText) (entries : List Recorded) (offers : List Offer) (background : List Background)
    (cycles : ℕ) (plan : IsKeptPlan d flows) (only : AdmitsOnly (map asked_in flows) entries) where
  abbrev run : Run
  run = run_of_history d entries offers background cycles

  abbrev all : List Asked
  all = map asked_in flows

  pub all_are_granted : AreGranted d [] all
  all_are_granted = (all_granted d [] plan.entries 1 all plan.admitted).0

  module _ (flow : FlowText) (t : TrafficText) (x : Offered) (row : Row) (promised : IsPromised run flows flow t x row) where
    -- the stream's row in the plan
    pub its_index : (index : ℕ) × (slice_get flows index ≡ Some flow)
    its_index = index_of_member flows flow promised.listed

    pub its_row : HasItsRow d (planned_rows d all) its_index.0 (asked_in flow)
    its_row =
        plan_has_row held goes_on counted room d all all_are_granted its_index.0 (asked_in flow)
        (slice_get-map asked_in flows its_index.0 ∙ ap (λ (o : Option FlowText). option_map asked_in o) its_index.1)

    -- the row in the run's table has the offer's name, and is of the stream
    pub named_row : Contains (table_of (tables_of d entries cycles) (offer_cycle d x)) row × (is_text row.name x.offer.stream ≡ true)
    named_row = find_member (λ (r : Row). is_text r.name x.offer.stream) (table_of (tables_of d entries cycles) (offer_cycle d x)) row promised.at_edge.named

    pub one_asked : (of : IsOfList d all row) → of.asked ≡ asked_in flow
    one_asked of =
        let alike : of.asked.name ≡ flow.0.0.name = sym of.name ∙ promised.name in
        one_of_pairs (λ (a b : Asked). a.name ≢ b.name) all of.asked (asked_in flow) (names d all all_are_granted) of.listed
        (contains_map asked_in flows flow promised.listed) (λ differ. differ alike) (λ differ. differ (sym alike))

    pub enough : needed d.overhead d.cycle_time (promise_of t) ≤ reserved_in row 0 (offer_cycle d x)
    enough =
        let of = of_list d entries all cycles (offer_cycle d x) row only named_row.0 in
        let octets : row.octets ≡ flow.0.0.octets = of.octets ∙ ap (λ (a : Asked). a.octets) (one_asked of) in
        let active_cycle : is_active row.pace 0 (offer_cycle d x) ≡ true =
        ap (λ (p : Pace). is_active p 0 (offer_cycle d x)) (of.pace ∙ ap pace_of (one_asked of)) ∙ promised.in_turn in
        let same : reserved_in row 0 (offer_cycle d x) ≡ flow.0.0.octets = ap (λ (b : Bool). if b then row.octets else 0) active_cycle ∙ octets in
        let needs : needed d.overhead d.cycle_time (promise_of t) ≤ flow.0.0.octets =
        All-contains (λ (f : FlowText). ForSome f.1 (λ (u : TrafficText). needed d.overhead d.cycle_time (promise_of u) ≤ f.0.0.octets)) flows flow plan.enough
        promised.listed t promised.has in
        subst (λ (octets : ℕ). needed d.overhead d.cycle_time (promise_of t) ≤ octets) (sym same) needs
