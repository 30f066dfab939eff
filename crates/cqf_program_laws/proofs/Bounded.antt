-- The times that arrived frames took are within the bounds of their row.
use Rattle.std.proofs.Common.{◌≡◌, ◌≢◌, ◌∙◌, ◌∷◌, ◌≤◌, [], ℕ, Bool, true, false, Contains, List, Some, None, Option, ap, arith, filter, if◌then◌else◌, length, refl, subst, subst₂, sym}
use Rattle.std.specs.Prelude.{◌&&◌, fold, max, min, nat_le, not}
use Rattle.std.proofs.Math.Nat.{le-min, max-le}
use Rattle.std.proofs.lemmas.Bool.{not-false}
use Rattle.std.proofs.lemmas.Option.{same_Some}
use Rattle.cqf_lists.specs.Lists.{each_below, or_else}
use Rattle.cqf_lists.proofs.Least.{or_else_none}
use Rattle.cqf_lists.proofs.Members.{contains_from_filter, contains_from_flat, contains_from_map, contains_here, contains_later, contains_none, contains_one, find_member}
use Rattle.cqf_lists.proofs.Pairs.{one_of_pairs}
use Rattle.cqf_units.specs.Name.{is_name}
use Rattle.cqf_units.specs.declared.timing.Nanos.{Nanos}
use Rattle.cqf_model.specs.declared.frames.Offered.{Offered}
use Rattle.cqf_model.specs.declared.limits.Limits.{Limits}
use Rattle.cqf_model.specs.declared.topology.Hop.{Hop}
use Rattle.cqf_model.specs.declared.topology.Row.{Row}
use Rattle.cqf_model.specs.Book.{Contents}
use Rattle.cqf_model.specs.Domain.{Domain, end_of, is_text}
use Rattle.cqf_model.specs.History.{Asked, is_pace, refused_if}
use Rattle.cqf_model.specs.Limits.{least_reserved, most_every, most_reserved}
use Rattle.cqf_model.specs.Run.{Run}
use Rattle.cqf_model.specs.declared.history.Refused.{Refused}
use Rattle.cqf_model.specs.declared.history.Refused.TheVariants.{BadName, BadOctets, BadPace}
use Rattle.cqf_model.specs.Shift.{InShift, offer_cycle, row_for}
use Rattle.cqf_model.specs.Table.{IsTree, table_of, uses}
use Rattle.cqf_model.specs.Policing.{numbered}
use Rattle.cqf_model.proofs.Texts.{is_text_same}
use Rattle.cqf_laws_history.specs.HistoryLaws.{TablesAreOrderly}
use Rattle.cqf_laws_history.specs.StateLaws.{granted_row}
use Rattle.cqf_laws_history.proofs.Granted.{refused_if_none}
use Rattle.cqf_laws_timing.specs.Latency.{IsTimely, least_of, most_of, whole_of}
use Rattle.cqf_laws_timing.specs.Streams.{AdmitsOnly, ArePaced, HistoryIsTimely, IsOfList, RowsAreOfList, cost_of_all, most_beside_all}
use Rattle.cqf_laws_shift.proofs.Came.{one_number}
use Rattle.cqf_topology.specs.PlannedText.{PlannedText}
use Rattle.cqf_admission.specs.Branches.{tree_refusal}
use Rattle.cqf_admission.specs.Judging.{form_refusal}
use Rattle.cqf_program_scenario.specs.Calls.{history_of}
use Rattle.cqf_program_scenario.specs.Scenario.{Scenario}
use Rattle.cqf_program_plans.specs.EndNames.{name_of_end}
use Rattle.cqf_program_plans.specs.Latency.Input.{asked_in}
use Rattle.cqf_program_plans.specs.Latency.Text.{is_station, listeners_of}
use Rattle.cqf_program_runs.specs.declared.deliveries.delivery.Delivery.{Delivery}
use Rattle.cqf_program_runs.specs.declared.deliveries.delivery.Journey.{Journey}
use Rattle.cqf_program_runs.specs.declared.deliveries.delivery.Passage.{Passage}
use Rattle.cqf_program_runs.specs.declared.deliveries.delivery.Passage.TheVariants as passage
use Rattle.cqf_program_runs.specs.Deliveries.ArrivalLaws.{ArrivalsAreTheShift, IsArrivalOfOffer, has_come}
use Rattle.cqf_program_runs.specs.Deliveries.{deadline_named, deliveries_of, end_of_journey, end_of_passage, fate_of, latency_of, whole_instant}
use Rattle.cqf_program_runs.specs.Deliveries.PlannedScenario.{run_of_scenario}
use Rattle.cqf_program_runs.proofs.Arrived.{at_start, come_by}
use Rattle.cqf_program_runs.proofs.Listeners.{one_listener}
use Rattle.cqf_program_laws.specs.ScriptLaws.{HistoriesAdmitOnly, HistoriesAreLegal, ScriptsAskOnly}
use Rattle.cqf_program_summary.specs.declared.summary.fares.Listener.{Listener}
use Rattle.cqf_program_summary.specs.declared.summary.fares.ListenerPath.{ListenerPath}
use Rattle.cqf_program_summary.specs.declared.summary.tallies.LatencySummary.{LatencySummary}
use Rattle.cqf_program_summary.specs.Summary.{Fare, deliveries_named, fare_of, listener_to, listeners_by, name_of_listener, offers_within, path_to, paths_of}
use Rattle.cqf_program_laws.specs.SummaryLaws.{IsReadRun, LatenciesAreBounded}
use Rattle.cqf_program_summary.specs.Summary.Tallies.{latencies_to, latency_by, latency_on, reaches, taken_of}
use Rattle.cqf_program_summary.specs.Summary.Written.{is_good, row_of_stream, row_unless, written_cost, written_streams}
use Rattle.cqf_program_laws.proofs.RowLaws.{IsOwnRow, admits_written, no_refusal, own_row}

-- if something holds of each of some numbers, their least is no less than a lower bound, and their most no more than an upper one
least_of_all : (low m : ℕ) (ns : List ℕ) → low ≤ m → ((n : ℕ) → Contains ns n → low ≤ n) → low ≤ fold min m ns
least_of_all low m [] first each = first
least_of_all low m (n ∷ ns) first each = least_of_all low (min m n) ns (le-min first (each n (contains_here n ns))) (λ k c. each k (contains_later n ns k c))

most_of_all : (high m : ℕ) (ns : List ℕ) → m ≤ high → ((n : ℕ) → Contains ns n → n ≤ high) → fold max m ns ≤ high
most_of_all high m [] first each = first
most_of_all high m (n ∷ ns) first each = most_of_all high (max m n) ns (max-le first (each n (contains_here n ns))) (λ k c. each k (contains_later n ns k c))

-- the least and the most of latencies that are within bounds
taken_within : (low high : ℕ) (ns : List ℕ) (taken : LatencySummary) → taken_of ns ≡ Some taken → ((n : ℕ) → Contains ns n → (low ≤ n) × (n ≤ high)) →
    (low ≤ taken.least) × (taken.most ≤ high)
taken_within low high [] taken is each = absurd cc
taken_within low high (m ∷ ns) taken is each =
    let first = each m (contains_here m ns) in
    let least = least_of_all low m ns first.0 (λ n c. (each n (contains_later m ns n c)).0) in
    let most = most_of_all high m ns first.1 (λ n c. (each n (contains_later m ns n c)).1) in
    let same = same_Some _ taken is in
    (subst (λ (t : LatencySummary). low ≤ t.least) same least, subst (λ (t : LatencySummary). t.most ≤ high) same most)

-- a latency is that of a frame that goes there and is whole
record IsTaken (listener : List ℕ) (y : Delivery) (n : ℕ) : Type 0 where
  journey : Journey
  whole : Nanos
  goes : y.passage ≡ passage.Goes journey
  to : journey.listener ≡ listener
  is : journey.whole ≡ Some whole
  took : n ≡ latency_of y.at.0 whole

taken_by : (listener : List ℕ) (y : Delivery) (n : ℕ) (p : Passage) → y.passage ≡ p → (b : Bool) → reaches (Some listener) p ≡ b →
    Contains (if b then latency_on y.at.0 p else []) n → IsTaken listener y n
taken_by listener y n p goes false there c = absurd (contains_none n c)
taken_by listener y n (passage.Dropped reason) goes true there c = absurd cc
taken_by listener y n (passage.Goes journey) goes true there c = by journey.whole refl c
  where
    by : (o : Option Nanos) → journey.whole ≡ o → Contains (latency_by y.at.0 o) n → IsTaken listener y n
    by None is k = absurd (contains_none n k)
    by (Some whole) is k = record {
      journey = journey;
      whole = whole;
      goes = goes;
      to = is_text_same journey.listener listener there;
      is = is;
      took = sym (contains_one (latency_of y.at.0 whole) n k);
    }

-- a passage has only one journey
one_journey : (a b : Journey) → passage.Goes a ≡ passage.Goes b → a ≡ b
one_journey a b e = cc

-- good streams have a pace
goods_paced : (d : Domain) (reported : List Asked) → ArePaced (filter (is_good d) reported)
goods_paced d reported asked among =
    let good = contains_from_filter (is_good d) reported asked among in
    let named = refused_if (not (is_name asked.name)) BadName in
    let sized = refused_if (not (nat_le least_reserved asked.octets && nat_le asked.octets most_reserved)) BadOctets in
    let paced = refused_if (not (is_pace asked.every asked.phase)) BadPace in
    let following = or_else paced (tree_refusal d asked.paths) in
    let a = or_else_none named (or_else sized following) (no_refusal (form_refusal d asked) good.1) in
    let b = or_else_none sized following a.1 in
    let c = or_else_none paced (tree_refusal d asked.paths) b.1 in
    not-false (is_pace asked.every asked.phase) (refused_if_none (not (is_pace asked.every asked.phase)) BadPace c.0)

-- if there is no listener nothing is taken
none_taken : (ds : List Delivery) → latencies_to None ds ≡ []
none_taken [] = refl
none_taken (y ∷ ds) = none_taken ds

module _ (rows : RowsAreOfList) (timely : HistoryIsTimely) (orderly : TablesAreOrderly) (arrivals : ArrivalsAreTheShift) (asks : ScriptsAskOnly)
    (histories : HistoriesAdmitOnly) (legal_of : HistoriesAreLegal) (limits : Limits) (cycles : ℕ) (input : List ℕ) (s : Scenario) (streams : List PlannedText)
    (book : Contents) (is : IsReadRun limits cycles input s streams book) where
  abbrev d : Domain
  d = s.domain

  abbrev run : Run
  run = run_of_scenario cycles s

  abbrev reported : List Asked
  reported = written_streams (asked_in streams)

  abbrev goods : List Asked
  goods = filter (is_good d) reported

  only : AdmitsOnly goods (history_of cycles s)
  only = admits_written asks histories legal_of limits cycles input s streams book is

  module _ (asked : Asked) (listed : Contains reported asked) (hop : Hop) (among : Contains (listeners_of d (granted_row d 0 0 asked)) hop) where
    -- an arrival there of a frame of the stream
    module _ (y : Delivery) (a : IsArrivalOfOffer run streams book y) (own : is_text a.x.offer.stream asked.name ≡ true)
        (to : name_of_end d a.hop.link ≡ name_of_end d hop.link) where
      row : IsOwnRow d asked a.row
      row = own_row rows cycles s (asked_in streams) only asked listed a.x a.row a.covered own

      tree : IsTree d a.row.tree.items
      tree =
          let member = find_member (λ (r : Row). is_text r.name a.x.offer.stream) (table_of run.tables (offer_cycle d a.x)) a.row a.covered.named in
          (orderly d (history_of cycles s) cycles (legal_of cycles s is.short is.may.room) is.is_book.is_book.sealed).trees (offer_cycle d a.x) a.row member.0

      -- two hops of the tree with one end are the same
      one_end : (b c : Hop) → Contains a.row.tree.items b → Contains a.row.tree.items c → end_of d b.link ≡ end_of d c.link → b ≡ c
      one_end b c cb cc' same = one_of_pairs (λ (x z : Hop). end_of d x.link ≢ end_of d z.link) a.row.tree.items b c tree.reached_once cb cc'
          (λ differ. differ same) (λ differ. differ (sym same))

      one_hop : a.hop ≡ hop
      one_hop =
          let mine = contains_from_filter (λ (h : Hop). is_station (end_of d h.link)) a.row.tree.items a.hop a.among in
          let other = contains_from_filter (λ (h : Hop). is_station (end_of d h.link)) (granted_row d 0 0 asked).tree.items hop among in
          one_end a.hop hop mine.0 (subst (λ (items : List Hop). Contains items hop) (sym row.tree) other.0)
          (one_listener d a.hop.link hop.link is.domain mine.1 other.1 to)

      at : Contains book.starts a.start × (a.start.frame ≡ a.x.frame) × (a.start.link ≡ a.hop.link)
      at = at_start book.starts a.x.frame a.hop.link a.start a.starts

      shift : InShift run (length run.tables) a.start.frame a.start.link a.start.cycle.0
      shift = subst₂ (λ (frame link : ℕ). InShift run (length run.tables) frame link a.start.cycle.0) (sym at.1) (sym at.2) a.in_shift

      one_offer : shift.x ≡ a.x
      one_offer = one_number s.offers shift.x a.x shift.covered.offered a.covered.offered (sym shift.is_frame ∙ at.1)

      one_row : shift.row ≡ a.row
      one_row = same_Some shift.row a.row (sym shift.covered.named ∙ ap (row_for d run.tables) one_offer ∙ a.covered.named)

      one_hop_number : shift.hop_number ≡ hop.hop_number
      one_hop_number =
          let its = shift.is_hop in
          let mine : Contains a.row.tree.items its.hop = subst (λ (r : Row). Contains r.tree.items its.hop) one_row its.of_tree in
          let own_hop = contains_from_filter (λ (h : Hop). is_station (end_of d h.link)) a.row.tree.items a.hop a.among in
          let link : its.hop.link ≡ a.hop.link = its.is_link ∙ at.2 in
          sym its.is_hop_number ∙ ap (λ (h : Hop). h.hop_number) (one_end its.hop a.hop mine own_hop.0 (ap (end_of d) link)) ∙ ap (λ (h : Hop). h.hop_number) one_hop

      one_link : a.start.link ≡ hop.link
      one_link = at.2 ∙ ap (λ (h : Hop). h.link) one_hop

      -- the bound is by the stream's own cycles
      one_cost : (of : IsOfList d goods shift.row) → most_beside_all d goods of.asked hop.link ≡ most_beside_all d goods asked hop.link
      one_cost of =
          let items = sym of.tree ∙ ap (λ (r : Row). r.tree.items) one_row ∙ row.tree in
          let pace = sym of.pace ∙ ap (λ (r : Row). r.pace) one_row ∙ row.pace in
          (λ i. fold max 0 (each_below (λ cycle. if uses (items i) (pace i) hop.link cycle then cost_of_all d goods hop.link cycle ∷ [] else []) most_every))

      -- is within the bounds
      is_timely : IsTimely d hop.link hop.hop_number (most_beside_all d goods asked hop.link) a.x.offer.at.0 (whole_of d a.start)
      is_timely =
          let found = timely d (history_of cycles s) s.offers s.background cycles book goods is.domain.accepted (legal_of cycles s is.short is.may.room)
          is.may.offers is.may.background is.is_book.is_book only (goods_paced d reported) a.start at.0 shift in
          let there : IsTimely d hop.link hop.hop_number (most_beside_all d goods found.0.asked hop.link) shift.x.offer.at.0 (whole_of d a.start) =
          subst₂ (λ (link hop_number : ℕ). IsTimely d link hop_number (most_beside_all d goods found.0.asked link) shift.x.offer.at.0 (whole_of d a.start)) one_link one_hop_number
          found.1 in
          let own = subst (λ (cost : ℕ). IsTimely d hop.link hop.hop_number cost shift.x.offer.at.0 (whole_of d a.start)) (one_cost found.0) there in
          subst (λ (x : Offered). IsTimely d hop.link hop.hop_number (most_beside_all d goods asked hop.link) x.offer.at.0 (whole_of d a.start)) one_offer own

    -- so is each latency there
    latency_within : (n : ℕ) → Contains (latencies_to (Some (name_of_end d hop.link)) (deliveries_named asked.name (deliveries_of run streams book))) n →
        (least_of d hop.link hop.hop_number ≤ n) × (n ≤ most_of d hop.link hop.hop_number (written_cost d reported asked hop.link))
    latency_within n c =
        let from = contains_from_flat (λ (x : Delivery). if reaches (Some (name_of_end d hop.link)) x.passage then latency_on x.at.0 x.passage else [])
        (deliveries_named asked.name (deliveries_of run streams book)) n c in
        let y : Delivery = from.0 in
        let named = contains_from_filter (λ (x : Delivery). is_text x.stream asked.name) (deliveries_of run streams book) y from.1 in
        let t = taken_by (name_of_end d hop.link) y n y.passage refl (reaches (Some (name_of_end d hop.link)) y.passage) refl from.2 in
        let come : has_come (fate_of y) ≡ true =
        ap (λ (p : Passage). has_come (end_of_passage y.at.0 p)) t.goes
        ∙ ap (λ (o : Option Nanos). has_come (end_of_journey y.at.0 o t.journey.deadline)) t.is
        ∙ come_by y.at.0 t.whole t.journey.deadline in
        let a = (arrivals run streams book is.is_book.promise.says).only y named.0 come in
        let stream : y.stream ≡ a.x.offer.stream = ap (λ (z : Delivery). z.stream) a.is in
        let own : is_text a.x.offer.stream asked.name ≡ true = ap (λ (m : List ℕ). is_text m asked.name) (sym stream) ∙ named.1 in
        let path = one_journey _ t.journey (sym (ap (λ (z : Delivery). z.passage) a.is) ∙ t.goes) in
        let to : name_of_end d a.hop.link ≡ name_of_end d hop.link = ap (λ (j : Journey). j.listener) path ∙ t.to in
        let bounds = is_timely y a own to in
        let whole : t.whole ≡ whole_instant d a.start =
        same_Some t.whole (whole_instant d a.start) (sym t.is ∙ sym (ap (λ (j : Journey). j.whole) path)) in
        let instant : t.whole.0 ≡ whole_of d a.start = ap (λ (w : Nanos). w.0) whole in
        let at_is : y.at.0 ≡ a.x.offer.at.0 = ap (λ (z : Delivery). z.at.0) a.is in
        (omega (arith, t.took, instant, at_is, bounds.least), omega (arith, t.took, instant, at_is, bounds.most))

  -- so are the least and the most at a listed listener
  bounded_to : (asked : Asked) → Contains reported asked → (o : Option Refused) → (to : Option Listener) →
      Contains (listeners_by d (written_cost d reported asked) (row_unless d asked o)) to → (taken : LatencySummary) →
      taken_of (latencies_to (name_of_listener to) (deliveries_named asked.name (deliveries_of run streams book))) ≡ Some taken →
      (hop : Hop) × Contains (listeners_of d (granted_row d 0 0 asked)) hop × (to ≡ Some (listener_to d (written_cost d reported asked) hop))
      × (least_of d hop.link hop.hop_number ≤ taken.least) × (taken.most ≤ most_of d hop.link hop.hop_number (written_cost d reported asked hop.link))
  bounded_to asked listed (Some refused) to among taken took =
      let nowhere : None ≡ to = contains_one {X = Option Listener} None to among in
      let none : taken_of (latencies_to (name_of_listener to) (deliveries_named asked.name (deliveries_of run streams book))) ≡ None =
      ap (λ (o : Option Listener). taken_of (latencies_to (name_of_listener o) (deliveries_named asked.name (deliveries_of run streams book)))) (sym nowhere)
      ∙ ap taken_of (none_taken (deliveries_named asked.name (deliveries_of run streams book))) in
      absurd (let both : ◌≡◌ {A = Option LatencySummary} None (Some taken) = sym none ∙ took in cc)
  bounded_to asked listed None to among taken took =
      let found = contains_from_map (λ (hop : Hop). Some (listener_to d (written_cost d reported asked) hop)) (listeners_of d (granted_row d 0 0 asked)) to among in
      let hop : Hop = found.0 in
      let there : taken_of (latencies_to (Some (name_of_end d hop.link)) (deliveries_named asked.name (deliveries_of run streams book))) ≡ Some taken =
      ap (λ (o : Option Listener). taken_of (latencies_to (name_of_listener o) (deliveries_named asked.name (deliveries_of run streams book)))) found.2 ∙ took in
      let bounds = taken_within (least_of d hop.link hop.hop_number) (most_of d hop.link hop.hop_number (written_cost d reported asked hop.link))
      (latencies_to (Some (name_of_end d hop.link)) (deliveries_named asked.name (deliveries_of run streams book))) taken there
      (λ n c. latency_within asked listed hop found.1 n c) in
      (hop, found.1, sym found.2, bounds.0, bounds.1)

-- so of each row
pub latencies_are_bounded : RowsAreOfList → HistoryIsTimely → TablesAreOrderly → ArrivalsAreTheShift → ScriptsAskOnly → HistoriesAdmitOnly →
    HistoriesAreLegal → LatenciesAreBounded
latencies_are_bounded rows timely orderly arrivals asks histories legal_of limits cycles input s streams book fare path taken is of took =
    let d = s.domain in
    let reported = written_streams (asked_in streams) in
    let cost = written_cost d reported in
    let run = run_of_scenario cycles s in
    let ds = deliveries_of run streams book in
    let offers = offers_within d (length run.tables) (numbered run.offers) in
    let stream = contains_from_map (fare_of d cost (deadline_named streams) offers ds) reported fare of.0 in
    let asked : Asked = stream.0 in
    let of_it : Contains (paths_of d (cost asked) (deliveries_named asked.name ds) (row_of_stream d asked)) path =
    subst (λ (f : Fare). Contains f.paths path) (sym stream.2) of.1 in
    let listener = contains_from_map (path_to (deliveries_named asked.name ds)) (listeners_by d (cost asked) (row_of_stream d asked)) path of_it in
    let counted : taken_of (latencies_to (name_of_listener listener.0) (deliveries_named asked.name ds)) ≡ Some taken =
    ap (λ (w : ListenerPath). w.tally.taken) listener.2 ∙ took in
    let b = bounded_to rows timely orderly arrivals asks histories legal_of limits cycles input s streams book is asked stream.1 (form_refusal d asked)
    listener.0 listener.1 taken counted in
    record {
      asked = asked;
      reported = stream.1;
      stream = ap (λ (f : Fare). f.name) stream.2;
      hop = b.0;
      among = b.1;
      listener = listener_to d (cost asked) b.0;
      to = sym (ap (λ (w : ListenerPath). w.to) listener.2) ∙ b.2;
      named = refl;
      least = b.3;
      most = b.4;
    }
