-- Links that go on separately by what arrived at their bridges send what the network sends.
use Rattle.std.proofs.Common.{◌≡◌, ℕ, zero, suc, ◌+◌, ◌-◌, ◌*◌, ◌<◌, ◌≤◌, Bool, true, false, cond, List, length, map, filter, add-one, inl, inr, refl, sym, ap, ap₂, ◌∙◌}
use Rattle.std.proofs.Common.{arith, subst, Contains, eqb-true, sum_by}
use Rattle.std.specs.Prelude.{[], ◌∷◌, ◌++◌, ◌==◌, ◌&&◌, Option, Some, None}
use Rattle.std.specs.List.{flat_map}
use Rattle.std.specs.List.Sorted.{IsNonDecreasingBy, IsPermutation}
use Rattle.std.proofs.lemmas.Bool.{and_parts, cond-false, cond-true, true≢false}
use Rattle.std.proofs.lemmas.List.{map-append}
use Rattle.std.proofs.lemmas.List.Elements.{All-contains, Contains-append_cases, filter-append}
use Rattle.std.proofs.lemmas.List.Sorted.{Contains-permutation, IsPermutation-append_right, IsPermutation-map, IsPermutation-sym, IsPermutation-trans}
use Rattle.std.proofs.lemmas.Simd.{map-map}
use Rattle.cqf_lists.specs.Lists.{each_below}
use Rattle.cqf_lists.proofs.EachBelow.{contains_from_below, filter_none, map_below, same_below}
use Rattle.cqf_lists.proofs.Made.{contains_if_there}
use Rattle.cqf_lists.proofs.Members.{contains_from_filter, contains_from_map, contains_here, contains_later, find_member}
use Rattle.cqf_model.specs.declared.frames.Offered.{Offered}
use Rattle.cqf_model.specs.declared.frames.Sent.{Sent}
use Rattle.cqf_model.specs.declared.topology.Row.{Row}
use Rattle.cqf_model.specs.Book.{batch}
use Rattle.cqf_model.specs.Domain.{Domain, bridge_of, cycle_of, enters, guard_of, octet_time_of}
use Rattle.cqf_model.specs.Network.{Network, QueuedFrame, queued_frame, queued_in}
use Rattle.cqf_model.specs.Run.{IsOffer, Run}
use Rattle.cqf_model.specs.Shift.{row_for}
use Rattle.cqf_model.specs.Table.{row_of, table_of}
use Rattle.cqf_model.specs.Policing.{AtEdge, Carried, Received, Relayed, numbered, offer_received, sent_received, whole_at}
use Rattle.cqf_model.proofs.LinkEnds.{enters_inside}
use Rattle.cqf_model.proofs.Links.{delay_within}
use Rattle.cqf_laws_shift.specs.MainLaw.{GatesMeanTheShift}
use Rattle.cqf_laws_shift.specs.Run.{IsLegalRun}
use Rattle.cqf_laws_shift.proofs.Came.{numbered_member}
use Rattle.cqf_laws_cycle.specs.BridgeCycle.{BatchIsWholeInItsCycle}
use Rattle.cqf_laws_cycle.specs.Gathered.{is_offered_in}
use Rattle.cqf_laws_instants.specs.Instants.{BatchIsDue, FirstBatchIsEmpty, QueueHasRoom, in_turn_from}
use Rattle.cqf_laws_instants.specs.GatheredLaws.{GatheredIsQueued, RelayedGoByTheirTree, gathered_from, gathered_of, gathered_offers, key_of}
use Rattle.cqf_laws_instants.specs.QueueLaws.{covering, covers, following, goes_by, goes_with, if_passes, offered_as, queued_with, row_with_name}
use Rattle.cqf_laws_instants.specs.TakenLaws.{source_of}
use Rattle.cqf_relay.specs.declared.leads.By.TheVariants as ingress
use Rattle.cqf_relay.specs.declared.log.ArrivedFrame.{ArrivedFrame}
use Rattle.cqf_relay.specs.declared.queue.Queued.{Queued}
use Rattle.cqf_relay.specs.Segments.{Sendings, batch_at, came_in}
use Rattle.cqf_relay.specs.Leading.{by_row, leads, same_by}
use Rattle.cqf_relay.specs.Logs.{is_in}
use Rattle.cqf_relay.specs.Offering.{Going, came_of_going, covered_after}
use Rattle.cqf_relay.specs.Queues.{key_of_queued, queued}
use Rattle.cqf_relay.specs.Sending.{came_of, sends_of}
use Rattle.cqf_relay.specs.Standing.{Come, GoesOnBy, comes_by, comes_to, covered_in, rows_of, that_go_on, wire_on}
use Rattle.cqf_laws_relay.specs.Following.{HaveGone, KeptAreCovered, RelaysFollowTheNetwork, covered_of, going_with}
use Rattle.cqf_laws_relay.proofs.Alike.{kept_alike, kept_in_front, one_alike}
use Rattle.cqf_laws_relay.proofs.Known.{goes_as_known, in_some_table, known_tree, none_leads, number_known}
use Rattle.cqf_laws_relay.proofs.Orders.{kept_in_order, lifted, rises_before}
use Rattle.cqf_laws_relay.proofs.InTurn.{IsQueuedAs, sends_in_turn, taken}
use Rattle.cqf_laws_relay.proofs.Ingresses.{by_tree}

-- ---- the frames of a queue

-- a row that passes a test was found
was_found : (test : Row → Bool) (found : Option Row) (row : Row) → if_passes test found ≡ Some row → found ≡ Some row
was_found test None row is = absurd cc
was_found test (Some other) row is = by_test (test other) is
  where
    by_test : (b : Bool) → cond b (Some other) None ≡ Some row → Some other ≡ Some row
    by_test true is = is
    by_test false is = absurd cc

-- the number of a row, if there is one
abbrev number_of : Option Row → ℕ
number_of None = 0
number_of (Some row) = row.no

module _ (run : Run) (l cycle : ℕ) where
  -- the bridge that the link leaves
  abbrev here : ℕ
  here = bridge_of run.domain l

  -- the row by which a frame goes on there
  abbrev row_at : Received → Option Row
  row_at x = row_with_name run here x x.ingress

  -- a frame that arrives there in the cycle, with the number of its row
  abbrev came_at : Received → ArrivedFrame
  came_at x = record {
    cycle = cycle;
    at = x.at - cycle * run.domain.cycle_time;
    frame = x.frame;
    row = number_of (row_at x);
    octets = x.octets;
  }

  -- and with its source
  abbrev queued_at : Received → Queued
  queued_at x = queued (source_of x.ingress) (came_at x)

  -- one that goes on by the link is queued with that row
  queued_so : (x : Received) → goes_by run l x ≡ true → IsQueuedAs (came_at x) (following run l x)
  queued_so x goes = by_row (row_at x) refl
    where
      by_row : (found : Option Row) → row_at x ≡ found → IsQueuedAs (came_at x) (following run l x)
      by_row None is = absurd (true≢false (sym goes ∙ ap (goes_with l x.ingress) is))
      by_row (Some row) is =
          let frame = queued_frame run.domain x row in
          let number : row.no ≡ number_of (row_at x) = sym (ap number_of is) in
          record {
            at = x.at;
            class = frame.arrival.class;
            is =
                cond-true (goes_by run l x) (queued_with run.domain x (row_at x)) [] goes
                ∙ ap (queued_with run.domain x) is
                ∙ ap (λ (n : ℕ). record { arrival = frame.arrival; stream = Some n } ∷ []) number;
          }

  -- a frame that a link brought has its stream's number
  relayed_number : (m : ℕ) (sent : Sent) → goes_by run l (sent_received run.domain m sent) ≡ true →
      sent.stream ≡ number_of (row_at (sent_received run.domain m sent))
  relayed_number m sent goes = by_row (row_at (sent_received run.domain m sent)) refl
    where
      by_row : (found : Option Row) → row_at (sent_received run.domain m sent) ≡ found → sent.stream ≡ number_of found
      by_row None is = absurd (true≢false (sym goes ∙ ap (goes_with l (Relayed m sent.stream)) is))
      by_row (Some row) is =
          let table = table_of run.tables (cycle_of run.domain (whole_at run.domain m sent)) in
          sym (eqb-true row.no sent.stream (find_member (λ (other : Row). other.no == sent.stream) table row is).1)

  -- an offer goes on by its covering row
  edge_row : (x : Offered) → x.offer.bridge ≡ here → row_at (offer_received x) ≡ covering run x
  edge_row x at = ap (λ (b : ℕ). covering run (offered_as b (offer_received x) x.offer.stream)) (sym at)

  -- which is in the cycle's table
  covering_of_cycle : (x : Offered) (row : Row) → cycle_of run.domain x.offer.at.0 ≡ cycle → covering run x ≡ Some row →
      Contains (table_of run.tables cycle) row
  covering_of_cycle x row at is =
      subst (λ (c : ℕ). Contains (table_of run.tables c) row) at
      (find_member _ (table_of run.tables (cycle_of run.domain x.offer.at.0)) row
      (was_found (covers run x) (row_for run.domain run.tables x) row is)).0

-- ---- what arrives at a link

module _ (whole : BatchIsWholeInItsCycle) (relayed : RelayedGoByTheirTree) (means : GatesMeanTheShift) (run : Run) (net : Network)
    (legal : IsLegalRun run net) (l cycle : ℕ) (in_run : cycle < length run.tables) where
  -- the run's domain
  abbrev d : Domain
  d = run.domain

  -- the bridge that the link leaves
  abbrev bridge : ℕ
  bridge = bridge_of d l

  -- what the network's links send in the cycle
  abbrev batches : Carried
  batches m = batch d net.carried m cycle

  -- the offers at the bridge, by index
  abbrev placed : List Offered
  placed = filter (is_offered_in d bridge cycle) (numbered run.offers)

  -- an offer at the bridge in the cycle
  abbrev IsHere : Offered → Type 0
  IsHere x = (x.offer.bridge ≡ bridge) × (cycle_of d x.offer.at.0 ≡ cycle)

  -- so is each of those
  placed_here : (x : Offered) → Contains placed x → Contains (numbered run.offers) x × IsHere x
  placed_here x c =
      let f = contains_from_filter (is_offered_in d bridge cycle) (numbered run.offers) x c in
      let both = and_parts (x.offer.bridge == bridge) (cycle_of d x.offer.at.0 == cycle) f.1 in
      (f.0, (eqb-true x.offer.bridge bridge both.0, eqb-true (cycle_of d x.offer.at.0) cycle both.1))

  -- a frame of the queue goes on by the link, and has at most 1,522 octets
  record IsOfGathered (x : Received) : Type 0 where
    goes : goes_by run l x ≡ true
    small : x.octets ≤ 1522

  -- an offer is
  offer_small : (x : Offered) → Contains (numbered run.offers) x → x.offer.octets ≤ 1522
  offer_small x c = (All-contains (IsOffer d) run.offers x.offer legal.offered (numbered_member run.offers x c).0).most

  -- so what a link sends is
  sent_small : (m : ℕ) (sent : Sent) → Contains (batches m) sent → sent.octets ≤ 1522
  sent_small m sent c =
      let shift = means run net legal in
      let f = contains_from_filter (λ (y : Sent). cycle_of d y.start.0 == cycle) (net.carried m) sent c in
      let w = shift.only sent.frame m (cycle_of d sent.start.0) (record { sent = sent; is_sent = f.0; is_frame = refl; is_cycle = refl }) in
      omega (arith, offer_small w.x w.covered.offered, shift.octets m sent w.x f.0 w.covered.offered w.is_frame)

  -- each frame of the queue is such
  of_gathered : (x : Received) → Contains (gathered_of run batches l cycle) x → IsOfGathered x
  of_gathered x c = elim (Contains-append_cases (each_below (gathered_from run batches l) (length d.links)) (gathered_offers run l cycle) x c) [
    | inl k ↦
        let r = contains_from_below (gathered_from run batches l) (length d.links) x k in
        let goes = λ (sent : Sent). goes_by run l (sent_received d r.0 sent) in
        let kept = map (sent_received d r.0) (filter goes (batches r.0)) in
        let there = contains_if_there (enters d r.0 bridge) kept x r.2 in
        let s = contains_from_map (sent_received d r.0) (filter goes (batches r.0)) x there.1 in
        let f = contains_from_filter goes (batches r.0) s.0 s.1 in
        subst IsOfGathered s.2 (record { goes = f.1; small = sent_small r.0 s.0 f.0 })
    | inr k ↦
        let goes = λ (y : Offered). goes_by run l (offer_received y) in
        let s = contains_from_map offer_received (filter goes placed) x k in
        let f = contains_from_filter goes placed s.0 s.1 in
        subst IsOfGathered s.2 (record { goes = f.1; small = offer_small s.0 (placed_here s.0 f.0).0 })
  ]

  module _ (count : ℕ) (come_by : cycle < count) (counted : count ≤ length run.tables) where
    -- the rows of the tables that had arrived
    abbrev rows : List Row
    rows = rows_of run.tables count

    -- what a link brought goes on by the known row of its number
    goes_with_known : (m : ℕ) (sent : Sent) → enters d m bridge ≡ true → Contains (batches m) sent →
        goes_by run l (sent_received d m sent) ≡ goes_with l (Relayed m sent.stream) (row_of rows sent.stream)
    goes_with_known m sent enter inside = by_known (row_of rows sent.stream) refl
      where
        of_cycle : goes_by run l (sent_received d m sent)
            ≡ goes_with l (Relayed m sent.stream) (row_of (table_of run.tables cycle) sent.stream)
        of_cycle =
            ap (λ (c : ℕ). goes_with l (Relayed m sent.stream) (row_of (table_of run.tables c) sent.stream))
            (whole run (length run.tables) cycle m net sent (record { accepted = legal.accepted; legal = legal.legal }) inside)

        by_known : (found : Option Row) → row_of rows sent.stream ≡ found →
            goes_by run l (sent_received d m sent) ≡ goes_with l (Relayed m sent.stream) found
        by_known None is = of_cycle ∙ by_table (row_of (table_of run.tables cycle) sent.stream) refl
          where
            by_table : (other : Option Row) → row_of (table_of run.tables cycle) sent.stream ≡ other → goes_with l (Relayed m sent.stream) other ≡ false
            by_table None same = refl
            by_table (Some row) same =
                let member = find_member (λ (it : Row). it.no == sent.stream) (table_of run.tables cycle) row same in
                let w = number_known run.tables count counted cycle row come_by member.0 in
                let again : row_of rows row.no ≡ None = ap (row_of rows) (eqb-true row.no sent.stream member.1) ∙ is in
                let never : Some w.0 ≡ None = sym w.1 ∙ again in
                absurd cc
        by_known (Some row) is =
            let member = find_member (λ (it : Row). it.no == sent.stream) rows row is in
            let there = in_some_table run.tables count counted row member.0 in
            (relayed run net l m cycle there.0 sent row legal in_run enter inside there.1 (eqb-true row.no sent.stream member.1)).goes

    -- so the test by the known rows is that of the network
    asked_alike : (m : ℕ) (sent : Sent) → enters d m bridge ≡ true → Contains (batches m) sent →
        same_by (by_row l (row_of rows sent.stream)) (ingress.Link m) ≡ goes_by run l (sent_received d m sent)
    asked_alike m sent enter inside =
        goes_as_known run.tables count counted d legal.orderly l m sent.stream ∙ sym (goes_with_known m sent enter inside)

    module _ (come : Come) (brought : (m : ℕ) → enters d m bridge ≡ true →
        filter (is_in cycle) (come.brought m) ≡ map (came_in d m cycle) (batches m)) where
      -- what arrives by a link
      comes_from : (m : ℕ) → comes_by d bridge come rows l cycle m ≡ map (queued_at run l cycle) (gathered_from run batches l m)
      comes_from m = by_tests (enters d m bridge) (leads rows m l) refl refl
        where
          by_tests : (e f : Bool) → enters d m bridge ≡ e → leads rows m l ≡ f →
              cond (e && f) (that_go_on rows l (ingress.Link m) m (filter (is_in cycle) (come.brought m))) []
              ≡ map (queued_at run l cycle)
              (cond e (map (sent_received d m) (filter (λ (sent : Sent). goes_by run l (sent_received d m sent)) (batches m))) [])
          by_tests true true enter lead =
              ap (that_go_on rows l (ingress.Link m) m) (brought m enter)
              ∙ kept_alike (came_in d m cycle) (sent_received d m)
              (λ (came : ArrivedFrame). same_by (by_row l (row_of rows came.row)) (ingress.Link m)) (goes_by run l) (queued m) (queued_at run l cycle) (batches m)
              (λ sent c. asked_alike m sent enter c)
              (λ sent c is. ap (λ (n : ℕ). queued m (record {
                cycle = cycle;
                at = whole_at d m sent - cycle * d.cycle_time;
                frame = sent.frame;
                row = n;
                octets = sent.octets;
              })) (relayed_number run l cycle m sent is))
          by_tests true false enter lead =
              sym (ap (λ (sents : List Sent). map (queued_at run l cycle) (map (sent_received d m) sents))
              (filter_none (λ (sent : Sent). goes_by run l (sent_received d m sent)) (batches m) (λ sent c.
              goes_with_known m sent enter c ∙ none_leads run.tables count counted m l sent.stream lead)))
          by_tests false f enter lead = refl

      -- and by all
      comes_from_links : each_below (comes_by d bridge come rows l cycle) (length d.links)
          ≡ map (queued_at run l cycle) (each_below (gathered_from run batches l) (length d.links))
      comes_from_links =
          same_below (comes_by d bridge come rows l cycle) (λ m. map (queued_at run l cycle) (gathered_from run batches l m))
          (length d.links) (λ m less. comes_from m)
          ∙ sym (map_below (queued_at run l cycle) (gathered_from run batches l) (length d.links))

    -- whether a frame at the edge goes on, by the known rows
    abbrev at_edge : ArrivedFrame → Bool
    at_edge came = same_by (by_row l (row_of rows came.row)) ingress.Edge

    -- what goes on of covered offers
    abbrev edge_of : List Going → List Queued
    edge_of goings = that_go_on rows l ingress.Edge 4096 (map (came_of_going d cycle) goings)

    -- some before others
    edge_append : (xs ys : List Going) → edge_of (xs ++ ys) ≡ edge_of xs ++ edge_of ys
    edge_append xs ys =
        let put = came_of_going d cycle in
        ap (λ (zs : List ArrivedFrame). map (queued 4096) (filter at_edge zs)) (map-append put xs ys)
        ∙ ap (map (queued 4096)) (filter-append at_edge (map put xs) (map put ys))
        ∙ map-append (queued 4096) (filter at_edge (map put xs)) (filter at_edge (map put ys))

    -- what goes on of one offer
    one_offer : (x : Offered) → IsHere x →
        edge_of (going_with (offer_received x) (covering run x)) ≡ cond (goes_by run l (offer_received x)) (queued_at run l cycle (offer_received x) ∷ []) []
    one_offer x at = by_row (covering run x) refl
      where
        ingress_of : goes_by run l (offer_received x) ≡ goes_with l (AtEdge x.offer.stream) (covering run x)
        ingress_of = ap (goes_with l (AtEdge x.offer.stream)) (edge_row run l cycle x at.0)

        by_row : (found : Option Row) → covering run x ≡ found →
            edge_of (going_with (offer_received x) found) ≡ cond (goes_by run l (offer_received x)) (queued_at run l cycle (offer_received x) ∷ []) []
        by_row None is =
            sym (cond-false (goes_by run l (offer_received x)) (queued_at run l cycle (offer_received x) ∷ []) []
            (ingress_of ∙ ap (goes_with l (AtEdge x.offer.stream)) is))
        by_row (Some row) is =
            let g : Going = record { received = offer_received x; row = row } in
            let put = came_of_going d cycle g in
            let member = covering_of_cycle run l cycle x row at.1 is in
            let asked : at_edge put ≡ goes_by run l (offer_received x) =
            ap (λ by. same_by by ingress.Edge) (known_tree run.tables count counted d legal.orderly l cycle row come_by member)
            ∙ by_tree l None d row.tree.items (legal.orderly.trees cycle row member)
            ∙ sym (ingress_of ∙ ap (goes_with l (AtEdge x.offer.stream)) is) in
            let number : row.no ≡ number_of (row_at run l cycle (offer_received x)) = sym (ap number_of (edge_row run l cycle x at.0 ∙ is)) in
            one_alike (queued 4096) put (queued_at run l cycle (offer_received x)) (at_edge put) (goes_by run l (offer_received x)) asked
            (ap (λ (n : ℕ). queued 4096 (record { cycle = put.cycle; at = put.at; frame = put.frame; row = n; octets = put.octets })) number)

    -- and of some offers
    some_offers : (xs : List Offered) → ((x : Offered) → Contains xs x → IsHere x) →
        edge_of (flat_map (λ (x : Offered). going_with (offer_received x) (covering run x)) xs)
        ≡ map (queued_at run l cycle) (map offer_received (filter (λ (x : Offered). goes_by run l (offer_received x)) xs))
    some_offers [] at = refl
    some_offers (x ∷ xs) at =
        let made = λ (y : Offered). going_with (offer_received y) (covering run y) in
        let goes = λ (y : Offered). goes_by run l (offer_received y) in
        edge_append (made x) (flat_map made xs)
        ∙ ap₂ (λ (ys zs : List Queued). ys ++ zs) (one_offer x (at x (contains_here x xs))) (some_offers xs (λ y c. at y (contains_later x xs y c)))
        ∙ kept_in_front offer_received (queued_at run l cycle) x (filter goes xs) (goes x)

    -- so for those that the run's rows cover
    edge_is : edge_of (covered_of run bridge cycle) ≡ map (queued_at run l cycle) (gathered_offers run l cycle)
    edge_is = some_offers placed (λ x c. (placed_here x c).1)

    -- in any order
    edge_moves : (goings : List Going) → IsPermutation goings (covered_of run bridge cycle) →
        IsPermutation (map (queued_at run l cycle) (gathered_offers run l cycle)) (edge_of goings)
    edge_moves goings moved =
        let all = covered_of run bridge cycle in
        let put = came_of_going d cycle in
        subst (λ (qs : List Queued). IsPermutation qs (edge_of goings)) edge_is
        (IsPermutation-sym (edge_of goings) (edge_of all)
        (IsPermutation-map (queued 4096) (filter at_edge (map put goings)) (filter at_edge (map put all))
        (kept_in_order at_edge (map put goings) (map put all) (IsPermutation-map put goings all moved))))

    -- all that arrives is the queue, in some order
    all_comes : (come : Come) → ((m : ℕ) → enters d m bridge ≡ true →
        filter (is_in cycle) (come.brought m) ≡ map (came_in d m cycle) (batches m)) →
        IsPermutation (covered_in d bridge come cycle) (covered_of run bridge cycle) →
        IsPermutation (map (queued_at run l cycle) (gathered_of run batches l cycle)) (comes_to d bridge come rows l cycle)
    all_comes come brought moved =
        let from_links = each_below (gathered_from run batches l) (length d.links) in
        let offers = gathered_offers run l cycle in
        let put = queued_at run l cycle in
        let edge = edge_of (covered_in d bridge come cycle) in
        subst (λ (qs : List Queued). IsPermutation qs (each_below (comes_by d bridge come rows l cycle) (length d.links) ++ edge))
        (ap (λ (qs : List Queued). qs ++ map put offers) (comes_from_links come brought) ∙ sym (map-append put from_links offers))
        (IsPermutation-append_right (each_below (comes_by d bridge come rows l cycle) (length d.links))
        (map put offers) edge (edge_moves (covered_in d bridge come cycle) moved))

-- ---- cycle by cycle

module _ (whole : BatchIsWholeInItsCycle) (relayed : RelayedGoByTheirTree) (gathered : GatheredIsQueued) (first : FirstBatchIsEmpty) (due : BatchIsDue)
    (room : QueueHasRoom) (means : GatesMeanTheShift) (kept : KeptAreCovered) (run : Run) (net : Network) (sends : Sendings) (come : ℕ → Come)
    (legal : IsLegalRun run net) (few : length run.offers < 16777216) (gone : HaveGone run sends come) where
  -- what a link sends by what arrived is what the network sends, if the cycle before was the network's
  sends_next : (l cycle : ℕ) (sent : List Sent) → l < length run.domain.links → cycle + 1 < length run.tables →
      ((m : ℕ) → m < length run.domain.links → batch_at (sends m) cycle ≡ batch run.domain net.carried m cycle) →
      GoesOnBy run.domain (bridge_of run.domain l) (come (bridge_of run.domain l)) l cycle sent → sent ≡ batch run.domain net.carried l (cycle + 1)
  sends_next l cycle sent is_link later before on =
      let d = run.domain in
      let bridge = bridge_of d l in
      let c = come bridge in
      let has = gone.has_come bridge in
      let in_run : cycle < length run.tables = omega (arith, later) in
      let batches : Carried = λ m. batch d net.carried m cycle in
      let put = queued_at run l cycle in
      let counted : on.count ≤ length run.tables = omega (arith, on.within, ap length has.tables) in
      let brought : (m : ℕ) → enters d m bridge ≡ true → filter (is_in cycle) (c.brought m) ≡ map (came_in d m cycle) (batches m) =
      λ m enter. has.brought m cycle enter ∙ ap (map (came_in d m cycle)) (before m (enters_inside d m bridge enter)) in
      let covered : IsPermutation (covered_in d bridge c cycle) (covered_of run bridge cycle) =
      subst (λ (xs : List Going). IsPermutation xs (covered_of run bridge cycle))
      (sym (ap₂ (λ (table : List Row) (xs : List Offered). covered_after d bridge cycle table [] xs)
      (ap (λ (tables : List (List Row)). table_of tables cycle) has.tables) (has.offers cycle in_run)))
      (kept run net bridge cycle legal in_run) in
      let queue : IsPermutation (comes_to d bridge c (rows_of run.tables on.count) l cycle) on.sorted =
      subst (λ (tables : List (List Row)). IsPermutation (comes_to d bridge c (rows_of tables on.count) l cycle) on.sorted) has.tables on.is_queue in
      let all = gathered_of run batches l cycle in
      let moved : IsPermutation (map put all) on.sorted =
      IsPermutation-trans (map put all) (comes_to d bridge c (rows_of run.tables on.count) l cycle) on.sorted
      (all_comes whole relayed means run net legal l cycle in_run on.count on.had_table counted c brought covered) queue in
      let w = lifted put all on.sorted moved in
      let rise : IsNonDecreasingBy (key_of (cycle * d.cycle_time)) w.0 =
      rises_before key_of_queued put w.0 (subst (λ (qs : List Queued). IsNonDecreasingBy key_of_queued qs) (sym w.2) on.in_order) in
      let queued_then : queued_in run net.carried l cycle ≡ flat_map (following run l) w.0 =
      gathered run net l cycle batches w.0 legal in_run few (λ m enter. refl) w.1 rise in
      let each : (x : Received) → Contains w.0 x → IsQueuedAs (came_at run l cycle x) (following run l x) × (x.octets ≤ 65535) =
      λ x k. (
      let of = of_gathered whole relayed means run net legal l cycle in_run x (Contains-permutation w.0 all x (IsPermutation-sym all w.0 w.1) k) in
      (queued_so run l cycle x of.goes, omega (arith, of.small))
      ) in
      let has_room = (room run net l cycle legal in_run).in_time in
      on.sends
      ∙ ap (λ (qs : List Queued). sends_of (wire_on d l) (cycle + 1) 0 (map came_of qs)) (sym w.2)
      ∙ ap (sends_of (wire_on d l) (cycle + 1) 0) (map-map came_of put w.0)
      ∙ sends_in_turn (wire_on d l) (cycle + 1) (guard_of d l) (came_at run l cycle) (following run l) (delay_within d l legal.accepted is_link) w.0 0
      ((cycle + 1) * d.cycle_time) each (omega arith) (omega (arith, has_room, ap (λ (qs : List QueuedFrame). sum_by (taken (octet_time_of d l)) qs) queued_then))
      ∙ ap (in_turn_from ((cycle + 1) * d.cycle_time) (octet_time_of d l)) (sym queued_then)
      ∙ sym (due run net l cycle legal later)

  -- so in each cycle
  follows : (cycle l : ℕ) → l < length run.domain.links → cycle < length run.tables → batch_at (sends l) cycle ≡ batch run.domain net.carried l cycle
  follows zero l is_link in_run = (gone.gone l is_link).first ∙ sym (first run net l legal)
  follows (suc cycle) l is_link in_run =
      let later : cycle + 1 < length run.tables = omega (arith, in_run) in
      subst (λ (n : ℕ). batch_at (sends l) n ≡ batch run.domain net.carried l n) (add-one cycle)
      (sends_next l cycle (batch_at (sends l) (cycle + 1)) is_link later (λ m inside. follows cycle m inside (omega (arith, in_run)))
      ((gone.gone l is_link).next cycle (omega (arith, later, gone.all l is_link))))

-- the law
pub relays_follow_the_network : BatchIsWholeInItsCycle → RelayedGoByTheirTree → GatheredIsQueued → FirstBatchIsEmpty → BatchIsDue → QueueHasRoom →
    GatesMeanTheShift → KeptAreCovered → RelaysFollowTheNetwork
relays_follow_the_network whole relayed gathered first due room means kept run net sends come l cycle legal few gone is_link in_run =
    follows whole relayed gathered first due room means kept run net sends come legal few gone cycle l is_link in_run
