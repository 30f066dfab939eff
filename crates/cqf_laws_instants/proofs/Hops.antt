-- A frame is in a queue according to its stream's tree.
use Rattle.cqf_model.specs.declared.topology.Pace.{Pace}
use Rattle.std.specs.Prelude.{find}
use Rattle.std.specs.Option.{option_map_or}
use Rattle.std.proofs.Common.{◌≡◌, ℕ, ◌*◌, ◌<◌, Bool, true, false, cond, List, length, inl, inr, refl, sym, ap, ◌∙◌, subst, Contains}
use Rattle.std.proofs.Common.{eqb-true}
use Rattle.std.specs.Prelude.{[], ◌∷◌, ◌++◌, ◌==◌, map, filter, Option, Some, None}
use Rattle.std.specs.List.{list_any}
use Rattle.std.proofs.lemmas.Bool.{cases_lt, cond-true}
use Rattle.std.proofs.lemmas.List.Elements.{Contains-append_left}
use Rattle.cqf_lists.specs.Lists.{each_below}
use Rattle.cqf_lists.proofs.EachBelow.{contains_below}
use Rattle.cqf_lists.proofs.Members.{contains_cases, contains_from_filter, contains_here, contains_later, contains_map, contains_none, find_member}
use Rattle.cqf_model.specs.declared.frames.Offered.{Offered}
use Rattle.cqf_model.specs.declared.frames.Sent.{Sent}
use Rattle.cqf_model.specs.declared.topology.Hop.{Hop}
use Rattle.cqf_model.specs.declared.topology.Row.{Row}
use Rattle.cqf_model.specs.Book.{batch}
use Rattle.cqf_model.specs.Domain.{Domain, bridge_of, cycle_of, enters}
use Rattle.cqf_model.specs.Network.{Network, QueuedFrame, queued_frame}
use Rattle.cqf_model.specs.Run.{Run, end_of_run}
use Rattle.cqf_model.specs.Shift.{IsCovered}
use Rattle.cqf_model.specs.StreamGate.{gate_class, stream_list}
use Rattle.cqf_model.specs.Table.{SameStream, links_in, row_of, same_ingress, table_of}
use Rattle.cqf_model.specs.Policing.{AtEdge, Carried, Policed, Received, came_by, numbered, offer_received, police, police_all, policed_before, sent_received}
use Rattle.cqf_model.specs.Promise.{MeansTheShift}
use Rattle.cqf_laws_history.specs.TrafficLaws.{RelayedFramesAreQueuedOrLost}
use Rattle.cqf_laws_shift.specs.Run.{IsLegalRun}
use Rattle.cqf_laws_cycle.specs.BridgeCycle.{BatchIsWholeInItsCycle, CycleBringsItsBatches, FramesKeepTheirOrder, IsCompiledNetwork, policed_of, received_in}
use Rattle.cqf_laws_cycle.specs.RunSteps.{RunIsItsCycles}
use Rattle.cqf_laws_cycle.specs.Gathered.{offered_for}
use Rattle.cqf_laws_instants.specs.QueueLaws.{covering, goes_by, goes_with, offered_as, row_with_name}
use Rattle.cqf_laws_instants.specs.GatheredLaws.{GoesByTree}
use Rattle.cqf_laws_instants.proofs.After.{at_port, covering_covers}
use Rattle.cqf_laws_instants.proofs.Gathers.{brought, gathered_has}

-- there is a verdict on each frame
policed_each : (d : Domain) (tables : List (List Row)) (at : ℕ) (earlier : List Policed) (xs : List Received) (x : Received) → Contains xs x →
    (p : Policed) × Contains (police_all d tables at earlier xs) p × (p.received ≡ x)
policed_each d tables at earlier [] x h = absurd (contains_none x h)
policed_each d tables at earlier (y ∷ xs) x h =
    let p = police d tables at earlier y in
    let rest = police_all d tables at (earlier ++ p ∷ []) xs in
    elim (contains_cases y xs x h) [
      | inl e ↦ (p, contains_here p rest, e)
      | inr k ↦ let r = policed_each d tables at (earlier ++ p ∷ []) xs x k in (r.0, contains_later p rest r.0 r.1, r.2)
    ]

-- a frame as a port sees it, by its stream's reservation, pace, hop number and number
abbrev frame_by : Domain → Received → ℕ → Pace → ℕ → ℕ → QueuedFrame
frame_by d x octets pace hop_number number = record {
  arrival = record { at = record { 0 = x.at }; class = gate_class (stream_list d.cycle_time octets pace hop_number) x.at; octets = x.octets; frame = x.frame };
  stream = Some number;
}

-- the hop number of a frame in its stream's tree
abbrev hop_number_by : List Hop → Option ℕ → ℕ
hop_number_by tree None = 0
hop_number_by tree (Some m) = option_map_or (λ (hop : Hop). hop.hop_number) (find (λ (hop : Hop). hop.link == m) tree) 0

-- whether a tree has a link after the ingress by which a frame came
abbrev has_after : ℕ → Received → List Hop → Bool
has_after l x tree = list_any (λ next. next == l) (links_in (filter (λ (hop : Hop). same_ingress hop.from (came_by x.ingress)) tree))

-- a frame that goes on with a row goes on by the tree of each row of its stream
goes_by_tree : (run : Run) (l : ℕ) (x : Received) (found row : Row) → row_with_name run (bridge_of run.domain l) x x.ingress ≡ Some found → SameStream found row →
    found.no ≡ row.no → GoesByTree run l x row
goes_by_tree run l x found row is same number =
    let d = run.domain in
    record {
      goes = ap (goes_with l x.ingress) is ∙ ap (has_after l x) same.tree;
      queued =
          ap (at_port run l x) is
          ∙ ap (λ (tree : List Hop). cond (has_after l x tree) (queued_frame d x found ∷ []) []) same.tree
          ∙ ap (λ (frame : QueuedFrame). cond (has_after l x row.tree.items) (frame ∷ []) []) (λ i.
          frame_by d x (same.octets i) (same.pace i) (hop_number_by (same.tree i) (came_by x.ingress)) (number i));
    }

module _ (whole : BatchIsWholeInItsCycle) (brings : CycleBringsItsBatches) (keeps : FramesKeepTheirOrder) (cycles : RunIsItsCycles)
    (relayed : RelayedFramesAreQueuedOrLost) (run : Run) (net : Network) (legal : IsLegalRun run net) (means : MeansTheShift run net.carried) where
  -- what a link sends in a cycle arrives at the bridge in it
  sent_comes : (bridge m cycle : ℕ) (sent : Sent) → enters run.domain m bridge ≡ true → Contains (batch run.domain net.carried m cycle) sent →
      Contains (received_in run net.carried bridge cycle) (sent_received run.domain m sent)
  sent_comes bridge m cycle sent enter inside =
      let d = run.domain in
      let links = length d.links in
      let compiled : IsCompiledNetwork run (length run.tables) net = record { accepted = legal.accepted; legal = legal.legal } in
      let batches : Carried = λ k. batch d net.carried k cycle in
      let x = sent_received d m sent in
      let g = gathered_has whole brings keeps run (length run.tables) cycle bridge net compiled batches (λ k e. refl) in
      let of_link = (contains_from_filter (λ (y : Sent). cycle_of d y.start.0 == cycle) (net.carried m) sent inside).0 in
      elim (cases_lt m links) [
        | inl l ↦
            g.only x
            (Contains-append_left (each_below (brought run batches bridge cycle) links) (map offer_received (offered_for d run.offers bridge cycle)) x
            (contains_below (brought run batches bridge cycle) links m x l
            (subst (λ (xs : List Received). Contains xs x) (sym (cond-true (enters d m bridge) (map (sent_received d m) (batches m)) [] enter))
            (contains_map (sent_received d m) (batches m) sent inside))))
        | inr past ↦ absurd (contains_none sent (subst (λ (xs : List Sent). Contains xs sent) (legal.legal.no_others m past).0 of_link))
      ]

  -- so it goes on by its stream's tree, by the row in any table
  pub relayed_by_tree : (l m cycle table : ℕ) (sent : Sent) (row : Row) → cycle < length run.tables → enters run.domain m (bridge_of run.domain l) ≡ true →
      Contains (batch run.domain net.carried m cycle) sent → Contains (table_of run.tables table) row → row.no ≡ sent.stream →
      GoesByTree run l (sent_received run.domain m sent) row
  relayed_by_tree l m cycle table sent row within enter inside of_table number =
      let d = run.domain in
      let bridge = bridge_of d l in
      let x = sent_received d m sent in
      let earlier = policed_before run net.carried bridge (cycle * d.cycle_time) in
      let p = policed_each d run.tables bridge earlier (received_in run net.carried bridge cycle) x (sent_comes bridge m cycle sent enter inside) in
      let came : Contains (policed_before run net.carried bridge (end_of_run run)) p.0 =
      subst (λ (ps : List Policed). Contains ps p.0) (sym (cycles run net.carried bridge (length run.tables)))
      (contains_below (policed_of run net.carried bridge) (length run.tables) cycle p.0 within p.1) in
      let r = relayed run net.carried bridge (end_of_run run) p.0 m sent.stream came (ap (λ (y : Received). y.ingress) p.2)
      (λ lost. means.none_lost bridge p.0 (record { came = came; lost = lost })) in
      let found : row_of (table_of run.tables (cycle_of d x.at)) sent.stream ≡ Some r.0 =
      subst (λ (y : Received). row_of (table_of run.tables (cycle_of d y.at)) sent.stream ≡ Some r.0) p.2 r.1 in
      let member = find_member (λ (q : Row). q.no == sent.stream) (table_of run.tables (cycle_of d x.at)) r.0 found in
      let same_number : r.0.no ≡ row.no = eqb-true r.0.no sent.stream member.1 ∙ sym number in
      let same = legal.orderly.one_stream (cycle_of d x.at) table r.0 row member.0 of_table same_number in
      goes_by_tree run l x r.0 row found same same_number

-- an offer at the bridge that a link leaves goes on from it with its covering row
edge_row : (run : Run) (l : ℕ) (x : Offered) → x.offer.bridge ≡ bridge_of run.domain l →
    row_with_name run (bridge_of run.domain l) (offer_received x) (AtEdge x.offer.stream) ≡ covering run x
edge_row run l x at = ap (λ (b : ℕ). covering run (offered_as b (offer_received x) x.offer.stream)) (sym at)

-- so a covered one goes on by its tree
pub covered_by_tree : (run : Run) (l : ℕ) (x : Offered) (row : Row) → x.offer.bridge ≡ bridge_of run.domain l → IsCovered run x row →
    GoesByTree run l (offer_received x) row
covered_by_tree run l x row at covered =
    goes_by_tree run l (offer_received x) row row (edge_row run l x at ∙ (covering_covers run x row covered.offered).1 covered)
    (record { name = refl; octets = refl; pace = refl; tree = refl }) refl

-- and an offer that no row covers goes nowhere
pub uncovered_nowhere : (run : Run) (l : ℕ) (x : Offered) → x.offer.bridge ≡ bridge_of run.domain l → Contains (numbered run.offers) x →
    ((row : Row) → IsCovered run x row → ⊥) → goes_by run l (offer_received x) ≡ false
uncovered_nowhere run l x at inside none = ap (goes_with l (AtEdge x.offer.stream)) (edge_row run l x at) ∙ by_row (covering run x) refl
  where
    by_row : (found : Option Row) → covering run x ≡ found → goes_with l (AtEdge x.offer.stream) found ≡ false
    by_row None e = refl
    by_row (Some row) e = absurd (none row ((covering_covers run x row inside).0 e))
