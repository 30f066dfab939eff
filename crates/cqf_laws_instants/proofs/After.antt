-- What a cycle queues to a link, frame by frame.
use Rattle.cqf_model.specs.Table.{reserved_in}
use Rattle.std.proofs.Common.{◌≡◌, ℕ, ◌*◌, ◌<◌, Bool, true, false, cond, List, length, refl, sym, ap, ap₂, ◌∙◌, subst, Contains}
use Rattle.std.proofs.Common.{le-leb, leb-true}
use Rattle.std.specs.Prelude.{[], ◌∷◌, ◌++◌, ◌&&◌, ◌↔◌, filter, nat_le, Option, Some, None}
use Rattle.std.specs.List.{flat_map}
use Rattle.std.specs.List.Sorted.{IsPermutation}
use Rattle.std.proofs.lemmas.Bool.{and_from, and_left, and_parts, cond-true, lt-leb}
use Rattle.cqf_lists.proofs.EachBelow.{contains_below}
use Rattle.cqf_lists.proofs.Members.{contains_here, contains_later}
use Rattle.cqf_model.specs.declared.frames.Offered.{Offered}
use Rattle.cqf_model.specs.declared.frames.Reason.{Reason}
use Rattle.cqf_model.specs.declared.frames.Reason.TheVariants.{Octets, OtherBridge, Unknown, Withdrawn}
use Rattle.cqf_model.specs.declared.topology.Row.{Row}
use Rattle.cqf_model.specs.Domain.{Domain, bridge_of}
use Rattle.cqf_model.specs.Network.{Network, QueuedFrame, queued_by, queued_in}
use Rattle.cqf_model.specs.Run.{Run, end_of_run}
use Rattle.cqf_model.specs.Shift.{IsCovered, IsReason, asked_with, offer_cycle, row_for}
use Rattle.cqf_model.specs.Table.{begins_at, is_live}
use Rattle.cqf_model.specs.Policing.{AtEdge, Carried, DroppedFor, ExceedsGate, Ingress, LacksRow, Policed, Queued, Received, Relayed, Verdict, came_by, numbered}
use Rattle.cqf_model.specs.Policing.{offer_received, police, police_all, policed_before}
use Rattle.cqf_model.specs.Promise.{IsDecided, MeansTheShift}
use Rattle.cqf_laws_history.specs.TrafficLaws.{RelayedFramesAreQueuedOrLost}
use Rattle.cqf_laws_shift.specs.MainLaw.{GatesMeanTheShift}
use Rattle.cqf_laws_shift.specs.Run.{IsLegalRun}
use Rattle.cqf_laws_cycle.specs.BridgeCycle.{IsCompiledNetwork, policed_of, received_in}
use Rattle.cqf_laws_cycle.specs.Gathered.{gathered_in}
use Rattle.cqf_laws_cycle.specs.PortCycle.{QueuedInItsCycle}
use Rattle.cqf_laws_cycle.specs.RunSteps.{RunIsItsCycles}
use Rattle.cqf_laws_instants.specs.TakenLaws.{AreItsBatches, SortedIsTaken, StandAsTaken}
use Rattle.cqf_laws_instants.specs.QueueLaws.{covering, covers, following, goes_by, goes_with, if_passes, offered_as, queued_with, row_with_name}

-- if the second of two tests fails, the conjunction fails
and_right : (a b : Bool) → b ≡ false → (a && b) ≡ false
and_right true b e = e
and_right false b e = refl

-- if a row passes, it is the one that was found
passed : (test : Row → Bool) (found : Option Row) (row : Row) → if_passes test found ≡ Some row → (found ≡ Some row) × (test row ≡ true)
passed test None row e = absurd cc
passed test (Some r) row e = by_test (test r) refl e
  where
    by_test : (b : Bool) → test r ≡ b → cond b (Some r) None ≡ Some row → (Some r ≡ Some row) × (test row ≡ true)
    by_test true is same = let one : r ≡ row = cc in (same, ap test (sym one) ∙ is)
    by_test false is same = absurd cc

-- the row that covers an offer is the one that covers it in the sense of the shift
pub covering_covers : (run : Run) (x : Offered) (row : Row) → Contains (numbered run.offers) x → covering run x ≡ Some row ↔ IsCovered run x row
covering_covers run x row inside = (to, from)
  where
    live : Bool
    live = is_live row (offer_cycle run.domain x)

    here : Bool
    here = begins_at run.domain row x.offer.bridge

    fits : Bool
    fits = nat_le (asked_with run.domain run.offers x row) (reserved_in row 0 (offer_cycle run.domain x))

    to : covering run x ≡ Some row → IsCovered run x row
    to e =
        let p = passed (covers run x) (row_for run.domain run.tables x) row e in
        let first = and_parts live (here && fits) p.1 in
        let second = and_parts here fits first.1 in
        record {
          offered = inside;
          named = p.0;
          live = first.0;
          first_bridge = second.0;
          within = leb-true (asked_with run.domain run.offers x row) (reserved_in row 0 (offer_cycle run.domain x)) second.1;
        }

    from : IsCovered run x row → covering run x ≡ Some row
    from c =
        ap (if_passes (covers run x)) c.named
        ∙ cond-true (covers run x row) (Some row) None
        (and_from live (here && fits) c.live
        (and_from here fits c.first_bridge (le-leb (asked_with run.domain run.offers x row) (reserved_in row 0 (offer_cycle run.domain x)) c.within)))

-- an offer that isn't covered has no such row
pub uncovered_none : (run : Run) (x : Offered) (reason : Reason) → IsReason run x reason → covering run x ≡ None
uncovered_none run x Unknown named = ap (if_passes (covers run x)) named
uncovered_none run x Withdrawn (row, r) =
    ap (if_passes (covers run x)) r.named
    ∙ ap (λ (b : Bool). cond b (Some row) None)
    (and_left (is_live row (offer_cycle run.domain x))
    (begins_at run.domain row x.offer.bridge && nat_le (asked_with run.domain run.offers x row) (reserved_in row 0 (offer_cycle run.domain x))) r.not_live)
uncovered_none run x OtherBridge (row, r) =
    ap (if_passes (covers run x)) r.named
    ∙ ap (λ (b : Bool). cond b (Some row) None)
    (and_right (is_live row (offer_cycle run.domain x))
    (begins_at run.domain row x.offer.bridge && nat_le (asked_with run.domain run.offers x row) (reserved_in row 0 (offer_cycle run.domain x)))
    (and_left (begins_at run.domain row x.offer.bridge) (nat_le (asked_with run.domain run.offers x row) (reserved_in row 0 (offer_cycle run.domain x))) r.elsewhere))
uncovered_none run x Octets (row, r) =
    ap (if_passes (covers run x)) r.named
    ∙ ap (λ (b : Bool). cond b (Some row) None)
    (and_right (is_live row (offer_cycle run.domain x))
    (begins_at run.domain row x.offer.bridge && nat_le (asked_with run.domain run.offers x row) (reserved_in row 0 (offer_cycle run.domain x)))
    (and_right (begins_at run.domain row x.offer.bridge) (nat_le (asked_with run.domain run.offers x row) (reserved_in row 0 (offer_cycle run.domain x)))
    (lt-leb (asked_with run.domain run.offers x row) (reserved_in row 0 (offer_cycle run.domain x)) r.short)))

-- the name of an offer
abbrev name_of : Ingress → List ℕ
name_of (AtEdge name) = name
name_of (Relayed m number) = []

-- what a frame adds to the port of a link with such a row
abbrev pub at_port : Run → ℕ → Received → Option Row → List QueuedFrame
at_port run l x found = cond (goes_with l x.ingress found) (queued_with run.domain x found) []

-- if it goes on with a row
at_port_some : (run : Run) (l : ℕ) (x : Received) (row : Row) (found : Option Row) → found ≡ Some row →
    queued_by run.domain l x (Queued row) ≡ at_port run l x found
at_port_some run l x row found is = sym (ap (at_port run l x) is)

module _ (run : Run) (net : Network) (l : ℕ) (relayed : RelayedFramesAreQueuedOrLost) (means : MeansTheShift run net.carried) where
  -- the bridge that the link leaves
  abbrev bridge : ℕ
  bridge = bridge_of run.domain l

  -- what a decided verdict on an offer queues
  by_verdict : (x : Offered) (r : Received) (v : Verdict) → IsDecided run x v → queued_by run.domain l r v ≡ at_port run l r (covering run x)
  by_verdict x r (Queued row) covered = at_port_some run l r row (covering run x) ((covering_covers run x row covered.offered).1 covered)
  by_verdict x r (DroppedFor reason) uncovered = sym (ap (at_port run l r) (uncovered_none run x reason uncovered.is_reason))
  by_verdict x r LacksRow never = absurd never
  by_verdict x r ExceedsGate never = absurd never

  -- each frame that arrives is queued as decided for it alone
  each : (p : Policed) → Contains (policed_before run net.carried bridge (end_of_run run)) p →
      queued_by run.domain l p.received p.verdict ≡ following run l p.received
  each p came = by_ingress p.received.ingress refl
    where
      by_ingress : (ingress : Ingress) → p.received.ingress ≡ ingress →
          queued_by run.domain l p.received p.verdict ≡ at_port run l p.received (row_with_name run bridge p.received ingress)
      by_ingress (Relayed m number) ingress =
          let r = relayed run net.carried bridge (end_of_run run) p m number came ingress (λ lost. means.none_lost bridge p (record { came = came; lost = lost }))
          in
          ap (queued_by run.domain l p.received) r.2
          ∙ at_port_some run l p.received r.0 (row_with_name run bridge p.received (Relayed m number)) r.1
      by_ingress (AtEdge name) ingress =
          let w = means.edge_only bridge p came (ap came_by ingress) in
          let x = w.0 in
          let named : x.offer.stream ≡ name = ap (λ (y : Received). name_of y.ingress) w.2 ∙ ap name_of ingress in
          let same : x ≡ offered_as bridge p.received name =
          ap (λ (b : ℕ). offered_as b (offer_received x) x.offer.stream) w.1
          ∙ ap (λ (y : Received). offered_as bridge y x.offer.stream) w.2
          ∙ ap (offered_as bridge p.received) named in
          by_verdict x p.received p.verdict w.3
          ∙ ap (λ (y : Offered). at_port run l p.received (covering run y)) same

-- if it holds for each frame, what is made of the verdicts on frames is what is made of the frames
of_each : {Y : Type 0} (d : Domain) (tables : List (List Row)) (at : ℕ) (g : Policed → List Y) (f : Received → List Y) (earlier : List Policed)
    (xs : List Received) → ((p : Policed) → Contains (police_all d tables at earlier xs) p → g p ≡ f p.received) →
    flat_map g (police_all d tables at earlier xs) ≡ flat_map f xs
of_each d tables at g f earlier [] same = refl
of_each {Y} d tables at g f earlier (x ∷ xs) same =
    let p = police d tables at earlier x in
    let rest = police_all d tables at (earlier ++ p ∷ []) xs in
    ap₂ (λ (a b : List Y). a ++ b) (same p (contains_here p rest))
    (of_each d tables at g f (earlier ++ p ∷ []) xs (λ q c. same q (contains_later p rest q c)))

-- if the elements that a test leaves out make nothing, the others make all
of_kept : {X Y : Type 0} (p : X → Bool) (f : X → List Y) (xs : List X) → ((x : X) → p x ≡ false → f x ≡ []) → flat_map f (filter p xs) ≡ flat_map f xs
of_kept p f [] none = refl
of_kept {X} {Y} p f (x ∷ xs) none = by_test (of_kept p f xs none) (p x) refl
  where
    by_test : flat_map f (filter p xs) ≡ flat_map f xs → (b : Bool) → p x ≡ b →
        flat_map f (cond b (x ∷ filter p xs) (filter p xs)) ≡ f x ++ flat_map f xs
    by_test rest true is = ap (λ (ys : List Y). f x ++ ys) rest
    by_test rest false is = rest ∙ sym (ap (λ (ys : List Y). ys ++ flat_map f xs) (none x is))

-- what goes on by a link is all that is queued to it
pub kept_queue : (run : Run) (l : ℕ) (xs : List Received) → flat_map (following run l) (filter (goes_by run l) xs) ≡ flat_map (following run l) xs
kept_queue run l xs =
    of_kept (goes_by run l) (following run l) xs
    (λ x e. ap (λ (b : Bool). cond b (queued_with run.domain x (row_with_name run (bridge_of run.domain l) x x.ingress)) []) e)

module _ (queued : QueuedInItsCycle) (cycles : RunIsItsCycles) (relayed : RelayedFramesAreQueuedOrLost) (gates : GatesMeanTheShift)
    (run : Run) (net : Network) (l cycle : ℕ) (legal : IsLegalRun run net) (within_run : cycle < length run.tables) where
  -- what a cycle queues
  pub cycle_queues : queued_in run net.carried l cycle ≡ flat_map (following run l) (received_in run net.carried (bridge_of run.domain l) cycle)
  cycle_queues =
      let d = run.domain in
      let here = bridge_of d l in
      let earlier = policed_before run net.carried here (cycle * d.cycle_time) in
      queued run net.carried l cycle
      ∙ of_each d run.tables here (λ (p : Policed). queued_by d l p.received p.verdict) (following run l) earlier (received_in run net.carried here cycle)
      (λ p c. each run net l relayed (gates run net legal) p
      (subst (λ (ps : List Policed). Contains ps p) (sym (cycles run net.carried here (length run.tables)))
      (contains_below (policed_of run net.carried here) (length run.tables) cycle p within_run c)))

  -- and by any sort
  pub sorted_queued : SortedIsTaken → (batches : Carried) (sorted : List Received) → AreItsBatches run net (bridge_of run.domain l) cycle batches →
      IsPermutation (filter (goes_by run l) (gathered_in run batches (bridge_of run.domain l) cycle)) sorted → StandAsTaken sorted →
      queued_in run net.carried l cycle ≡ flat_map (following run l) sorted
  sorted_queued taken batches sorted are moved stand =
      let here = bridge_of run.domain l in
      let compiled : IsCompiledNetwork run (length run.tables) net = record { accepted = legal.accepted; legal = legal.legal } in
      cycle_queues
      ∙ sym (kept_queue run l (received_in run net.carried here cycle))
      ∙ ap (flat_map (following run l)) (sym (taken run (length run.tables) cycle here net batches (goes_by run l) sorted compiled are moved stand))
