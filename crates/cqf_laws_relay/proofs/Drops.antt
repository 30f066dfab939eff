-- The drops of a bridge among a cycle's offers, judged one after the other, are the run's drops there.
use Rattle.std.proofs.Common.{◌≡◌, ℕ, ◌+◌, ◌-◌, ◌*◌, ◌<◌, [], ◌∷◌, ◌==◌, ◌⊎◌, List, None, inl, inr, refl, sym, ap, ◌∙◌, subst, arith}
use Rattle.std.proofs.Common.{AllPairs, Contains, filter, length, eqb-true, eq-eqb}
use Rattle.std.specs.List.{flat_map}
use Rattle.std.specs.List.Sorted.{IsNonDecreasingBy, IsPermutation}
use Rattle.std.proofs.lemmas.Bool.{and_from, and_parts, cases_order}
use Rattle.cqf_lists.proofs.EachBelow.{contains_below}
use Rattle.cqf_lists.proofs.Made.{pairs_of_flat}
use Rattle.cqf_lists.proofs.Members.{contains_filter, contains_flat, contains_from_flat, contains_here}
use Rattle.cqf_lists.proofs.Pairs.{pairs_below, pairs_none, pairs_one, pairs_weaker}
use Rattle.cqf_model.specs.declared.frames.Dropped.{Dropped}
use Rattle.cqf_model.specs.declared.frames.Offered.{Offered}
use Rattle.cqf_model.specs.declared.frames.Reason.{Reason}
use Rattle.cqf_model.specs.Book.{drop_by, drops_in, is_of_index}
use Rattle.cqf_model.specs.Domain.{cycle_of}
use Rattle.cqf_model.specs.Network.{IsLoss, Network}
use Rattle.cqf_model.specs.Promise.{IsDecided, MeansTheShift}
use Rattle.cqf_model.specs.Run.{Run, end_of_run}
use Rattle.cqf_model.specs.Shift.{offer_cycle}
use Rattle.cqf_model.specs.Policing.{AtEdge, DroppedFor, ExceedsGate, Ingress, LacksRow, Policed, Queued, Received, Relayed, Verdict, came_by}
use Rattle.cqf_model.specs.Policing.{offer_received, policed_before}
use Rattle.cqf_model.proofs.Drops.{drop_for, dropped_at, dropped_for, drops_at}
use Rattle.cqf_laws_cycle.specs.Gathered.{offered_for}
use Rattle.cqf_laws_history.specs.TrafficLaws.{RelayedFramesAreQueuedOrLost}
use Rattle.cqf_laws_shift.specs.Edge.{TakenIsCovered}
use Rattle.cqf_laws_shift.specs.MainLaw.{GatesMeanTheShift}
use Rattle.cqf_laws_shift.proofs.Came.{numbered_member}
use Rattle.cqf_laws_shift.proofs.Decided.{covered_judged, judged, uncovered_judged}
use Rattle.cqf_laws_instants.proofs.Ordered.{Either, sorted_is_one}
use Rattle.cqf_laws_coverage.proofs.Single.{drop_of_index, one_drop}
use Rattle.cqf_laws_relay.specs.Following.{DroppedAreTheRuns}
use Rattle.cqf_laws_relay.proofs.Kept.{NumbersDiffer, dropped_by_verdicts, offer_of, offer_there, offers_differ}

-- a verdict that is decided is the run's
decided_judged : (run : Run) (x : Offered) (v : Verdict) → IsDecided run x v → judged run x ≡ v
decided_judged run x (Queued row) covered = covered_judged run x row covered
decided_judged run x (DroppedFor reason) uncovered = uncovered_judged run x reason uncovered
decided_judged run x LacksRow never = absurd never
decided_judged run x ExceedsGate never = absurd never

-- a verdict has at most one drop
one_of_verdict : (R : Dropped → Dropped → Type 0) (cycle bridge : ℕ) (x : Received) (v : Verdict) → AllPairs R (drop_by cycle bridge x v)
one_of_verdict R cycle bridge x (DroppedFor reason) = pairs_one R (drop_for cycle bridge x reason)
one_of_verdict R cycle bridge x (Queued row) = pairs_none R
one_of_verdict R cycle bridge x LacksRow = pairs_none R
one_of_verdict R cycle bridge x ExceedsGate = pairs_none R

-- drops in order of frame
abbrev Ascend : Dropped → Dropped → Type 0
Ascend a b = a.frame < b.frame

module _ (relayed : RelayedFramesAreQueuedOrLost) (run : Run) (net : Network) (means : MeansTheShift run net.carried) (bridge cycle : ℕ)
    (some : 0 < run.domain.cycle_time) (within : cycle < length run.tables) where
  -- the verdicts on what arrives at a bridge
  abbrev given : ℕ → List Policed
  given b = policed_before run net.carried b (length run.tables * run.domain.cycle_time)

  -- the drops of the cycle's offers here
  abbrev own : List Dropped
  own = flat_map (λ (x : Offered). drop_by cycle bridge (offer_received x) (judged run x)) (offered_for run.domain run.offers bridge cycle)

  -- the run's drops here in the cycle
  abbrev runs : List Dropped
  runs = drops_in run.domain (length run.offers) given cycle bridge

  -- each of the offers' drops is one of the run's
  own_in_runs : (y : Dropped) → Contains own y → Contains runs y
  own_in_runs y c =
      let d = run.domain in
      let w = contains_from_flat (λ (x : Offered). drop_by cycle bridge (offer_received x) (judged run x)) (offered_for d run.offers bridge cycle) y c in
      let x = w.0 in
      let o = offer_of d run.offers bridge cycle x w.1 in
      let e = means.edge x o.inside (subst (λ (k : ℕ). k < length run.tables) (sym o.when) within) in
      let p : Policed = record { received = offer_received x; verdict = e.0 } in
      let there : Contains (given bridge) p = subst (λ (b : ℕ). Contains (given b) p) o.here e.1.come in
      let number = numbered_member run.offers x o.inside in
      let index = x.frame - 1 in
      let drop : Contains (drop_by cycle bridge (offer_received x) e.0) y =
      subst (λ (v : Verdict). Contains (drop_by cycle bridge (offer_received x) v) y) (decided_judged run x e.0 e.1.decided) w.2 in
      contains_below (drops_at d given cycle bridge) (length run.offers) index y (omega (arith, number.1, number.2))
      (contains_flat (λ (q : Policed). drop_by cycle bridge q.received q.verdict) (filter (is_of_index d cycle index) (given bridge)) p y
      (contains_filter (is_of_index d cycle index) (given bridge) p there
      (and_from (cycle_of d x.offer.at.0 == cycle) (x.frame == index + 1) (eq-eqb (cycle_of d x.offer.at.0) cycle o.when)
      (eq-eqb x.frame (index + 1) (omega (arith, number.1)))))
      drop)

  -- what is dropped arrived by no link
  at_edge : (p : Policed) (reason : Reason) → Contains (given bridge) p → p.verdict ≡ DroppedFor reason → came_by p.received.ingress ≡ None
  at_edge p reason c verdict = by_ingress p.received.ingress refl
    where
      -- a frame that a link brought goes on or is lost
      by_ingress : (ingress : Ingress) → p.received.ingress ≡ ingress → came_by ingress ≡ None
      by_ingress (AtEdge name) is = refl
      by_ingress (Relayed m number) is =
          let q = relayed run net.carried bridge (end_of_run run) p m number c is (λ loss. subst IsLoss verdict loss) in
          let both : DroppedFor reason ≡ Queued q.0 = sym verdict ∙ q.2 in
          absurd (cc)

  -- each of the run's is one of the offers'
  runs_in_own : (y : Dropped) → Contains runs y → Contains own y
  runs_in_own y c =
      let d = run.domain in
      let r = dropped_at d (length run.offers) given cycle bridge y c in
      let w = means.edge_only bridge r.p r.inside (at_edge r.p r.reason r.inside r.verdict) in
      let x = w.0 in
      let decided : IsDecided run x (DroppedFor r.reason) = subst (IsDecided run x) r.verdict w.3 in
      let both = and_parts (cycle_of d r.p.received.at == cycle) (r.p.received.frame == r.index + 1) r.of_index in
      let when : offer_cycle d x ≡ cycle = ap (λ (z : Received). cycle_of d z.at) w.2 ∙ eqb-true (cycle_of d r.p.received.at) cycle both.0 in
      let is_drop : drop_by cycle bridge (offer_received x) (judged run x) ≡ y ∷ [] =
      ap (drop_by cycle bridge (offer_received x)) (uncovered_judged run x r.reason decided)
      ∙ ap (λ (z : Received). drop_for cycle bridge z r.reason ∷ []) w.2
      ∙ ap (λ (z : Dropped). z ∷ []) r.is in
      contains_flat (λ (z : Offered). drop_by cycle bridge (offer_received z) (judged run z)) (offered_for d run.offers bridge cycle) x y
      (offer_there d run.offers bridge cycle x some decided.offered w.1 when)
      (subst (λ (zs : List Dropped). Contains zs y) (sym is_drop) (contains_here y []))

  -- no two of the offers' are of one frame
  own_differ : AllPairs (Either Ascend) own
  own_differ =
      pairs_of_flat (λ (x : Offered). drop_by cycle bridge (offer_received x) (judged run x)) NumbersDiffer (Either Ascend)
      (offered_for run.domain run.offers bridge cycle)
      (λ x c. one_of_verdict (Either Ascend) cycle bridge (offer_received x) (judged run x))
      (λ x z u v cx cz differ cu cv.
      let f = dropped_for cycle bridge (offer_received x) (judged run x) u cu in
      let g = dropped_for cycle bridge (offer_received z) (judged run z) v cv in
      let x_is : x.frame ≡ u.frame = ap (λ (y : Dropped). y.frame) f.2 in
      let z_is : z.frame ≡ v.frame = ap (λ (y : Dropped). y.frame) g.2 in
      either u.frame v.frame (λ e. differ (x_is ∙ e ∙ sym z_is)))
      (offers_differ run.domain run.offers bridge cycle)
    where
      -- of two numbers that differ one is the smaller
      either : (a b : ℕ) → (a ≡ b → ⊥) → (a < b) ⊎ (b < a)
      either a b differ = elim (cases_order a b) [ inl e ↦ absurd (differ e) | inr o ↦ o ]

  -- the run's are in order of frame
  runs_ascend : AllPairs Ascend runs
  runs_ascend =
      let d = run.domain in
      let end = length run.tables * run.domain.cycle_time in
      pairs_below Ascend (drops_at d given cycle bridge) (length run.offers)
      (λ index l. pairs_weaker (λ (a b : Dropped). ⊥) Ascend (drops_at d given cycle bridge index) (λ x z cx cz never. absurd never)
      (one_drop run net.carried end cycle bridge index))
      (λ j k a b less l ca cb.
      omega (arith, less, (drop_of_index d given cycle bridge j a ca).of_index, (drop_of_index d given cycle bridge k b cb).of_index))

  -- so the offers' drops, brought into that order, are the run's
  own_by_frame : (fresh : List Dropped) → IsPermutation own fresh → IsNonDecreasingBy (λ (x : Dropped). x.frame) fresh → fresh ≡ runs
  own_by_frame fresh moved in_order =
      sorted_is_one Ascend (λ x y less more. omega (arith, less, more)) runs fresh own runs_ascend runs_in_own own_in_runs own_differ moved
      (λ i j e less inside back. omega (arith, back, in_order i j e (omega (arith, less)) inside))

-- what is dropped is what the run drops
pub dropped_are_the_runs : TakenIsCovered → GatesMeanTheShift → RelayedFramesAreQueuedOrLost → DroppedAreTheRuns
dropped_are_the_runs counted gates relayed run net bridge cycle fresh legal within moved in_order =
    own_by_frame relayed run net (gates run net legal) bridge cycle (omega (arith, legal.accepted.cycle_least)) within fresh
    (subst (λ (xs : List Dropped). IsPermutation xs fresh)
    (dropped_by_verdicts counted run legal.orderly bridge cycle [] (offered_for run.domain run.offers bridge cycle) refl) moved)
    in_order
