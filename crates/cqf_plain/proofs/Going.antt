-- A run goes on by a cycle.
use Rattle.std.proofs.Common.{◌≡◌, ℕ, ◌+◌, ◌*◌, ◌≤◌, ◌<◌, ◌++◌, Bool, true, false, not, List, Contains, sym, refl, ap}
use Rattle.std.proofs.Common.{◌∙◌, inl, inr, arith, subst, length, filter, eqb-true}
use Rattle.std.specs.Prelude.{Option, Some, None, if◌then◌else◌, slice_get, suc}
use Rattle.std.specs.Option.{option_map_or}
use Rattle.std.proofs.lemmas.Bool.{cases_eq, cases_lt, false≢true}
use Rattle.std.proofs.lemmas.List.Elements.{Contains-append_cases}
use Rattle.cqf_lists.specs.Lists.{each_below}
use Rattle.cqf_lists.proofs.EachBelow.{contains_from_below}
use Rattle.cqf_lists.proofs.Made.{contains_if_there}
use Rattle.cqf_lists.proofs.Members.{contains_at, contains_from_map}
use Rattle.cqf_model.specs.declared.frames.Dropped.{Dropped}
use Rattle.cqf_model.specs.declared.frames.Reason.TheVariants.{Octets, OtherBridge, Withdrawn}
use Rattle.cqf_model.specs.declared.frames.Started.{Started}
use Rattle.cqf_model.specs.declared.topology.Link.{Link}
use Rattle.cqf_model.specs.declared.topology.Node.{Node}
use Rattle.cqf_model.specs.declared.topology.Node.TheVariants.{Bridge, Station}
use Rattle.cqf_model.specs.declared.topology.Row.{Row}
use Rattle.cqf_model.specs.Book.{Contents, background_in, background_of, starts_in, starts_of}
use Rattle.cqf_model.specs.Domain.{Domain, IsAccepted, IsNode, cycle_of, enters, node_is}
use Rattle.cqf_model.specs.Network.{IsLoss, Network}
use Rattle.cqf_model.specs.Run.{Run}
use Rattle.cqf_model.specs.Table.{begins_at, is_live, row_named, table_of}
use Rattle.cqf_model.specs.Policing.{AtEdge, Carried, DroppedFor, Policed, Queued, Received, edge_verdict, is_offered_at}
use Rattle.cqf_model.specs.Policing.{numbered, offer_received, offered_at, police_all, policed_before, received_at}
use Rattle.cqf_model.specs.Policing.{relayed_at, verdict_by, within_gate}
use Rattle.cqf_model.proofs.Policing.{after_those_before, police_member}
use Rattle.cqf_laws_cycle.specs.BridgeCycle.{policed_of, received_in}
use Rattle.cqf_laws_cycle.specs.RunSteps.{LossesAreOfCycles}
use Rattle.cqf_plain.specs.declared.faults.RunFault.{RunFault}
use Rattle.cqf_plain.specs.declared.faults.RunFault.TheVariants.{WrongTables, Inside, Memory}
use Rattle.cqf_plain.specs.SoFar.{SoFarState, IsAt, ListsCycle, StopsRun, NoneLostBefore, drops_before}
use Rattle.cqf_plain.specs.Driven.{AllStandBefore, FirstLoseNothing, IsCycleOf, drops_of_first}
use Rattle.cqf_plain.specs.Due.{AreNextStarts, ports_of}
use Rattle.cqf_plain.specs.Losing.{IsFaultInCycle}

-- no offer is lost
edge_not_lost : (d : Domain) (bridge cycle : ℕ) (passes : Row → Bool) (found : Option Row) → ¬ IsLoss (edge_verdict d bridge cycle passes found)
edge_not_lost d bridge cycle passes None = λ lost. lost
edge_not_lost d bridge cycle passes (Some row) = reasons (not (is_live row cycle)) (not (begins_at d row bridge)) (not (passes row))
  where
    -- for each of the reasons
    reasons : (a b c : Bool) → ¬ IsLoss (if a then DroppedFor Withdrawn
        else (if b then DroppedFor OtherBridge else (if c then DroppedFor Octets else Queued row)))
    reasons true b c lost = lost
    reasons false true c lost = lost
    reasons false false true lost = lost
    reasons false false false lost = lost

-- a bridge in which a link ends is one of the domain
enters_one : (d : Domain) (l bridge : ℕ) → IsAccepted d → enters d l bridge ≡ true → bridge < length d.bridges
enters_one d l bridge accepted = ends (slice_get d.links l) (λ link is. (accepted.links_good l link is).to_node)
  where
    -- by the node
    node : (to : Node) → IsNode d to → node_is to bridge ≡ true → bridge < length d.bridges
    node (Bridge b) good e = omega (arith, good, eqb-true b bridge e)
    node (Station s) good e = absurd (false≢true e)

    -- by the link
    ends : (o : Option Link) → ((link : Link) → o ≡ Some link → IsNode d link.to) → option_map_or (λ (link : Link). node_is link.to bridge) o false ≡ true →
        bridge < length d.bridges
    ends None good e = absurd (false≢true e)
    ends (Some link) good e = node link.to (good link refl) e

-- so nothing is lost outside the bridges
none_elsewhere : (run : Run) (carried : Carried) (bridge cycle : ℕ) (p : Policed) → IsAccepted run.domain → length run.domain.bridges ≤ bridge →
    Contains (policed_of run carried bridge cycle) p → ¬ IsLoss p.verdict
none_elsewhere run carried bridge cycle p accepted outside h =
    let d = run.domain in
    let begins = cycle * d.cycle_time in
    let earlier = policed_before run carried bridge begins in
    let xs = received_in run carried bridge cycle in
    let r = after_those_before d run.tables bridge earlier xs p h in
    let c = contains_from_below (λ offset. received_at run carried bridge (begins + offset)) d.cycle_time p.received
    (police_member d run.tables bridge earlier xs p h) in
    let t = begins + c.0 in
    elim (Contains-append_cases (each_below (relayed_at d carried bridge t) (length d.links)) (offered_at run.offers bridge t) p.received c.2) [
      | inl by_link ↦
          let m = contains_from_below (relayed_at d carried bridge t) (length d.links) p.received by_link in
          absurd (omega (arith, outside, enters_one d m.0 bridge accepted (contains_if_there (enters d m.0 bridge) _ p.received m.2).0))
      | inr offered ↦
          let w = contains_from_map offer_received (filter (is_offered_at bridge t) (numbered run.offers)) p.received offered in
          let ingress : r.x.ingress ≡ AtEdge w.0.offer.stream = sym (ap (λ (y : Policed). y.received.ingress) r.is) ∙ sym (ap (λ (y : Received). y.ingress) w.2) in
          let at_cycle = cycle_of d r.x.at in
          let rows = table_of run.tables at_cycle in
          let passes = λ (row : Row). within_gate d (earlier ++ police_all d run.tables bridge earlier r.before) row r.x in
          subst (λ v. ¬ IsLoss v) (sym (ap (λ (y : Policed). y.verdict) r.is ∙ ap (verdict_by d rows bridge at_cycle passes) ingress))
          (edge_not_lost d bridge at_cycle passes (row_named rows w.0.offer.stream))
    ]

module _ (run : Run) (net : Network) (cycle : ℕ) (of : IsCycleOf run net cycle) (losses : LossesAreOfCycles) where
  -- if the bridges lose nothing in the cycle, nothing was lost before the next
  none_lost_on : NoneLostBefore run net cycle → FirstLoseNothing run net cycle (length run.domain.bridges) → NoneLostBefore run net (cycle + 1)
  none_lost_on before none bridge p lost =
      let l = (losses run net.carried (cycle + 1) bridge p).0 lost in
      elim (cases_eq l.cycle cycle) [
        | inl same ↦
            let came : Contains (policed_of run net.carried bridge cycle) p =
            subst (λ (c : ℕ). Contains (policed_of run net.carried bridge c) p) same l.came in
            elim (cases_lt bridge (length run.domain.bridges)) [
              | inl inside ↦ none bridge inside p came l.lost
              | inr outside ↦ none_elsewhere run net.carried bridge cycle p of.compiled.accepted outside came l.lost
            ]
        | inr differ ↦
            before bridge p
            ((losses run net.carried cycle bridge p).1 (record {
              cycle = l.cycle;
              within_run = omega (arith, l.within_run, differ);
              came =
                  l.came;
              lost = l.lost;
            }))
      ]

  -- the run is at the next cycle
  pub next_at : (before after : SoFarState) (mid : Contents) → IsAt run net cycle before → ListsCycle run net cycle before.book mid →
      AllStandBefore run net (cycle + 1) after.bridges → AreNextStarts after.due (ports_of after.bridges) → after.book.starts ≡ mid.starts →
      after.book.background ≡ mid.background → after.book.drops ≡ mid.drops ++ drops_of_first run net cycle (length run.domain.bridges) →
      FirstLoseNothing run net cycle (length run.domain.bridges) → IsAt run net (cycle + 1) after
  next_at before after mid at lists stand due starts background drops none =
      let d = run.domain in
      let next : suc cycle ≡ cycle + 1 = omega arith in
      record {
        stand = stand;
        due = due;
        starts = starts ∙ lists.starts
            ∙ ap (λ (xs : List Started). xs ++ each_below (starts_in d net.carried cycle) (length d.links)) at.starts
            ∙ ap (λ (n : ℕ). starts_of d n net.carried) next;
        background = background ∙ lists.background
            ∙ ap (λ (xs : List Started). xs ++ each_below (background_in d net.backed cycle) (length d.links)) at.background
            ∙ ap (λ (n : ℕ). background_of d n net.backed) next;
        drops = drops ∙ ap (λ (xs : List Dropped). xs ++ drops_of_first run net cycle (length d.bridges)) (lists.drops ∙ at.drops)
            ∙ ap (drops_before run net) next;
        none_lost = none_lost_on at.none_lost none;
      }

  -- or it doesn't go on
  pub stops_so : (before : SoFarState) (f : RunFault) → IsAt run net cycle before → IsFaultInCycle run net cycle f → StopsRun run f
  stops_so before WrongTables at stop = stop
  stops_so before (Inside frame) at stop =
      let l = stop.lost in
      record {
        net = net;
        legal = of.compiled.legal;
        bridge = stop.bridge;
        inside = stop.inside;
        policed = l.x;
        lost = (losses run net.carried (length run.tables) stop.bridge l.x).1
            (record {
              cycle = cycle;
              within_run = of.within_run;
              came = contains_at (policed_of run net.carried stop.bridge cycle) l.first.index l.x l.first.there;
              lost = l.first.lost;
            });
        first = record { cycle = cycle; within_run = of.within_run; sooner = at.none_lost; lower = λ b p less. stop.none_lower b less p; here = l.first };
        is_frame = l.is_frame;
      }
  stops_so before Memory at stop = tt
