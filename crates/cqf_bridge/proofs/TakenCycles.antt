-- A bridge that receives a cycle of the network.
use Rattle.std.proofs.Common.{◌≡◌, ℕ, ◌+◌, ◌*◌, ◌<◌, ◌≤◌, ◌==◌, false, true, List, [], ◌++◌, length, map, sym, ap, refl, ◌∙◌, arith, subst, Contains, eqb-true}
use Rattle.std.proofs.lemmas.List.{map-append}
use Rattle.std.proofs.lemmas.Simd.{map-map}
use Rattle.cqf_lists.proofs.Members.{contains_from_filter, contains_from_map}
use Rattle.cqf_model.specs.declared.frames.Dropped.{Dropped}
use Rattle.cqf_model.specs.declared.ports.Arrival.{Arrival}
use Rattle.cqf_model.specs.Book.{drops_in}
use Rattle.cqf_model.specs.Domain.{bridge_of, cycle_of, guard_of, leaves}
use Rattle.cqf_model.specs.GateList.{IsOpen}
use Rattle.cqf_model.specs.Network.{Network, QueuedFrame, arrivals_of, comes_before, compiled_lists, queued_before, queued_to}
use Rattle.cqf_model.specs.Port.{AreLegal}
use Rattle.cqf_model.specs.Run.{Run}
use Rattle.cqf_model.specs.Policing.{Carried, Policed, police_all}
use Rattle.cqf_model.proofs.Links.{guard_within, octet_positive}
use Rattle.cqf_laws_cycle.specs.BridgeCycle.{CycleBringsItsBatches, IsCompiledNetwork, policed_of}
use Rattle.cqf_laws_cycle.specs.PortCycle.{ClosedArrivalsChangeNothing, PortGoesOn, QueuedFramesWait, QueuedInItsCycle, waits_in}
use Rattle.cqf_laws_shift.specs.Edge.{GateIsReservation}
use Rattle.cqf_bridge.specs.BridgeState.{BridgeState}
use Rattle.cqf_bridge.specs.PortRecord.{PortRecord, rules_on}
use Rattle.cqf_bridge.specs.Receiving.{carried_by, port_queued, verdicts_in}
use Rattle.cqf_bridge.specs.Cycles.{GivesTheDrops, ReceivesOfTheRun, drops_of_cycle}
use Rattle.cqf_bridge.specs.Follows.{FollowsTheNetwork, HasTaken, batches_into, streams_of_starts}
use Rattle.cqf_bridge.proofs.Anew.{policed_anew}
use Rattle.cqf_bridge.proofs.LinkLists.{bridge_it_leaves, brings_its_batch}
use Rattle.cqf_bridge.proofs.SentCycles.{port_of_link}

-- what a bridge takes with the network's batches of a cycle is what arrives at it in the network
pub verdicts_are : CycleBringsItsBatches → GateIsReservation → (run : Run) (cycles cycle bridge : ℕ) (net : Network) → IsCompiledNetwork run cycles net →
    verdicts_in run bridge cycle (batches_into run.domain net.carried bridge cycle) ≡ policed_of run net.carried bridge cycle
verdicts_are brings reserves run cycles cycle bridge net compiled =
    let d = run.domain in
    let some : 0 < d.cycle_time = omega (arith, compiled.accepted.guard_short) in
    ap (police_all d run.tables bridge [])
    (brings run cycles cycle bridge net (carried_by (batches_into d net.carried bridge cycle)) compiled
    (λ m here. brings_its_batch d net.carried bridge cycle m here))
    ∙ policed_anew run net.carried bridge cycle reserves some

module _ (run : Run) (carried : Carried) (cycle number : ℕ) (goes_on : PortGoesOn) (queued_then : QueuedInItsCycle) (waits : QueuedFramesWait)
    (closed : ClosedArrivalsChangeNothing) (short : (l : ℕ) → guard_of run.domain l < run.domain.cycle_time) (r : PortRecord)
    (in_links : r.link < length run.domain.links) (leaves_it : leaves run.domain r.link number ≡ true)
    (has : HasTaken run.domain ((cycle + 1) * run.domain.cycle_time) (waits_in run carried r.link cycle) r) where
  -- the verdicts at the bridge in the cycle
  abbrev policed : List Policed
  policed = policed_of run carried number cycle

  -- what is queued to the port in it
  abbrev queued : List QueuedFrame
  queued = queued_to run.domain r.link policed

  -- the bridge is the one that the port's link leaves
  own_bridge : bridge_of run.domain r.link ≡ number
  own_bridge = bridge_it_leaves run.domain r.link number in_links leaves_it

  -- what arrives at the port by the end of the cycle
  comes_then : comes_before run carried r.link (cycle + 1) ≡ waits_in run carried r.link cycle ++ queued
  comes_then =
      goes_on run carried r.link cycle
      ∙ ap (λ (b : ℕ). waits_in run carried r.link cycle ++ queued_to run.domain r.link (policed_of run carried b cycle)) own_bridge

  -- what is queued in the cycle arrived in it
  queued_when : (x : QueuedFrame) → Contains queued x → cycle_of run.domain x.arrival.at.0 ≡ cycle
  queued_when x h =
      let d = run.domain in
      let of_cycle = λ (y : QueuedFrame). cycle_of d y.arrival.at.0 == cycle in
      let same = queued_then run carried r.link cycle
      ∙ ap (λ (b : ℕ). queued_to d r.link (policed_of run carried b cycle)) own_bridge in
      eqb-true (cycle_of d x.arrival.at.0) cycle
      (contains_from_filter of_cycle (queued_before run carried r.link ((cycle + 1) * d.cycle_time)) x
      (subst (λ (xs : List QueuedFrame). Contains xs x) (sym same) h)).1

  -- so its class is closed up to the cycle's end
  queued_closed : (x : Arrival) (t : ℕ) → Contains (arrivals_of queued) x → x.at.0 ≤ t → t < (cycle + 1) * run.domain.cycle_time →
      IsOpen (compiled_lists run.domain r.link) x.class t → ⊥
  queued_closed x t h from upto is_open =
      let d = run.domain in
      let w = contains_from_map (λ (y : QueuedFrame). y.arrival) queued x h in
      let came = queued_when w.0 w.1 in
      waits d r.link t policed w.0 (short r.link) w.1 (omega (arith, from, ap (λ (y : Arrival). y.at.0) w.2))
      (omega (arith, upto, ap (λ (c : ℕ). (c + 1) * d.cycle_time) came))
      (subst (λ (y : Arrival). IsOpen (compiled_lists d r.link) y.class t) (sym w.2) is_open)

  -- and with it the port has what arrives at it by the end of the cycle
  port_has_taken : HasTaken run.domain ((cycle + 1) * run.domain.cycle_time) (comes_before run carried r.link (cycle + 1)) (port_queued run policed r)
  port_has_taken =
      let end = (cycle + 1) * run.domain.cycle_time in
      let kept = waits_in run carried r.link cycle in
      let arrivals_then : arrivals_of kept ++ arrivals_of queued ≡ arrivals_of (comes_before run carried r.link (cycle + 1)) =
      sym (map-append (λ (x : QueuedFrame). x.arrival) kept queued) ∙ sym (ap arrivals_of comes_then) in
      record {
        rules = has.rules;
        reached = has.reached;
        arrivals = ap (λ (xs : List Arrival). xs ++ arrivals_of queued) has.arrivals ∙ arrivals_then;
        streams = (λ i. has.streams i ++ streams_of_starts queued) ∙ sym (map-append (λ (x : QueuedFrame). x.stream) kept queued)
            ∙ sym (ap streams_of_starts comes_then);
        legal = subst (λ (xs : List Arrival). AreLegal (rules_on run.domain r.link) xs end r.port.starts) arrivals_then
            ((closed (rules_on run.domain r.link) (arrivals_of kept) (arrivals_of queued) end r.port.starts (octet_positive run.domain r.link in_links)
            queued_closed).1 has.legal);
      }

module _ (run : Run) (cycles cycle : ℕ) (net : Network) (before after : BridgeState) (drops : List Dropped)
    (brings : CycleBringsItsBatches) (reserves : GateIsReservation) (goes_on : PortGoesOn) (queued_then : QueuedInItsCycle)
    (waits : QueuedFramesWait) (closed : ClosedArrivalsChangeNothing) (h : ReceivesOfTheRun run cycles cycle net before after drops) where
  -- the verdicts at the bridge in the cycle
  abbrev taken : List Policed
  taken = policed_of run net.carried before.number cycle

  -- they are those on the frames that it is given
  taken_is : verdicts_in run before.number cycle (batches_into run.domain net.carried before.number cycle) ≡ taken
  taken_is = verdicts_are brings reserves run cycles cycle before.number net h.compiled

  -- the bridge after the cycle
  abbrev following : BridgeState
  following = record {
    domain = run.domain;
    number = before.number;
    sent = cycle + 1;
    received = cycle + 1;
    spent = false;
    ports = map (port_queued run taken) before.ports;
    background = before.background;
  }

  -- it is the result of the call
  is_after : after ≡ following
  is_after = h.receives.bridge ∙ (λ i. record {
    domain = h.has_sent.of_run.domain i;
    number = before.number;
    sent = (h.has_sent.turn ∙ ap (λ (n : ℕ). n + 1) (sym h.next)) i;
    received = sym h.next i + 1;
    spent = false;
    ports = map (port_queued run (taken_is i)) before.ports;
    background = before.background;
  })

  -- one of its ports has what it had when it sent the cycle
  port_had : (r : PortRecord) → Contains before.ports r →
      HasTaken run.domain ((cycle + 1) * run.domain.cycle_time) (waits_in run net.carried r.link cycle) r
  port_had r held =
      subst (λ (n : ℕ). HasTaken run.domain ((n + 1) * run.domain.cycle_time) (waits_in run net.carried r.link n) r) (sym h.next)
      (h.has_sent.ports r held)

  -- so it follows the network, one cycle further
  after_follows : FollowsTheNetwork run net following
  after_follows = record {
    of_run = record {
      domain = refl;
      inside = h.has_sent.of_run.inside;
      not_spent = refl;
      links = map-map (λ (r : PortRecord). r.link) (port_queued run taken) before.ports ∙ h.has_sent.of_run.links;
    };
    turn = refl;
    ports = λ r held. (let f = contains_from_map (port_queued run taken) before.ports r held in
        let own = port_of_link run before h.has_sent.of_run f.0 f.1 in
        subst (λ (p : PortRecord). HasTaken run.domain ((cycle + 1) * run.domain.cycle_time) (comes_before run net.carried p.link (cycle + 1)) p) f.2
        (port_has_taken run net.carried cycle before.number goes_on queued_then waits closed (λ l. guard_within run.domain l h.compiled.accepted) f.0 own.0 own.1
        (port_had f.0 f.1)));
  }

  -- and the call drops what the network drops
  drops_are : drops ≡ drops_of_cycle run net before.number cycle
  drops_are =
      h.receives.drops
      ∙ ap (λ (ps : List Policed). drops_in run.domain (length run.offers) (λ b. ps) cycle before.number) taken_is

  -- so the cycle is received
  pub cycle_is_received : GivesTheDrops run cycle net before after drops
  cycle_is_received = record {
    are_drops = drops_are;
    number = ap (λ (b : BridgeState). b.number) is_after;
    one_on = ap (λ (b : BridgeState). b.received) is_after;
    background = ap (λ (b : BridgeState). b.background) is_after;
    follows = subst (FollowsTheNetwork run net) (sym is_after) after_follows;
  }
