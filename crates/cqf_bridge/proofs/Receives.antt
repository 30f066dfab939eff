-- A bridge that receives a cycle.
use Rattle.std.proofs.Common.{◌≡◌, ◌≢◌, ◌+◌, ◌*◌, ◌<◌, ℕ, true, false, List, [], ◌∙◌, inl, inr, sym, ap, arith, map, Contains, subst}
use Rattle.std.proofs.lemmas.Bool.{true≢false}
use Rattle.std.proofs.lemmas.List.Elements.{Contains-append_cases}
use Rattle.std.proofs.lemmas.Simd.{map-map}
use Rattle.cqf_lists.proofs.EachBelow.{contains_from_below}
use Rattle.cqf_lists.proofs.Members.{contains_from_flat, contains_from_map}
use Rattle.cqf_model.specs.declared.frames.Dropped.{Dropped}
use Rattle.cqf_model.specs.declared.frames.Offered.{Offered}
use Rattle.cqf_model.specs.declared.ports.Arrival.{Arrival}
use Rattle.cqf_model.specs.declared.topology.Row.{Row}
use Rattle.cqf_model.specs.Domain.{Domain}
use Rattle.cqf_model.specs.Network.{QueuedFrame, arrivals_of, queued_by, queued_to}
use Rattle.cqf_model.specs.Run.{Run}
use Rattle.cqf_model.specs.Policing.{Policed, received_at}
use Rattle.cqf_model.proofs.Coming.{queued_when, received_when}
use Rattle.cqf_model.proofs.Policing.{police_member}
use Rattle.cqf_laws_cycle.specs.BridgeCycle.{received_in}
use Rattle.cqf_bridge.specs.declared.faults.BridgeFault.{BridgeFault}
use Rattle.cqf_bridge.specs.declared.faults.BridgeFault.TheVariants as fault
use Rattle.cqf_bridge.specs.declared.cycle_gate.KeptGate.{KeptGate}
use Rattle.cqf_bridge.specs.Batch.{LinkBatch}
use Rattle.cqf_bridge.specs.BridgeState.{BridgeState, IsInStep, IsSpentBy}
use Rattle.cqf_bridge.specs.Gates.{AreKept}
use Rattle.cqf_bridge.specs.PortRecord.{PortRecord}
use Rattle.cqf_bridge.specs.Receiving.{CanReceive, Handed, IsNextToReceive, IsReceiveFault, IsRunOfBridge, ReceivesCycle, carried_by, port_queued, verdicts_in}
use Rattle.cqf_bridge.specs.Taking.{AreWaiting, HasGates, IsFaultInRun, IsKept, TakesCycle}
use Rattle.cqf_bridge.proofs.Bridges.{bridge_spent}

-- what is queued in a cycle arrives before its end
queued_early : (run : Run) (bridge cycle : ℕ) (batches : List LinkBatch) (l : ℕ) (a : Arrival) →
    Contains (arrivals_of (queued_to run.domain l (verdicts_in run bridge cycle batches))) a → a.at.0 < (cycle + 1) * run.domain.cycle_time
queued_early run bridge cycle batches l a held =
    let d = run.domain in
    let policed = verdicts_in run bridge cycle batches in
    let f = contains_from_map (λ (q : QueuedFrame). q.arrival) (queued_to d l policed) a held in
    let g = contains_from_flat (λ (p : Policed). queued_by d l p.received p.verdict) policed f.0 f.1 in
    let m = police_member d run.tables bridge [] (received_in run (carried_by batches) bridge cycle) g.0 g.1 in
    let o = contains_from_below (λ offset. received_at run (carried_by batches) bridge (cycle * d.cycle_time + offset)) d.cycle_time g.0.received m in
    omega (
      arith,
      received_when run (carried_by batches) bridge (cycle * d.cycle_time + o.0) g.0.received o.2,
      o.1,
      queued_when d l g.0.received g.0.verdict f.0 g.2,
      ap (λ (b : Arrival). b.at.0) f.2,
    )

-- the bridge has its gates and isn't spent, and the cycle is the next to be received
pub record MayTake (b : BridgeState) (gates : List KeptGate) (cycle table_cycle : ℕ) : Type 0 where
  pub has_gates : HasGates b gates
  pub fresh : b.spent ≡ false
  pub next : IsNextToReceive b cycle table_cycle

-- so a kept bridge may take a cycle that passes its tests
pub may_take : {b : BridgeState} {gates : List KeptGate} {incoming : List ℕ} (cycle table_cycle : ℕ) → IsKept b gates incoming → b.spent ≡ false →
    cycle ≡ b.received → b.sent ≢ b.received → table_cycle ≡ cycle → MayTake b gates cycle table_cycle
may_take cycle table_cycle kept fresh first sent_more same = record {
  has_gates = kept.has_gates;
  fresh = fresh;
  next = (first, (elim kept.has_gates.bridge.turn [ inl none ↦ absurd (sent_more none) | inr one ↦ one ]), same);
}

module _ (b : BridgeState) (gates : List KeptGate) (cycle table_cycle : ℕ) (may : MayTake b gates cycle table_cycle) where
  -- it is one of the first 100,000
  pub early_to_receive : cycle < 100000
  early_to_receive = omega (arith, may.has_gates.bridge.few, may.next.0, may.next.1)

  -- its ports wait for the cycle
  pub waits_for_cycle : AreWaiting b.domain cycle (cycle * b.domain.cycle_time) b.ports
  waits_for_cycle r held =
      let step = may.has_gates.bridge.in_step may.fresh r held in
      record {
        rules = step.rules;
        reached = step.reached ∙ ap (λ (n : ℕ). n * b.domain.cycle_time) (may.next.1 ∙ ap (λ (n : ℕ). n + 1) (sym may.next.0));
        sooner = λ a inside high. omega (arith, step.of_streams a inside high, ap (λ (n : ℕ). n * b.domain.cycle_time) may.next.0);
      }

  -- and its gates were called before it
  pub gates_before : AreKept cycle gates
  gates_before = subst (λ (n : ℕ). AreKept n gates) (sym may.next.0) (may.has_gates.gates_kept may.fresh)

  module _ (rows : List Row) (offers : List Offered) (batches : List LinkBatch) (gates_after : List KeptGate) (ports : List PortRecord) (drops : List Dropped)
      (kept : AreKept (cycle + 1) gates_after) where
    abbrev following : BridgeState
    following = record {
      domain = b.domain;
      number = b.number;
      sent = b.sent;
      received = b.received + 1;
      spent = b.spent;
      ports = ports;
      background = b.background;
    }

    module _ (run : Run) (of_run : IsRunOfBridge b.domain b.number cycle rows offers run)
        (takes : TakesCycle run b.number cycle batches b.ports ports drops) where
      -- a port with what was queued to it is in step
      port_in_step : (r : PortRecord) → Contains b.ports r → IsInStep b.domain b.sent (b.received + 1)
          (port_queued run (verdicts_in run b.number cycle batches) r)
      port_in_step r held =
          let step = may.has_gates.bridge.in_step may.fresh r held in
          let time = b.domain.cycle_time in
          let early : (a : Arrival) → Contains (arrivals_of (queued_to run.domain r.link (verdicts_in run b.number cycle batches))) a →
          a.at.0 < (b.received + 1) * time =
          λ a new. omega (
            arith,
            queued_early run b.number cycle batches r.link a new,
            ap (λ (x : Domain). (cycle + 1) * x.cycle_time) of_run.domain,
            ap (λ (n : ℕ). (n + 1) * time) may.next.0,
          ) in
          record {
            rules = step.rules;
            reached = step.reached;
            background = λ a inside low. elim (Contains-append_cases r.port.arrivals
                (arrivals_of (queued_to run.domain r.link (verdicts_in run b.number cycle batches))) a inside) [
                  | inl old ↦ step.background a old low
                  | inr new ↦ omega (arith, early a new, ap (λ (n : ℕ). n * time) may.next.1)
                ];
            of_streams = λ a inside high. elim (Contains-append_cases r.port.arrivals
                (arrivals_of (queued_to run.domain r.link (verdicts_in run b.number cycle batches))) a inside) [
                  | inl old ↦ omega (arith, step.of_streams a old high)
                  | inr new ↦ early a new
                ];
          }

      -- the bridge satisfies the invariant again
      pub bridge_received : HasGates following gates_after
      bridge_received = record {
        bridge = record {
          accepted = may.has_gates.bridge.accepted;
          inside = may.has_gates.bridge.inside;
          turn = inl may.next.1;
          few = may.has_gates.bridge.few;
          links = λ _.
              ap (map (λ (r : PortRecord). r.link)) takes.queued
              ∙ map-map (λ (r : PortRecord). r.link) (port_queued run (verdicts_in run b.number cycle batches)) b.ports
              ∙ may.has_gates.bridge.links may.fresh;
          in_step = λ _ r held.
              let f = contains_from_map (port_queued run (verdicts_in run b.number cycle batches)) b.ports r
              (subst (λ (rs : List PortRecord). Contains rs r) takes.queued held) in
              subst (IsInStep b.domain b.sent (b.received + 1)) f.2 (port_in_step f.0 f.1);
        };
        gates_kept = λ _. subst (λ (n : ℕ). AreKept (n + 1) gates_after) may.next.0 kept;
      }

      -- and has received the cycle
      pub cycle_received : ReceivesCycle run b following cycle batches drops
      cycle_received = record {
        bridge = λ i. record {
          domain = b.domain;
          number = b.number;
          sent = b.sent;
          received = b.received + 1;
          spent = may.fresh i;
          ports = takes.queued i;
          background = b.background;
        };
        none_lost = takes.none_lost;
        drops = takes.dropped;
      }

-- a spent bridge may have any gates
pub gates_spent : (b : BridgeState) (gates gates_after : List KeptGate) (ports : List PortRecord) → HasGates b gates →
    HasGates (record b { spent = true; ports = ports }) gates_after
gates_spent b gates gates_after ports is = record { bridge = bridge_spent b ports is.bridge; gates_kept = λ never. absurd (true≢false never) }

-- why a bridge stops
pub stop_is_fault : (run : Run) (before after : BridgeState) (cycle : ℕ) (handed : Handed) (why : BridgeFault) → CanReceive before cycle handed →
    IsSpentBy before after → IsFaultInRun run before.number cycle handed.batches why → IsReceiveFault run before after cycle handed why
stop_is_fault run before after cycle handed fault.Spent can spent stop = absurd stop
stop_is_fault run before after cycle handed fault.WrongCycle can spent stop = absurd stop
stop_is_fault run before after cycle handed fault.StrangeBatch can spent stop = absurd stop
stop_is_fault run before after cycle handed (fault.OverOctets frame) can spent stop = (can, stop, spent)
stop_is_fault run before after cycle handed fault.Memory can spent stop = (can, spent)
