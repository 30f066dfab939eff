use Rattle.std.proofs.Common.{◌+◌, ◌∙◌, refl, subst, sym, true}
use Rattle.cqf_bridge.specs.BridgeState.{BridgeState}
use Rattle.cqf_bridge.specs.Receiving.{CanReceive, Handed, IsReceiveFault, IsRunOfBridge, ReceivesCycle}
use Rattle.cqf_bridge.proofs.Bridges.{state_kept}
use Rattle.cqf_bridge.proofs.Receives.{bridge_received, cycle_received, early_to_receive, gates_before, may_take, stop_is_fault, waits_for_cycle}
use Rattle.cqf_bridge.proofs.bridge.Bridge.receive.Goals as goal

pub receive_frames-received-requires-clause-waiting :
    goal.receive_frames-received-requires-clause-waiting
receive_frames-received-requires-clause-waiting c =
    let may = may_take c.args.cycle.0 c.args.table.now.cycle c.self.invariant c.if-self.false c.if-cycle-self.false c.if-self-2.false
    (sym c.cycle.ensures ∙ c.if-cycle.false) in
    waits_for_cycle _ _ _ _ may

pub receive_frames-received-requires-clause-before :
    goal.receive_frames-received-requires-clause-before
receive_frames-received-requires-clause-before c =
    let may = may_take c.args.cycle.0 c.args.table.now.cycle c.self.invariant c.if-self.false c.if-cycle-self.false c.if-self-2.false
    (sym c.cycle.ensures ∙ c.if-cycle.false) in
    gates_before _ _ _ _ may

pub invariant_of-self : goal.invariant_of-self
invariant_of-self c =
    let b = state_kept c.self.invariant in
    let may = may_take c.args.cycle.0 c.args.table.now.cycle c.self.invariant c.if-self.false c.if-cycle-self.false c.if-self-2.false
    (sym c.cycle.ensures ∙ c.if-cycle.false) in
    let run = c.requires.offers.0 in
    let of_run : IsRunOfBridge b.domain b.number c.args.cycle.0 c.args.table.now.rows c.args.offers.now run =
    subst (λ (x : BridgeState). IsRunOfBridge x.domain x.number c.args.cycle.0 c.args.table.now.rows c.args.offers.now run) (sym c.self.view_is)
    c.requires.offers.1 in
    record {
      has_gates =
          bridge_received b _ c.args.cycle.0 c.args.table.now.cycle may c.args.table.now.rows
          c.args.offers.now c.args.batches.now
          c.receive_frames-received.new.gates c.receive_frames-received.new.ports.items c.in-Ok.drops.items c.in-Ok.ensures.kept run of_run
          (c.in-Ok.ensures.takes run of_run);
      entering = c.self.invariant.entering;
    }

pub returns-in-Ok-clause-receives : goal.returns-in-Ok-clause-receives
returns-in-Ok-clause-receives c =
    let b = state_kept c.self.invariant in
    let may = may_take c.args.cycle.0 c.args.table.now.cycle c.self.invariant c.if-self.false c.if-cycle-self.false c.if-self-2.false
    (sym c.cycle.ensures ∙ c.if-cycle.false) in
    let after : BridgeState = record b { received = b.received + 1; ports = c.receive_frames-received.new.ports.items } in
    λ run of_old.
    let of_run : IsRunOfBridge b.domain b.number c.args.cycle.0 c.args.table.now.rows c.args.offers.now run =
    subst (λ (x : BridgeState). IsRunOfBridge x.domain x.number c.args.cycle.0 c.args.table.now.rows c.args.offers.now run) (sym c.self.view_is) of_old in
    subst (λ (x : BridgeState). ReceivesCycle run x after c.args.cycle.0 c.args.batches.now c.in-Ok.drops.items) c.self.view_is
    (cycle_received b _ c.args.cycle.0 c.args.table.now.cycle may c.args.table.now.rows
    c.args.offers.now c.args.batches.now
    c.receive_frames-received.new.gates c.receive_frames-received.new.ports.items c.in-Ok.drops.items c.in-Ok.ensures.kept run of_run
    (c.in-Ok.ensures.takes run of_run))

pub returns-in-Err-clause-fault : goal.returns-in-Err-clause-fault
returns-in-Err-clause-fault c =
    let b = state_kept c.self.invariant in
    let handed : Handed = record { table_cycle = c.args.table.now.cycle; rows = c.args.table.now.rows; batches = c.args.batches.now } in
    let may = may_take c.args.cycle.0 c.args.table.now.cycle c.self.invariant c.if-self.false c.if-cycle-self.false c.if-self-2.false
    (sym c.cycle.ensures ∙ c.if-cycle.false) in
    let can : CanReceive b c.args.cycle.0 handed =
    record { may = record { not_spent = may.fresh; next = may.next }; batches = c.are_batches.ensures.yes c.if-not-are_batches.false } in
    let after : BridgeState = record b { spent = true; ports = c.receive_frames-received.new.ports.items } in
    λ run of_old.
    let of_run : IsRunOfBridge b.domain b.number c.args.cycle.0 c.args.table.now.rows c.args.offers.now run =
    subst (λ (x : BridgeState). IsRunOfBridge x.domain x.number c.args.cycle.0 c.args.table.now.rows c.args.offers.now run) (sym c.self.view_is) of_old in
    subst (λ (x : BridgeState). IsReceiveFault run x after c.args.cycle.0 handed c.in-Err.fault) c.self.view_is
    (stop_is_fault run b after c.args.cycle.0 handed c.in-Err.fault can (record { spent = refl; domain = refl; number = refl; background = refl })
    (c.in-Err.ensures.stops run of_run))

pub receive_frames-received-requires-clause-early : goal.receive_frames-received-requires-clause-early
receive_frames-received-requires-clause-early c =
    let may = may_take c.args.cycle.0 c.args.table.now.cycle c.self.invariant c.if-self.false c.if-cycle-self.false c.if-self-2.false
    (sym c.cycle.ensures ∙ c.if-cycle.false) in
    early_to_receive _ _ _ _ may

pub are_batches-requires-clause-incoming : goal.are_batches-requires-clause-incoming
are_batches-requires-clause-incoming c = c.as_slice-incoming.ensures.value ∙ c.self.invariant.entering
