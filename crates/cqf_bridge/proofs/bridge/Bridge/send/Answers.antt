use Rattle.std.proofs.Common.{◌≡◌, ◌+◌, ◌<◌, false, length, subst, sym, List, []}
use Rattle.cqf_model.specs.declared.frames.Started.{Started}
use Rattle.cqf_bridge.specs.BridgeState.{AreBackedOf, BridgeState, IsNextToSend, SendsCycle}
use Rattle.cqf_bridge.specs.Sending.{FirstSend}
use Rattle.cqf_bridge.proofs.Bridges.{bridge_after, cycle_sent, ready_to_send, state_kept}
use Rattle.cqf_bridge.proofs.bridge.Bridge.send.Goals as goal

pub send_ports-sent-requires-clause-in_step : goal.send_ports-sent-requires-clause-in_step
send_ports-sent-requires-clause-in_step c =
    let b = state_kept c.self.invariant in
    let frames : AreBackedOf b.domain b.number c.args.cycle.0 c.args.background.now =
    subst (λ (x : BridgeState). AreBackedOf x.domain x.number c.args.cycle.0 c.args.background.now) (sym c.self.view_is) c.requires.frames in
    let next : IsNextToSend b c.args.cycle.0 = (c.if-cycle-self.false, c.if-self-2.false) in
    ready_to_send b c.self.invariant.has_gates.bridge c.if-self.false c.args.cycle.0 next c.args.background.now frames

pub invariant_of-self : goal.invariant_of-self
invariant_of-self c =
    let b = state_kept c.self.invariant in
    let frames : AreBackedOf b.domain b.number c.args.cycle.0 c.args.background.now =
    subst (λ (x : BridgeState). AreBackedOf x.domain x.number c.args.cycle.0 c.args.background.now) (sym c.self.view_is) c.requires.frames in
    let next : IsNextToSend b c.args.cycle.0 = (c.if-cycle-self.false, c.if-self-2.false) in
    let sends : FirstSend b.domain c.args.cycle.0 c.args.background.now (length b.ports) b.ports c.send_ports-sent.new.ports.items
    c.args.batches.now.items c.send_ports-sent.new.batches.items [] c.send_ports-sent.new.started.items =
    subst (λ (xs : List Started). FirstSend b.domain c.args.cycle.0 c.args.background.now (length b.ports) b.ports c.send_ports-sent.new.ports.items
    c.args.batches.now.items c.send_ports-sent.new.batches.items xs c.send_ports-sent.new.started.items) c.new-started.ensures.items c.in-Ok.ensures.sends in
    record {
      has_gates = record {
        bridge = bridge_after b c.self.invariant.has_gates.bridge c.if-self.false c.args.cycle.0 next c.args.background.now frames _ _ _ _ sends
            (subst (λ (x : BridgeState). x.spent ≡ false → IsNextToSend x c.args.cycle.0 → c.args.cycle.0 < 100000) (sym c.self.view_is)
            c.requires.early c.if-self.false next);
        gates_kept = c.self.invariant.has_gates.gates_kept;
      };
      entering = c.self.invariant.entering;
    }

pub returns-in-Ok-clause-sends : goal.returns-in-Ok-clause-sends
returns-in-Ok-clause-sends c =
    let b = state_kept c.self.invariant in
    let frames : AreBackedOf b.domain b.number c.args.cycle.0 c.args.background.now =
    subst (λ (x : BridgeState). AreBackedOf x.domain x.number c.args.cycle.0 c.args.background.now) (sym c.self.view_is) c.requires.frames in
    let next : IsNextToSend b c.args.cycle.0 = (c.if-cycle-self.false, c.if-self-2.false) in
    let sends : FirstSend b.domain c.args.cycle.0 c.args.background.now (length b.ports) b.ports c.send_ports-sent.new.ports.items
    c.args.batches.now.items c.send_ports-sent.new.batches.items [] c.send_ports-sent.new.started.items =
    subst (λ (xs : List Started). FirstSend b.domain c.args.cycle.0 c.args.background.now (length b.ports) b.ports c.send_ports-sent.new.ports.items
    c.args.batches.now.items c.send_ports-sent.new.batches.items xs c.send_ports-sent.new.started.items) c.new-started.ensures.items c.in-Ok.ensures.sends in
    let after : BridgeState = record b { sent = b.sent + 1; ports = c.send_ports-sent.new.ports.items; background = c.send_ports-sent.new.started.items } in
    subst (λ (x : BridgeState). SendsCycle x after c.args.cycle.0 c.args.background.now c.args.batches.now.items c.send_ports-sent.new.batches.items)
    c.self.view_is
    (cycle_sent b c.self.invariant.has_gates.bridge c.if-self.false c.args.cycle.0 next c.args.background.now frames _ _ _ _ sends)

pub send_ports-sent-requires-clause-early : goal.send_ports-sent-requires-clause-early
send_ports-sent-requires-clause-early c =
    let next : IsNextToSend (state_kept c.self.invariant) c.args.cycle.0 = (c.if-cycle-self.false, c.if-self-2.false) in
    subst (λ (x : BridgeState). x.spent ≡ false → IsNextToSend x c.args.cycle.0 → c.args.cycle.0 < 100000) (sym c.self.view_is)
    c.requires.early c.if-self.false next
