use Rattle.std.proofs.Common.{◌/◌, ◌+◌, ap, arith, ℕ}
use Rattle.cqf_model.specs.Table.{hop_number_after}
use Rattle.cqf_bridge.proofs.Frames.{over, within_it}
use Rattle.cqf_bridge.proofs.cycle_gate.KeptGate.pass.Goals as goal

pub returns-then-sum-from-clause-verdict : goal.returns-then-sum-from-clause-verdict
returns-then-sum-from-clause-verdict c =
    let row = c.args.row.now in
    let o = over c.gate_counts_cycles.ensures c.args.domain.now.cycle_time row (hop_number_after row c.args.ingress) c.args.self.now c.args.at.0 c.args.octets.0
    _ c.taken_in-taken.result (omega (arith, c.cycle_time.ensures.accepted.cycle_least))
    (ap (λ (n : ℕ). c.args.at.0 / n) c.cycle_time.ensures.value) c.taken_in-taken.ensures
    (omega (arith, c.from.ensures, c.from-2.ensures, c.from-3.ensures, c.reserved_after.ensures, c.if-sum-from.true)) in
    o.0

pub returns-then-sum-from-clause-after : goal.returns-then-sum-from-clause-after
returns-then-sum-from-clause-after c =
    let row = c.args.row.now in
    let o = over c.gate_counts_cycles.ensures c.args.domain.now.cycle_time row (hop_number_after row c.args.ingress) c.args.self.now c.args.at.0 c.args.octets.0
    _ c.taken_in-taken.result (omega (arith, c.cycle_time.ensures.accepted.cycle_least))
    (ap (λ (n : ℕ). c.args.at.0 / n) c.cycle_time.ensures.value) c.taken_in-taken.ensures
    (omega (arith, c.from.ensures, c.from-2.ensures, c.from-3.ensures, c.reserved_after.ensures, c.if-sum-from.true)) in
    o.1

pub returns-clause-verdict : goal.returns-clause-verdict
returns-clause-verdict c =
    let row = c.args.row.now in
    let o = within_it c.gate_counts_cycles.ensures c.args.domain.now.cycle_time row (hop_number_after row c.args.ingress) c.args.self.now c.args.at.0
    c.args.octets.0 _ c.taken_in-taken.result (omega (arith, c.cycle_time.ensures.accepted.cycle_least))
    (ap (λ (n : ℕ). c.args.at.0 / n) c.cycle_time.ensures.value) c.taken_in-taken.ensures c.gate_gives_class.ensures c.class_of.result c.class_of.ensures
    (omega (arith, c.from.ensures, c.from-2.ensures, c.from-3.ensures, c.reserved_after.ensures, c.if-sum-from.false)) (c.from.result + c.from-2.result)
    (omega (arith, c.from.ensures, c.from-2.ensures)) in
    o.0

pub returns-clause-after : goal.returns-clause-after
returns-clause-after c =
    let row = c.args.row.now in
    let o = within_it c.gate_counts_cycles.ensures c.args.domain.now.cycle_time row (hop_number_after row c.args.ingress) c.args.self.now c.args.at.0
    c.args.octets.0 _ c.taken_in-taken.result (omega (arith, c.cycle_time.ensures.accepted.cycle_least))
    (ap (λ (n : ℕ). c.args.at.0 / n) c.cycle_time.ensures.value) c.taken_in-taken.ensures c.gate_gives_class.ensures c.class_of.result c.class_of.ensures
    (omega (arith, c.from.ensures, c.from-2.ensures, c.from-3.ensures, c.reserved_after.ensures, c.if-sum-from.false)) (c.from.result + c.from-2.result)
    (omega (arith, c.from.ensures, c.from-2.ensures)) in
    o.1
