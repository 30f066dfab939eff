use Rattle.std.proofs.Common.{◌==◌, ◌∙◌, List, Some, None, position, take, arith, ap}
use Rattle.cqf_bridge.specs.declared.cycle_gate.KeptGate.{KeptGate}
use Rattle.cqf_bridge.specs.declared.gates.TheConstants.{FEW}
use Rattle.cqf_bridge.proofs.GateIndices.{index_after}
use Rattle.cqf_bridge.proofs.gates.StreamGates.index_of.Goals as goal

pub returns-in-Some-get_index_of : goal.returns-in-Some-get_index_of
returns-in-Some-get_index_of c =
    index_after c.args.number FEW c.self.inside.kept.items c.self.inside.numbers.keys (Some c.in-Some-get_index_of.index)
    (omega (arith, c.len.ensures, c.if-len-le-FEW.false)) c.self.invariant
    (c.in_default.ensures ∙ ap (λ (gs : List KeptGate). position (λ (k : KeptGate). k.number == c.args.number) (take FEW gs)) c.deref.ensures.value)
    c.in-Some-get_index_of.ensures.index
    ∙ ap (position (λ (k : KeptGate). k.number == c.args.number)) c.self.view_is

pub returns-in-None : goal.returns-in-None
returns-in-None c =
    index_after c.args.number FEW c.self.inside.kept.items c.self.inside.numbers.keys None
    (omega (arith, c.len.ensures, c.if-len-le-FEW.false)) c.self.invariant
    (c.in_default.ensures ∙ ap (λ (gs : List KeptGate). position (λ (k : KeptGate). k.number == c.args.number) (take FEW gs)) c.deref.ensures.value)
    c.in-None.ensures.index
    ∙ ap (position (λ (k : KeptGate). k.number == c.args.number)) c.self.view_is
