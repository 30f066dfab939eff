use Rattle.std.proofs.Common.{◌∙◌, ℕ, arith, ap, subst, sym}
use Rattle.cqf_bridge.specs.BridgeState.{BridgeState}
use Rattle.cqf_bridge.specs.Quiet.{IsQuiet, MayPass, passed}
use Rattle.cqf_bridge.specs.Taking.{IsKept}
use Rattle.cqf_bridge.proofs.Bridges.{state_kept}
use Rattle.cqf_bridge.proofs.Resting.{gates_passed, passed_so, rests_later}
use Rattle.cqf_bridge.proofs.bridge.Bridge.pass.Goals as goal

pub rest_ports-requires : goal.rest_ports-requires
rest_ports-requires c =
    let b = state_kept c.self.invariant in
    let may : MayPass b c.args.cycle.0 = subst (λ (x : BridgeState). MayPass x c.args.cycle.0) (sym c.self.view_is) c.requires in
    record {
      early = omega (arith, c.end_of-end.ensures.early);
      later = λ r held. omega (arith, rests_later b c.args.cycle.0 c.self.invariant.has_gates.bridge may r held, c.end_of-end.ensures.value);
      quiet = λ r held. subst (λ (n : ℕ). IsQuiet n r) (sym c.end_of-end.ensures.value) (may.quiet r held);
    }

pub invariant_of-self : goal.invariant_of-self
invariant_of-self c =
    let b = state_kept c.self.invariant in
    let may : MayPass b c.args.cycle.0 = subst (λ (x : BridgeState). MayPass x c.args.cycle.0) (sym c.self.view_is) c.requires in
    subst (λ (x : BridgeState). IsKept x c.self.inside.gates c.self.inside.incoming.items)
    (sym (passed_so b c.args.cycle.0 c.end_of-end.result.0 c.rest_ports.new.ports.items _ may c.end_of-end.ensures.value c.in-Ok.ensures c.clear.ensures.items))
    (record {
      has_gates = gates_passed b c.args.cycle.0 c.self.invariant.has_gates.bridge may _ c.self.invariant.has_gates;
      entering = c.self.invariant.entering;
    })

pub returns-in-Ok-clause-passes : goal.returns-in-Ok-clause-passes
returns-in-Ok-clause-passes c =
    let b = state_kept c.self.invariant in
    let may : MayPass b c.args.cycle.0 = subst (λ (x : BridgeState). MayPass x c.args.cycle.0) (sym c.self.view_is) c.requires in
    let so = passed_so b c.args.cycle.0 c.end_of-end.result.0 c.rest_ports.new.ports.items _ may c.end_of-end.ensures.value c.in-Ok.ensures
    c.clear.ensures.items in
    so ∙ ap (passed c.args.cycle.0) c.self.view_is
