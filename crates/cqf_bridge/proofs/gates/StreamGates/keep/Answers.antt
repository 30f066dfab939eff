use Rattle.std.proofs.Common.{◌≡◌, ◌==◌, ◌++◌, ◌∷◌, [], ◌∙◌, ℕ, List, position, drop, length, map, nat_eq, arith, ap, sym}
use Rattle.indexmap.specs.IndexSet.{insert_key}
use Rattle.cqf_bridge.specs.declared.cycle_gate.KeptGate.{KeptGate}
use Rattle.cqf_bridge.specs.declared.gates.TheConstants.{FEW}
use Rattle.cqf_bridge.specs.declared.gates.StreamGates.TheInside.{Inside}
use Rattle.cqf_bridge.proofs.GateIndices.{after_few, among_few}
use Rattle.cqf_bridge.proofs.gates.StreamGates.keep.Goals as goal
use Rattle.cqf_bridge.proofs.gates.StreamGates.keep.Goals.{then-len-ge-FEW+in_ok-reserve-2, else-len-ge-FEW}

pub invariant_of-self-2 : goal.invariant_of-self-2
invariant_of-self-2 c =
    let gates = c.self.inside.kept.items in
    let numbers = c.self.inside.numbers.keys in
    let listed : List KeptGate → List ℕ = λ gs. drop FEW (map (λ (k : KeptGate). k.number) gs) in
    let pushed : c.push.new.self.items ≡ c.if-len-ge-FEW.self-inside.kept.items ++ c.args.gate ∷ [] = (rw c.unwrap-2.ensures at c.push.ensures.items) in
    let reserved : c.reserve.new.self.items ≡ gates = c.reserve.ensures.items in
    elim c.if-len-ge-FEW.branch [
      | then-len-ge-FEW+in_ok-reserve-2 w ↦
          ap (λ (i : Inside). i.numbers.keys) w.self-inside-is
          ∙ after_few FEW gates c.args.gate numbers w.insert.new.self.keys
          (omega (arith, ap length reserved, c.len.ensures, w.if-len-ge-FEW.true)) c.self.invariant
          (ap (position (λ (k : KeptGate). k.number == c.args.gate.number)) c.self.view_is ∙ c.requires)
          ((rw w.unwrap.ensures at w.insert.ensures.keys) ∙ ap (λ (ns : List ℕ). insert_key nat_eq ns c.args.gate.number) w.in_ok-reserve-2.ensures.keys)
          ∙ ap listed (sym (pushed ∙ ap (λ (i : Inside). i.kept.items ++ c.args.gate ∷ []) w.self-inside-is
          ∙ ap (λ (gs : List KeptGate). gs ++ c.args.gate ∷ []) reserved))
      | else-len-ge-FEW w ↦
          ap (λ (i : Inside). i.numbers.keys) w.self-inside-is
          ∙ among_few FEW gates c.args.gate numbers
          (omega (arith, ap length reserved, c.len.ensures, w.if-len-ge-FEW.false)) c.self.invariant
          ∙ ap listed (sym (pushed ∙ ap (λ (i : Inside). i.kept.items ++ c.args.gate ∷ []) w.self-inside-is
          ∙ ap (λ (gs : List KeptGate). gs ++ c.args.gate ∷ []) reserved))
    ]
