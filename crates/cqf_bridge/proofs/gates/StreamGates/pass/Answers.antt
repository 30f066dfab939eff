use Rattle.std.proofs.Common.{◌==◌, ◌∙◌, ◌∷◌, ◌++◌, [], ℕ, List, Option, Some, ap, drop, position, refl, sym}
use Rattle.cqf_model.specs.Policing.{gate_list_after}
use Rattle.cqf_gates.specs.StreamGate.{Gate, verdict_on}
use Rattle.cqf_bridge.specs.declared.cycle_gate.KeptGate.{KeptGate}
use Rattle.cqf_bridge.specs.declared.gates.TheConstants.{FEW}
use Rattle.cqf_bridge.specs.Gates.{gate_in, gate_or, kept_after, with_gate}
use Rattle.cqf_bridge.proofs.KeptGates.{found_at, not_found, own_gate}
use Rattle.cqf_bridge.proofs.gates.StreamGates.pass.Goals as goal

pub invariant_of-self : goal.invariant_of-self
invariant_of-self c =
    let gates = c.self.inside.kept.items in
    let row = c.args.row.now in
    let f = found_at row.no gates c.in-Some.index c.index_mut.result.now
    (ap (position (λ (k : KeptGate). k.number == row.no)) c.self.view_is ∙ sym c.index_of.ensures ∙ c.in-Some.is) c.index_mut.ensures.value in
    c.self.invariant ∙ ap (drop FEW) (f.numbers c.pass.new.self (ap (λ (k : KeptGate). k.number) c.pass.ensures.after ∙ f.of_number))

pub returns-in-Some-clause-verdict : goal.returns-in-Some-clause-verdict
returns-in-Some-clause-verdict c =
    let gates = c.self.inside.kept.items in
    let row = c.args.row.now in
    let entries = gate_list_after c.args.domain.now row c.args.ingress in
    let f = found_at row.no gates c.in-Some.index c.index_mut.result.now
    (ap (position (λ (k : KeptGate). k.number == row.no)) c.self.view_is ∙ sym c.index_of.ensures ∙ c.in-Some.is) c.index_mut.ensures.value in
    c.pass.ensures.verdict
    ∙ ap (λ (o : Option KeptGate). verdict_on (gate_or c.args.domain.now.cycle_time entries o) c.args.at.0 c.args.octets.0) (sym f.found)
    ∙ ap (λ (gs : List KeptGate). verdict_on (gate_in c.args.domain.now gs row c.args.ingress) c.args.at.0 c.args.octets.0) c.self.view_is

pub returns-in-Some-clause-after : goal.returns-in-Some-clause-after
returns-in-Some-clause-after c =
    let gates = c.self.inside.kept.items in
    let row = c.args.row.now in
    let time = c.args.domain.now.cycle_time in
    let entries = gate_list_after c.args.domain.now row c.args.ingress in
    let of : ℕ → Gate → KeptGate = λ number gate. kept_after time number gate c.args.at.0 c.args.octets.0 in
    let f = found_at row.no gates c.in-Some.index c.index_mut.result.now
    (ap (position (λ (k : KeptGate). k.number == row.no)) c.self.view_is ∙ sym c.index_of.ensures ∙ c.in-Some.is) c.index_mut.ensures.value in
    f.placed c.pass.new.self (ap (λ (k : KeptGate). k.number) c.pass.ensures.after ∙ f.of_number)
    ∙ ap (with_gate gates) (c.pass.ensures.after
    ∙ ap (λ (number : ℕ). of number (gate_or time entries (Some c.index_mut.result.now))) f.of_number
    ∙ ap (λ (o : Option KeptGate). of row.no (gate_or time entries o)) (sym f.found))
    ∙ ap (λ (gs : List KeptGate). with_gate gs (of row.no (gate_in c.args.domain.now gs row c.args.ingress))) c.self.view_is

pub returns-in_ok-keep-in-None-clause-verdict : goal.returns-in_ok-keep-in-None-clause-verdict
returns-in_ok-keep-in-None-clause-verdict c =
    let row = c.args.row.now in
    let time = c.args.domain.now.cycle_time in
    let entries = gate_list_after c.args.domain.now row c.args.ingress in
    let says : Gate → _ = λ gate. verdict_on gate c.args.at.0 c.args.octets.0 in
    let none = not_found row.no c.args.self.now (sym c.index_of.ensures ∙ c.in-None.is) in
    c.pass-passed.ensures.verdict
    ∙ ap (λ (k : KeptGate). says (gate_or time entries (Some k))) c.new-gate.ensures
    ∙ ap says (own_gate time entries row.no)
    ∙ ap (λ (o : Option KeptGate). says (gate_or time entries o)) (sym none.0)

pub returns-in_ok-keep-in-None-clause-after : goal.returns-in_ok-keep-in-None-clause-after
returns-in_ok-keep-in-None-clause-after c =
    let row = c.args.row.now in
    let time = c.args.domain.now.cycle_time in
    let entries = gate_list_after c.args.domain.now row c.args.ingress in
    let gates = c.args.self.now in
    let of : ℕ → Gate → KeptGate = λ number gate. kept_after time number gate c.args.at.0 c.args.octets.0 in
    let none = not_found row.no gates (sym c.index_of.ensures ∙ c.in-None.is) in
    c.in_ok-keep-in-None.ensures.added
    ∙ ap (λ (k : KeptGate). gates ++ k ∷ []) (c.pass-passed.ensures.after
    ∙ ap (λ (k : KeptGate). of k.number (gate_or time entries (Some k))) c.new-gate.ensures
    ∙ ap (of row.no) (own_gate time entries row.no)
    ∙ ap (λ (o : Option KeptGate). of row.no (gate_or time entries o)) (sym none.0))
    ∙ sym (none.1 (of row.no (gate_in c.args.domain.now gates row c.args.ingress)) refl)
