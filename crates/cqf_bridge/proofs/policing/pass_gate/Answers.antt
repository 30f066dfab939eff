use Rattle.std.proofs.Common.{◌≡◌, ◌∙◌, None, Option, Some, ap, arith, sym, ℕ}
use Rattle.std.proofs.lemmas.Bool.{cond-false, cond-true}
use Rattle.cqf_units.specs.Timing.{counted_of}
use Rattle.cqf_model.specs.StreamGate.{gate_class}
use Rattle.cqf_model.specs.Policing.{came_by}
use Rattle.cqf_gates.specs.StreamGate.{Gate, lets_pass, verdict_on}
use Rattle.cqf_bridge.specs.Gates.{gate_in, kept_after, with_gate}
use Rattle.cqf_bridge.specs.Taking.{class_in, passes_by, received_as}
use Rattle.cqf_bridge.proofs.PolicedVerdicts.{went_by_gate, word_class, word_over}
use Rattle.cqf_bridge.proofs.policing.pass_gate.Goals as goal

pub returns-in-Class-clause-passes : goal.returns-in-Class-clause-passes
returns-in-Class-clause-passes c =
    let d = c.args.domain.now in
    let x = received_as c.args.frame.now in
    let row = c.args.row.now in
    let gates = c.args.gates.now in
    let met : Option ℕ → Gate = λ ingress. gate_in d gates row ingress in
    let octets : c.counted-octets.result.0 ≡ counted_of d.overhead x.octets =
    c.counted-octets.ensures ∙ ap (λ (o : ℕ). counted_of o x.octets) c.overhead.ensures.value in
    let said = sym c.in-Class.is ∙ c.in_ok-class.ensures.verdict
    ∙ ap (λ (ingress : Option ℕ). verdict_on (met ingress) x.at c.counted-octets.result.0) c.link-ingress.ensures
    ∙ ap (verdict_on (met (came_by x.ingress)) x.at) octets in
    let gate = met (came_by x.ingress) in
    let w = word_class (lets_pass gate x.at (counted_of d.overhead x.octets)) c.in-Class.class (gate_class gate.entries x.at) said in
    went_by_gate d c.args.cycle.0 x row gates c.pass.new.self (omega (arith, c.know.ensures.accepted.cycle_least)) c.requires.in_cycle
    (c.in_ok-class.ensures.after
    ∙ ap (λ (ingress : Option ℕ). with_gate gates (kept_after d.cycle_time row.no (met ingress) x.at c.counted-octets.result.0)) c.link-ingress.ensures
    ∙ ap (λ (n : ℕ). with_gate gates (kept_after d.cycle_time row.no (met (came_by x.ingress)) x.at n)) octets)
    c.gate_counts_cycles.ensures (Some c.in-Class.class)
    (ap Some w.1 ∙ sym (cond-true (passes_by d gates x row) (Some (class_in d x row)) None w.0))

pub returns-in-OverOctets-clause-passes : goal.returns-in-OverOctets-clause-passes
returns-in-OverOctets-clause-passes c =
    let d = c.args.domain.now in
    let x = received_as c.args.frame.now in
    let row = c.args.row.now in
    let gates = c.args.gates.now in
    let met : Option ℕ → Gate = λ ingress. gate_in d gates row ingress in
    let octets : c.counted-octets.result.0 ≡ counted_of d.overhead x.octets =
    c.counted-octets.ensures ∙ ap (λ (o : ℕ). counted_of o x.octets) c.overhead.ensures.value in
    let said = sym c.in-OverOctets.is ∙ c.in_ok-class.ensures.verdict
    ∙ ap (λ (ingress : Option ℕ). verdict_on (met ingress) x.at c.counted-octets.result.0) c.link-ingress.ensures
    ∙ ap (verdict_on (met (came_by x.ingress)) x.at) octets in
    let gate = met (came_by x.ingress) in
    let stops = word_over (lets_pass gate x.at (counted_of d.overhead x.octets)) (gate_class gate.entries x.at) said in
    went_by_gate d c.args.cycle.0 x row gates c.pass.new.self (omega (arith, c.know.ensures.accepted.cycle_least)) c.requires.in_cycle
    (c.in_ok-class.ensures.after
    ∙ ap (λ (ingress : Option ℕ). with_gate gates (kept_after d.cycle_time row.no (met ingress) x.at c.counted-octets.result.0)) c.link-ingress.ensures
    ∙ ap (λ (n : ℕ). with_gate gates (kept_after d.cycle_time row.no (met (came_by x.ingress)) x.at n)) octets)
    c.gate_counts_cycles.ensures None
    (sym (cond-false (passes_by d gates x row) (Some (class_in d x row)) None stops))
