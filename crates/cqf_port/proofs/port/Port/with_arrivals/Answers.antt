use Rattle.std.proofs.Common.{List, [], sym, subst}
use Rattle.cqf_model.specs.declared.ports.Arrival.{Arrival}
use Rattle.cqf_model.specs.Port.{Transmission}
use Rattle.cqf_model.proofs.Links.{rate_positive}
use Rattle.cqf_port.specs.PortState.{rules_of}
use Rattle.cqf_port.specs.Progress.{IsKept}
use Rattle.cqf_port.proofs.port.Port.with_arrivals.Goals as goal

-- it hasn't started anything, and keeps what it has taken
pub invariant_of-result : goal.invariant_of-result
invariant_of-result c =
    let rules = rules_of c.new.result c.args.rate in
    let kept : IsKept rules c.args.arrivals.items 0 [] c.taken_in_turn.result.0 c.taken_in_turn.result.1 =
    subst (λ (xs : List Arrival). IsKept rules xs 0 [] c.taken_in_turn.result.0 c.taken_in_turn.result.1) c.as_slice.ensures.value
    (c.taken_in_turn.ensures rules (rate_positive c.args.rate)) in
    subst (λ (starts : List Transmission). IsKept rules c.args.arrivals.items 0 starts c.taken_in_turn.result.0 c.taken_in_turn.result.1)
    (sym c.new-2.ensures.items) kept
