use Rattle.std.proofs.Common.{◌∙◌, ◌<◌, ℕ, All, List, ap, length, map, subst, sym}
use Rattle.std.proofs.lemmas.List.{length-map}
use Rattle.cqf_program_placing.specs.Placing.{outcome_value}
use Rattle.cqf_program_placing.specs.Settled.{settled_value}
use Rattle.cqf_program_planning.specs.Orders.{first_order, next_order}
use Rattle.cqf_program_planning.proofs.OrderLemmas.{first_inside, length_first}
use Rattle.cqf_program_planning.proofs.searching.order_after.Goals as goal

-- the first order is one of the streams
pub next_order-requires-clause-inside : goal.next_order-requires-clause-inside
next_order-requires-clause-inside c =
    let streams = c.args.streams.now in
    let is = c.as_slice.ensures.value ∙ c.in_ok-order.ensures in
    subst (λ (xs : List ℕ). All (λ index. index < length streams) xs) (sym is) (first_inside (length streams))

pub next_order-requires-clause-each : goal.next_order-requires-clause-each
next_order-requires-clause-each c =
    let streams = c.args.streams.now in
    let is = c.as_slice.ensures.value ∙ c.in_ok-order.ensures in
    c.requires ∙ sym (length_first (length streams)) ∙ ap length (sym is)

pub returns : goal.returns
returns c =
    let streams = c.args.streams.now in
    let those = map settled_value streams in
    let is = c.as_slice.ensures.value ∙ c.in_ok-order.ensures ∙ ap first_order (sym (length-map streams settled_value)) in
    c.in_ok-next.ensures ∙ ap (λ (xs : List ℕ). next_order those xs (map outcome_value c.args.outcomes.now)) is
