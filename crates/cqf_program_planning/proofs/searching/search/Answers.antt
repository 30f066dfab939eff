use Rattle.std.proofs.Common.{◌∙◌, ap, arith, map, sym}
use Rattle.std.specs.Prelude.{option_map}
use Rattle.cqf_program_placing.specs.Placing.{outcome_value}
use Rattle.cqf_program_placing.specs.Settled.{settled_value}
use Rattle.cqf_program_planning.specs.Orders.{order_after}
use Rattle.cqf_program_planning.proofs.Searches.{inside_next, many_next, search_begins, search_ends, search_later, search_spent, search_taken}
use Rattle.cqf_program_planning.proofs.searching.search.Goals as goal

pub loop-attempt-init : goal.loop-attempt-init
loop-attempt-init c =
    search_begins c.args.network.now (map settled_value c.args.streams.now) c.args.cycle_time c.args.tries (map outcome_value c.args.outcomes.now)
    (option_map (λ order. order.items) c.in_ok-next.next) c.in_ok-next.ensures

-- there is no other order
pub returns-in_default : goal.returns-in_default
returns-in_default c =
    let those = map settled_value c.args.streams.now in
    search_ends c.args.network.now those c.args.cycle_time c.args.tries c.loop-attempt._attempt (order_after those (map outcome_value c.args.outcomes.now))
    (option_map (λ order. order.items) c.loop-attempt.next) c.loop-attempt.invariant (ap (option_map (λ order. order.items)) c.in_default.is)

-- the next order is one of the streams
pub try_order-requires-clause-inside : goal.try_order-requires-clause-inside
try_order-requires-clause-inside c =
    let those = map settled_value c.args.streams.now in
    inside_next c.args.network.now c.args.streams.now c.args.cycle_time c.args.tries c.loop-attempt._attempt
    (order_after those (map outcome_value c.args.outcomes.now)) (option_map (λ order. order.items) c.loop-attempt.next) c.in-Some.order.items
    c.as_slice.result.now c.loop-attempt.invariant (ap (option_map (λ order. order.items)) c.in-Some.is) c.as_slice.ensures.value

pub try_order-requires-clause-many : goal.try_order-requires-clause-many
try_order-requires-clause-many c =
    let those = map settled_value c.args.streams.now in
    many_next c.args.network.now c.args.streams.now c.args.cycle_time c.args.tries c.loop-attempt._attempt
    (order_after those (map outcome_value c.args.outcomes.now)) (option_map (λ order. order.items) c.loop-attempt.next) c.in-Some.order.items
    c.as_slice.result.now c.loop-attempt.invariant (ap (option_map (λ order. order.items)) c.in-Some.is) c.as_slice.ensures.value

-- it is good
pub returns-then-is_some : goal.returns-then-is_some
returns-then-is_some c =
    let those = map settled_value c.args.streams.now in
    search_taken c.args.network.now c.args.streams.now c.args.cycle_time c.args.tries c.loop-attempt._attempt
    (order_after those (map outcome_value c.args.outcomes.now)) (option_map (λ order. order.items) c.loop-attempt.next) c.in-Some.order.items
    c.as_slice.result.now c.loop-attempt.invariant (ap (option_map (λ order. order.items)) c.in-Some.is) c.as_slice.ensures.value
    c.loop-attempt-test.true c.in_ok-found.found (option_map (λ order. order.items) c.in_ok-found.later) c.in_ok-found.ensures
    (sym c.is_some.ensures ∙ c.if-is_some.true)

-- or another is tried
pub loop-attempt-preserved : goal.loop-attempt-preserved
loop-attempt-preserved c =
    let those = map settled_value c.args.streams.now in
    search_later c.args.network.now c.args.streams.now c.args.cycle_time c.args.tries c.loop-attempt._attempt
    (order_after those (map outcome_value c.args.outcomes.now)) (option_map (λ order. order.items) c.loop-attempt.next) c.in-Some.order.items
    c.as_slice.result.now c.loop-attempt.invariant (ap (option_map (λ order. order.items)) c.in-Some.is) c.as_slice.ensures.value
    c.loop-attempt-test.true c.in_ok-found.found (option_map (λ order. order.items) c.in_ok-found.later) c.in_ok-found.ensures
    (sym c.is_some.ensures ∙ c.if-is_some.false)

-- all tries are spent
pub returns : goal.returns
returns c =
    let those = map settled_value c.args.streams.now in
    search_spent c.args.network.now those c.args.cycle_time c.args.tries c.loop-attempt._attempt (order_after those (map outcome_value c.args.outcomes.now))
    (option_map (λ order. order.items) c.loop-attempt.next) c.loop-attempt.invariant (omega (arith, c.loop-attempt-test.false))
