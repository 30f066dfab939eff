use Rattle.std.proofs.Common.{◌∙◌, List, ap, length, map, subst, sym}
use Rattle.std.proofs.lemmas.List.{length-map}
use Rattle.cqf_network.specs.NetworkDomain.{domain_at}
use Rattle.cqf_program_placing.specs.Placing.{PlacedOr, outcome_value}
use Rattle.cqf_program_placing.specs.Settled.{settled_value}
use Rattle.cqf_program_planning.specs.Orders.{good_in, next_order}
use Rattle.cqf_program_planning.specs.Searching.{IsFoundTried}
use Rattle.cqf_program_planning.proofs.Searches.{inside_settled, run_length}
use Rattle.cqf_program_planning.proofs.searching.try_order.Goals as goal

-- each stream of the order has an outcome
pub tried_in-requires-clause-each : goal.tried_in-requires-clause-each
tried_in-requires-clause-each c =
    let streams = c.args.streams.now in
    let order = c.args.order.now in
    sym (length-map c.outcomes.result.now outcome_value)
    ∙ ap length c.outcomes.ensures
    ∙ run_length c.args.network.now (map settled_value streams) c.args.cycle_time order c.in_ok-run.run'
    (record { domain = c.in_ok-run.ensures.domain; run_are = c.in_ok-run.ensures.placed }) (inside_settled streams order c.requires.inside)

pub next_order-requires-clause-each : goal.next_order-requires-clause-each
next_order-requires-clause-each c =
    let streams = c.args.streams.now in
    let order = c.args.order.now in
    sym (length-map c.outcomes-2.result.now outcome_value)
    ∙ ap length c.outcomes-2.ensures
    ∙ run_length c.args.network.now (map settled_value streams) c.args.cycle_time order c.in_ok-run.run'
    (record { domain = c.in_ok-run.ensures.domain; run_are = c.in_ok-run.ensures.placed }) (inside_settled streams order c.requires.inside)

pub returns : goal.returns
returns c =
    let those = map settled_value c.args.streams.now in
    let order = c.args.order.now in
    record {
      run = c.in_ok-run.run';
      is_run = record { domain = c.in_ok-run.ensures.domain; run_are = c.in_ok-run.ensures.placed };
      good = subst (λ (xs : List PlacedOr). IsFoundTried those (good_in (domain_at c.args.network.now c.args.cycle_time) those order xs) c.in_ok-found.found)
          c.outcomes.ensures c.in_ok-found.ensures;
      next_is = c.in_ok-next.ensures ∙ ap (next_order those order) c.outcomes-2.ensures;
    }
