-- What is found from the next order on is what is found of all.
use Rattle.std.proofs.Common.{map}
use Rattle.std.specs.Prelude.{option_map}
use Rattle.cqf_program_placing.specs.Placing.{outcome_value}
use Rattle.cqf_program_placing.specs.Settled.{settled_value}
use Rattle.cqf_program_planning.specs.Orders.{order_after}
use Rattle.cqf_program_planning.proofs.Searches.{IsSearching}
use Rattle.cqf_program_planning.proofs.searching.search.Given as goal

abbrev pub invariant-loop-attempt : goal.invariant-loop-attempt
invariant-loop-attempt l =
    IsSearching l.network (map settled_value l.streams) l.cycle_time l.tries l._attempt
    (order_after (map settled_value l.streams) (map outcome_value l.outcomes)) (option_map (λ order. order.items) l.next)
