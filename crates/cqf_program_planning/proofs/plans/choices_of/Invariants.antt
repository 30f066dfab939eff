-- What was chosen so far, and the flows that are still to come.
use Rattle.std.proofs.Common.{◌≡◌, ◌+◌, length, map}
use Rattle.std.specs.Vec.Iter.{into_iter_items}
use Rattle.cqf_traffic.specs.FlowsText.{flow_text}
use Rattle.cqf_program_placing.specs.Settled.{settled_value}
use Rattle.cqf_program_planning.proofs.ChoicesMade.{IsChosenSoFar}
use Rattle.cqf_program_planning.proofs.plans.choices_of.Given as goal

abbrev pub invariant-loop-flow : goal.invariant-loop-flow
invariant-loop-flow l =
    IsChosenSoFar l.cycle_time.0 (map settled_value l.streams) (map flow_text l.fn.flows.items) l.times l.filled.items
    (map flow_text (into_iter_items l.flow-iterator))
    × (length l.filled.items + length (into_iter_items l.flow-iterator) ≡ length l.streams)
