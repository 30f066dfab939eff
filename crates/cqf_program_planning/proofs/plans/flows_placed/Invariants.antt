-- Those so far come before those of the rest.
use Rattle.std.proofs.Common.{◌≡◌, ◌++◌, map}
use Rattle.cqf_model.specs.History.{Asked}
use Rattle.cqf_traffic.specs.FlowsText.{flow_text}
use Rattle.cqf_program_placing.specs.Settled.{SettledStream}
use Rattle.cqf_program_planning.specs.Judging.{flow_of}
use Rattle.cqf_program_planning.proofs.PlacedLemmas.{those_from}
use Rattle.cqf_program_planning.proofs.plans.flows_placed.Given as goal

abbrev pub invariant-loop-index : goal.invariant-loop-index
invariant-loop-index l =
    map (λ (one : SettledStream × Asked). flow_of l.cycle_time.0 one.0 one.1) (those_from l.streams l.outcomes 0)
    ≡ map flow_text l.flows.items
    ++ map (λ (one : SettledStream × Asked). flow_of l.cycle_time.0 one.0 one.1) (those_from l.streams l.outcomes l.index)
