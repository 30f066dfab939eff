use Rattle.std.proofs.Common.{◌∙◌, List, ap, length, map, subst}
use Rattle.std.proofs.lemmas.List.{length-map}
use Rattle.cqf_program_placing.specs.declared.settled.Settled.{Settled}
use Rattle.cqf_program_placing.specs.Placing.{outcome_value}
use Rattle.cqf_program_placing.specs.Settled.{settled_value}
use Rattle.cqf_program_planning.specs.Judging.{flows_placed}
use Rattle.cqf_program_planning.specs.Steps.{AreTurned}
use Rattle.cqf_program_planning.specs.Trying.{ComesOfAll}
use Rattle.cqf_program_planning.proofs.plan_command.plan_of.Goals as goal

-- each stream has an outcome
pub network_text-requires-clause-each : goal.network_text-requires-clause-each
network_text-requires-clause-each c =
    let those = map settled_value c.as_slice.result.now in
    let planned = subst (ComesOfAll c.args.given.now.domain those c.args.search) c.in-Ok-Planned.field-0-is c.in-Ok-Planned.ensures in
    planned.each ∙ length-map c.as_slice.result.now settled_value ∙ ap length c.as_slice.ensures.value

-- each that is placed is offered early
pub network_text-requires-clause-early : goal.network_text-requires-clause-early
network_text-requires-clause-early c =
    let those = map settled_value c.as_slice.result.now in
    let planned = subst (ComesOfAll c.args.given.now.domain those c.args.search) c.in-Ok-Planned.field-0-is c.in-Ok-Planned.ensures in
    planned.early

-- and in one of some cycles
pub network_text-requires-clause-turned : goal.network_text-requires-clause-turned
network_text-requires-clause-turned c =
    let those = map settled_value c.as_slice.result.now in
    let planned = subst (ComesOfAll c.args.given.now.domain those c.args.search) c.in-Ok-Planned.field-0-is c.in-Ok-Planned.ensures in
    let tried = c.in-Ok-Planned.tried in
    subst (λ (streams : List Settled). AreTurned (map settled_value streams)
    (flows_placed tried.domain.cycle_time (map settled_value streams) (map outcome_value tried.outcomes.items))) c.as_slice.ensures.value planned.turned
