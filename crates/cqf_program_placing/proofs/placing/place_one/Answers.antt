use Rattle.std.proofs.Common.{subst, sym}
use Rattle.cqf_program_placing.specs.declared.active_cycles.ActiveCycles.{ActiveCycles}
use Rattle.cqf_program_placing.specs.ActiveCycles.{CostsSome}
use Rattle.cqf_program_placing.proofs.Stepping.{costs_some}
use Rattle.cqf_program_placing.proofs.placing.place_one.Goals as goal

pub place_with-requires-clause-some : goal.place_with-requires-clause-some
place_with-requires-clause-some c =
    subst (λ (active_cycles : ActiveCycles). CostsSome active_cycles c.in-Ok.octets) (sym c.active_cycles_on-active_cycles.ensures.value)
    (costs_some c.cycle_time.result.0 c.in-Ok.octets c.args.stream.now.pacing c.args.stream.now.traffic c.in-Ok.ensures.some)
