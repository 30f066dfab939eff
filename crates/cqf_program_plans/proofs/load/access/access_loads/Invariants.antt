-- What the streams before the index take.
use Rattle.cqf_program_plans.proofs.AccessLoads.{AreLoaded}
use Rattle.cqf_program_plans.proofs.load.access.access_loads.Given as goal

abbrev pub invariant-loop-index : goal.invariant-loop-index
invariant-loop-index l = AreLoaded l.network.overhead l.cycle_time.0 l.initial.loads.items l.edge.handed.items l.edge.flows.items l.index l.loads.items
