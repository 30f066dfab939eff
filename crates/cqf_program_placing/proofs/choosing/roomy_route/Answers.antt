use Rattle.std.proofs.Common.{subst, sym}
use Rattle.cqf_program_placing.specs.ActiveCycles.{AreGoodActiveCycles}
use Rattle.cqf_program_placing.proofs.choosing.roomy_route.Goals as goal

pub is_roomy-requires-clause-active_cycles : goal.is_roomy-requires-clause-active_cycles
is_roomy-requires-clause-active_cycles c = subst AreGoodActiveCycles (sym c.in-Ok.ensures.ok.same_active_cycles) c.requires.good
