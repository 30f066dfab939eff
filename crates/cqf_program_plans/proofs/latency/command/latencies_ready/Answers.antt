use Rattle.std.proofs.Common.{subst, sym}
use Rattle.cqf_admission.specs.ActiveCycles.{AreOfGoodPaces}
use Rattle.cqf_program_plans.proofs.latency.command.latencies_ready.Goals as goal

pub latencies_from_talkers-requires-clause-good : goal.latencies_from_talkers-requires-clause-good
latencies_from_talkers-requires-clause-good c = subst AreOfGoodPaces (sym c.as_slice.ensures.value) c.requires.good
