use Rattle.std.proofs.Common.{length, subst}
use Rattle.cqf_admission.specs.ActiveCycles.{AreOfGoodPaces}
use Rattle.cqf_program_plans.specs.Latency.Output.{AreCountable, DomainTable}
use Rattle.cqf_program_plans.proofs.latency.costs.Costs.rows.Goals as goal

pub returns-clause-countable : goal.returns-clause-countable
returns-clause-countable c = subst (λ (t : DomainTable). AreCountable (length t.domain.links) t.rows) c.self.view_is c.self.invariant.countable

pub returns-clause-good : goal.returns-clause-good
returns-clause-good c = subst (λ (t : DomainTable). AreOfGoodPaces t.rows) c.self.view_is c.self.invariant.good
