use Rattle.cqf_topology.proofs.domain.Domain.overhead.Goals as goal

pub returns-clause-short : goal.returns-clause-short
returns-clause-short c = c.self.invariant.accepted.overhead_short
