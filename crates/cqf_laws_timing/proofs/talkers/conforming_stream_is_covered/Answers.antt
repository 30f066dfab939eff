use Rattle.cqf_laws_timing.proofs.Taking.{conforming_own_is_covered, conforming_stream_goes_on, conforming_stream_is_covered}
use Rattle.cqf_laws_timing.proofs.talkers.conforming_stream_is_covered.Goals as goal

pub returns-clause-named : goal.returns-clause-named
returns-clause-named c = conforming_stream_is_covered

pub returns-clause-own : goal.returns-clause-own
returns-clause-own c = conforming_own_is_covered

pub returns-clause-goes_on : goal.returns-clause-goes_on
returns-clause-goes_on c = conforming_stream_goes_on c.edge_is_covered.ensures
