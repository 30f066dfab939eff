use Rattle.cqf_edge.proofs.Written.{flows_written, streams_written}
use Rattle.cqf_edge.proofs.laws.read_streams_are_written.Goals as goal

pub returns-clause-flows : goal.returns-clause-flows
returns-clause-flows c = flows_written

pub returns-clause-streams : goal.returns-clause-streams
returns-clause-streams c = streams_written
