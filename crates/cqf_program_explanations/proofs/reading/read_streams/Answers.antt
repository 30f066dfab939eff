use Rattle.std.proofs.Common.{map}
use Rattle.cqf_network.specs.StreamsText.{stream_text}
use Rattle.cqf_edge.proofs.Written.{streams_written}
use Rattle.cqf_program_explanations.proofs.reading.read_streams.Goals as goal

-- what is read is as it may be written
pub returns-in-Ok : goal.returns-in-Ok
returns-in-Ok c = streams_written c.args.plan.now (map stream_text c.in-Ok.streams.items) c.in-Ok.ensures
