use Rattle.std.proofs.Common.{map}
use Rattle.cqf_network.specs.StreamsText.{stream_text}
use Rattle.cqf_edge.proofs.Written.{streams_written}
use Rattle.cqf_program_planning.proofs.plan_command.wanted_part.Goals as goal

-- what is read is as it may be written
pub returns-in-Ok-clause-written : goal.returns-in-Ok-clause-written
returns-in-Ok-clause-written c = streams_written c.args.document (map stream_text c.in-Ok.streams.items) c.in-Ok.ensures
