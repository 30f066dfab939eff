-- The streams so far are put.
use Rattle.std.proofs.Common.{map, take, true}
use Rattle.cqf_output.specs.Writer.{Puts}
use Rattle.cqf_program_json.specs.Arrays.{listed}
use Rattle.cqf_program_json.specs.Text.{stream_text}
use Rattle.cqf_program_json.proofs.Leaving.{written_at}
use Rattle.cqf_program_json.proofs.streams.put_streams.Given as goal

abbrev pub invariant-loop-number : goal.invariant-loop-number
invariant-loop-number g l =
    Puts g.W.Write.contents l.initial.writer l.writer
    (listed true (map (written_at (stream_text l.wired.domain.now l.wired.addresses.now l.wired.links.now l.bridge) l.rows) (take l.number l.indices)))
