-- The bridges so far are put.
use Rattle.std.proofs.Common.{map, true}
use Rattle.cqf_output.specs.Writer.{Puts}
use Rattle.cqf_program_json.specs.Arrays.{listed}
use Rattle.cqf_program_json.specs.Text.{bridge_text, numbers_below}
use Rattle.cqf_program_json.proofs.bridges.put_bridges.Given as goal

abbrev pub invariant-loop-bridge : goal.invariant-loop-bridge
invariant-loop-bridge g l =
    Puts g.W.Write.contents l.initial.writer l.writer
    (listed true (map (bridge_text l.wired.domain.now l.wired.addresses.now l.wired.links.now l.rows) (numbers_below l.bridge)))
