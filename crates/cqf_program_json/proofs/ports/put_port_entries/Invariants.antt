-- The entries so far are put.
use Rattle.std.proofs.Common.{map, take, true}
use Rattle.cqf_output.specs.Writer.{Puts}
use Rattle.cqf_program_json.specs.Arrays.{listed}
use Rattle.cqf_program_json.specs.Text.{port_entry}
use Rattle.cqf_program_json.proofs.ports.put_port_entries.Given as goal

abbrev pub invariant-loop-index : goal.invariant-loop-index
invariant-loop-index g l = Puts g.W.Write.contents l.initial.writer l.writer (listed true (map port_entry (take l.index l.entries)))
