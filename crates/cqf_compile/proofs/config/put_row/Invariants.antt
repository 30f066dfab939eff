-- The bridges so far are put.
use Rattle.std.proofs.Common.{take}
use Rattle.std.specs.List.{flat_map}
use Rattle.cqf_compile.specs.ConfigText.{text_at}
use Rattle.cqf_output.specs.Writer.{Puts}
use Rattle.cqf_compile.proofs.config.put_row.Given as goal

abbrev pub invariant-loop-bridge : goal.invariant-loop-bridge
invariant-loop-bridge g l = Puts g.W.Write.contents l.initial.writer l.writer (flat_map (text_at l.plan l.row) (take l.bridge-index l.bridge-items))
