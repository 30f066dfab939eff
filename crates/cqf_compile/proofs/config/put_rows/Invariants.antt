-- The rows so far are put.
use Rattle.std.proofs.Common.{take}
use Rattle.std.specs.List.{flat_map}
use Rattle.cqf_compile.specs.ConfigText.{text_of_row}
use Rattle.cqf_output.specs.Writer.{Puts}
use Rattle.cqf_compile.proofs.config.put_rows.Given as goal

abbrev pub invariant-loop-row : goal.invariant-loop-row
invariant-loop-row g l = Puts g.W.Write.contents l.initial.writer l.writer (flat_map (text_of_row l.plan) (take l.row-index l.rows))
