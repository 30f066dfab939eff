-- The rows so far are put.
use Rattle.std.proofs.Common.{map, take}
use Rattle.std.specs.Arc.{arc_value}
use Rattle.std.specs.List.{flat_map}
use Rattle.cqf_compile.specs.ConfigText.{text_of_row}
use Rattle.cqf_output.specs.Writer.{Puts}
use Rattle.cqf_compile.proofs.config.put_shared.Given as goal

abbrev pub invariant-loop-shared : goal.invariant-loop-shared
invariant-loop-shared g l =
    Puts g.W.Write.contents l.initial.writer l.writer (flat_map (text_of_row l.plan) (map (λ row. arc_value row) (take l.shared-index l.rows)))
