use Rattle.std.proofs.Common.{◌≡◌, ◌≤◌, ◌+◌, length}
use Rattle.cqf_text.specs.Lines.{lines_of}
use Rattle.cqf_program_files.specs.Lines.{first_long_from, first_long_line}
use Rattle.cqf_program_files.proofs.lines.first_long_line.Given as goal

abbrev pub invariant-loop-line : goal.invariant-loop-line
invariant-loop-line l =
    (first_long_from l.counts l.number (lines_of l.left) ≡ first_long_line l.counts l.fn.text)
    × (l.number + length l.left ≤ length l.fn.text + 1)

abbrev pub decreases-loop-line : goal.decreases-loop-line
decreases-loop-line l = length l.left
