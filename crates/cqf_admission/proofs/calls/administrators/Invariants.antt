-- The greatest count so far, and that of the remaining lines.
use Rattle.std.proofs.Common.{◌≡◌, length, max}
use Rattle.cqf_text.specs.Lines.{lines_of}
use Rattle.cqf_admission.specs.Script.{administrators}
use Rattle.cqf_admission.proofs.calls.administrators.Given as goal

abbrev pub invariant-loop-line : goal.invariant-loop-line
invariant-loop-line l = administrators (lines_of l.text) ≡ max l.most (administrators (lines_of l.left))

abbrev pub decreases-loop-line : goal.decreases-loop-line
decreases-loop-line l = length l.left
