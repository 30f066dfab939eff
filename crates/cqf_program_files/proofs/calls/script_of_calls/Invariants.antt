use Rattle.std.proofs.Common.{◌≡◌, length}
use Rattle.cqf_program_files.proofs.Scripts.{IsSoFar}
use Rattle.cqf_program_files.proofs.calls.script_of_calls.Given as goal

abbrev pub invariant-loop-line : goal.invariant-loop-line
invariant-loop-line l =
    IsSoFar l.fn.text l.left l.fn.cycles l.position.number l.position.reached l.script × (l.position.cycles ≡ l.fn.cycles)

abbrev pub decreases-loop-line : goal.decreases-loop-line
decreases-loop-line l = length l.left
