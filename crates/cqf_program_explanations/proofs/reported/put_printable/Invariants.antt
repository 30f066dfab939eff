-- The bytes so far are appended to the text.
use Rattle.std.proofs.Common.{◌≡◌, ◌++◌, map, take}
use Rattle.cqf_program_explanations.specs.Explanations.{printable}
use Rattle.cqf_program_explanations.proofs.reported.put_printable.Given as goal

abbrev pub invariant-loop-byte : goal.invariant-loop-byte
invariant-loop-byte l = l.text.items ≡ l.fn.text.items ++ map printable (take l.byte-index l.line)
