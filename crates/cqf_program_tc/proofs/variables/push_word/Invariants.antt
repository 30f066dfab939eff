-- The bytes so far are appended to the word.
use Rattle.std.proofs.Common.{◌≡◌, ◌++◌, take}
use Rattle.cqf_program_tc.specs.Variables.{word_of}
use Rattle.cqf_program_tc.proofs.variables.push_word.Given as goal

abbrev pub invariant-loop-byte : goal.invariant-loop-byte
invariant-loop-byte l = l.word.items ≡ l.initial.word.items ++ word_of (take l.byte-index l.name)
