use Rattle.std.proofs.Common.{string_bytes}
use Rattle.cqf_program_words.specs.Shown.{Lengthens, no_words}
use Rattle.cqf_program_words.proofs.shown.line_of_words.Given as goal

abbrev pub invariant-loop-word : goal.invariant-loop-word
invariant-loop-word l = Lengthens no_words (string_bytes l.line)
