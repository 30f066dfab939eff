use Rattle.std.proofs.Common.{string_bytes}
use Rattle.cqf_program_words.specs.Shown.{Lengthens}
use Rattle.cqf_program_words.proofs.shown.show_front.Given as goal

abbrev pub invariant-loop-character : goal.invariant-loop-character
invariant-loop-character l =
    (goal.iterator-loop-character).can_next l.character-iterator ×
    (goal.iterator-loop-character).is_finite l.character-iterator ×
    Lengthens (string_bytes l.fn.line) (string_bytes l.line)
