use Rattle.std.proofs.Common.{string_bytes}
use Rattle.cqf_program_words.specs.Shown.{Lengthens}
use Rattle.cqf_program_words.proofs.shown.show.Given as goal

abbrev pub invariant-loop-escaped : goal.invariant-loop-escaped
invariant-loop-escaped l =
    (goal.iterator-loop-escaped).can_next l.escaped-iterator ×
    (goal.iterator-loop-escaped).is_finite l.escaped-iterator ×
    Lengthens (string_bytes l.fn.line) (string_bytes l.line)
