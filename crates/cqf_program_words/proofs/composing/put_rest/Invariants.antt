-- The texts so far are appended to the input.
use Rattle.std.proofs.Common.{◌≡◌, ◌++◌, map, take}
use Rattle.std.specs.List.{flat_map}
use Rattle.cqf_program_words.specs.Composing.{text_after}
use Rattle.cqf_program_words.proofs.composing.put_rest.Given as goal

abbrev pub invariant-loop-text : goal.invariant-loop-text
invariant-loop-text l = l.input.items ≡ l.fn.input.items ++ flat_map text_after (map (λ text. text.now) (take l.text-index l.texts))
