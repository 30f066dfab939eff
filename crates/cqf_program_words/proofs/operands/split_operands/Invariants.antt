-- The words so far are split.
use Rattle.std.proofs.Common.{◌≡◌, fold, map, take}
use Rattle.cqf_program_words.specs.Operands.{no_words, split_so_far, with_word}
use Rattle.cqf_program_words.proofs.operands.split_operands.Given as goal

abbrev pub invariant-loop-word : goal.invariant-loop-word
invariant-loop-word l = split_so_far l.operands ≡ fold with_word no_words (map (λ word. word.now) (take l.word-index l.words))
