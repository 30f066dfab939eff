-- The words so far name their links.
use Rattle.std.proofs.Common.{map, take}
use Rattle.cqf_program_words.specs.Links.{AreLinks}
use Rattle.cqf_program_words.proofs.links.links_named.Given as goal

abbrev pub invariant-loop-word : goal.invariant-loop-word
invariant-loop-word l = AreLinks (map (λ word. word.now) (take l.word-index l.words)) l.links.items
