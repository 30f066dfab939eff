use Rattle.std.proofs.Common.{◌∙◌, sym}
use Rattle.cqf_lists.proofs.Any.{list_any-map}
use Rattle.cqf_program_words.specs.Words.{is_large_word}
use Rattle.cqf_program_words.proofs.words.ask_for_large.Goals as goal

pub returns : goal.returns
returns c = c.is_one_large.ensures ∙ sym (list_any-map is_large_word (λ word. word.now) c.args.words.now)
