use Rattle.std.proofs.Common.{◌∙◌, sym}
use Rattle.std.proofs.lemmas.List.Folds.{list_all-map}
use Rattle.cqf_program_words.specs.Shown.{is_printable}
use Rattle.cqf_program_words.proofs.shown.are_printable.Goals as goal

pub returns : goal.returns
returns c = c.are_all_printable.ensures ∙ sym (list_all-map is_printable (λ word. word.now) c.args.words.now)
