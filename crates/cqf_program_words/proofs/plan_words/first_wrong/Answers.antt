use Rattle.std.proofs.Common.{◌∙◌, List, [], Option, ap, codes, unwrap_or}
use Rattle.clap.specs.Words.{Text, found_of}
use Rattle.clap.proofs.WalkLemmas.{raw_values-rows}
use Rattle.cqf_program_words.specs.Links.{first_no_link}
use Rattle.cqf_program_words.proofs.plan_words.first_wrong.Goals as goal

pub returns : goal.returns
returns c =
    c.first_no_link.ensures
    ∙ ap (λ (given : Option (List Text)). first_no_link (unwrap_or given []))
    (c.get_strs.ensures ∙ raw_values-rows (found_of c.args.values.now) (codes "without"))
