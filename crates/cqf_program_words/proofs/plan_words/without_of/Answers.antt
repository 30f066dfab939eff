use Rattle.std.proofs.Common.{◌∙◌, List, [], Option, codes, subst, unwrap_or}
use Rattle.std.specs.Prelude.{IfOk, MatchOption}
use Rattle.clap.specs.Words.{Text, found_of}
use Rattle.clap.proofs.WalkLemmas.{raw_values-rows}
use Rattle.cqf_program_words.specs.Links.{AreLinks}
use Rattle.cqf_program_words.specs.declared.links.LinkName.{LinkName}
use Rattle.cqf_program_words.proofs.plan_words.without_of.Goals as goal

pub returns : goal.returns
returns c =
    let P : Option (List Text) → Type 0 = λ given. IfOk c.links_given.result (λ found. MatchOption found
    ((links : List LinkName) → ¬ AreLinks (unwrap_or given []) links) (λ links. AreLinks (unwrap_or given []) links.items)) in
    subst P (c.get_strs.ensures ∙ raw_values-rows (found_of c.args.values.now) (codes "without")) c.links_given.ensures
