-- Branches are the same if and only if their spellings are.
use Rattle.std.proofs.Common.{◌∙◌, ap, sym}
use Rattle.cqf_admission.specs.Branches.{branches_of}
use Rattle.cqf_admission.specs.Spelled.{spelled}
use Rattle.cqf_admission.proofs.SpelledApart.{spelled_apart}
use Rattle.cqf_admission.proofs.shared.SharedRequest.has_same_branches.Goals as goal

pub returns : goal.returns
returns c =
    let own = c.in-Some.ensures in
    let others = c.in-Some-text.ensures in (
      λ same. spelled_apart (branches_of c.args.self.now.paths.items) (branches_of c.args.other.now.paths.items)
          (sym own ∙ c.is_same_text.ensures.0 same ∙ others),
      λ same. c.is_same_text.ensures.1 (own ∙ ap spelled same ∙ sym others),
    )
