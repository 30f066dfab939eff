use Rattle.std.proofs.Common.{◌∙◌, ap, List, ℕ, nat_eq}
use Rattle.std.specs.Prelude.{string_bytes}
use Rattle.std.specs.Cmp.Lexicographic.{pointwise}
use Rattle.cqf_admission.proofs.PartLemmas.{same_text}
use Rattle.cqf_admission.proofs.branches.is_same_name.Goals as goal

pub returns : goal.returns
returns c =
    c.eq.ensures
    ∙ ap (λ (n : List ℕ). pointwise nat_eq n c.as_str-2.result.now) c.as_str.ensures.value
    ∙ ap (pointwise nat_eq (string_bytes c.args.name.now)) c.as_str-2.ensures.value
    ∙ same_text (string_bytes c.args.name.now) (string_bytes c.args.other.now)
