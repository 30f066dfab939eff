use Rattle.std.proofs.Common.{◌∙◌, ap, List, ℕ, nat_eq}
use Rattle.std.specs.Cmp.Lexicographic.{pointwise}
use Rattle.cqf_model.proofs.Texts.{pointwise-is_text}
use Rattle.cqf_network.proofs.wanted.is_same.Goals as goal

pub returns : goal.returns
returns c =
    c.eq.ensures
    ∙ ap (λ (n : List ℕ). pointwise nat_eq n c.as_str-2.result.now) c.as_str.ensures.value
    ∙ ap (pointwise nat_eq c.args.name.now) c.as_str-2.ensures.value
    ∙ pointwise-is_text c.args.name.now c.args.other.now
