use Rattle.std.proofs.Common.{◌∙◌, ap, List, ℕ, nat_eq}
use Rattle.std.specs.Cmp.Lexicographic.{pointwise}
use Rattle.std.specs.Prelude.{string_bytes}
use Rattle.cqf_model.proofs.Texts.{pointwise-is_text}
use Rattle.cqf_edge.proofs.entrances.is_named.Goals as goal

pub returns : goal.returns
returns c =
    c.eq.ensures
    ∙ ap (λ (n : List ℕ). pointwise nat_eq n c.as_str-2.result.now) c.as_str.ensures.value
    ∙ ap (pointwise nat_eq (string_bytes c.args.text.now)) c.as_str-2.ensures.value
    ∙ pointwise-is_text (string_bytes c.args.text.now) c.args.name.now
