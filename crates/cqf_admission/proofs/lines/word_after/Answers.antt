-- If the text doesn't begin with the prefix, there is no word.
use Rattle.std.proofs.Common.{◌≡◌, false, None, List, ℕ, take, length, refl, sym, ap, ◌∙◌, nat_eq}
use Rattle.std.specs.Prelude.{option_map}
use Rattle.std.specs.Cmp.Lexicographic.{pointwise}
use Rattle.cqf_model.specs.Domain.{is_text}
use Rattle.cqf_model.proofs.Texts.{pointwise-is_text}
use Rattle.cqf_admission.specs.Lines.{word_after}
use Rattle.cqf_admission.proofs.lines.word_after.Goals as goal

-- a text that doesn't begin with the prefix
begins_otherwise : (start text : List ℕ) → pointwise nat_eq (take (length start) text) start ≡ false → word_after start text ≡ None
begins_otherwise start text h =
    let other : is_text start (take (length start) text) ≡ false = sym (pointwise-is_text (take (length start) text) start) ∙ h in
    rw other refl

pub returns-in_err-strip_prefix : goal.returns-in_err-strip_prefix
returns-in_err-strip_prefix c =
    let none = begins_otherwise c.args.start.now c.args.text.now c.in_err-strip_prefix.ensures.cases in
    ap (option_map (λ word. word.now)) c.from_residual.ensures ∙ sym none
