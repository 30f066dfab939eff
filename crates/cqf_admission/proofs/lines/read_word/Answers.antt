-- A word is UTF-8.
use Rattle.std.proofs.Common.{◌≡◌, true, sym, ◌∙◌}
use Rattle.cqf_admission.specs.Lines.{is_word}
use Rattle.cqf_admission.proofs.Words.{word-utf8}
use Rattle.cqf_admission.proofs.lines.read_word.Goals as goal

pub unreachable-requires : goal.unreachable-requires
unreachable-requires c =
    let word : is_word c.args.bytes.now ≡ true = sym c.is_word.ensures ∙ c.if-not-is_word.false in
    c.in-Err.ensures.cases.0 (word-utf8 c.args.bytes.now word)
