use Rattle.std.proofs.Common.{arith, ◌<◌, ◌+◌, ◌++◌, ap, ◌∙◌, sym, append_assoc, append-nil, drop, length, map}
use Rattle.cqf_program_files.specs.Files.{toml_texts}
use Rattle.cqf_program_files.proofs.Firsts.{toml_at, toml_end}
use Rattle.cqf_program_files.proofs.checking.toml_texts.Goals as goal

pub loop-position-preserved : goal.loop-position-preserved
loop-position-preserved c =
    let i = c.loop-position.position in
    let names = c.args.names.now in
    let texts = c.args.texts.now in
    let in_texts : i < length texts = omega (arith, c.loop-position-test.true, c.requires) in
    let rest = toml_texts (map (λ name. name.now) (drop (i + 1) names)) (map (λ text. text.now) (drop (i + 1) texts)) in
    let so_far = map (λ text. text.now) c.loop-position.found.items in
    ap (λ t. t ++ rest) c.in_ok-put_toml.ensures ∙ append_assoc so_far _ rest
    ∙ ap (λ t. so_far ++ t) (sym (toml_at (λ name. name.now) (λ text. text.now) names texts i _ _ c.loop-position-test.true in_texts)) ∙ c.loop-position.invariant

pub returns : goal.returns
returns c =
    let so_far = map (λ text. text.now) c.loop-position.found.items in
    sym (append-nil so_far)
    ∙ ap (λ t. so_far ++ t) (sym (toml_end (λ name. name.now) (λ text. text.now) c.args.names.now c.args.texts.now c.loop-position.position c.loop-position-test.false))
    ∙ c.loop-position.invariant
