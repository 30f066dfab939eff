use Rattle.std.proofs.Common.{◌∙◌, ap, map, string_bytes, subst, sym, take, None, ◌≡◌}
use Rattle.std.proofs.lemmas.List.{take-map}
use Rattle.cqf_program_files.specs.Files.{EndsTogether, IsNetworkText, joint_refusal, leading, tables_of}
use Rattle.cqf_program_files.proofs.Firsts.{plan_ends, plan_is_good}
use Rattle.cqf_program_files.proofs.checking.check_joint.Goals as goal

pub returns-in-Ok-clause-ok : goal.returns-in-Ok-clause-ok
returns-in-Ok-clause-ok c =
    let names = map (λ name. name.now) c.args.names.now in
    let texts = map (λ text. text.now) c.args.texts.now in
    let first : map (λ text. text.now) (take c.leading.result c.args.texts.now) ≡ take (leading names) texts =
    sym (take-map (λ text. text.now) c.leading.result c.args.texts.now) ∙ ap (λ n. take n texts) c.leading.ensures.value in
    plan_is_good names texts (string_bytes c.in-Ok.text) c.in_ok-check_texts.ensures.ok c.in_ok-check_first.ensures.ok (sym c.if-not-are_several.ensures)
    (subst (λ front. joint_refusal (tables_of front) ≡ None) first c.in-Ok.ensures.sound)
    (subst (λ front. IsNetworkText front (string_bytes c.in-Ok.text)) first c.in-Ok.ensures.ok)

pub returns-in-Err-clause-err : goal.returns-in-Err-clause-err
returns-in-Err-clause-err c =
    let names = map (λ name. name.now) c.args.names.now in
    let texts = map (λ text. text.now) c.args.texts.now in
    let first : map (λ text. text.now) (take c.leading.result c.args.texts.now) ≡ take (leading names) texts =
    sym (take-map (λ text. text.now) c.leading.result c.args.texts.now) ∙ ap (λ n. take n texts) c.leading.ensures.value in
    plan_ends names texts c.in-Err.stop c.in_ok-check_texts.ensures.ok c.in_ok-check_first.ensures.ok (sym c.if-not-are_several.ensures)
    (subst (λ front. EndsTogether front c.in-Err.stop) first c.in-Err.ensures.err)
