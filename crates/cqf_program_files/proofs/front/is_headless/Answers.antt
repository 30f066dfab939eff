use Rattle.std.proofs.Common.{◌≡◌, ◌∙◌, ap, drop, map, option_map, subst, sym, IfOk}
use Rattle.cqf_program_files.specs.Front.{is_headless}
use Rattle.cqf_program_files.proofs.Firsts.{after_first}
use Rattle.cqf_program_files.proofs.front.is_headless.Goals as goal

pub returns-in-Some-default : goal.returns-in-Some-default
returns-in-Some-default c =
    let names = map (λ name. name.now) c.args.names.now in
    let texts = map (λ text. text.now) c.args.texts.now in
    let rest = after_first (λ text. text.now) c.args.texts.now c.leading.result ∙ ap (λ n. drop n texts) c.leading.ensures.value in
    subst (λ joint. IfOk c.lacks_header.result (λ headless. headless ≡ is_headless c.args.job.now names texts (option_map (λ it. it.now) joint)))
    (sym c.in-Some-default.is-0)
    (rw (c.joint_names.ensures, c.as_bytes.ensures.value, rest) at c.lacks_header.ensures)
