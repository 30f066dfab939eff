use Rattle.std.proofs.Common.{◌∙◌, ◌-◌, ap, drop, map}
use Rattle.cqf_program_files.proofs.Firsts.{after_first}
use Rattle.cqf_program_files.proofs.front.joint_names.Goals as goal

pub returns : goal.returns
returns c =
    after_first (λ name. name.now) c.args.names.now c.saturating_sub.result
    ∙ ap (λ n. drop n (map (λ name. name.now) c.args.names.now)) (c.saturating_sub.ensures ∙ ap (λ n. n - 1) c.leading-count.ensures.value)
