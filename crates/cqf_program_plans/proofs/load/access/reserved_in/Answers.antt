use Rattle.std.proofs.Common.{ℕ, ◌<◌, ◌≤◌, ◌∙◌, ap, arith, subst, sym}
use Rattle.std.specs.Int.{div_ceil}
use Rattle.cqf_program_plans.specs.Load.Access.{most_taken}
use Rattle.cqf_program_plans.proofs.AccessLoads.{reserved_little}
use Rattle.cqf_program_plans.proofs.load.access.reserved_in.Goals as goal

pub returns-clause-little : goal.returns-clause-little
returns-clause-little c =
    let is = c.div_ceil.ensures ∙ ap (λ (n : ℕ). div_ceil n c.from.result) (c.from-cost.ensures ∙ c.cost_in_octets.ensures) in
    let small : c.args.octets < 4294967296 = omega arith in
    subst (λ (n : ℕ). n ≤ most_taken) (sym is) (reserved_little c.args.overhead c.args.octets c.from.result c.requires small)
