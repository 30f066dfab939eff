use Rattle.std.proofs.Common.{ℕ, ◌≡◌, ◌≤◌, ◌∙◌, subst, sym}
use Rattle.cqf_program_plans.specs.Load.Access.{most_taken, promised_in}
use Rattle.cqf_program_plans.proofs.AccessLoads.{promised_as, promised_little}
use Rattle.cqf_program_plans.proofs.load.access.promised_in.Goals as goal

pub returns-clause-value : goal.returns-clause-value
returns-clause-value c =
    promised_as c.args.traffic c.args.cycle_time.0 _ _ _ _ _ (c.from.ensures ∙ c.frames.ensures.value) (c.from-frame.ensures ∙ c.size.ensures.value)
    c.from-2.ensures (c.from-3.ensures ∙ c.interval.ensures.value) c.div_ceil.ensures

pub returns-clause-little : goal.returns-clause-little
returns-clause-little c =
    let value : c.div_ceil.result ≡ promised_in c.args.cycle_time.0 c.args.traffic =
    promised_as c.args.traffic c.args.cycle_time.0 _ _ _ _ _ (c.from.ensures ∙ c.frames.ensures.value) (c.from-frame.ensures ∙ c.size.ensures.value)
    c.from-2.ensures (c.from-3.ensures ∙ c.interval.ensures.value) c.div_ceil.ensures in
    subst (λ (n : ℕ). n ≤ most_taken) (sym value) (promised_little c.args.traffic c.args.cycle_time.0 c.frames.ensures.range c.requires)
