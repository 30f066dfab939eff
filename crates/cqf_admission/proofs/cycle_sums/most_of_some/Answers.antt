use Rattle.std.proofs.Common.{◌≡◌, ◌+◌, ℕ, get_or, max, rules, subst, sym}
use Rattle.cqf_admission.proofs.ActiveCycleLemmas.{IsMostSoFar, most_end, most_next, most_none}
use Rattle.cqf_admission.proofs.cycle_sums.most_of_some.Goals as goal

pub loop-active_cycle-init : goal.loop-active_cycle-init
loop-active_cycle-init c = most_none c.args.first c.args.every c.requires.low c.args.cycle_sums.now

pub loop-active_cycle-preserved : goal.loop-active_cycle-preserved
loop-active_cycle-preserved c =
    let most : c.max-most.result ≡ max c.loop-active_cycle.most (get_or c.args.cycle_sums.now c.loop-active_cycle.active_cycle 0) = search rules in
    subst (λ (n : ℕ). IsMostSoFar c.args.first c.args.every (c.loop-active_cycle.active_cycle + c.args.every) c.args.cycle_sums.now n) (sym most)
    (most_next c.args.first c.args.every c.requires.low c.args.cycle_sums.now c.loop-active_cycle.active_cycle c.loop-active_cycle.most c.loop-active_cycle.invariant)

pub returns : goal.returns
returns c =
    most_end c.args.first c.args.every c.requires.low c.args.cycle_sums.now c.loop-active_cycle.active_cycle c.loop-active_cycle.most c.requires.of_link c.loop-active_cycle-test.false c.loop-active_cycle.invariant
