use Rattle.std.proofs.Common.{◌-◌, ◌<◌, ◌≤◌, ◌∙◌, ℕ, ap, arith, fold, get_or, length, max, subst, sym}
use Rattle.cqf_admission.proofs.ActiveCycleLemmas.{always_active_cycle, less_of_all, most_of_some_holds}
use Rattle.cqf_admission.proofs.cycle_sums.take_in_active_cycles.Goals as goal

pub overflow_sub-result : goal.overflow_sub-result
overflow_sub-result c =
    let each : (k : ℕ) → k < length c.args.cycle_sums.now → c.args.number ≤ get_or c.args.cycle_sums.now k 0 =
    λ k below. c.requires.held k below (always_active_cycle c.args.pace c.args.hop_number k c.if-pace-eq0.true) in
    subst (λ (most : ℕ). c.args.number ≤ most) (sym c.requires.most)
    (most_of_some_holds c.args.number c.args.cycle_sums.now (omega (arith, c.requires.of_link)) each)

pub returns-then-pace-eq0-clause-most : goal.returns-then-pace-eq0-clause-most
returns-then-pace-eq0-clause-most c =
    ap (λ (most : ℕ). most - c.args.number) c.requires.most
    ∙ sym (less_of_all c.args.number c.args.cycle_sums.now)
    ∙ ap (fold max 0) (sym c.take_from_each.ensures)
