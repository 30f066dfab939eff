use Rattle.std.proofs.Common.{◌+◌, ◌<◌, ◌^◌, ◌∙◌, ℕ, ap, arith, fold, get_or, length, max, subst, sym}
use Rattle.cqf_admission.proofs.ActiveCycleLemmas.{always_active_cycle, more_of_all, most_within}
use Rattle.cqf_admission.proofs.cycle_sums.add_in_active_cycles.Goals as goal

pub overflow_add-result : goal.overflow_add-result
overflow_add-result c =
    let each : (k : ℕ) → k < length c.args.cycle_sums.now → get_or c.args.cycle_sums.now k 0 + c.args.number < 2 ^ 64 =
    λ k below. c.requires.room k below (always_active_cycle c.args.pace c.args.hop_number k c.if-pace-eq0.true) in
    let low : c.args.most + c.args.number < 2 ^ 64 =
    subst (λ (most : ℕ). most + c.args.number < 2 ^ 64) (sym c.requires.most)
    (most_within c.args.number c.args.cycle_sums.now 0 (omega (arith, c.ranges.number.fits)) each) in
    omega (arith, low)

pub returns-then-pace-eq0-clause-most : goal.returns-then-pace-eq0-clause-most
returns-then-pace-eq0-clause-most c =
    ap (λ (most : ℕ). most + c.args.number) c.requires.most
    ∙ sym (more_of_all c.args.number c.args.cycle_sums.now (omega (arith, c.requires.of_link)))
    ∙ ap (fold max 0) (sym c.add_to_each.ensures)
