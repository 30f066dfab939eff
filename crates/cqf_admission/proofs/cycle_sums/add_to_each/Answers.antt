use Rattle.std.proofs.Common.{◌<◌, ◌+◌, arith, get_or, length, refl}
use Rattle.std.proofs.lemmas.List.{get_or_default}
use Rattle.cqf_lists.proofs.InPlace.{next_done}
use Rattle.cqf_admission.proofs.cycle_sums.add_to_each.Goals as goal

pub loop-sum-preserved : goal.loop-sum-preserved
loop-sum-preserved c =
    let now = c.loop-sum.cycle_sums in
    let here = get_or now c.loop-sum.sum-index 0 in
    let inside : c.loop-sum.sum-index < length c.args.cycle_sums.now = c.loop-sum-test.true in
    next_done (λ sum. sum + c.args.number) c.args.cycle_sums.now now c.loop-sum.sum-index inside c.loop-sum.invariant here (here + c.args.number)
    (get_or_default now c.loop-sum.sum-index 0 here (omega (arith, inside, c.loop-sum.auto.cycle_sums))) refl
