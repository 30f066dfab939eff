use Rattle.std.proofs.Common.{◌+◌, ◌<◌, arith, length}
use Rattle.cqf_admission.proofs.ActiveCycleLemmas.{all_more, none_so_far, one_more}
use Rattle.cqf_admission.proofs.cycle_sums.add_to_some.Goals as goal

pub loop-active_cycle-init : goal.loop-active_cycle-init
loop-active_cycle-init c = none_so_far (λ x y. x + y) (λ x. omega arith) c.args.first c.args.every c.requires.low c.args.cycle_sums.now c.args.number

pub loop-active_cycle-preserved : goal.loop-active_cycle-preserved
loop-active_cycle-preserved c =
    let inside : c.loop-active_cycle.active_cycle < length c.args.cycle_sums.now = omega (arith, c.loop-active_cycle.invariant.as_many, c.loop-active_cycle-test.true) in
    one_more (λ x y. x + y) (λ x. omega arith) c.args.first c.args.every c.requires.low c.args.cycle_sums.now c.args.number c.loop-active_cycle.active_cycle c.loop-active_cycle.cycle_sums
    inside c.loop-active_cycle.invariant

pub returns : goal.returns
returns c =
    all_more c.args.first c.args.every c.loop-active_cycle.active_cycle c.args.cycle_sums.now c.args.number c.loop-active_cycle.cycle_sums
    (omega (arith, c.loop-active_cycle.invariant.as_many, c.loop-active_cycle-test.false)) c.loop-active_cycle.invariant
