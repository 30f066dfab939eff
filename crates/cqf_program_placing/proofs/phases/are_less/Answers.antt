use Rattle.std.proofs.Common.{◌<◌, length, arith}
use Rattle.cqf_program_placing.specs.declared.phases.BudgetShare.{BudgetShare}
use Rattle.cqf_program_placing.proofs.Loads.{fewer_there}
use Rattle.cqf_program_placing.proofs.phases.are_less.Goals as goal

-- there are fewer
pub returns-then-index-loads : goal.returns-then-index-loads
returns-then-index-loads c =
    let none : BudgetShare = record { held = 0; budget = 1 } in
    fewer_there c.args.loads.now c.args.others.now c.loop-index.index none c.loop-index-test.true c.loop-index.invariant c.if-index-loads.true
