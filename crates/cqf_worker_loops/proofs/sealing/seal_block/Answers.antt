use Rattle.cqf_worker_loops.specs.Handing.{SealsSome}
use Rattle.cqf_worker_loops.proofs.Passing.{passed_on}
use Rattle.cqf_worker_loops.proofs.SealedCycles.{seals_after, some_after, some_first}
use Rattle.cqf_worker_loops.proofs.sealing.seal_block.Goals as goal

-- the first cycle isn't closed
pub returns-in_err-first-clause-err : goal.returns-in_err-first-clause-err
returns-in_err-first-clause-err g c =
    passed_on c.from_residual.result c.in_err-first.field-0.0 (SealsSome c.args.count c.args.seat.now c.seal_one.new.seat)
    c.from_residual.ensures.1
    (some_first c.args.count c.args.seat.now c.seal_one.new.seat c.in_err-first.field-0.0 c.in_err-first.ensures.err c.requires.some)

-- or a later one isn't
pub returns-in_err-following-clause-err : goal.returns-in_err-following-clause-err
returns-in_err-following-clause-err g c =
    passed_on c.from_residual-in_err-following.result c.in_err-following.field-0.0 (SealsSome c.args.count c.args.seat.now c.seal_many.new.seat)
    c.from_residual-in_err-following.ensures.1
    (some_after c.args.count c.args.seat.now c.seal_one.new.seat c.seal_many.new.seat c.in_ok-first.first c.in_err-following.field-0.0 c.in_ok-first.ensures.ok
    c.in_err-following.ensures.err c.requires.some)

-- the first cycle is closed, and then the others
pub returns-clause-ok : goal.returns-clause-ok
returns-clause-ok g c =
    seals_after c.args.count c.args.seat.now c.seal_one.new.seat c.seal_many.new.seat c.in_ok-first.first c.in_ok-following.following.items c.requires.some
    c.in_ok-first.ensures.ok c.in_ok-following.ensures.ok
