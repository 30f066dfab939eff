use Rattle.std.proofs.Common.{◌+◌, ◌∷◌, ◌++◌, [], List, sym, subst, arith}
use Rattle.cqf_admission.specs.Tables.{CycleTable}
use Rattle.cqf_worker_loops.specs.declared.sealing.SealingFault.TheVariants.{Memory}
use Rattle.cqf_worker_loops.specs.Handing.{SealsMany, SealsSome}
use Rattle.cqf_worker_loops.proofs.Passing.{passed_on}
use Rattle.cqf_worker_loops.proofs.SealedCycles.{seals_more, seals_nothing, some_many, some_on}
use Rattle.cqf_worker_loops.proofs.sealing.seal_many.Goals as goal

-- none is closed yet
pub loop-init : goal.loop-init
loop-init g c = seals_nothing c.args.seat.now _ c.new-tables.ensures.items

-- one more is closed
pub loop-preserved : goal.loop-preserved
loop-preserved g c =
    subst (λ (tables : List CycleTable). SealsMany (c.loop.counter + 1) c.args.seat.now c.seal_one.new.seat tables) (sym c.in_ok-push.ensures.items)
    (seals_more c.loop.counter c.args.seat.now c.loop.seat c.seal_one.new.seat c.loop.tables.items c.in_ok-table.table c.loop.invariant
    c.in_ok-table.ensures.ok)

-- the next cycle isn't closed
pub returns-in_err-table-clause-err : goal.returns-in_err-table-clause-err
returns-in_err-table-clause-err g c =
    passed_on c.from_residual.result c.in_err-table.field-0.0 (SealsSome c.args.count c.args.seat.now c.seal_one.new.seat) c.from_residual.ensures.1
    (some_on c.loop.counter 1 c.args.count c.args.seat.now c.loop.seat c.seal_one.new.seat c.loop.tables.items c.in_err-table.field-0.0 c.loop.invariant
    c.in_err-table.ensures.err (omega arith))

-- or it is, and its table can't be kept
pub returns-in_err-push-clause-err : goal.returns-in_err-push-clause-err
returns-in_err-push-clause-err g c =
    passed_on c.from_residual-in_err-push.result Memory (SealsSome c.args.count c.args.seat.now c.seal_one.new.seat) c.from_residual-in_err-push.ensures.1
    (some_many c.args.count (c.loop.counter + 1) c.args.seat.now c.seal_one.new.seat (c.loop.tables.items ++ c.in_ok-table.table ∷ [])
    (seals_more c.loop.counter c.args.seat.now c.loop.seat c.seal_one.new.seat c.loop.tables.items c.in_ok-table.table c.loop.invariant
    c.in_ok-table.ensures.ok)
    (omega arith))
