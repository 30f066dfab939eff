use Rattle.std.proofs.Common.{refl}
use Rattle.cqf_worker_loops.specs.declared.sealing.SealingFault.TheVariants.{Lost}
use Rattle.cqf_worker_loops.proofs.SealedCycles.{broken_by_worker, broken_off}
use Rattle.cqf_worker_loops.proofs.sealing.seal_all.Goals as goal

-- a worker had ended
pub returns-in-Ok-false-clause-err : goal.returns-in-Ok-false-clause-err
returns-in-Ok-false-clause-err g c =
    let sealed = c.in-Ok-false.ensures in
    broken_by_worker c.args.cycles c.args.seat c.args.tables.items (record { fault = Lost; conductor = c.seal_cycles.new.conductor }) refl
    sealed.closed (sealed.missed c.in-Ok-false.field-0-test) sealed.pipes sealed.put

-- or a Seal was refused, or an allocation failed
pub returns-in-Err-clause-err : goal.returns-in-Err-clause-err
returns-in-Err-clause-err g c =
    broken_off c.args.cycles c.args.seat c.args.tables.items (record { fault = c.in-Err.fault; conductor = c.seal_cycles.new.conductor })
    c.in-Err.ensures.err c.in-Err.ensures.pipes c.in-Err.ensures.put
