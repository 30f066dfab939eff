use Rattle.std.proofs.Common.{sym, ap, refl, ◌∙◌}
use Rattle.std.specs.Prelude.{option_copied}
use Rattle.cqf_worker_loops.specs.declared.sealing.SealingFault.TheVariants.{Memory}
use Rattle.cqf_worker_loops.specs.Handing.{SealsSome, fault_of_seal}
use Rattle.cqf_worker_loops.proofs.Passing.{passed_on}
use Rattle.cqf_worker_loops.proofs.SealedCycles.{seals_one, some_none, some_one}
use Rattle.cqf_worker_loops.proofs.sealing.seal_one.Goals as goal

-- the Seal is refused
pub returns-in_err-seal-clause-err : goal.returns-in_err-seal-clause-err
returns-in_err-seal-clause-err g c =
    let refused = c.in_err-seal.field-0.0 in
    passed_on c.from_residual.result (fault_of_seal refused) (SealsSome 1 c.args.seat.now c.seal.new.seat) c.from_residual.ensures.1
    (some_none c.args.seat.now c.seal.new.seat refused (fault_of_seal refused) c.in_err-seal.ensures.keeps refl)

-- the cycle is closed, and its table is the seat's newest
pub returns-clause-ok : goal.returns-clause-ok
returns-clause-ok g c =
    seals_one c.args.seat.now c.seal.new.seat c.in_ok-seal.ensures.keeps.0 c.in-Some.table.now c.in_ok-copy.copy c.in_ok-seal.ensures.keeps.1
    (ap option_copied (sym c.in-Some.is) ∙ c.last_table.ensures) c.in_ok-copy.ensures

-- or the table can't be copied
pub returns-in_err-copy-clause-err : goal.returns-in_err-copy-clause-err
returns-in_err-copy-clause-err g c =
    passed_on c.from_residual-in_err-copy.result Memory (SealsSome 1 c.args.seat.now c.seal.new.seat) c.from_residual-in_err-copy.ensures.1
    (some_one c.args.seat.now c.seal.new.seat c.in_ok-seal.ensures.keeps.0 c.in_ok-seal.ensures.keeps.1)
