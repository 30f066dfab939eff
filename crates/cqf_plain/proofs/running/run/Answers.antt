use Rattle.std.proofs.Common.{refl}
use Rattle.cqf_plain.specs.Run.{run_of}
use Rattle.cqf_plain.proofs.Ending.{fault_of_stop, keeps_promise, memory_alone}
use Rattle.cqf_plain.proofs.running.run.Goals as goal

-- why there is no book
pub returns-in-Err-clause-fault : goal.returns-in-Err-clause-fault
returns-in-Err-clause-fault c =
    fault_of_stop (run_of c.args.plan.now c.args.tables.now c.args.offers.now c.args.background.now) c.args.cycles c.args.tables.now c.in-Err.fault
    (c.if-not-are_numbered.ensures.yes refl) c.in-Err.ensures.stops

-- and with the tables of a history
pub returns-in-Err-clause-memory_alone : goal.returns-in-Err-clause-memory_alone
returns-in-Err-clause-memory_alone c =
    memory_alone c.args.plan.now c.args.tables.now c.args.offers.now c.args.background.now c.know.ensures.accepted c.requires.offers
    c.requires.background c.gates_mean_the_shift.ensures c.tables_are_orderly.ensures.orderly c.args.cycles c.in-Err.fault
    (fault_of_stop (run_of c.args.plan.now c.args.tables.now c.args.offers.now c.args.background.now) c.args.cycles c.args.tables.now c.in-Err.fault
    (c.if-not-are_numbered.ensures.yes refl) c.in-Err.ensures.stops)

-- with them the book keeps the promise
pub returns-in-Ok-clause-promise : goal.returns-in-Ok-clause-promise
returns-in-Ok-clause-promise c =
    keeps_promise c.args.plan.now c.args.tables.now c.args.offers.now c.args.background.now c.know.ensures.accepted c.requires.offers
    c.requires.background c.book_says_the_shift.ensures c.tables_are_orderly.ensures.orderly _ c.in-Ok.ensures.book
