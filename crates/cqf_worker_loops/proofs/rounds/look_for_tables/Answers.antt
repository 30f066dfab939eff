use Rattle.std.proofs.Common.{◌<◌, ap, refl, rules}
use Rattle.cqf_worker_loops.proofs.HandedSegments.{gives_up, goes_further, on_fault, some_further}
use Rattle.cqf_worker_loops.proofs.TakenTables.{found_item, goes_with_table, has_table}
use Rattle.cqf_worker_loops.specs.declared.carried.Carried.TheVariants.{Item}
use Rattle.cqf_worker_loops.proofs.rounds.look_for_tables.Goals as goal

-- it has taken the table of its next cycle
pub enter_table-requires-after_bounds : goal.enter_table-requires-after_bounds
enter_table-requires-after_bounds g c κs within =
    let w = c.loop-table.worker in
    let wants : w.relay.tables < w.relay.cycles = c.wants_table.ensures (first_of (cc, search rules)) in
    has_table c.in-Item-Item.table w c.look.new.self (some_further c.args.worker.now w c.requires c.loop-table.invariant) wants
    (found_item w.tables c.look.new.self c.look.result c.look.ensures.pipe c.look.ensures.items (Item c.in-Item-Item.table) (cc))

-- and goes on with it
pub loop-table-preserved : goal.loop-table-preserved
loop-table-preserved g c =
    let w = c.loop-table.worker in
    let wants : w.relay.tables < w.relay.cycles = c.wants_table.ensures (first_of (cc, search rules)) in
    goes_further c.args.worker.now w _ c.loop-table.invariant (goes_with_table c.in-Item-Item.table w _ c.look.new.self wants
    (found_item w.tables c.look.new.self c.look.result c.look.ensures.pipe c.look.ensures.items (Item c.in-Item-Item.table) (cc))
    c.in_ok-enter_table-in-Item-Item.ensures.ok)

-- if it gives up, it has put only segments
pub returns-in_default-clause-err : goal.returns-in_default-clause-err
returns-in_default-clause-err g c =
    gives_up c.args.worker.now c.loop-table.worker _ c.requires c.loop-table.invariant refl

pub returns-in_default-2-clause-err : goal.returns-in_default-2-clause-err
returns-in_default-2-clause-err g c =
    gives_up c.args.worker.now c.loop-table.worker _ c.requires c.loop-table.invariant refl

pub returns-in_err-enter_table-in-Item-Item-clause-err : goal.returns-in_err-enter_table-in-Item-Item-clause-err
returns-in_err-enter_table-in-Item-Item-clause-err g c =
    on_fault c.from_residual.result _
    (gives_up c.args.worker.now c.loop-table.worker _ c.requires c.loop-table.invariant (ap (λ ports. ports.items) c.enter_table.ensures.outs))
