use Rattle.std.proofs.Common.{ap, refl, ◌∙◌}
use Rattle.cqf_agenda.specs.Agenda.{offers_listed_at}
use Rattle.cqf_worker_loops.proofs.TakenTables.{enters_table, offers_entered}
use Rattle.cqf_worker_loops.proofs.rounds.enter_table.Goals as goal

-- the offers are of the cycle
pub take_table-requires-clause-offers : goal.take_table-requires-clause-offers
take_table-requires-clause-offers g c =
    offers_entered c.args.worker.now c.args.table.now c.offers-offers.result.now c.tables.result c.requires c.tables.ensures c.offers-offers.ensures

-- so it goes on with the table
pub returns-clause-ok : goal.returns-clause-ok
returns-clause-ok g c =
    enters_table c.args.table.now c.args.worker.now _ c.offers-offers.result.now c.in_ok-take_table.ensures
    (c.offers-offers.ensures ∙ ap (offers_listed_at c.args.worker.now.agenda) c.tables.ensures) refl refl refl refl
