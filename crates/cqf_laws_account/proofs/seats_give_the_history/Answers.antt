use Rattle.cqf_laws_account.proofs.Seats.{closes_cycles, history_of}
use Rattle.cqf_laws_account.proofs.seats_give_the_history.Goals as goal

pub returns-clause-history : goal.returns-clause-history
returns-clause-history c d opening asked cycles seats entries is seated = history_of d opening asked cycles seats entries is seated

pub returns-clause-tables : goal.returns-clause-tables
returns-clause-tables c d opening asked cycles seats entries is seated no_seal none =
    closes_cycles d opening asked cycles seats entries is seated c.one_seat_closes_all_tables.ensures no_seal none
