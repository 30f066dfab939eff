use Rattle.std.proofs.Common.{Global, Vec, map}
use Rattle.cqf_admission.specs.declared.entries.Command.{Command}
use Rattle.cqf_worker.proofs.Preparing.{passed_on}
use Rattle.cqf_worker.specs.Failing.{IsConductFault}
use Rattle.cqf_worker.proofs.Reported.{reported_before, reported_in_the_end, reported_of_threads}
use Rattle.cqf_worker.proofs.Accounts.{account_is, is_ready, may_back, bridge_traces_in_the_end, tables_in_the_end, wired_in_the_end}
use Rattle.cqf_worker.proofs.conducting.conduct_traces.Goals as goal

-- what is prepared is ready
pub run_threads-requires-after_bounds : goal.run_threads-requires-after_bounds
run_threads-requires-after_bounds g c κs within =
    is_ready c.args.domain.now c.args.admission.entries c.args.offers.now c.args.background.now c.args.cycles
    (map (λ (v : Vec Command Global). v.items) c.args.admins.items) c.in_ok-desk.field-0 c.in_ok-desk.ensures.ok c.requires.short

-- the background frames can be added to the traces
pub back-requires-clause-run : goal.back-requires-clause-run
back-requires-clause-run g c =
    may_back c.args.domain.now c.args.admission.entries c.args.offers.now c.args.background.now c.args.cycles
    (map (λ (v : Vec Command Global). v.items) c.args.admins.items) c.in_ok-desk.field-0 c.in_ok-desk.ensures.ok c.in_ok-ended.ended c.in_ok-ended.ensures.ok
    c.in_ok-account.account c.in_ok-account.ensures.ok c.know.ensures.accepted c.requires.unsealed c.requires.offers c.requires.few_offers
    c.requires.background c.seats_give_the_history.ensures.history c.seats_give_the_history.ensures.tables c.legal_network_exists.ensures
    c.tables_may_come.ensures c.relays_keep_the_traces.ensures c.requires.short

-- the pipes are those that were laid
pub settle-requires-clause-wired : goal.settle-requires-clause-wired
settle-requires-clause-wired g c =
    wired_in_the_end c.args.domain.now c.args.admission.entries c.args.offers.now c.args.background.now c.args.cycles
    (map (λ (v : Vec Command Global). v.items) c.args.admins.items) c.in_ok-desk.field-0 c.in_ok-desk.ensures.ok c.in_ok-ended.ended c.in_ok-ended.ensures.ok

pub settle-requires-clause-tables : goal.settle-requires-clause-tables
settle-requires-clause-tables g c =
    tables_in_the_end c.args.domain.now c.args.admission.entries c.args.offers.now c.args.background.now c.args.cycles
    (map (λ (v : Vec Command Global). v.items) c.args.admins.items) c.in_ok-desk.field-0 c.in_ok-desk.ensures.ok c.in_ok-ended.ended c.in_ok-ended.ensures.ok

-- and the bridge traces are of the bridges
pub settle-requires-clause-bridge_traces : goal.settle-requires-clause-bridge_traces
settle-requires-clause-bridge_traces g c =
    bridge_traces_in_the_end c.args.domain.now c.args.admission.entries c.args.offers.now c.args.background.now c.args.cycles
    (map (λ (v : Vec Command Global). v.items) c.args.admins.items) c.in_ok-desk.field-0 c.in_ok-desk.ensures.ok c.in_ok-ended.ended c.in_ok-ended.ensures.ok

-- the account is that of the run
pub returns-clause-ok : goal.returns-clause-ok
returns-clause-ok g c =
    account_is c.args.domain.now c.args.admission.entries c.args.offers.now c.args.background.now c.args.cycles
    (map (λ (v : Vec Command Global). v.items) c.args.admins.items) c.in_ok-desk.field-0 c.in_ok-desk.ensures.ok c.in_ok-ended.ended c.in_ok-ended.ensures.ok
    c.in_ok-account.account c.in_ok-account.ensures.ok c.know.ensures.accepted c.requires.unsealed c.requires.offers c.requires.few_offers
    c.requires.background c.seats_give_the_history.ensures.history c.seats_give_the_history.ensures.tables c.legal_network_exists.ensures
    c.tables_may_come.ensures c.relays_keep_the_traces.ensures c.requires.short c.backed_traces_are_the_books.ensures
    c.book_of_history_says_the_shift.ensures c.back.new.traces c.in_ok-back.ensures.drops c.in_ok-back.ensures.traces

-- the run can't begin
pub returns-in_err-desk-clause-err : goal.returns-in_err-desk-clause-err
returns-in_err-desk-clause-err g c =
    passed_on c.from_residual.result c.in_err-desk.field-0.0
    (IsConductFault c.args.domain.now c.args.admission.entries c.args.offers.now c.args.background.now c.args.cycles
    (map (λ (v : Vec Command Global). v.items) c.args.admins.items)) c.from_residual.ensures.1
    (reported_before c.args.domain.now c.args.admission.entries c.args.offers.now c.args.background.now c.args.cycles
    (map (λ (v : Vec Command Global). v.items) c.args.admins.items) c.in_err-desk.field-0.0 c.in_err-desk.ensures.err)

-- or its threads report a fault
pub returns-in_err-ended-clause-err : goal.returns-in_err-ended-clause-err
returns-in_err-ended-clause-err g c =
    passed_on c.from_residual-in_err-ended.result c.in_err-ended.field-0.0
    (IsConductFault c.args.domain.now c.args.admission.entries c.args.offers.now c.args.background.now c.args.cycles
    (map (λ (v : Vec Command Global). v.items) c.args.admins.items)) c.from_residual-in_err-ended.ensures.1
    (reported_of_threads c.args.domain.now c.args.admission.entries c.args.offers.now c.args.background.now c.args.cycles
    (map (λ (v : Vec Command Global). v.items) c.args.admins.items) c.in_ok-desk.field-0 c.in_ok-desk.ensures.ok
    c.in_err-ended.field-0.0 c.in_err-ended.ensures.err)

-- or it can't be closed
pub returns-in_err-account-clause-err : goal.returns-in_err-account-clause-err
returns-in_err-account-clause-err g c =
    passed_on c.from_residual-in_err-account.result c.in_err-account.field-0.0
    (IsConductFault c.args.domain.now c.args.admission.entries c.args.offers.now c.args.background.now c.args.cycles
    (map (λ (v : Vec Command Global). v.items) c.args.admins.items)) c.from_residual-in_err-account.ensures.1
    (reported_in_the_end c.args.domain.now c.args.admission.entries c.args.offers.now c.args.background.now c.args.cycles
    (map (λ (v : Vec Command Global). v.items) c.args.admins.items) c.in_ok-desk.field-0 c.in_ok-desk.ensures.ok c.in_ok-ended.ended c.in_ok-ended.ensures.ok
    c.know.ensures.accepted c.in_err-account.field-0.0 c.in_err-account.ensures.err)
