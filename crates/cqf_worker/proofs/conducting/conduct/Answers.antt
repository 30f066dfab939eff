use Rattle.std.proofs.Common.{Global, Vec, map, refl}
use Rattle.cqf_admission.specs.declared.entries.Command.{Command}
use Rattle.cqf_worker.specs.declared.account.Account.{Account}
use Rattle.cqf_worker.proofs.Accounts.{reported_account}
use Rattle.cqf_worker.proofs.conducting.conduct.Goals as goal

-- the traces can be read as a book
pub book_of-requires-clause-traces : goal.book_of-requires-clause-traces
book_of-requires-clause-traces g c =
    let paged = c.in_ok-history.field-0 in
    let is = c.in_ok-history.ensures.ok in
    (c.traces_give_the_book.ensures c.args.domain.now c.args.cycles paged.traces is.book c.know.ensures.accepted is.some is.its_traces).may

-- the book read from its traces is that of the run
pub returns-clause-ok : goal.returns-clause-ok
returns-clause-ok g c =
    let paged = c.in_ok-history.field-0 in
    let account : Account = record { history = paged.history; book = c.in_ok-book.book } in
    reported_account c.args.domain.now c.args.admission.entries c.args.offers.now c.args.background.now c.args.cycles
    (map (λ (v : Vec Command Global). v.items) c.args.admins.items) paged account c.traces_give_the_book.ensures
    c.know.ensures.accepted c.in_ok-history.ensures.ok refl c.in_ok-book.ensures
