use Rattle.std.proofs.Common.{ℕ, subst, sym}
use Rattle.cqf_model.specs.Book.{IsBook}
use Rattle.cqf_model.specs.Headline.{KeepsThePromise}
use Rattle.cqf_model.specs.HistoryBook.{run_of_history}
use Rattle.cqf_model.specs.Network.{compiled_lists}
use Rattle.cqf_bridge.proofs.driving.driven_bridges_say_the_shift.Goals as goal

pub returns : goal.returns
returns c d entries offers background cycles course accepted legal sealed are_offers are_background are =
    let run = run_of_history d entries offers background cycles in
    let exists = c.book_exists.ensures run (compiled_lists d) cycles in
    let book = exists.0 in
    let count = c.tables_are_orderly.ensures.count d entries cycles in
    subst (KeepsThePromise run) (c.driven_bridges_give_the_book.ensures.book run cycles course book accepted exists.1 are)
    (c.book_of_history_says_the_shift.ensures d entries offers background cycles book accepted legal are_offers are_background
    (record { sealed = sealed; is_book = subst (λ (n : ℕ). IsBook run (compiled_lists d) n book) (sym count) exists.1 }))
