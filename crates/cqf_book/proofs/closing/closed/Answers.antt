use Rattle.std.proofs.Common.{ℕ, subst}
use Rattle.std.proofs.lemmas.Result.{err_from_is_err_and}
use Rattle.cqf_model.specs.Book.{contents_of}
use Rattle.cqf_book.specs.Pages.{pages_of}
use Rattle.cqf_book.specs.Shares.{IsBookOfPages, all_pages_of}
use Rattle.cqf_book.proofs.Agreeing.{same_book}
use Rattle.cqf_book.proofs.closing.closed.Goals as goal

-- the posted pages say what those from before and the shares' say
pub returns-clause-ok : goal.returns-clause-ok
returns-clause-ok c =
    same_book (pages_of c.args.posted.now) (all_pages_of c.args.opening.now c.args.shares.now) c.args.opening.now.bridges
    (λ bridge inside. (c.in_ok-check_shares.ensures.ok bridge inside).same) (contents_of c.in_ok-book.book)
    (subst (λ (n : ℕ). IsBookOfPages (pages_of c.args.posted.now) n (contents_of c.in_ok-book.book)) c.bridges.ensures c.in_ok-book.ensures)

-- they agree with the shares, so memory was the reason
pub returns-in_err-book-clause-fault : goal.returns-in_err-book-clause-fault
returns-in_err-book-clause-fault c =
    let p = err_from_is_err_and c.from_residual-in_err-book.result c.from_residual-in_err-book.ensures.1 in
    rw (p.1, p.2) (c.args.posted.now, c.check_shares.ensures.facts, (c.in_ok-check_shares.ensures.each, c.in_ok-check_shares.ensures.ok))
