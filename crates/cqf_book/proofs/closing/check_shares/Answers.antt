use Rattle.cqf_book.proofs.Agreeing.{shares_posted}
use Rattle.cqf_book.proofs.closing.check_shares.Goals as goal

-- the posted pages are without doubles or gaps, so the shares' are too
pub returns-clause-once : goal.returns-clause-once
returns-clause-once c =
    shares_posted c.args.opening.now c.args.posted.now c.args.shares.now c.know.ensures.facts c.know-2.ensures.facts c.in_default.ensures.none
