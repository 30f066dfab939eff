use Rattle.std.proofs.Common.{arith}
use Rattle.cqf_book.proofs.Whole.{least_more}
use Rattle.cqf_book.proofs.pages.least_count.Goals as goal

-- the bridge at the index is seen too
pub loop-pages-preserved : goal.loop-pages-preserved
loop-pages-preserved c = least_more c.args.posted.now c.args.cycles c.loop-pages.pages-index c.loop-pages.least _ c.pages-item.result
    c.loop-pages.invariant (omega arith) c.pages-item.is (omega (arith, c.len.ensures))
