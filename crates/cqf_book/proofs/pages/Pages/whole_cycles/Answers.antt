use Rattle.std.proofs.Common.{subst}
use Rattle.cqf_book.specs.Pages.{AreWhole, Posted}
use Rattle.cqf_book.proofs.Whole.{least_is_whole}
use Rattle.cqf_book.proofs.pages.Pages.whole_cycles.Goals as goal

-- the least number of pages is the number of whole cycles
pub returns-clause-value : goal.returns-clause-value
returns-clause-value c =
    let posted : Posted = record { bridges = c.self.inside.bridges; cycles = c.self.inside.cycles; pages = c.self.inside.posted.items } in
    subst (λ (p : Posted). AreWhole p c.least_count.result) c.self.view_is
    (least_is_whole posted c.as_slice.result.now c.least_count.result c.self.invariant.posted_so c.as_slice.ensures.value c.least_count.ensures)
