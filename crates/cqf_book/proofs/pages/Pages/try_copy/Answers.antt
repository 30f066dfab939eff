use Rattle.std.proofs.Common.{refl, ap, ◌∙◌, map}
use Rattle.cqf_book.specs.Pages.{Posted}
use Rattle.cqf_book.specs.Shares.{said}
use Rattle.cqf_book.proofs.Copying.{copy_kept}
use Rattle.cqf_book.proofs.pages.Pages.try_copy.Goals as goal

-- the copy's pages say the same, and so have no page twice and the same totals
pub invariant_of-result : goal.invariant_of-result
invariant_of-result c =
    let posted : Posted = record { bridges = c.self.inside.bridges; cycles = c.self.inside.cycles; pages = c.self.inside.posted.items } in
    let other : Posted = record { bridges = c.self.inside.bridges; cycles = c.self.inside.cycles; pages = c.in_ok-copied_rows.field-0.items } in
    copy_kept posted other (c.in_ok-copied_rows.ensures ∙ ap (map (map said)) c.as_slice.ensures.value)
    c.self.inside.totals.frames.items c.self.inside.totals.octets.items c.in_ok-try_copy.field-0.frames.items c.in_ok-try_copy.field-0.octets.items
    refl refl c.in_ok-try_copy.ensures.frames c.in_ok-try_copy.ensures.octets c.self.invariant
