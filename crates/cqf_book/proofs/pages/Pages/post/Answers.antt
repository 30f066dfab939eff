use Rattle.std.proofs.Common.{ap, arith, subst, sym}
use Rattle.cqf_book.specs.Pages.{IsNextPage, Posted}
use Rattle.cqf_book.specs.declared.totals.LinkTotals.{LinkTotals}
use Rattle.cqf_book.proofs.Posting.{next_kept, room_for_next, same_kept}
use Rattle.cqf_book.proofs.pages.Pages.post.Goals as goal
use Rattle.cqf_book.proofs.pages.Pages.post.Goals.{in-Ok, in-Err}

-- the totals have room for one more page
pub push-requires : goal.push-requires
push-requires c =
    let posted : Posted = record { bridges = c.self.inside.bridges; cycles = c.self.inside.cycles; pages = c.self.inside.posted.items } in
    room_for_next posted c.self.inside.totals.frames.items c.self.inside.totals.octets.items c.self.invariant

-- the page is the next one, or nothing has changed
pub invariant_of-self : goal.invariant_of-self
invariant_of-self c =
    let posted : Posted = record { bridges = c.self.inside.bridges; cycles = c.self.inside.cycles; pages = c.self.inside.posted.items } in
    let frames = c.self.inside.totals.frames.items in
    let octets = c.self.inside.totals.octets.items in
    let frames_after = c.push.new.totals.frames.items in
    let octets_after = c.push.new.totals.octets.items in
    let bridge = c.from.result in
    let own = c.index_mut-own.result.now in
    let row = c.push.new.self in
    let next : IsNextPage posted c.args.page = subst (λ (p : Posted). IsNextPage p c.args.page) (sym c.self.view_is) c.in_default.ensures.next in
    elim c.match-push.branch [
      | in-Ok w ↦ next_kept posted c.args.page frames octets frames_after octets_after bridge own row
          c.self.invariant c.from.ensures next c.index_mut-own.ensures.value
          w.in-Ok.ensures.ok w.in-Ok.ensures.added w.in-Ok.ensures.few
      | in-Err w ↦ same_kept posted frames octets frames_after octets_after bridge own row
          c.self.invariant (omega (arith, next.0, c.from.ensures)) c.index_mut-own.ensures.value w.in-Err.ensures.err
          (ap (λ (t : LinkTotals). t.frames.items) w.in-Err.ensures.same) (ap (λ (t : LinkTotals). t.octets.items) w.in-Err.ensures.same)
    ]
