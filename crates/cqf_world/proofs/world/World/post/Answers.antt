use Rattle.std.proofs.Common.{refl}
use Rattle.cqf_world.proofs.Posting.{early_so, may_receive_so, next_so, posted_alone, posted_world, unposted_alone}
use Rattle.cqf_world.proofs.Keeping.{on_err}
use Rattle.cqf_world.proofs.world.World.post.Goals as goal

pub post_page-requires-clause-early : goal.post_page-requires-clause-early
post_page-requires-clause-early c =
    early_so _ c.self.inside.tables.items c.self.inside.driven.items c.self.inside.lines.items _ c.self.view_is c.self.invariant
    c.requires.goes_on c.args.bridge c.from.result
    c.index_mut-bridge_driven.result.now c.from.ensures c.index_mut-bridge_driven.ensures.value c.requires.may

pub post_page-requires-clause-may : goal.post_page-requires-clause-may
post_page-requires-clause-may c =
    may_receive_so _ c.self.inside.tables.items c.self.inside.driven.items c.self.inside.lines.items _ c.self.view_is c.self.invariant
    c.requires.goes_on c.args.bridge c.from.result
    c.index_mut-bridge_driven.result.now c.from.ensures c.index_mut-bridge_driven.ensures.value c.requires.may c.index-table.result.now _
    refl c.index-table.ensures
    c.new_bridge_follows.ensures.offers c.no_other_fault.ensures.receives c.history_loses_nothing.ensures.history

pub post_page-requires-clause-next : goal.post_page-requires-clause-next
post_page-requires-clause-next c =
    next_so _ c.self.inside.tables.items c.self.inside.driven.items c.self.inside.lines.items _ c.self.view_is c.self.invariant
    c.requires.goes_on c.args.bridge c.from.result
    c.index_mut-bridge_driven.result.now c.from.ensures c.index_mut-bridge_driven.ensures.value c.requires.may

pub invariant_of-self-2 : goal.invariant_of-self-2
invariant_of-self-2 c =
    rw c.from.ensures (posted_world _ c.self.inside.tables.items c.self.inside.driven.items c.self.inside.lines.items _ c.self.view_is
    c.self.invariant c.requires.goes_on c.args.bridge c.from.result
    c.index_mut-bridge_driven.result.now c.from.ensures c.index_mut-bridge_driven.ensures.value c.requires.may c.index-table.result.now _
    refl c.index-table.ensures
    c.post_page.new.bridge_driven c.post_page.new.pages c.in_ok-post_page.ensures.ok c.new_bridge_follows.ensures.offers c.receiving_follows.ensures
    c.page_follows.ensures c.tables_are_orderly.ensures.count)

pub returns-clause-ok : goal.returns-clause-ok
returns-clause-ok c =
    rw c.from.ensures (posted_alone _ c.self.inside.tables.items c.self.inside.driven.items c.self.inside.lines.items _ c.self.view_is
    c.self.invariant c.requires.goes_on c.args.bridge c.from.result
    c.index_mut-bridge_driven.result.now c.from.ensures c.index_mut-bridge_driven.ensures.value c.requires.may c.index-table.result.now _
    refl c.index-table.ensures
    c.post_page.new.bridge_driven c.post_page.new.pages c.in_ok-post_page.ensures.ok c.new_bridge_follows.ensures.offers c.receiving_follows.ensures)

pub returns-in_err-post_page-clause-err : goal.returns-in_err-post_page-clause-err
returns-in_err-post_page-clause-err c =
    rw c.from.ensures (on_err _ (unposted_alone _ c.self.inside.tables.items c.self.inside.driven.items c.self.inside.lines.items _
    c.self.view_is c.self.invariant c.requires.goes_on c.args.bridge c.from.result
    c.index_mut-bridge_driven.result.now c.from.ensures c.index_mut-bridge_driven.ensures.value
    c.post_page.new.bridge_driven c.post_page.new.pages c.in_err-post_page.ensures.err_given c.in_err-post_page.ensures.err_sent
    c.in_err-post_page.ensures.err_pages))
