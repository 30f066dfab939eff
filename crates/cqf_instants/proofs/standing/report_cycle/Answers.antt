use Rattle.std.proofs.Common.{◌∙◌, refl}
use Rattle.cqf_instants.proofs.Steps.{may_put, next_under_way, some_may_send, starts_reported}
use Rattle.cqf_instants.proofs.standing.report_cycle.Goals as goal

pub report_links-requires-clause-some : goal.report_links-requires-clause-some
report_links-requires-clause-some c =
    rw (c.as_slice.ensures.value, c.as_slice-branches.ensures.value)
    (some_may_send c.the_laws.ensures c.args.basis.now c.args.cycle c.args.standing.now c.requires.under_way c.requires.in_run c.ranges.cycle.fits)

pub put_offers-standing-requires : goal.put_offers-standing-requires
put_offers-standing-requires c =
    rw (c.as_slice-2.ensures.value, c.as_slice-branches.ensures.value, c.from.ensures)
    (may_put c.the_laws.ensures c.args.basis.now c.args.cycle c.args.standing.now c.requires.under_way c.requires.in_run c.ranges.cycle.fits
    c.report_links.new.now.items c.report_links.new.next.items c.report_links.new.starts
    (rw (c.as_slice.ensures.value, c.as_slice-branches.ensures.value, c.clear.ensures.items) at c.report_links.ensures.sends)
    (c.report_links.ensures.capacity ∙ c.clear.ensures.capacity))

pub returns-clause-under_way : goal.returns-clause-under_way
returns-clause-under_way c =
    rw (c.swap.ensures.x_after, c.swap.ensures.y_after, c.from.ensures)
    (next_under_way c.the_laws.ensures c.args.basis.now c.args.cycle c.args.standing.now c.requires.under_way c.requires.in_run c.ranges.cycle.fits
    c.report_links.new.now.items c.report_links.new.next.items c.report_links.new.starts
    (rw (c.as_slice.ensures.value, c.as_slice-branches.ensures.value, c.clear.ensures.items) at c.report_links.ensures.sends)
    (c.report_links.ensures.capacity ∙ c.clear.ensures.capacity)
    c.put_offers-standing.result c.put_offers-standing.new.queues c.report_links.new.now refl
    (rw (c.as_slice-2.ensures.value, c.as_slice-branches.ensures.value, c.from.ensures) at c.put_offers-standing.ensures))

pub returns-clause-starts : goal.returns-clause-starts
returns-clause-starts c =
    starts_reported c.the_laws.ensures c.args.basis.now c.args.cycle c.args.standing.now c.requires.under_way c.requires.in_run c.ranges.cycle.fits
    c.report_links.new.now.items c.report_links.new.next.items c.report_links.new.starts
    (rw (c.as_slice.ensures.value, c.as_slice-branches.ensures.value, c.clear.ensures.items) at c.report_links.ensures.sends)
    (c.report_links.ensures.capacity ∙ c.clear.ensures.capacity)
