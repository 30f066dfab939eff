use Rattle.std.proofs.Common.{◌≡◌, ◌∙◌, List, Some, refl, ap, arith, length}
use Rattle.std.specs.Prelude.{slice_get}
use Rattle.std.proofs.lemmas.Option.{slice_get_read}
use Rattle.cqf_units.specs.Timing.{cycle_at}
use Rattle.cqf_model.specs.declared.topology.Hop.{Hop}
use Rattle.cqf_instants_run.specs.declared.judged.EdgeVerdict.TheVariants.{Covered}
use Rattle.cqf_instants_run.specs.Columns.{verdict_at}
use Rattle.cqf_instants_run.proofs.Offers.{counted_all, empty_for, hops_at, offer_more, room_for_offer, wide_at}
use Rattle.cqf_instants_run.proofs.counted.columns_of.Goals as goal

pub add_hops-requires-clause-width : goal.add_hops-requires-clause-width
add_hops-requires-clause-width c =
    wide_at c.args.domain.now c.args.cycles (verdict_at c.args.domain.now c.args.rows.now c.args.edge_verdicts.now) c.args.offers.now c.loop-index.index
    c.links.result c.width_of-width.result c.in_ok-columns.columns.items c.loop-index.columns.items c.loop-index.invariant c.in_ok-columns.ensures
    c.cycle_time-cycle_time.result.0 c.width_of-width.ensures c.index-offers-index.result c.index-offers-index.is c.loop-index-test.true
    c.cycle_of-cycle.result.0 c.cycle_of-cycle.ensures

pub add_hops-requires-clause-room : goal.add_hops-requires-clause-room
add_hops-requires-clause-room c =
    let d = c.args.domain.now in
    let rows = c.args.rows.now in
    let edge_verdicts = c.args.edge_verdicts.now in
    let offers = c.args.offers.now in
    let offer = c.index-offers-index.result in
    let index = c.loop-index.index in
    let at : slice_get offers index ≡ Some offer =
    slice_get_read offers (length offers) index offer refl c.loop-index-test.true c.index-offers-index.is in
    let is_cycle : c.cycle_of-cycle.result.0 ≡ cycle_at d.cycle_time offer.at.0 =
    c.cycle_of-cycle.ensures ∙ ap (λ n. cycle_at n offer.at.0) c.cycle_time-cycle_time.ensures.value in
    let hops : List Hop = c.hops_of-hops.result.now in
    room_for_offer d c.args.cycles (verdict_at d rows edge_verdicts) offers index c.in_ok-columns.columns.items c.loop-index.columns.items c.loop-index.invariant
    offer at hops
    (hops_at d rows edge_verdicts index offer hops (Covered 0) (omega (arith, c.loop-index-test.true, c.requires.judged))
    (c.hops_of-hops.ensures.hops (cycle_at d.cycle_time offer.at.0)))
    c.hops_of-hops.ensures.few c.cycle_of-cycle.result.0 is_cycle c.width_of-width.result
    (empty_for d c.links.result c.width_of-width.result c.in_ok-columns.columns.items c.links.ensures c.in_ok-columns.ensures)
    (omega (arith, c.loop-index-test.true, c.requires.few)) c.requires.room

pub loop-index-preserved : goal.loop-index-preserved
loop-index-preserved c =
    let d = c.args.domain.now in
    let rows = c.args.rows.now in
    let edge_verdicts = c.args.edge_verdicts.now in
    let offers = c.args.offers.now in
    let offer = c.index-offers-index.result in
    let index = c.loop-index.index in
    let at : slice_get offers index ≡ Some offer =
    slice_get_read offers (length offers) index offer refl c.loop-index-test.true c.index-offers-index.is in
    let is_cycle : c.cycle_of-cycle.result.0 ≡ cycle_at d.cycle_time offer.at.0 =
    c.cycle_of-cycle.ensures ∙ ap (λ n. cycle_at n offer.at.0) c.cycle_time-cycle_time.ensures.value in
    let hops : List Hop = c.hops_of-hops.result.now in
    offer_more d c.args.cycles (verdict_at d rows edge_verdicts) offers index c.in_ok-columns.columns.items c.loop-index.columns.items c.loop-index.invariant
    offer at hops
    (hops_at d rows edge_verdicts index offer hops (Covered 0) (omega (arith, c.loop-index-test.true, c.requires.judged))
    (c.hops_of-hops.ensures.hops (cycle_at d.cycle_time offer.at.0)))
    c.hops_of-hops.ensures.few c.cycle_of-cycle.result.0 is_cycle c.add_hops.new.columns.items c.add_hops.ensures

pub returns : goal.returns
returns c =
    let d = c.args.domain.now in
    counted_all d c.args.cycles (verdict_at d c.args.rows.now c.args.edge_verdicts.now) c.args.offers.now c.loop-index.index c.width_of-width.result
    c.in_ok-columns.columns.items c.loop-index.columns.items c.loop-index.invariant
    (empty_for d c.links.result c.width_of-width.result c.in_ok-columns.columns.items c.links.ensures c.in_ok-columns.ensures)
    c.width_of-width.ensures.within (omega (arith, c.loop-index-test.false))
