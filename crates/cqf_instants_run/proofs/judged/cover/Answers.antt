use Rattle.std.proofs.Common.{◌≡◌, ◌∙◌, ◌+◌, ◌/◌, ◌<◌, Some, refl, sym, ap, subst, arith, length}
use Rattle.std.specs.Prelude.{slice_get}
use Rattle.std.specs.BTreeMap.{get, is_at}
use Rattle.std.specs.Cmp.Lexicographic.{slice_cmp}
use Rattle.std.specs.Ordering.{nat_cmp}
use Rattle.std.specs.Map.{lookup}
use Rattle.std.proofs.lemmas.Option.{slice_get_read}
use Rattle.cqf_instants_run.proofs.Covers.{CoversTo, covers_all, covers_none}
use Rattle.cqf_instants_run.proofs.Step.{covers_more}
use Rattle.cqf_instants_run.proofs.judged.cover.Goals as goal

pub loop-offer-init : goal.loop-offer-init
loop-offer-init c =
    covers_none c.args.domain.now c.args.rows.now c.args.offers.now (λ name. get (slice_cmp nat_cmp) c.new-last.result name) c.in_ok-used.used.items
    c.in_ok-edge_verdicts.edge_verdicts.items
    (λ name. ap (lookup (is_at (slice_cmp nat_cmp name))) c.new-last.ensures.empty) c.in_ok-used.ensures c.in_ok-edge_verdicts.ensures.items

pub begin-requires-clause-within : goal.begin-requires-clause-within
begin-requires-clause-within c = c.loop-offer.invariant.within

pub begin-requires-clause-leads : goal.begin-requires-clause-leads
begin-requires-clause-leads c = c.loop-offer.invariant.leads

pub judge-requires-clause-counters : goal.judge-requires-clause-counters
judge-requires-clause-counters c = c.loop-offer.invariant.counters

pub loop-offer-preserved : goal.loop-offer-preserved
loop-offer-preserved c =
    let d = c.args.domain.now in
    let offers = c.args.offers.now in
    let p = c.loop-offer.offer-index in
    let at : slice_get offers p ≡ Some c.offer-item.result =
    slice_get_read offers (length offers) p c.offer-item.result refl c.loop-offer-test.true c.offer-item.is in
    let some : 0 < d.cycle_time = omega (arith, c.cycle_time-cycle_time.ensures.accepted.cycle_least) in
    let is_cycle = c.cycle_of-cycle.ensures ∙ ap (λ n. c.offer-item.result.at.0 / n) c.cycle_time-cycle_time.ensures.value in
    subst (λ js. CoversTo d c.args.rows.now offers (p + 1) c.in_ok-count.count (λ name. get (slice_cmp nat_cmp) c.begin.new.last name) c.judge.new.used.items js)
    (sym c.in_ok-push.ensures.items)
    (covers_more d c.args.rows.now offers p c.loop-offer.count (λ name. get (slice_cmp nat_cmp) c.loop-offer.last name) c.loop-offer.used.items
    c.loop-offer.edge_verdicts.items c.loop-offer.invariant c.offer-item.result at some c.requires.order c.cycle_of-cycle.result.0 c.in_ok-count.count is_cycle
    (λ name. get (slice_cmp nat_cmp) c.begin.new.last name) c.in_ok-count.ensures c.judge.new.used.items c.judge.result c.judge.ensures
    (record {
      follow = c.rows_follow.ensures.follow;
      rise = c.rows_follow.ensures.begin;
      one = c.rows_say_the_tables.ensures.one;
      goes_on = c.offers_stand_in_order.ensures.goes_on;
      begins = c.offers_stand_in_order.ensures.begins;
      own = c.counters_step.ensures.row;
      others = c.counters_step.ensures.others;
    }))

pub returns : goal.returns
returns c = covers_all c.args.domain.now c.args.rows.now c.args.offers.now c.loop-offer.offer-index c.loop-offer.count
    (λ name. get (slice_cmp nat_cmp) c.loop-offer.last name) c.loop-offer.used.items c.loop-offer.edge_verdicts.items
    (omega (arith, c.loop-offer-test.false, c.loop-offer.auto.offer-index-end)) c.loop-offer.invariant
