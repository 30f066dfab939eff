use Rattle.std.proofs.Common.{◌∙◌, List, ap, map, sym, subst}
use Rattle.cqf_model.specs.Policing.{Received}
use Rattle.cqf_laws_cycle.specs.Gathered.{IsInOrderOf}
use Rattle.cqf_bridge.specs.Taking.{gathered_by, received_as}
use Rattle.cqf_agenda.specs.Agenda.{offers_listed_at}
use Rattle.cqf_plain.proofs.Lost.{found_so, in_cycle, may_gather}
use Rattle.cqf_plain.proofs.losing.first_lost.Goals as goal

pub in_order-requires : goal.in_order-requires
in_order-requires c =
    let p = c.requires.part in
    may_gather p.0 p.1 c.args.table.now.cycle p.2 c.args.driven.now p.3 p.5 c.requires.early c.domain-domain.result.now c.as_slice.result.now
    c.domain-domain.ensures.value c.as_slice.ensures.value

pub lost_among-requires : goal.lost_among-requires
lost_among-requires c =
    let p = c.requires.part in
    let offered = c.offers-offers.ensures ∙ ap (offers_listed_at c.args.driven.now.agenda) c.cycle.ensures in
    let order = subst (λ (xs : List Received). IsInOrderOf (λ (x : Received). x.at)
    (gathered_by c.domain-domain.result.now c.as_slice.result.now c.offers-offers.result.now) xs)
    (ap (map received_as) (sym c.as_slice-2.ensures.value)) c.in_ok-frames.ensures in
    in_cycle p.0 p.1 c.args.table.now.cycle p.2 c.args.driven.now p.3 p.5 c.cycle_brings_its_batches.ensures.brings c.cycle_brings_its_batches.ensures.whole
    c.frames_are_taken_in_order.ensures.taken c.domain-domain.result.now c.as_slice.result.now c.offers-offers.result.now
    c.domain-domain.ensures.value c.as_slice.ensures.value offered
    (map received_as c.as_slice-2.result.now) order

pub returns : goal.returns
returns c run net bridge of is_table come =
    let offered = c.offers-offers.ensures ∙ ap (offers_listed_at c.args.driven.now.agenda) c.cycle.ensures in
    let order = subst (λ (xs : List Received). IsInOrderOf (λ (x : Received). x.at)
    (gathered_by c.domain-domain.result.now c.as_slice.result.now c.offers-offers.result.now) xs)
    (ap (map received_as) (sym c.as_slice-2.ensures.value)) c.in_ok-frames.ensures in
    found_so run net c.args.table.now.cycle bridge c.args.driven.now of come c.cycle_brings_its_batches.ensures.brings c.cycle_brings_its_batches.ensures.whole
    c.frames_are_taken_in_order.ensures.taken c.domain-domain.result.now c.as_slice.result.now c.offers-offers.result.now
    c.domain-domain.ensures.value c.as_slice.ensures.value offered
    (map received_as c.as_slice-2.result.now) order c.verdicts_are_the_runs.ensures.anew c.number.result c.number.ensures c.args.table.now.rows is_table.rows
    c.in_ok-found.found c.in_ok-found.ensures
