use Rattle.std.proofs.Common.{◌∙◌, ◌++◌, Option, [], None, Some, append-nil, ap, get_or, if◌then◌else◌, sym}
use Rattle.cqf_compile.proofs.Bridges.{no_hop}
use Rattle.cqf_model.specs.declared.topology.Hop.{Hop}
use Rattle.cqf_model.specs.Domain.{end_of}
use Rattle.cqf_units.specs.declared.timing.Nanos.{Nanos}
use Rattle.cqf_program_plans.specs.Latency.Text.{is_station}
use Rattle.cqf_program_plans.proofs.Found.{items_of, listed_more}
use Rattle.cqf_program_runs.specs.declared.deliveries.delivery.Delivery.{Delivery}
use Rattle.cqf_program_runs.specs.Deliveries.{delivery_to}
use Rattle.cqf_program_runs.specs.Deliveries.UnderWay.{whole_in}
use Rattle.cqf_program_runs.proofs.Room.{few_listed}
use Rattle.cqf_program_runs.proofs.deliveries.made.put_to_listeners.Goals as goal
use Rattle.cqf_program_runs.proofs.deliveries.made.put_to_listeners.Goals.{in-Some, in_default}

pub push-requires : goal.push-requires
push-requires c =
    let d = c.args.domain.now in
    few_listed (λ (hop : Hop). is_station (end_of d hop.link))
    (delivery_to d (whole_in d c.args.row.now c.args.slot.now) c.args.deadline c.args.x.now)
    c.as_slice-hop-items.result.now c.loop-hop.hop-index c.loop-hop.here c.loop-hop-test.true c.as_slice-hop-items.ensures.few c.loop-hop.invariant

pub loop-hop-preserved : goal.loop-hop-preserved
loop-hop-preserved c =
    let d = c.args.domain.now in
    let x = c.args.x.now in
    let done = c.loop-hop.here in
    let hop : Hop = get_or c.as_slice-hop-items.result.now c.loop-hop.hop-index no_hop in
    let by_whole =
    ap {B = Option Delivery} (λ (whole : Option Nanos). if is_station (end_of d hop.link) then Some (delivery_to d (λ _. whole) c.args.deadline x hop) else None)
    c.whole_in-whole.ensures in
    let more = listed_more (λ (hop : Hop). is_station (end_of d hop.link))
    (delivery_to d (whole_in d c.args.row.now c.args.slot.now) c.args.deadline x)
    c.as_slice-hop-items.result.now c.loop-hop.hop-index no_hop c.delivery_to.result [] done c.loop-hop-test.true
    (c.delivery_to.ensures ∙ by_whole) c.loop-hop.invariant in
    elim c.match-delivery_to.branch [
      | in-Some w ↦ w.here-is ∙ w.push.ensures ∙ ap (λ o. done ++ items_of o) (sym w.in-Some.is) ∙ more
      | in_default w ↦ w.here-is ∙ sym (append-nil done) ∙ ap (λ o. done ++ items_of o) (sym w.in_default.is) ∙ more
    ]
