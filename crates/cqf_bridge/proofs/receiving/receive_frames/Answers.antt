use Rattle.std.proofs.Common.{[], List, arith, map, rules, subst, sym}
use Rattle.std.proofs.lemmas.List.Sorted.{IsNonDecreasingBy-from_sort_by_key, answers_always}
use Rattle.cqf_model.specs.declared.frames.Dropped.{Dropped}
use Rattle.cqf_model.specs.Policing.{Policed, Received}
use Rattle.cqf_laws_cycle.specs.Gathered.{IsInOrderOf}
use Rattle.cqf_bridge.specs.declared.gathering.Incoming.{Incoming}
use Rattle.cqf_bridge.specs.Taking.{HasPoliced, IsFaultByPoliced, gathered_by, policed_by, received_as}
use Rattle.cqf_bridge.proofs.InOrder.{brought_in_order, frame_of_drop, of_frame, of_frames}
use Rattle.cqf_bridge.proofs.RunCycle.{batch_gathers, cycle_taken, same_policed, sorted_may}
use Rattle.cqf_bridge.proofs.receiving.receive_frames.Goals as goal

pub in_order-requires : goal.in_order-requires
in_order-requires c =
    let accepted = c.know.ensures.accepted in
    batch_gathers c.args.phase.domain.now c.args.phase.number c.args.phase.cycle.0 c.args.phase.table.now.rows c.args.batches.now c.requires.batches
    (omega (arith, accepted.cycle_least)) accepted.cycle_most c.requires.early

pub take_all-requires-clause-may : goal.take_all-requires-clause-may
take_all-requires-clause-may c =
    let d = c.args.phase.domain.now in
    let run = c.requires.offers.1 in
    let order = subst (λ (xs : List Incoming). IsInOrderOf (λ (x : Received). x.at) (gathered_by d c.args.batches.now c.args.offers.now) (map received_as xs))
    (sym c.as_slice.ensures.value) c.in_ok-frames.ensures in
    sorted_may d c.args.phase.number c.args.phase.cycle.0 c.args.phase.table.now.rows c.args.batches.now c.requires.batches c.requires.offers.0
    c.args.offers.now
    run.domain run.here (omega (arith, c.know.ensures.accepted.cycle_least)) (map received_as c.as_slice.result.now) order

pub returns-in-Err-clause-stops : goal.returns-in-Err-clause-stops
returns-in-Err-clause-stops c =
    let d = c.args.phase.domain.now in
    let order = subst (λ (xs : List Incoming). IsInOrderOf (λ (x : Received). x.at) (gathered_by d c.args.batches.now c.args.offers.now) (map received_as xs))
    (sym c.as_slice.ensures.value) c.in_ok-frames.ensures in
    λ run is.
    subst (λ (ps : List Policed). IsFaultByPoliced ps c.in-Err.fault)
    (same_policed d c.args.phase.number c.args.phase.cycle.0 c.args.phase.table.now.rows c.args.batches.now c.requires.batches run c.args.offers.now
    is.domain is.here (omega (arith, c.know.ensures.accepted.cycle_least)) (map received_as c.as_slice.result.now) order
    c.frames_are_taken_in_order.ensures.taken is.table)
    c.in-Err.ensures.stops

pub returns-clause-takes : goal.returns-clause-takes
returns-clause-takes c =
    let d = c.args.phase.domain.now in
    let rows = c.args.phase.table.now.rows in
    let frames = map received_as c.as_slice.result.now in
    let order = subst (λ (xs : List Incoming). IsInOrderOf (λ (x : Received). x.at) (gathered_by d c.args.batches.now c.args.offers.now) (map received_as xs))
    (sym c.as_slice.ensures.value) c.in_ok-frames.ensures in
    let policed : HasPoliced d c.args.phase.number c.args.phase.cycle.0 c.args.ports.now.items []
    (policed_by d rows c.args.phase.number c.args.phase.cycle.0 frames)
    c.take_all.new.gates c.take_all.new.ports.items c.take_all.new.drops.items =
    subst (λ (ds : List Dropped). HasPoliced d c.args.phase.number c.args.phase.cycle.0 c.args.ports.now.items ds
    (policed_by d rows c.args.phase.number c.args.phase.cycle.0 frames)
    c.take_all.new.gates c.take_all.new.ports.items c.take_all.new.drops.items) c.new-drops.ensures.items c.in-Ok.ensures.takes in
    let up = IsNonDecreasingBy-from_sort_by_key frame_of_drop _ c.in_ok-sort_by_key.ensures.sorted (λ a r q k. search rules) in
    let stable = c.sort_by_key.ensures.stable frame_of_drop (answers_always _ _ _ (λ f a r q k. search rules)) in
    let by_frame = brought_in_order frame_of_drop of_frame of_frames c.take_all.new.drops.items c.sort_by_key.new.self.items up stable in
    λ run is.
    cycle_taken d c.args.phase.number c.args.phase.cycle.0 rows c.args.batches.now c.requires.batches run c.args.offers.now
    is.domain is.here (omega (arith, c.know.ensures.accepted.cycle_least)) frames order
    c.frames_are_taken_in_order.ensures.taken c.drops_are_of_the_cycle.ensures.sorted is.table c.take_all.new.gates c.args.ports.now.items
    c.take_all.new.ports.items c.take_all.new.drops.items c.sort_by_key.new.self.items policed by_frame
