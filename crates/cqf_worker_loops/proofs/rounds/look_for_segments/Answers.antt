use Rattle.std.proofs.Common.{◌≡◌, ◌<◌, ap, refl, arith, length, set, Some}
use Rattle.std.specs.Prelude.{slice_get}
use Rattle.cqf_relay.specs.declared.moving.Segment.{Segment}
use Rattle.cqf_worker_loops.specs.PipeEnds.{End}
use Rattle.cqf_worker_loops.specs.declared.carried.Carried.{Carried}
use Rattle.cqf_worker_loops.proofs.HandedSegments.{gives_up, goes_as_before, goes_further, on_fault, port_same, port_there, ports_still}
use Rattle.cqf_worker_loops.proofs.TakenSegments.{goes_with_segment}
use Rattle.cqf_worker_loops.proofs.TakenTables.{found_item, found_nothing}
use Rattle.cqf_worker_loops.specs.declared.carried.Carried.TheVariants.{Item}
use Rattle.cqf_worker_loops.proofs.rounds.look_for_segments.Goals as goal

-- it goes on with the segment
pub loop-segment-preserved : goal.loop-segment-preserved
loop-segment-preserved g c =
    let w = c.loop-segment.worker in
    let port = c.index_mut.result.now in
    let inside : c.args.index < length w.ins.items = omega (arith, c.requires.index, ports_still c.args.worker.now w c.loop-segment.invariant) in
    let there : slice_get w.ins.items c.args.index ≡ Some port = port_there w.ins.items c.args.index port inside c.index_mut.ensures.value in
    goes_further c.args.worker.now w _ c.loop-segment.invariant (goes_with_segment c.args.index w _ port c.in-Item-Item.segment there
    (ap (λ (end : End (Carried Segment)). set w.ins.items c.args.index (record { link = port.link; pipe = end }))
    (found_item port.pipe c.look.new.self c.look.result c.look.ensures.pipe c.look.ensures.items (Item c.in-Item-Item.segment) (cc)))
    c.in_ok-take_segment-in-Item-Item.ensures refl refl refl)

-- if none has arrived, it is unchanged
pub returns-in-Nothing-clause-ok : goal.returns-in-Nothing-clause-ok
returns-in-Nothing-clause-ok g c =
    let w = c.loop-segment.worker in
    let port = c.index_mut.result.now in
    goes_further c.args.worker.now w _ c.loop-segment.invariant (goes_as_before w _ refl refl refl
    (port_same w.ins.items c.args.index port c.look.new.self c.index_mut.ensures.value c.look.ensures.pipe
    (ap (λ (end : End (Carried Segment)). end.items)
    (found_nothing port.pipe c.look.new.self c.look.result c.look.ensures.pipe c.look.ensures.items c.in-Nothing.is))) refl)

-- if it gives up, it has put only segments
pub returns-in_default-clause-err : goal.returns-in_default-clause-err
returns-in_default-clause-err g c = gives_up c.args.worker.now c.loop-segment.worker _ c.requires.under_way c.loop-segment.invariant refl

pub returns-in_default-2-clause-err : goal.returns-in_default-2-clause-err
returns-in_default-2-clause-err g c = gives_up c.args.worker.now c.loop-segment.worker _ c.requires.under_way c.loop-segment.invariant refl

pub returns-in_err-take_segment-in-Item-Item-clause-err : goal.returns-in_err-take_segment-in-Item-Item-clause-err
returns-in_err-take_segment-in-Item-Item-clause-err g c =
    on_fault c.from_residual.result _ (gives_up c.args.worker.now c.loop-segment.worker _ c.requires.under_way c.loop-segment.invariant refl)
