use Rattle.std.proofs.Common.{◌≡◌, ◌∙◌, ◌<◌, ap, refl, sym, subst, arith, length, List, Some}
use Rattle.std.proofs.lemmas.Option.{get_or_from_slice_get, slice_get_within}
use Rattle.cqf_lists.proofs.Members.{contains_at}
use Rattle.cqf_relay.specs.declared.outlet.Outlet.{Outlet}
use Rattle.cqf_worker_loops.specs.Workers.{SegmentPort}
use Rattle.cqf_worker_loops.proofs.HandedSegments.{back_of, either_way, few_put, goes_with_back, goes_with_put, maybe_put, on_fault, outlets_inside, port_more, port_same}
use Rattle.cqf_worker_loops.proofs.HandedSegments.{reported_there}
use Rattle.cqf_worker_loops.proofs.rounds.report_on.Goals as goal

-- the link and its port are there
pub bounds-outlets-index : goal.bounds-outlets-index
bounds-outlets-index g c =
    subst (λ (outlets : List Outlet). c.args.index < length outlets) (sym c.outlets.ensures)
    (slice_get_within c.args.worker.now.relay.outlets.items c.args.index c.requires.at.outlet c.requires.at.there)

pub offset_bounds-outlets-index : goal.offset_bounds-outlets-index
offset_bounds-outlets-index g c =
    let inside : c.args.index < length c.outlets.result.now =
    subst (λ (outlets : List Outlet). c.args.index < length outlets) (sym c.outlets.ensures)
    (slice_get_within c.args.worker.now.relay.outlets.items c.args.index c.requires.at.outlet c.requires.at.there) in
    omega (arith, inside)

pub segment_of-segment-requires : goal.segment_of-segment-requires
segment_of-segment-requires g c =
    slice_get_within c.args.worker.now.relay.outlets.items c.args.index c.requires.at.outlet c.requires.at.there

pub index_mut-requires : goal.index_mut-requires
index_mut-requires g c =
    let inside : c.args.port < length c.args.worker.now.outs.items =
    slice_get_within c.args.worker.now.outs.items c.args.port c.requires.at.at c.requires.at.its_port in
    omega (arith, inside)

-- fewer segments were put at the port than the limit
pub try_put-requires : goal.try_put-requires
try_put-requires g c =
    let at = c.requires.at in
    let outs = c.args.worker.now.outs.items in
    let under_way = c.requires.under_way in
    let port : c.index_mut.result.now ≡ at.at =
    c.index_mut.ensures.value ∙ get_or_from_slice_get outs c.args.port at.at c.index_mut.result.now at.its_port in
    record {
      room = omega (
        arith,
        few_put under_way.traffic under_way.number c.args.worker.now at.at under_way.is (contains_at outs c.args.port at.at at.its_port),
        ap (λ (p : SegmentPort). length p.pipe.items) port,
      );
    }

-- it goes on, and the segment is put
pub returns-in-Ok-clause-ok : goal.returns-in-Ok-clause-ok
returns-in-Ok-clause-ok g c =
    let at = c.requires.at in
    let outs = c.args.worker.now.outs.items in
    let port : c.index_mut.result.now ≡ at.at =
    c.index_mut.ensures.value ∙ get_or_from_slice_get outs c.args.port at.at c.index_mut.result.now at.its_port in
    goes_with_put c.args.index c.args.port c.args.worker.now _ c.index_mut.result.now c.segment_of-segment.result at c.segment_of-segment.ensures port
    (port_more outs c.args.port c.index_mut.result.now c.try_put.new.self c.segment_of-segment.result c.try_put.ensures.pipe c.in-Ok.ensures.ok) refl refl refl

-- the link is still there
pub keep_back-requires : goal.keep_back-requires
keep_back-requires g c =
    let hands = c.segment_of-segment.ensures in
    outlets_inside c.args.index c.args.worker.now.relay c.segment_of-segment.new.self hands.outlet hands.stays hands.was

-- it goes on, and the segment is kept
pub returns-in-Err-Full-Item-clause-ok : goal.returns-in-Err-Full-Item-clause-ok
returns-in-Err-Full-Item-clause-ok g c =
    let w = c.args.worker.now in
    let arm = c.in-Err-Full-Item in
    let by_then = reported_there w.relay.outlets.items c.outlets.result.now c.args.index c.requires.at.outlet c.index-outlets-index.result c.reported-reported.result
    c.requires.at.there c.outlets.ensures c.index-outlets-index.is c.reported-reported.ensures in
    goes_with_back c.args.index c.reported-reported.result w _ c.segment_of-segment.new.self c.segment_of-segment.result arm.back c.segment_of-segment.ensures c.keep_back.ensures
    (back_of arm.field-0 arm.field-0-0 arm.back c.segment_of-segment.result (cc) (cc) arm.ensures.back) by_then refl refl refl
    (port_same w.outs.items c.args.port c.index_mut.result.now c.try_put.new.self c.index_mut.ensures.value c.try_put.ensures.pipe arm.ensures.err)

-- if it gives up, it has put only segments
pub returns-clause-err : goal.returns-clause-err
returns-clause-err g c =
    let at = c.requires.at in
    let outs = c.args.worker.now.outs.items in
    let port : c.index_mut.result.now ≡ at.at =
    c.index_mut.ensures.value ∙ get_or_from_slice_get outs c.args.port at.at c.index_mut.result.now at.its_port in
    on_fault c.match-this.result _ (maybe_put c.args.worker.now _ c.args.port c.index_mut.result.now
    (record { link = c.index_mut.result.now.link; pipe = c.try_put.new.self }) c.segment_of-segment.result c.requires.under_way (at.its_port ∙ ap Some (sym port)) refl
    refl c.try_put.ensures.pipe (either_way c.try_put.result _ _ c.try_put.ensures.ok c.try_put.ensures.err))
