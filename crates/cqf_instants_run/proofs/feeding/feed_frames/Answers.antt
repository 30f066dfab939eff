use Rattle.std.proofs.Common.{◌≡◌, [], List, subst, take}
use Rattle.std.proofs.lemmas.List.{take_all}
use Rattle.cqf_model.specs.declared.frames.Backed.{Backed}
use Rattle.cqf_lists.specs.ByNumber.{lists_of}
use Rattle.cqf_instants_run.specs.Feeding.{AreFed}
use Rattle.cqf_instants_run.proofs.Feeds.{frame_put, frame_there}
use Rattle.cqf_instants_run.proofs.feeding.feed_frames.Goals as goal

-- its link has a list
pub put_arrival-requires : goal.put_arrival-requires
put_arrival-requires c =
    frame_there c.args.links c.args.frames.now c.loop-frame.frame-index _ c.loop-frame-test.true c.loop-frame.lists.items c.requires c.loop-frame.invariant

-- it is appended there
pub loop-frame-preserved : goal.loop-frame-preserved
loop-frame-preserved c =
    frame_put c.args.links c.args.frames.now c.loop-frame.frame-index _ c.loop-frame-test.true c.arrival_of_frame.result (lists_of c.loop-frame.lists.items)
    (lists_of c.put_arrival.new.lists.items) c.arrival_of_frame.ensures c.in_ok-put_arrival.ensures c.loop-frame.invariant

-- in the end all are in the lists
pub returns : goal.returns
returns c =
    let all : take c.loop-frame.frame-index c.args.frames.now ≡ c.args.frames.now =
    take_all c.loop-frame.frame-index c.args.frames.now c.loop-frame-test.false in
    subst (λ (xs : List Backed). AreFed xs [] c.args.links (lists_of c.loop-frame.lists.items)) all c.loop-frame.invariant
