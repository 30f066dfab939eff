use Rattle.std.proofs.Common.{◌≡◌, List, subst, take}
use Rattle.std.proofs.lemmas.List.{take_all, take_more}
use Rattle.cqf_model.specs.declared.frames.Started.{Started}
use Rattle.cqf_lists.specs.ByNumber.{lists_of}
use Rattle.cqf_instants_run.specs.Feeding.{AreFed}
use Rattle.cqf_instants_run.proofs.Feeds.{AreFed-start, start_there}
use Rattle.cqf_instants_run.proofs.feeding.feed_links.Goals as goal

-- its link has a list
pub put_start-requires : goal.put_start-requires
put_start-requires c =
    start_there c.args.links c.args.frames.now c.args.starts.now c.loop-start.start-index _ c.loop-start.lists.items c.loop-start-test.true c.requires.starts
    c.loop-start.invariant

-- it is appended there
pub loop-start-preserved : goal.loop-start-preserved
loop-start-preserved c =
    AreFed-start c.args.links c.args.frames.now (take c.loop-start.start-index c.args.starts.now) _ _ (lists_of c.loop-start.lists.items)
    (lists_of c.put_start.new.lists.items) (take_more c.args.starts.now c.loop-start.start-index _ c.loop-start-test.true) c.in_ok-put_start.ensures
    c.loop-start.invariant

-- in the end all are in the lists
pub returns : goal.returns
returns c =
    let all : take c.loop-start.start-index c.args.starts.now ≡ c.args.starts.now =
    take_all c.loop-start.start-index c.args.starts.now c.loop-start-test.false in
    subst (λ (xs : List Started). AreFed c.args.frames.now xs c.args.links (lists_of c.loop-start.lists.items)) all c.loop-start.invariant
