use Rattle.std.proofs.Common.{◌∙◌, [], arith, subst}
use Rattle.std.specs.Global.{Global}
use Rattle.std.specs.declared.vec.Vec.{Vec}
use Rattle.std.proofs.lemmas.List.{length-map}
use Rattle.cqf_model.specs.declared.ports.Arrival.{Arrival}
use Rattle.cqf_lists.specs.ByNumber.{lists_of}
use Rattle.cqf_instants_run.specs.Feeding.{AreFed}
use Rattle.cqf_instants_run.proofs.Backing.{backs_the_traces, on_some_link, traces_taken}
use Rattle.cqf_instants_run.proofs.taping.keep_background.Goals as goal

-- each background frame is on a link of the domain
pub feed_frames-requires : goal.feed_frames-requires
feed_frames-requires c =
    on_some_link c.args.domain.now c.args.end.0 c.args.background.now c.args.traces.now c.requires.run c.as_slice.result.now
    (c.as_slice.ensures.value ∙ c.in_ok-frames.ensures) c.links-links.result c.links-links.ensures

-- the traces are in order of link number
pub keep_on_each-requires-clause-links : goal.keep_on_each-requires-clause-links
keep_on_each-requires-clause-links c = c.requires.run.is.links

-- each has a list
pub keep_on_each-requires-clause-one_each : goal.keep_on_each-requires-clause-one_each
keep_on_each-requires-clause-one_each c =
    omega (arith, c.in_ok-lists.ensures.one_each, c.links-links.ensures, length-map c.in_ok-lists.lists.items (λ (v : Vec Arrival Global). v.items))

-- they are few
pub keep_on_each-requires-clause-few : goal.keep_on_each-requires-clause-few
keep_on_each-requires-clause-few c =
    omega (arith, c.in_ok-lists.ensures.one_each, length-map c.in_ok-lists.lists.items (λ (v : Vec Arrival Global). v.items))

-- the end is early
pub keep_on_each-requires-clause-early : goal.keep_on_each-requires-clause-early
keep_on_each-requires-clause-early c = c.requires.run.is.early

-- the ports may take what they are given
pub keep_on_each-requires-clause-taken : goal.keep_on_each-requires-clause-taken
keep_on_each-requires-clause-taken c =
    λ l inside. traces_taken c.args.domain.now c.args.end.0 c.args.background.now c.args.traces.now c.requires.run c.as_slice.result.now
    (c.as_slice.ensures.value ∙ c.in_ok-frames.ensures) (lists_of c.in_ok-lists.lists.items)
    (subst (λ k. AreFed c.as_slice.result.now [] k (lists_of c.in_ok-lists.lists.items)) c.links-links.ensures c.in_ok-lists.ensures) l
    (omega (arith, inside, length-map c.in_ok-lists.lists.items (λ (v : Vec Arrival Global). v.items)))

-- the traces have what the network starts
pub returns : goal.returns
returns c =
    backs_the_traces c.gate_gives_class.ensures c.port_starts_the_background.ensures c.args.domain.now c.args.end.0 c.args.background.now c.args.traces.now _
    c.as_slice.result.now (lists_of c.in_ok-lists.lists.items) (c.as_slice.ensures.value ∙ c.in_ok-frames.ensures)
    (subst (λ k. AreFed c.as_slice.result.now [] k (lists_of c.in_ok-lists.lists.items)) c.links-links.ensures c.in_ok-lists.ensures)
    c.in_ok-keep_on_each.ensures
