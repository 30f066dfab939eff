use Rattle.std.proofs.Common.{◌≡◌, ◌∙◌, ◌+◌, ◌<◌, [], ap, arith, length, length-append, map, refl, suc, sym}
use Rattle.std.proofs.lemmas.List.{length-map, nil_from_length}
use Rattle.std.specs.Vec.Iter.{into_iter_items}
use Rattle.cqf_traffic.specs.FlowsText.{flow_text}
use Rattle.cqf_program_placing.specs.Settled.{settled_value}
use Rattle.cqf_program_planning.proofs.ChoicesMade.{all_chosen, none_chosen, one_chosen, turned_there}
use Rattle.cqf_program_planning.proofs.plans.choices_of.Goals as goal

pub loop-flow-init : goal.loop-flow-init
loop-flow-init c =
    let streams = c.args.streams.now in
    let flows = c.args.flows.items in
    let items = into_iter_items c.into_iter-flow-iterator.result in
    let given = c.into_iter-flow-iterator.ensures.into_iter_gives.0 in
    let none : length c.in_ok-filled.filled.items ≡ 0 = ap length c.in_ok-filled.ensures.items in
    let all : length items ≡ length flows = ap length given in
    let many : length flows ≡ length streams =
    sym (length-map flows flow_text) ∙ c.requires.turned.each ∙ length-map streams settled_value in (
      none_chosen c.args.cycle_time.0 (map settled_value streams) (map flow_text flows) (map flow_text items) c.args.times.now c.in_ok-filled.filled.items
          c.in_ok-filled.ensures.items (ap (map flow_text) given),
      omega (arith, none, all, many),
    )

pub offset_written-offset-requires-clause-turned : goal.offset_written-offset-requires-clause-turned
offset_written-offset-requires-clause-turned c =
    turned_there c.args.cycle_time.0 (map settled_value c.args.streams.now) (map flow_text c.args.flows.items) c.args.times.now c.loop-flow.filled.items
    (flow_text c.in-Some.flow) (map flow_text (into_iter_items c.loop-flow.flow-iterator)) (map flow_text (into_iter_items c.next.new.self))
    (ap (map flow_text) c.in-Some.ensures.steps.0) c.loop-flow.invariant.0 c.requires.turned.turned

pub loop-flow-preserved : goal.loop-flow-preserved
loop-flow-preserved c =
    let streams = c.args.streams.now in
    let times = c.args.times.now in
    let done = c.loop-flow.filled.items in
    let rest = into_iter_items c.next.new.self in
    let index = c.len-index.result in
    let at : index ≡ length done = c.len-index.ensures ∙ c.loop-flow.filled.ok.0 in
    let front : length (into_iter_items c.loop-flow.flow-iterator) ≡ suc (length rest) = ap length c.in-Some.ensures.steps.0 in
    let inside : index < length streams = omega (arith, at, front, c.loop-flow.invariant.1) in
    let within : index < length times = omega (arith, inside, c.requires.taken) in
    let more = c.in_ok-push.ensures.items in
    let longer : length c.push.new.self.items ≡ length done + 1 = ap length more ∙ length-append done _ in
    let next : length c.push.new.self.items ≡ suc (length done) = omega (arith, longer) in (
      one_chosen c.args.cycle_time.0 streams (map flow_text c.args.flows.items) times done c.push.new.self.items _ index c.index-streams-index.result
          c.index-streams-index.result c.in-Some.flow _ _ (into_iter_items c.loop-flow.flow-iterator) rest c.loop-flow.invariant.0 at inside within
          c.index-streams-index.is refl c.in-Some.ensures.steps.0 more next refl c.offset_written-offset.ensures,
      omega (arith, next, front, c.loop-flow.invariant.1),
    )

pub returns : goal.returns
returns c =
    let streams = c.args.streams.now in
    let flows = c.args.flows.items in
    let left = into_iter_items c.loop-flow.flow-iterator in
    let none : left ≡ [] = nil_from_length left (sym c.loop-flow.flow-iterator.rest.ok.0 ∙ c.in-None.ensures.steps.0) in
    let over : length left ≡ 0 = ap length none in
    let many : length c.loop-flow.filled.items ≡ length (map flow_text flows) =
    omega (arith, over, c.loop-flow.invariant.1, c.requires.turned.each, length-map streams settled_value) in
    all_chosen c.args.cycle_time.0 (map settled_value streams) (map flow_text flows) (map flow_text left) c.args.times.now c.loop-flow.filled.items many
    c.loop-flow.invariant.0
