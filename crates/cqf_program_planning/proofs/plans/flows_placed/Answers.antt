use Rattle.std.proofs.Common.{◌∙◌, ◌++◌, append-nil, ap, arith, map, sym}
use Rattle.cqf_model.specs.History.{Asked}
use Rattle.cqf_traffic.specs.FlowsText.{FlowText, flow_text}
use Rattle.cqf_program_placing.specs.Settled.{SettledStream}
use Rattle.cqf_program_planning.specs.Judging.{flow_of}
use Rattle.cqf_program_planning.proofs.PlacedLemmas.{early_there, made_end, made_step, those_from}
use Rattle.cqf_program_planning.proofs.plans.flows_placed.Goals as goal

-- each that is placed is offered early
pub put_flow-requires-clause-early : goal.put_flow-requires-clause-early
put_flow-requires-clause-early c =
    early_there c.args.outcomes.now c.loop-index.index c.index-outcomes-index.result (omega (arith, c.loop-index-test.true, c.requires.each))
    c.index-outcomes-index.is c.requires.early

pub loop-index-preserved : goal.loop-index-preserved
loop-index-preserved c =
    let reported : (SettledStream × Asked) → FlowText = λ one. flow_of c.args.cycle_time.0 one.0 one.1 in
    made_step c.args.streams.now c.args.outcomes.now c.loop-index.index c.index-streams-index.result c.index-outcomes-index.result c.loop-index-test.true
    c.requires.each c.index-streams-index.is c.index-outcomes-index.is reported (map reported (those_from c.args.streams.now c.args.outcomes.now 0))
    (map flow_text c.loop-index.flows.items) (map flow_text c.put_flow.new.flows.items) c.loop-index.invariant c.in_ok-put_flow.ensures

pub returns : goal.returns
returns c =
    let reported : (SettledStream × Asked) → FlowText = λ one. flow_of c.args.cycle_time.0 one.0 one.1 in
    let done = map flow_text c.loop-index.flows.items in
    sym (append-nil done)
    ∙ ap (λ x. done ++ x) (sym (made_end reported c.args.streams.now c.args.outcomes.now c.loop-index.index c.loop-index-test.false))
    ∙ sym c.loop-index.invariant
