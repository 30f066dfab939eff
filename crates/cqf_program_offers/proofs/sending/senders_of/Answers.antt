use Rattle.std.proofs.Common.{◌∙◌, ◌++◌, ◌∷◌, [], ap, map, sym}
use Rattle.cqf_model.specs.declared.topology.Row.{Row}
use Rattle.cqf_traffic.specs.declared.senders.TalkerStream.{TalkerStream}
use Rattle.cqf_program_offers.proofs.Judged.{one_judged, one_named, one_refused, one_seen}
use Rattle.cqf_program_offers.proofs.sending.senders_of.Goals as goal

pub loop-flow-preserved : goal.loop-flow-preserved
loop-flow-preserved c = (
  one_judged c.args.domain.now c.args.flows.now c.loop-flow.flow-index c.flow-item.result c.loop-flow-test.true c.flow-item.is c.loop-flow.rows.items
      c.as_slice.result.now c.put_stream.new.rows.items c.in-Ok.row c.as_slice.ensures.value c.loop-flow.invariant.0 c.in-Ok.ensures.ok
      c.in_ok-put_stream.ensures.rows,
  one_named c.loop-flow.names.keys c.put_stream.new.names.keys c.loop-flow.rows.items c.put_stream.new.rows.items c.in-Ok.row c.loop-flow.invariant.1
      c.in_ok-put_stream.ensures.names c.in_ok-put_stream.ensures.rows,
  one_seen c.args.domain.now c.args.flows.now c.loop-flow.flow-index c.flow-item.result c.loop-flow-test.true c.flow-item.is c.loop-flow.senders.items
      c.put_stream.new.senders.items c.loop-flow.invariant.2
      (c.in_ok-put_stream.ensures.senders ∙ ap (λ (s : TalkerStream). c.loop-flow.senders.items ++ s ∷ []) c.sender_of-sender.ensures),
)

pub row_of-requires : goal.row_of-requires
row_of-requires c = c.loop-flow.invariant.1 ∙ ap (map (λ (row : Row). row.name)) (sym c.as_slice.ensures.value)

pub returns-in-Err-clause-err : goal.returns-in-Err-clause-err
returns-in-Err-clause-err c =
    one_refused c.args.domain.now c.args.flows.now c.loop-flow.flow-index c.flow-item.result c.loop-flow-test.true c.flow-item.is c.loop-flow.rows.items
    c.as_slice.result.now c.in-Err.stop c.as_slice.ensures.value c.loop-flow.invariant.0 c.in-Err.ensures.err
