use Rattle.std.proofs.Common.{◌∙◌, ◌<◌, [], add-one, ap, arith, length, sym}
use Rattle.cqf_addressing.specs.Streams.{gate_index}
use Rattle.cqf_lists.specs.Lists.{each_below}
use Rattle.cqf_output.proofs.WriterLemmas.{Puts-as, Puts-then}
use Rattle.cqf_program_tc.specs.Bridge.{bridge_text}
use Rattle.cqf_program_tc.proofs.NotedRows.{length-indices, list_at}
use Rattle.cqf_program_tc.proofs.written.put_bridges.Goals as goal

pub loop-bridge-preserved : goal.loop-bridge-preserved
loop-bridge-preserved g c =
    let text = bridge_text c.args.plan.domain.now (gate_index c.args.plan.addresses.now) c.args.plan.rows.now in
    let bridge = c.loop-bridge.bridge in
    Puts-as _ _ (sym (ap (each_below text) (add-one bridge))) (Puts-then (each_below text bridge) (text bridge) c.loop-bridge.invariant
    c.put_bridge_function.ensures)

pub put_bridge_function-requires-clause-at : goal.put_bridge_function-requires-clause-at
put_bridge_function-requires-clause-at g c =
    let indices = c.args.indices.now in
    let bridge = c.loop-bridge.bridge in
    let low : bridge < length c.args.plan.domain.now.bridges = omega (arith, c.loop-bridge-test.true, c.bridges-bridge-end.ensures) in
    let inside : c.from.result < length indices = omega (arith, low, c.from.ensures, c.requires.by_bridge.one_each, length-indices indices) in
    c.as_slice-here.ensures.value
    ∙ sym (list_at indices c.from.result bridge c.index-indices-from.result _ c.from.ensures inside c.index-indices-from.is [])
    ∙ c.requires.by_bridge.each bridge [] low
