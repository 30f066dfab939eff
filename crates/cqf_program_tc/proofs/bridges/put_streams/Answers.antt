use Rattle.std.proofs.Common.{◌∙◌, ◌<◌, List, [], ap, arith, get_or, length, sym, take, ℕ}
use Rattle.std.specs.List.{flat_map}
use Rattle.std.proofs.lemmas.List.{get_or_default}
use Rattle.cqf_addressing.specs.Streams.{gate_index}
use Rattle.cqf_output.specs.Writer.{Puts}
use Rattle.cqf_output.proofs.WriterLemmas.{Puts-as, Puts-nil, Puts-then}
use Rattle.cqf_program_tc.specs.Bridge.{stream_gates, stream_lines}
use Rattle.cqf_program_tc.specs.Variables.{stream_variable}
use Rattle.std.specs.Option.{option_map_or}
use Rattle.cqf_compile.specs.BridgeGates.{first_hop}
use Rattle.cqf_model.specs.declared.topology.Hop.{Hop}
use Rattle.cqf_program_tc.proofs.LeavingRows.{index_inside, lines_all, lines_next, lines_none}
use Rattle.cqf_program_tc.proofs.Streams.{row_at}
use Rattle.cqf_program_tc.proofs.bridges.put_streams.Goals as goal

pub loop-index-init : goal.loop-index-init
loop-index-init g c =
    lines_none c.args.plan.domain.now c.args.bridge c.args.plan.rows.now (gate_index c.args.plan.addresses.now)
    (λ text. Puts g.W.Write.contents c.args.writer.now c.args.writer.now text) c.args.indices.now c.requires.at (Puts-nil _ _)

pub stream_at-stream-requires-clause-inside : goal.stream_at-stream-requires-clause-inside
stream_at-stream-requires-clause-inside g c =
    index_inside c.args.plan.domain.now c.args.bridge c.args.plan.rows.now c.args.indices.now c.loop-index.index-index c.requires.at c.loop-index-test.true

-- each row whose lines are put has a good pace
pub put_stream-requires-clause-paced : goal.put_stream-requires-clause-paced
put_stream-requires-clause-paced g c =
    let i = c.loop-index.index-index in
    let indices = c.args.indices.now in
    c.requires.paced c.stream_at-stream.result.row.now (
      get_or indices i 0,
      index_inside c.args.plan.domain.now c.args.bridge c.args.plan.rows.now indices i c.requires.at c.loop-index-test.true,
      sym c.stream_at-stream.ensures.row,
    )

pub loop-index-preserved : goal.loop-index-preserved
loop-index-preserved g c =
    let d = c.args.plan.domain.now in
    let bridge = c.args.bridge in
    let rows = c.args.plan.rows.now in
    let gates = gate_index c.args.plan.addresses.now in
    let indices = c.args.indices.now in
    let i = c.loop-index.index-index in
    let index = get_or indices i 0 in
    let row = c.stream_at-stream.result.row.now in
    let at = row_at rows index row (index_inside d bridge rows indices i c.requires.at c.loop-index-test.true) c.stream_at-stream.ensures.row in
    let lines : ℕ → List ℕ = λ count. flat_map (stream_gates d gates rows bridge) (take count rows) in
    let put = Puts-as (lines (get_or indices i (length rows))) (lines index) (ap lines (get_or_default indices i (length rows) 0 c.loop-index-test.true))
    c.loop-index.invariant in
    let shown : List ℕ → ℕ → List ℕ = λ variable gate.
    option_map_or (λ (hop : Hop). stream_lines d bridge variable gate row hop.from) (first_hop d bridge row) [] in
    let own = Puts-as (shown c.stream_at-stream.result.variable.now c.stream_at-stream.result.gate) (stream_gates d gates rows bridge row)
    (ap (λ (variable : List ℕ). shown variable c.stream_at-stream.result.gate) c.stream_at-stream.ensures.variable
    ∙ ap (λ (gate : ℕ). shown (stream_variable rows row) gate) c.stream_at-stream.ensures.gate) c.put_stream.ensures in
    lines_next d bridge rows gates (λ text. Puts g.W.Write.contents c.args.writer.now c.put_stream.new.writer text) indices i row c.requires.at
    c.loop-index-test.true at.1 (Puts-then (lines index) (stream_gates d gates rows bridge row) put own)

pub returns : goal.returns
returns g c =
    lines_all c.args.plan.domain.now c.args.bridge c.args.plan.rows.now (gate_index c.args.plan.addresses.now)
    (λ text. Puts g.W.Write.contents c.args.writer.now c.loop-index.writer text) c.args.indices.now
    c.loop-index.index-index c.loop-index-test.false c.loop-index.invariant
