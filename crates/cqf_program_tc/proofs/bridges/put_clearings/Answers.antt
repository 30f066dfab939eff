use Rattle.std.proofs.Common.{◌≡◌, ◌∙◌, ◌<◌, ℕ, List, [], ap, arith, get_or, length, sym, take}
use Rattle.std.specs.Option.{option_map_or}
use Rattle.cqf_addressing.specs.Streams.{gate_index}
use Rattle.cqf_lists.specs.Lists.{each_below}
use Rattle.cqf_output.specs.Writer.{Puts}
use Rattle.cqf_output.proofs.WriterLemmas.{Puts-as, Puts-nil, Puts-then}
use Rattle.cqf_program_tc.proofs.LeavingRows.{clearing_silent, index_inside, so_far_all, so_far_here, so_far_more, so_far_none}
use Rattle.cqf_program_tc.proofs.Streams.{row_at, seen_none}
use Rattle.cqf_program_tc.specs.Bridge.{clearing_by, ingress_at, stream_at, stream_clearing}
use Rattle.cqf_program_tc.specs.Variables.{stream_variable}
use Rattle.cqf_program_tc.proofs.bridges.put_clearings.Goals as goal

pub loop-index-init : goal.loop-index-init
loop-index-init g c =
    let d = c.args.plan.domain.now in
    let rows = c.args.plan.rows.now in
    so_far_none d c.args.bridge rows (λ text. Puts g.W.Write.contents c.args.writer.now c.args.writer.now text) (stream_clearing c.args.plan.domain.now c.args.plan.rows.now c.args.bridge) _ (clearing_silent c.args.plan.domain.now c.args.plan.rows.now c.args.bridge) c.args.indices.now c.requires.at (Puts-nil _ _)
    (seen_none d c.args.bridge)

pub stream_at-stream-requires-clause-inside : goal.stream_at-stream-requires-clause-inside
stream_at-stream-requires-clause-inside g c =
    index_inside c.args.plan.domain.now c.args.bridge c.args.plan.rows.now c.args.indices.now c.loop-index.index-index c.requires.at c.loop-index-test.true

pub loop-index-preserved : goal.loop-index-preserved
loop-index-preserved g c =
    let d = c.args.plan.domain.now in
    let bridge = c.args.bridge in
    let rows = c.args.plan.rows.now in
    let indices = c.args.indices.now in
    let i = c.loop-index.index-index in
    let index = get_or indices i 0 in
    let stream = c.stream_at-stream.result in
    let row = stream.row.now in
    let at = row_at rows index row (index_inside d bridge rows indices i c.requires.at c.loop-index-test.true) c.stream_at-stream.ensures.row in
    let so_far = so_far_here d bridge rows indices i c.loop-index-test.true c.loop-index.invariant in
    let ingress : c.ingress_of-ingress.result ≡ ingress_at d bridge (take index rows) row = c.ingress_of-ingress.ensures.ingress (take index rows) so_far.noted in
    let put = Puts-as (option_map_or (clearing_by d stream.variable.now) c.ingress_of-ingress.result []) (stream_clearing c.args.plan.domain.now c.args.plan.rows.now c.args.bridge (take index rows) row)
    (ap (λ (variable : List ℕ). option_map_or (clearing_by d variable) c.ingress_of-ingress.result []) c.stream_at-stream.ensures.variable
    ∙ ap (λ found. option_map_or (clearing_by d (stream_variable rows row)) found []) ingress) c.put_clearing_of.ensures in
    so_far_more d bridge rows (λ text. Puts g.W.Write.contents c.args.writer.now c.put_clearing_of.new.writer text) (stream_clearing c.args.plan.domain.now c.args.plan.rows.now c.args.bridge) c.ingress_of-ingress.new.seen
    (clearing_silent c.args.plan.domain.now c.args.plan.rows.now c.args.bridge) indices i row c.requires.at c.loop-index-test.true at.0 at.1
    (Puts-then (each_below (stream_at (stream_clearing c.args.plan.domain.now c.args.plan.rows.now c.args.bridge) rows) index) (stream_clearing c.args.plan.domain.now c.args.plan.rows.now c.args.bridge (take index rows) row) so_far.put put)
    (c.ingress_of-ingress.ensures.noted (take index rows) so_far.noted)

pub returns : goal.returns
returns g c =
    let d = c.args.plan.domain.now in
    let bridge = c.args.bridge in
    let rows = c.args.plan.rows.now in
    so_far_all d bridge rows (λ text. Puts g.W.Write.contents c.args.writer.now c.loop-index.writer text)
    (stream_clearing c.args.plan.domain.now c.args.plan.rows.now c.args.bridge) c.loop-index.seen c.args.indices.now c.loop-index.index-index c.loop-index-test.false c.loop-index.invariant
