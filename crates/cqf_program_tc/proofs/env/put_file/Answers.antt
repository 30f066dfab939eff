use Rattle.std.proofs.Common.{◌∙◌, ◌<◌, [], ap, arith, length, sym}
use Rattle.cqf_output.proofs.WriterLemmas.{Puts-then}
use Rattle.cqf_program_tc.proofs.NotedRows.{length-indices, list_at}
use Rattle.cqf_program_tc.proofs.env.put_file.Goals as goal

pub bounds-indices-from : goal.bounds-indices-from
bounds-indices-from g c =
    omega (arith, c.requires.inside, c.from.ensures, c.requires.ready.by_bridge.one_each, length-indices c.args.indices.now)

pub put_stream_lines-requires-clause-at : goal.put_stream_lines-requires-clause-at
put_stream_lines-requires-clause-at g c =
    let indices = c.args.indices.now in
    let bridge = c.args.bridge in
    let low = c.requires.inside in
    let inside : c.from.result < length indices = omega (arith, low, c.from.ensures, c.requires.ready.by_bridge.one_each, length-indices indices) in
    c.as_slice-here.ensures.value
    ∙ sym (list_at indices c.from.result bridge c.index-indices-from.result _ c.from.ensures inside c.index-indices-from.is [])
    ∙ c.requires.ready.by_bridge.each bridge [] low

pub returns : goal.returns
returns g c = Puts-then _ _ c.put_head.ensures
    (Puts-then _ _ c.put_links_out.ensures
    c.put_stream_lines.ensures)
