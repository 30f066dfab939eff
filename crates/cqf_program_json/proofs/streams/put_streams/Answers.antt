use Rattle.std.proofs.Common.{◌≡◌, ◌∙◌, ◌++◌, ◌==◌, List, ap, arith, codes, get_or, length, map, sym, take, true, ℕ}
use Rattle.std.proofs.lemmas.List.{take_all}
use Rattle.cqf_output.proofs.WriterLemmas.{Puts-as, Puts-then}
use Rattle.cqf_program_json.specs.Arrays.{end_text, front_text, is_nil, listed}
use Rattle.cqf_program_json.specs.Text.{stream_text}
use Rattle.std.specs.Prelude.{filter}
use Rattle.cqf_program_tc.specs.Rows.{leaves_bridge}
use Rattle.cqf_program_json.proofs.Leaving.{index_inside, written_all, written_at, written_of}
use Rattle.cqf_program_json.proofs.Listing.{listed_at, nil_length}
use Rattle.cqf_program_json.proofs.streams.put_streams.Goals as goal

pub bounds-rows-index : goal.bounds-rows-index
bounds-rows-index g c =
    index_inside c.args.wired.domain.now c.args.bridge c.args.rows.now c.args.indices.now c.loop-number.number c.requires.at
    c.loop-number-test.true

pub offset_bounds-rows-index : goal.offset_bounds-rows-index
offset_bounds-rows-index g c =
    let inside = index_inside c.args.wired.domain.now c.args.bridge c.args.rows.now c.args.indices.now c.loop-number.number c.requires.at c.loop-number-test.true in
    omega (arith, inside)

-- each row that is put has a good pace
pub put_stream-requires : goal.put_stream-requires
put_stream-requires g c =
    c.requires.paced c.index-rows-index.result (
      get_or c.args.indices.now c.loop-number.number 0,
      index_inside c.args.wired.domain.now c.args.bridge c.args.rows.now c.args.indices.now c.loop-number.number c.requires.at c.loop-number-test.true,
      sym c.index-rows-index.is,
    )

pub loop-number-preserved : goal.loop-number-preserved
loop-number-preserved g c =
    let rows = c.args.rows.now in
    let indices = c.args.indices.now in
    let i = c.loop-number.number in
    let index = get_or indices i 0 in
    let row = c.index-rows-index.result in
    let text = stream_text c.args.wired.domain.now c.args.wired.addresses.now c.args.wired.links.now c.args.bridge in
    let inside = index_inside c.args.wired.domain.now c.args.bridge rows indices i c.requires.at c.loop-number-test.true in
    Puts-as _ _ (sym (listed_at (written_at text rows) indices i 0 c.loop-number-test.true))
    (Puts-then _ _ c.loop-number.invariant
    (Puts-then _ _ c.put_front.ensures (Puts-as _ _ (sym (written_of text rows index row inside c.index-rows-index.is)) c.put_stream.ensures)))

pub returns : goal.returns
returns g c =
    let rows = c.args.rows.now in
    let indices = c.args.indices.now in
    let d = c.args.wired.domain.now in
    let text = stream_text d c.args.wired.addresses.now c.args.wired.links.now c.args.bridge in
    let all : map (written_at text rows) indices ≡ map text (filter (leaves_bridge d c.args.bridge) rows) =
    ap (map (written_at text rows)) c.requires.at ∙ written_all d c.args.bridge rows text in
    Puts-then _ _ c.put.ensures
    (Puts-then _ _ (Puts-as _ _ (ap (λ (xs : List ℕ). listed true (map (written_at text rows) xs)) (take_all c.loop-number.number indices c.loop-number-test.false)
    ∙ ap (listed true) all) c.loop-number.invariant)
    (Puts-as _ _ (ap (end_text (codes "      ")) (nil_length (written_at text rows) indices ∙ ap is_nil all)) c.put_end.ensures))
