use Rattle.std.proofs.Common.{◌≡◌, ◌∙◌, ◌<◌, ◌==◌, [], ap, arith, codes, length, map, sym, true, ℕ}
use Rattle.cqf_output.proofs.WriterLemmas.{Puts-as, Puts-then}
use Rattle.cqf_program_json.specs.Arrays.{end_text, listed}
use Rattle.cqf_program_json.specs.Text.{bridge_text, numbers_below}
use Rattle.cqf_program_json.proofs.Listing.{listed_number, nil_of_numbers}
use Rattle.cqf_program_tc.proofs.NotedRows.{length-indices, list_at}
use Rattle.cqf_program_json.proofs.bridges.put_bridges.Goals as goal

pub loop-bridge-preserved : goal.loop-bridge-preserved
loop-bridge-preserved g c =
    let text = bridge_text c.args.wired.domain.now c.args.wired.addresses.now c.args.wired.links.now c.args.rows.now in
    let bridge = c.loop-bridge.bridge in
    Puts-as _ _ (sym (listed_number text bridge))
    (Puts-then _ _ c.loop-bridge.invariant (Puts-then _ _ c.put_front.ensures c.put_bridge_object.ensures))

pub put_bridge_object-requires-clause-at : goal.put_bridge_object-requires-clause-at
put_bridge_object-requires-clause-at g c =
    let indices = c.args.indices.now in
    let bridge = c.loop-bridge.bridge in
    let low : bridge < length c.args.wired.domain.now.bridges = omega (arith, c.loop-bridge-test.true, c.bridges-bridge-end.ensures) in
    let inside : c.from.result < length indices = omega (arith, low, c.from.ensures, c.requires.by_bridge.one_each, length-indices indices) in
    c.as_slice-here.ensures.value
    ∙ sym (list_at indices c.from.result bridge c.index-indices-from.result _ c.from.ensures inside c.index-indices-from.is [])
    ∙ c.requires.by_bridge.each bridge [] low

pub returns : goal.returns
returns g c =
    let d = c.args.wired.domain.now in
    let text = bridge_text d c.args.wired.addresses.now c.args.wired.links.now c.args.rows.now in
    let all : c.loop-bridge.bridge ≡ length d.bridges =
    omega (arith, c.loop-bridge-test.false, c.loop-bridge.auto.bridge-end, c.bridges-bridge-end.ensures) in
    Puts-then _ _ c.put.ensures
    (Puts-then _ _ (Puts-as _ _ (ap (λ (n : ℕ). listed true (map text (numbers_below n))) all) c.loop-bridge.invariant)
    (Puts-as _ _ (ap (end_text (codes "  ")) (ap (λ (n : ℕ). n == 0) c.bridges.ensures ∙ nil_of_numbers text (length d.bridges))) c.put_end.ensures))
