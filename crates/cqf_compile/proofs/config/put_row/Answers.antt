-- One more bridge is put.
use Rattle.std.proofs.Common.{◌+◌, ◌++◌, ◌∷◌, [], List, ℕ, get_or, take}
use Rattle.std.specs.List.{flat_map}
use Rattle.cqf_compile.proofs.Pieces.{flat_map_taken}
use Rattle.cqf_compile.specs.ConfigText.{text_at}
use Rattle.cqf_gates.specs.StreamText.{text_of_stream_entries}
use Rattle.cqf_output.proofs.WriterLemmas.{Puts-as, Puts-then}
use Rattle.cqf_topology.specs.NodeNames.{name_of_bridge}
use Rattle.cqf_compile.proofs.ConfigPieces.{row_pieces}
use Rattle.cqf_compile.proofs.config.put_row.Goals as goal

pub loop-bridge-preserved : goal.loop-bridge-preserved
loop-bridge-preserved g c =
    let d = c.args.plan.now in
    let row = c.args.row.now in
    let k = c.loop-bridge.bridge-index in
    let bridges : List ℕ = c.as_slice-bridge-items.result.now in
    let more = flat_map_taken (text_at d row) bridges k 0 c.loop-bridge-test.true in
    let pieces = row_pieces d row (get_or bridges k 0) in
    let so_far : List ℕ = flat_map (text_at d row) (take k bridges) in
    let line : List ℕ = c.as_slice.result.now ++ (name_of_bridge c.domain-domain.result.now (get_or bridges k 0) ++ 10 ∷ []) in
    let gate : List ℕ = text_of_stream_entries c.gate_of.result in
    Puts-as (so_far ++ (line ++ gate)) (flat_map (text_at d row) (take (k + 1) bridges))
    (cc (
      more,
      pieces,
      c.as_slice.ensures.value,
      c.row_front-front.ensures,
      c.domain-domain.ensures.value,
      c.gate_of.ensures,
    ))
    (Puts-then so_far (line ++ gate) c.loop-bridge.invariant (Puts-then line gate c.put_at.ensures c.put_stream.ensures))
