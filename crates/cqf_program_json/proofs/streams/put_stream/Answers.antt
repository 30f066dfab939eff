use Rattle.std.proofs.Common.{ap}
use Rattle.cqf_output.proofs.WriterLemmas.{Puts-as, Puts-then}
use Rattle.cqf_program_json.specs.Text.{gate_text, stream_head}
use Rattle.cqf_program_json.proofs.streams.put_stream.Goals as goal

pub returns : goal.returns
returns g c =
    let d = c.args.wired.domain.now in
    Puts-then _ _ (Puts-as _ _ (ap (stream_head d c.args.wired.links.now c.args.row.now) c.ingress_at.ensures) c.put_stream_head.ensures)
    (Puts-then _ _ c.put_address.ensures
    (Puts-as _ _ (λ i. gate_text (c.gate_index.ensures i) (c.gate_of.ensures i)) c.put_gate.ensures))
