use Rattle.std.proofs.Common.{decimal, [], ◌∷◌, ◌∙◌, ap}
use Rattle.cqf_output.proofs.WriterLemmas.{Puts-as}
use Rattle.cqf_report.proofs.LineLemmas.{Puts-field}
use Rattle.cqf_topology.specs.NodeNames.{name_of_bridge}
use Rattle.cqf_report.specs.Books.{name_of_reason}
use Rattle.cqf_report.specs.Written.{line_of_fields}
use Rattle.cqf_program_summary.proofs.hops.lines.put_dropped.Goals as goal

pub returns : goal.returns
returns g c =
    let x = c.args.dropped.now in
    let stream = c.args.stream.now in
    let bridge = name_of_bridge c.args.domain.now x.bridge in
    let reason = name_of_reason x.reason in
    let named = Puts-as c.as_bytes.result.now stream c.as_bytes.ensures.value c.put.ensures in
    let last = Puts-as (line_of_fields ([] ∷ [] ∷ [] ∷ c.as_bytes-2.result.now ∷ [])) (line_of_fields ([] ∷ [] ∷ [] ∷ reason ∷ []))
    (ap (λ text. line_of_fields ([] ∷ [] ∷ [] ∷ text ∷ [])) (c.as_bytes-2.ensures.value ∙ c.reason_name-reason.ensures.name)) c.put_reason.ensures in
    Puts-field (decimal x.frame) stream (decimal x.octets ∷ decimal x.cycle.0 ∷ bridge ∷ [] ∷ [] ∷ [] ∷ reason ∷ []) c.put_number.ensures c.put_byte.ensures
    (Puts-field stream (decimal x.octets) (decimal x.cycle.0 ∷ bridge ∷ [] ∷ [] ∷ [] ∷ reason ∷ []) named c.put_byte-2.ensures
    (Puts-field (decimal x.octets) (decimal x.cycle.0) (bridge ∷ [] ∷ [] ∷ [] ∷ reason ∷ []) c.put_number-2.ensures c.put_byte-3.ensures
    (Puts-field (decimal x.cycle.0) bridge ([] ∷ [] ∷ [] ∷ reason ∷ []) c.put_number-3.ensures c.put_byte-4.ensures
    (Puts-field bridge [] ([] ∷ [] ∷ reason ∷ []) c.put_bridge.ensures c.put_byte-5.ensures last))))
