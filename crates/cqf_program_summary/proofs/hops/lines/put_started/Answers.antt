use Rattle.std.proofs.Common.{decimal, [], ◌∷◌, ap}
use Rattle.cqf_laws_timing.specs.Latency.{whole_of}
use Rattle.cqf_output.proofs.WriterLemmas.{Puts-as}
use Rattle.cqf_report.proofs.LineLemmas.{Puts-field}
use Rattle.cqf_topology.specs.NodeNames.{name_of_link}
use Rattle.cqf_program_summary.specs.Hops.Text.{end_of_start}
use Rattle.cqf_program_summary.proofs.hops.lines.put_started.Goals as goal

pub returns : goal.returns
returns g c =
    let d = c.args.domain.now in
    let s = c.args.started.now in
    let stream = c.args.stream.now in
    let link = name_of_link d s.link in
    let start = decimal s.start.0 in
    let end = decimal (end_of_start d s) in
    let whole = decimal (whole_of d s) in
    let named = Puts-as c.as_bytes.result.now stream c.as_bytes.ensures.value c.put.ensures in
    let ends = Puts-as (decimal c.end_of.result) end (ap decimal c.end_of.ensures) c.put_number-5.ensures in
    let wholes = Puts-as (decimal c.whole_of.result) whole (ap decimal c.whole_of.ensures) c.put_number-6.ensures in
    Puts-field (decimal s.frame) stream (decimal s.octets ∷ decimal s.cycle.0 ∷ link ∷ start ∷ end ∷ whole ∷ [] ∷ []) c.put_number.ensures c.put_byte.ensures
    (Puts-field stream (decimal s.octets) (decimal s.cycle.0 ∷ link ∷ start ∷ end ∷ whole ∷ [] ∷ []) named c.put_byte-2.ensures
    (Puts-field (decimal s.octets) (decimal s.cycle.0) (link ∷ start ∷ end ∷ whole ∷ [] ∷ []) c.put_number-2.ensures c.put_byte-3.ensures
    (Puts-field (decimal s.cycle.0) link (start ∷ end ∷ whole ∷ [] ∷ []) c.put_number-3.ensures c.put_byte-4.ensures
    (Puts-field link start (end ∷ whole ∷ [] ∷ []) c.put_link.ensures c.put_byte-5.ensures
    (Puts-field start end (whole ∷ [] ∷ []) c.put_number-4.ensures c.put_byte-6.ensures
    (Puts-field end whole ([] ∷ []) ends c.put_byte-7.ensures
    (Puts-field whole [] [] wholes c.put_byte-8.ensures c.put_byte-9.ensures)))))))
