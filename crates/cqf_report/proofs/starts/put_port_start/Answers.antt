use Rattle.std.proofs.Common.{decimal, [], ◌∷◌, ℕ, ap}
use Rattle.cqf_output.proofs.WriterLemmas.{Puts-as}
use Rattle.cqf_units.specs.Timing.{ticks_of_octet}
use Rattle.cqf_report.specs.Starts.{start_fields}
use Rattle.cqf_report.specs.Written.{line_of_fields}
use Rattle.cqf_report.proofs.LineLemmas.{Puts-four}
use Rattle.cqf_report.proofs.starts.put_port_start.Goals as goal

pub returns : goal.returns
returns g c =
    let start = c.args.start.now in
    let end : ℕ = c.end_of-end.result.0 in
    Puts-as (line_of_fields (decimal start.class ∷ decimal start.frame ∷ decimal start.start.0 ∷ decimal end ∷ []))
    (line_of_fields (start_fields (ticks_of_octet c.args.rate) start))
    (ap (λ e. line_of_fields (decimal start.class ∷ decimal start.frame ∷ decimal start.start.0 ∷ decimal e ∷ [])) c.end_of-end.ensures)
    (Puts-four (decimal start.class) (decimal start.frame) (decimal start.start.0) (decimal end)
    c.put_number.ensures c.put_byte.ensures c.put_number-2.ensures c.put_byte-2.ensures c.put_number-3.ensures c.put_byte-3.ensures
    c.put_number-4.ensures c.put_byte-4.ensures)
