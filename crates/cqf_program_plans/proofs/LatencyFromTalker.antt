-- Latencies from the hand-over, if no station has an access link.
use Rattle.std.proofs.Common.{◌≡◌, ℕ, [], List, Option, map}
use Rattle.std.specs.List.{flat_map}
use Rattle.std.proofs.lemmas.List.{map-id}
use Rattle.cqf_model.specs.declared.topology.Row.{Row}
use Rattle.cqf_model.specs.Domain.{Domain}
use Rattle.cqf_program_plans.specs.declared.latency.latencies.Latency.{Latency}
use Rattle.cqf_program_plans.specs.Latency.Text.{deadline_of, latencies_from, latencies_of, latencies_of_row}

-- they are those from the edge bridges
pub none_after : (d : Domain) (rows : List Row) (deadlines : List (Option ℕ)) → latencies_from d rows deadlines [] ≡ latencies_of d rows deadlines
none_after d rows deadlines =
    let same : (row : Row) → map (λ (latency : Latency). latency) (latencies_of_row d rows row (deadline_of deadlines row.no))
    ≡ latencies_of_row d rows row (deadline_of deadlines row.no) =
    λ row. map-id (latencies_of_row d rows row (deadline_of deadlines row.no)) in
    λ i. flat_map (λ (row : Row). same row i) rows
