-- The streams of a summary, in a list.
use Rattle.std.specs.Prelude.{ℕ, ◌≡◌, ◌*◌, ◌++◌, ◌∷◌, ◌≤◌, ◌<◌, ◌^◌, ⊤, List, [], Option, Some, None, filter, fold, if◌then◌else◌, length, map, max}
use Rattle.cqf_lists.specs.Lists.{each_below}
use Rattle.cqf_units.specs.Timing.{cost_of}
use Rattle.cqf_model.specs.declared.topology.Row.{Row}
use Rattle.cqf_model.specs.Domain.{Domain}
use Rattle.cqf_model.specs.History.{Asked}
use Rattle.cqf_model.specs.Limits.{most_every, most_links}
use Rattle.cqf_model.specs.Table.{uses}
use Rattle.cqf_admission.specs.Rows.{IsSummable}
use Rattle.cqf_admission.specs.ActiveCycles.{AreMoreIn, SumsByCycle, sum_on}
use Rattle.cqf_laws_timing.specs.Streams.{cost_of_all}
use Rattle.cqf_program_summary.specs.declared.summary.listing.ListedStream.{ListedStream}
use Rattle.cqf_program_summary.specs.declared.summary.listing.SummaryListing.{SummaryListing}
use Rattle.cqf_program_summary.specs.Summary.{Fare, paths_of}
use Rattle.cqf_program_summary.specs.Summary.Written.{is_good, row_of_stream, written_streams}

-- the greatest of the costs of a link over the cycles in which the frames of a row's stream pass it
abbrev pub cost_beside : SumsByCycle → Option Row → ℕ → ℕ
cost_beside costs None l = 0
cost_beside costs (Some row) l =
    fold max 0 (each_below (λ cycle. if uses row.tree.items row.pace l cycle then sum_on costs l cycle ∷ [] else []) most_every)

-- the costs are at most those of 2^29 streams
abbrev pub AreBounded : SumsByCycle → Type 0
AreBounded costs = (l cycle : ℕ) → l < most_links → sum_on costs l cycle ≤ 2 ^ 29 * 2000000

-- a stream with a row costs what the row costs, and another nothing
abbrev pub CostsWith : SumsByCycle → Option Row → SumsByCycle → Type 0
CostsWith before None after = after ≡ before
CostsWith before (Some row) after = AreMoreIn before row.tree.items row.pace (cost_of row.overhead row.octets) after

-- what a row costs can be added to costs by link and cycle
abbrev pub MayBeSummed : Option Row → Type 0
MayBeSummed None = ⊤
MayBeSummed (Some row) = IsSummable most_links row

-- a stream that is listed
abbrev pub listed_of : Domain → Asked → ListedStream
listed_of d asked = record { name = asked.name; row = row_of_stream d asked }

abbrev pub IsOfStream : Domain → ListedStream → Type 0
IsOfStream d listed = (asked : Asked) × (listed ≡ listed_of d asked)

-- the summary of a listed stream before anything is offered
abbrev pub fare_from : Domain → (ℕ → ℕ) → Option ℕ → ListedStream → Fare
fare_from d cost deadline listed =
    record { name = listed.name; deadline = deadline; offered = 0; dropped = 0; paths = paths_of d cost [] listed.row }

abbrev pub fare_named : Domain → SumsByCycle → (List ℕ → Option ℕ) → ListedStream → Fare
fare_named d costs due listed = fare_from d (cost_beside costs listed.row) (due listed.name) listed

-- a listing with one stream more
pub record ListsOne (before : SummaryListing) (name : List ℕ) (row : Option Row) (after : SummaryListing) : Type 0 where
  pub names : after.names.keys ≡ before.names.keys ++ name ∷ []
  pub streams : after.streams.items ≡ before.streams.items ++ record { name = name; row = row } ∷ []
  pub costs : CostsWith before.costs row after.costs

-- what the good streams cost of a link in a cycle
abbrev pub cost_of_good : Domain → List Asked → ℕ → ℕ → ℕ
cost_of_good d reported l cycle = cost_of_all d (filter (is_good d) reported) l cycle

-- the listing is that of these streams: their names, their rows, and what they cost of each link in each cycle
pub record IsListing (d : Domain) (streams : List Asked) (listing : SummaryListing) : Type 0 where
  pub names : listing.names.keys ≡ map (λ (asked : Asked). asked.name) (written_streams streams)
  pub are : listing.streams.items ≡ map (listed_of d) (written_streams streams)
  pub few : length (written_streams streams) ≤ 2 ^ 29
  pub all : listing.costs.links ≡ most_links
  pub costs : (l cycle : ℕ) → l < most_links → sum_on listing.costs l cycle ≡ cost_of_good d (written_streams streams) l cycle
  pub bounded : (l cycle : ℕ) → l < most_links → sum_on listing.costs l cycle ≤ length (written_streams streams) * 2000000
