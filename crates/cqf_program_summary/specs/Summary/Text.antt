-- The text of a summary.
use Rattle.std.specs.Prelude.{ℕ, ◌++◌, List, [], ◌∷◌, Option, None, codes, decimal, suc, zero}
use Rattle.std.specs.List.{flat_map}
use Rattle.std.specs.Option.{option_map_or}
use Rattle.cqf_report.specs.Records.{Fields}
use Rattle.cqf_report.specs.Written.{line_of_fields}
use Rattle.cqf_program_plans.specs.Latency.Text.{text_of_deadline}
use Rattle.cqf_program_summary.specs.declared.summary.fares.Listener.{Listener}
use Rattle.cqf_program_summary.specs.declared.summary.fares.Others.{Others}
use Rattle.cqf_program_summary.specs.declared.summary.fares.ListenerPath.{ListenerPath}
use Rattle.cqf_program_summary.specs.declared.summary.tallies.LatencySummary.{LatencySummary}
use Rattle.cqf_program_summary.specs.declared.summary.tallies.Tally.{Tally}
use Rattle.cqf_program_summary.specs.Summary.{Fare, Summary}
use Rattle.cqf_program_summary.specs.Summary.Tallies.{mean_of, no_tally}

-- the header
abbrev pub summary_header : Fields
summary_header =
    codes "stream" ∷ codes "listener" ∷ codes "offered" ∷ codes "delivered" ∷ codes "late" ∷ codes "dropped" ∷ codes "under-way" ∷ codes "least"
    ∷ codes "mean" ∷ codes "most" ∷ codes "bound" ∷ codes "deadline" ∷ []

-- a listener's name and its bound; empty if there is none
abbrev pub text_of_listener : Option Listener → List ℕ
text_of_listener to = option_map_or (λ (listener : Listener). listener.name) to []

abbrev pub text_of_bound : Option Listener → List ℕ
text_of_bound to = option_map_or (λ (listener : Listener). decimal listener.bound) to []

-- the least, the mean and the greatest of the latencies of the frames that arrived; empty if none did
abbrev pub text_of_least : Option LatencySummary → List ℕ
text_of_least taken = option_map_or (λ (t : LatencySummary). decimal t.least) taken []

abbrev pub text_of_mean : Option LatencySummary → List ℕ
text_of_mean taken = option_map_or (λ (t : LatencySummary). decimal (mean_of t)) taken []

abbrev pub text_of_most : Option LatencySummary → List ℕ
text_of_most taken = option_map_or (λ (t : LatencySummary). decimal t.most) taken []

-- the last fields of a row: the latencies of the frames that arrived, the bound, and the deadline
abbrev pub last_fields : Option Listener → Option LatencySummary → Option ℕ → Fields
last_fields to taken deadline =
    text_of_least taken ∷ text_of_mean taken ∷ text_of_most taken ∷ text_of_bound to ∷ text_of_deadline deadline ∷ []

-- the fields of a row after its listener: how many frames are offered, how they end, and the last ones
abbrev pub count_fields : Option Listener → ℕ → ℕ → Tally → Option ℕ → Fields
count_fields to offered dropped tally deadline =
    decimal offered ∷ decimal tally.delivered ∷ decimal tally.late ∷ decimal dropped ∷ decimal tally.under_way ∷ last_fields to tally.taken deadline

-- a row: a stream, one of its listeners, and these fields
abbrev pub row_fields : List ℕ → Option Listener → ℕ → ℕ → Tally → Option ℕ → Fields
row_fields stream to offered dropped tally deadline = stream ∷ text_of_listener to ∷ count_fields to offered dropped tally deadline

abbrev pub path_fields : Fare → ListenerPath → Fields
path_fields fare path = row_fields fare.name path.to fare.offered fare.dropped path.tally fare.deadline

abbrev pub lines_of_fare : Fare → List ℕ
lines_of_fare fare = flat_map (λ (path : ListenerPath). line_of_fields (path_fields fare path)) fare.paths

abbrev pub lines_of_fares : List Fare → List ℕ
lines_of_fares fares = flat_map lines_of_fare fares

-- the row of offers that claim other names; none of them goes to a listener
abbrev pub others_fields : Others → Fields
others_fields others = row_fields (codes "?") None others.offered others.dropped no_tally None

-- this row is written if there are such offers
abbrev pub lines_where : ℕ → Others → List ℕ
lines_where zero others = []
lines_where (suc n) others = line_of_fields (others_fields others)

abbrev pub lines_of_others : Others → List ℕ
lines_of_others others = lines_where others.offered others

-- the text: the header, a row for each stream and listener, and that of other names
abbrev pub text_of_summary : Summary → List ℕ
text_of_summary summary = line_of_fields summary_header ++ (lines_of_fares summary.fares ++ lines_of_others summary.others)
