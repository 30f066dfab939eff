-- The latencies of the streams of a table to each of their listeners, and their text.
use Rattle.cqf_edge.specs.declared.edge.AccessTimes.{AccessTimes}
use Rattle.std.specs.Prelude.{ℕ, ◌+◌, ◌++◌, List, [], ◌∷◌, Bool, true, false, codes, decimal, filter, find, map, Option, Some, None, option_map, slice_index_or}
use Rattle.std.specs.Option.{option_map_or}
use Rattle.std.specs.List.{flat_map}
use Rattle.cqf_model.specs.declared.topology.Hop.{Hop}
use Rattle.cqf_model.specs.declared.topology.Node.{Node}
use Rattle.cqf_model.specs.declared.topology.Node.TheVariants.{Bridge, Station}
use Rattle.cqf_model.specs.declared.topology.Row.{Row}
use Rattle.cqf_model.specs.Domain.{Domain, end_of}
use Rattle.cqf_model.specs.History.{most_beside}
use Rattle.cqf_laws_timing.specs.Latency.{least_of, most_of, window_of}
use Rattle.cqf_laws_timing.specs.Verdicts.{Sure, InTime, Late, MayBeLate, sure_of}
use Rattle.cqf_report.specs.Records.{Fields}
use Rattle.cqf_report.specs.Written.{line_of_fields}
use Rattle.cqf_program_plans.specs.EndNames.{name_of_end}
use Rattle.cqf_output.specs.Stops.{fault_line}
use Rattle.cqf_program_plans.specs.declared.latency.latencies.Latency.{Latency}
use Rattle.cqf_program_plans.specs.declared.latency.latencies.Verdict.{Verdict}
use Rattle.cqf_program_plans.specs.declared.latency.latencies.Verdict.TheVariants as reported

-- whether there is a node, and it is a station
abbrev pub is_station : Option Node → Bool
is_station None = false
is_station (Some (Bridge bridge)) = false
is_station (Some (Station station)) = true

-- the listeners of a row: the hops of its tree whose links end in a station, in the tree's order
abbrev pub listeners_of : Domain → Row → List Hop
listeners_of d row = filter (λ (hop : Hop). is_station (end_of d hop.link)) row.tree.items

-- the latency to a listener of a row with this deadline, if the streams cost this much of the link that ends there
abbrev pub latency_to : Domain → ℕ → Row → Option ℕ → Hop → Latency
latency_to d cost row deadline hop = record {
  stream = row.name;
  listener = name_of_end d hop.link;
  bridges = hop.hop_number;
  least = least_of d hop.link hop.hop_number;
  most = most_of d hop.link hop.hop_number cost;
  window = window_of d hop.link cost;
  deadline = deadline;
}

-- the latency to each listener of a row, beside all rows of its table: with the most that these cost in a cycle in which the row's frames
-- use the link
abbrev pub latencies_of_row : Domain → List Row → Row → Option ℕ → List Latency
latencies_of_row d rows row deadline = map (λ (hop : Hop). latency_to d (most_beside rows row.tree.items row.pace hop.link) row deadline hop) (listeners_of d row)

-- the deadline of the stream with this number, if it has one
abbrev pub deadline_of : List (Option ℕ) → ℕ → Option ℕ
deadline_of deadlines number = slice_index_or deadlines number None

-- the latencies to each listener of each row
abbrev pub latencies_of : Domain → List Row → List (Option ℕ) → List Latency
latencies_of d rows deadlines = flat_map (λ (row : Row). latencies_of_row d rows row (deadline_of deadlines row.no)) rows

-- a latency counted from the hand-over by the talker, if frames take these times from there to the edge bridge
abbrev pub latency_from_talker : Option AccessTimes → Latency → Latency
latency_from_talker None latency = latency
latency_from_talker (Some times) latency = record {
  stream = latency.stream;
  listener = latency.listener;
  bridges = latency.bridges;
  least = latency.least + times.least;
  most = latency.most + times.most;
  window = latency.window;
  deadline = latency.deadline;
}

-- the latency to each listener of each row, counted from the hand-over if the stream's talker is a station. The times to the edge bridges
-- are by stream number, and so are the deadlines, as they are written
abbrev pub times_of : List (Option AccessTimes) → ℕ → Option AccessTimes
times_of times number = slice_index_or times number None

abbrev pub latencies_from : Domain → List Row → List (Option ℕ) → List (Option AccessTimes) → List Latency
latencies_from d rows deadlines times =
    flat_map (λ (row : Row). map (latency_from_talker (times_of times row.no)) (latencies_of_row d rows row (deadline_of deadlines row.no))) rows

-- whether the frames are certain to keep their deadline, as a verdict and as its name
abbrev pub said_of_latency : Sure → Verdict
said_of_latency InTime = reported.InTime
said_of_latency Late = reported.Late
said_of_latency MayBeLate = reported.MayBeLate

abbrev pub verdict_on_deadline : Latency → Option Verdict
verdict_on_deadline latency = option_map (λ (deadline : ℕ). said_of_latency (sure_of latency.least latency.most deadline)) latency.deadline

abbrev pub name_of_verdict : Verdict → List ℕ
name_of_verdict reported.InTime = codes "in-time"
name_of_verdict reported.Late = codes "late"
name_of_verdict reported.MayBeLate = codes "may-be-late"

-- the header of latencies
abbrev pub latency_header : Fields
latency_header =
    codes "stream" ∷ codes "listener" ∷ codes "bridges" ∷ codes "least" ∷ codes "most" ∷ codes "window" ∷ codes "deadline" ∷ codes "verdict" ∷ []

-- a deadline or a verdict as text, empty if there is none
abbrev pub text_of_deadline : Option ℕ → List ℕ
text_of_deadline deadline = option_map_or decimal deadline []

abbrev pub text_of_verdict : Option Verdict → List ℕ
text_of_verdict verdict = option_map_or name_of_verdict verdict []

-- the fields of a latency: its stream, its listener's station, the number of bridges on the path, the least, the most and the window, the
-- deadline and the verdict
abbrev pub latency_fields : Latency → Fields
latency_fields latency =
    latency.stream ∷ latency.listener ∷ decimal latency.bridges ∷ decimal latency.least ∷ decimal latency.most ∷ decimal latency.window ∷ text_of_deadline
    latency.deadline ∷ text_of_verdict (verdict_on_deadline latency) ∷ []

-- one line per latency, in order
abbrev pub lines_of_latencies : List Latency → List ℕ
lines_of_latencies latencies = flat_map (λ (latency : Latency). line_of_fields (latency_fields latency)) latencies

-- the text of latencies: the header and one line per latency
abbrev pub text_of_latency : List Latency → List ℕ
text_of_latency latencies = line_of_fields latency_header ++ lines_of_latencies latencies

-- the text for the rows of a table
abbrev pub latency_text : Domain → List Row → List (Option ℕ) → List ℕ
latency_text d rows deadlines = text_of_latency (latencies_of d rows deadlines)

-- whether there is a verdict, and frames may miss their deadline
abbrev pub may_miss : Option Verdict → Bool
may_miss None = false
may_miss (Some reported.InTime) = false
may_miss (Some reported.Late) = true
may_miss (Some reported.MayBeLate) = true

abbrev pub is_not_sure : Latency → Bool
is_not_sure latency = may_miss (verdict_on_deadline latency)

-- the line for a latency whose frames may miss their deadline
abbrev pub not_sure_line : Latency → List ℕ
not_sure_line latency = fault_line (codes "latency")
    (latency.stream
    ++ (codes " at "
    ++ (latency.listener
    ++ (codes ": "
    ++ (text_of_verdict (verdict_on_deadline latency)
    ++ (codes ", most " ++ (decimal latency.most ++ (codes ", deadline " ++ text_of_deadline latency.deadline))))))))

-- the line of the first of these latencies whose frames may miss their deadline
abbrev pub first_line_of : List Latency → Option (List ℕ)
first_line_of latencies = option_map not_sure_line (find is_not_sure latencies)

-- the same for the rows of a table
abbrev pub first_not_sure : Domain → List Row → List (Option ℕ) → Option (List ℕ)
first_not_sure d rows deadlines = first_line_of (latencies_of d rows deadlines)
