-- The table of the candidates for the cycle time.
use Rattle.std.specs.Prelude.{ℕ, ◌++◌, List, [], ◌∷◌, codes, decimal, Option}
use Rattle.std.specs.List.{flat_map}
use Rattle.std.specs.Option.{option_map_or}
use Rattle.cqf_report.specs.Records.{Fields}
use Rattle.cqf_report.specs.Written.{line_of_fields}
use Rattle.cqf_program_plans.specs.Load.Text.{left_text, percentage_text}
use Rattle.cqf_program_planning.specs.declared.candidates.Candidate.{Candidate}
use Rattle.cqf_program_planning.specs.declared.candidates.Slack.{Slack}
use Rattle.cqf_program_planning.specs.Choosing.{candidate_fault_text}

-- the header
abbrev pub candidates_header : Fields
candidates_header =
    codes "cycle" ∷ codes "placed" ∷ codes "streams" ∷ codes "used" ∷ codes "late" ∷ codes "tightest" ∷ codes "slack" ∷ codes "fault" ∷ []

-- the stream of the tightest deadline; and what is left of that deadline, below 0 if the longest latency exceeds it
abbrev pub stream_of_slack : Option Slack → List ℕ
stream_of_slack slack = option_map_or (λ (found : Slack). found.stream) slack []

abbrev pub slack_text : Option Slack → List ℕ
slack_text slack = option_map_or (λ (found : Slack). left_text found.deadline found.most) slack []

-- the fields of a candidate; `streams` is the number of all streams
abbrev pub candidate_fields : ℕ → Candidate → Fields
candidate_fields streams candidate =
    decimal candidate.cycle_time ∷ decimal candidate.placed ∷ decimal streams ∷ option_map_or percentage_text candidate.used []
    ∷ decimal candidate.late ∷ stream_of_slack candidate.tightest ∷ slack_text candidate.tightest
    ∷ option_map_or candidate_fault_text candidate.fault [] ∷ []

-- one line for each candidate, in their order
abbrev pub lines_of_candidates : ℕ → List Candidate → List ℕ
lines_of_candidates streams reported = flat_map (λ (candidate : Candidate). line_of_fields (candidate_fields streams candidate)) reported

-- the header, and then the lines
abbrev pub text_of_candidates : ℕ → List Candidate → List ℕ
text_of_candidates streams reported = line_of_fields candidates_header ++ lines_of_candidates streams reported
