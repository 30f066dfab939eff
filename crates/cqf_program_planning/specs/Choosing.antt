-- Which candidate for the cycle time is taken, and the line that is printed if none is good.
use Rattle.std.specs.Prelude.{ℕ, ◌≡◌, ◌<◌, ◌==◌, ◌+◌, ◌-◌, ◌++◌, ◌&&◌, ◌||◌, ◌⊎◌, Bool, true, false, unwrap_or, List, ◌∷◌, [], All, codes, decimal, fold, if◌then◌else◌, length, nat_lt, Option, Some, None, IsSome}
use Rattle.cqf_model.specs.Domain.{Domain}
use Rattle.cqf_network.specs.NetworkDomain.{NetworkDomain, longest_guard}
use Rattle.cqf_traffic.specs.FlowsText.{FlowText}
use Rattle.cqf_output.specs.Stops.{fault_line}
use Rattle.cqf_program_placing.specs.Faults.{plan_fault_text}
use Rattle.cqf_program_placing.specs.Placing.{PlacedStreams}
use Rattle.cqf_program_placing.specs.Settled.{SettledStream}
use Rattle.cqf_program_planning.specs.declared.candidates.Candidate.{Candidate}
use Rattle.cqf_program_planning.specs.declared.candidates.CandidateFault.{CandidateFault}
use Rattle.cqf_program_planning.specs.declared.candidates.Slack.{Slack}
use Rattle.cqf_program_planning.specs.declared.candidates.CandidateFault.TheVariants as shut
use Rattle.cqf_program_planning.specs.declared.choosing.Search.{Search}
use Rattle.cqf_program_planning.specs.Judging.{candidate_of, flows_placed}
use Rattle.cqf_program_planning.specs.Orders.{AreJudgedBy, AreTriedAt}

-- the text of a candidate's fault
abbrev pub candidate_fault_text : CandidateFault → List ℕ
candidate_fault_text shut.GuardTooLong = codes "GuardTooLong"
candidate_fault_text (shut.Stream name found) = name ++ (codes ": " ++ plan_fault_text found)

-- a candidate that isn't good
abbrev pub IsBad : Candidate → Type 0
IsBad candidate = IsSome candidate.fault

-- what remains of a candidate's tightest deadline, in nanoseconds; 0 if there is no deadline
abbrev pub time_left : Option Slack → ℕ
time_left None = 0
time_left (Some slack) = slack.deadline - slack.most

-- whether a good candidate is better than another good one: more remains of its tightest deadline; or as much, and its fullest link holds a
-- smaller share of its budget
abbrev pub is_better : Candidate → Candidate → Bool
is_better candidate other =
    nat_lt (time_left other.tightest) (time_left candidate.tightest)
    || (time_left candidate.tightest == time_left other.tightest && nat_lt (unwrap_or candidate.used 0) (unwrap_or other.used 0))

-- a candidate is the first good one: none of those before it is good
pub record IsFirstGood (network : NetworkDomain) (streams : List SettledStream) (tries : ℕ) (before : List ℕ) : Type 0 where
  pub reported : List Candidate
  pub judged : AreJudgedBy network streams tries before reported
  pub bad : All IsBad reported

-- a good candidate is the best: it is better than each good one before it, and no good one after it is better
pub record IsBestGood (network : NetworkDomain) (streams : List SettledStream) (tries : ℕ) (before following : List ℕ) (candidate : Candidate) : Type 0 where
  pub reported : List Candidate
  pub judged : AreJudgedBy network streams tries before reported
  pub better : All (λ (other : Candidate). IsBad other ⊎ (is_better candidate other ≡ true)) reported
  pub written_after : List Candidate
  pub judged_after : AreJudgedBy network streams tries following written_after
  pub none_better : All (λ (other : Candidate). IsBad other ⊎ (is_better other candidate ≡ false)) written_after

-- a good candidate is taken: as the best, or as the first good one
abbrev pub IsTaken : Bool → NetworkDomain → List SettledStream → ℕ → List ℕ → List ℕ → Candidate → Type 0
IsTaken true network streams tries before following candidate = IsBestGood network streams tries before following candidate
IsTaken false network streams tries before following candidate = IsFirstGood network streams tries before

-- a plan: its cycle time is the first good candidate, or the best, as the search says, which also says how many other orders of placing are tried;
-- and its streams are those that are placed on it
pub record IsPlanned (network : NetworkDomain) (streams : List SettledStream) (search : Search) (d : Domain) (flows : List FlowText) : Type 0 where
  pub before : List ℕ
  pub cycle_time : ℕ
  pub following : List ℕ
  pub among : network.candidates ≡ before ++ (cycle_time ∷ following)
  pub open_to : longest_guard network < cycle_time
  pub placed : PlacedStreams
  pub are_placed : AreTriedAt network streams search.tries cycle_time placed
  pub good : (candidate_of streams placed).fault ≡ None
  pub taken : IsTaken search.best network streams search.tries before following (candidate_of streams placed)
  pub domain_is : d ≡ placed.domain
  pub flows_are : flows ≡ flows_placed placed.domain.cycle_time streams placed.outcomes

-- of two candidates that aren't good the nearer one: the first, unless the second misses less. A candidate misses each stream that isn't placed,
-- and each listener of a stream that may be late; and the nearest of some
abbrev pub nearer_of : Candidate → Candidate → Candidate
nearer_of first second = if nat_lt (second.late + first.placed) (first.late + second.placed) then second else first

abbrev pub nearer : Option Candidate → Candidate → Option Candidate
nearer None candidate = Some candidate
nearer (Some first) second = Some (nearer_of first second)

abbrev pub nearest_of : List Candidate → Option Candidate
nearest_of reported = fold nearer None reported

-- the text about a candidate that isn't good, of `count` candidates
abbrev pub bad_text : ℕ → ℕ → List ℕ → List ℕ
bad_text count cycle_time text =
    if count == 1 then text
    else codes "no cycle of " ++ (decimal count ++ (codes " is good; at " ++ (decimal cycle_time ++ (codes " " ++ text))))

abbrev pub bad_line : ℕ → ℕ → Option CandidateFault → List ℕ
bad_line count cycle_time None = []
bad_line count cycle_time (Some found) = fault_line (codes "plan") (bad_text count cycle_time (candidate_fault_text found))

-- the line of the nearest of some that aren't good
abbrev pub line_of_nearest : ℕ → Option Candidate → List ℕ
line_of_nearest count None = []
line_of_nearest count (Some nearest) = bad_line count nearest.cycle_time nearest.fault

-- no candidate is good, and this line says why the nearest isn't
pub record IsUnplanned (network : NetworkDomain) (streams : List SettledStream) (tries : ℕ) (line : List ℕ) : Type 0 where
  pub reported : List Candidate
  pub judged : AreJudgedBy network streams tries network.candidates reported
  pub bad : All IsBad reported
  pub line_is : line ≡ line_of_nearest (length network.candidates) (nearest_of reported)
