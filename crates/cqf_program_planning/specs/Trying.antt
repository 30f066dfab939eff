-- The contracts of inner functions about cycle times that are tried.
use Rattle.std.specs.Prelude.{ℕ, ◌≡◌, ◌<◌, ◌++◌, if◌then◌else◌, List, [], ◌∷◌, All, IfSome, Option, Some, None, length, map}
use Rattle.cqf_network.specs.NetworkDomain.{NetworkDomain, longest_guard}
use Rattle.cqf_program_placing.specs.Placing.{BeginsEarly, PlacedStreams, outcome_value}
use Rattle.cqf_program_placing.specs.Settled.{SettledStream}
use Rattle.cqf_program_planning.specs.declared.candidates.Candidate.{Candidate}
use Rattle.cqf_program_planning.specs.declared.choosing.Choice.{Choice}
use Rattle.cqf_program_planning.specs.declared.choosing.Choice.TheVariants as choice
use Rattle.cqf_program_planning.specs.declared.trying.Tried.{Tried}
use Rattle.cqf_program_planning.specs.Choosing.{IsBad, IsBestGood, IsPlanned, IsUnplanned, is_better, line_of_nearest, nearer_of, nearest_of}
use Rattle.cqf_program_planning.specs.declared.choosing.Search.{Search}
use Rattle.cqf_program_planning.specs.Judging.{candidate_of, flows_placed}
use Rattle.cqf_program_planning.specs.Orders.{AreJudgedBy, AreTriedAt, IsJudgedBy}
use Rattle.cqf_program_planning.specs.Steps.{AreTurned}

-- the verdict on streams that are placed, with their domain and the outcome for each
pub record IsTriedBy (streams : List SettledStream) (placed : PlacedStreams) (tried : Tried) : Type 0 where
  pub candidate_is : tried.candidate ≡ candidate_of streams placed
  pub domain_is : tried.domain ≡ placed.domain
  pub outcomes_are : map outcome_value tried.outcomes.items ≡ placed.outcomes

-- the same on a cycle time
pub record IsTried (network : NetworkDomain) (streams : List SettledStream) (tries cycle_time : ℕ) (tried : Tried) : Type 0 where
  pub placed : PlacedStreams
  pub are_placed : AreTriedAt network streams tries cycle_time placed
  pub tried_by : IsTriedBy streams placed tried

-- a cycle time is good: all streams are placed on it, and none may be late
pub record IsGoodOn (network : NetworkDomain) (streams : List SettledStream) (tries cycle_time : ℕ) (tried : Tried) : Type 0 where
  pub open_to : longest_guard network < cycle_time
  pub tried_is : IsTried network streams tries cycle_time tried
  pub good : tried.candidate.fault ≡ None

-- a cycle time isn't good, and this is the verdict on it
pub record IsBadOn (network : NetworkDomain) (streams : List SettledStream) (tries cycle_time : ℕ) (candidate : Candidate) : Type 0 where
  pub judged : IsJudgedBy network streams tries cycle_time candidate
  pub bad : IsBad candidate

-- the choice after one candidate
abbrev pub ComesOf : NetworkDomain → List SettledStream → ℕ → ℕ → Choice → Type 0
ComesOf network streams tries cycle_time (choice.Planned tried) = IsGoodOn network streams tries cycle_time tried
ComesOf network streams tries cycle_time (choice.Unplanned candidate) = IsBadOn network streams tries cycle_time candidate

-- none of these candidates is good, and this is the nearest
pub record AreBad (network : NetworkDomain) (streams : List SettledStream) (tries : ℕ) (cycles : List ℕ) (nearest : Option Candidate) : Type 0 where
  pub reported : List Candidate
  pub judged : AreJudgedBy network streams tries cycles reported
  pub bad : All IsBad reported
  pub nearest_is : nearest ≡ nearest_of reported
  pub nearest_bad : IfSome nearest IsBad

-- a cycle time on which streams were placed is the plan's
pub record IsPlannedOn (network : NetworkDomain) (streams : List SettledStream) (search : Search) (tried : Tried) : Type 0 where
  pub planned : IsPlanned network streams search tried.domain (flows_placed tried.domain.cycle_time streams (map outcome_value tried.outcomes.items))
  pub each : length tried.outcomes.items ≡ length streams
  pub early : All BeginsEarly (map outcome_value tried.outcomes.items)
  pub turned : AreTurned streams (flows_placed tried.domain.cycle_time streams (map outcome_value tried.outcomes.items))

-- of two choices the better one: of two good cycle times the first, unless the second is better; a good one rather than one that isn't; or the
-- nearer one
abbrev pub preferred : Option Choice → Choice → Choice
preferred None next = next
preferred (Some (choice.Planned first)) (choice.Planned second) =
    if is_better second.candidate first.candidate then choice.Planned second else choice.Planned first
preferred (Some (choice.Planned first)) (choice.Unplanned candidate) = choice.Planned first
preferred (Some (choice.Unplanned candidate)) (choice.Planned second) = choice.Planned second
preferred (Some (choice.Unplanned first)) (choice.Unplanned second) = choice.Unplanned (nearer_of first second)

-- a good cycle time is the best of some
pub record IsBestOf (network : NetworkDomain) (streams : List SettledStream) (tries : ℕ) (cycles : List ℕ) (tried : Tried) : Type 0 where
  pub before : List ℕ
  pub cycle_time : ℕ
  pub following : List ℕ
  pub among : cycles ≡ before ++ (cycle_time ∷ following)
  pub good : IsGoodOn network streams tries cycle_time tried
  pub best : IsBestGood network streams tries before following tried.candidate

-- the best choice of some candidates
abbrev pub ComesOfSome : NetworkDomain → List SettledStream → ℕ → List ℕ → Option Choice → Type 0
ComesOfSome network streams tries cycles None = cycles ≡ []
ComesOfSome network streams tries cycles (Some (choice.Planned tried)) = IsBestOf network streams tries cycles tried
ComesOfSome network streams tries cycles (Some (choice.Unplanned nearest)) = AreBad network streams tries cycles (Some nearest)

-- the choice after all candidates
abbrev pub ComesOfAll : NetworkDomain → List SettledStream → Search → Choice → Type 0
ComesOfAll network streams search (choice.Planned tried) = IsPlannedOn network streams search tried
ComesOfAll network streams search (choice.Unplanned nearest) =
    IsUnplanned network streams search.tries (line_of_nearest (length network.candidates) (Some nearest)) × IsBad nearest
