-- The result of the command `latency` for its domain, its streams and their deadlines.
use Rattle.std.specs.Prelude.{ℕ, ◌≡◌, ◌<◌, ◌≤◌, List, [], Bool, if◌then◌else◌, length, Contains, Option, None, Result, Ok}
use Rattle.cqf_model.specs.declared.topology.Row.{Row}
use Rattle.cqf_model.specs.Domain.{Domain}
use Rattle.cqf_model.specs.History.{Asked, held_in}
use Rattle.cqf_model.specs.Table.{link_cost}
use Rattle.cqf_admission.specs.ActiveCycles.{AreOfGoodPaces, SumsByCycle, sum_on}
use Rattle.cqf_lists.specs.Results.{and_then, refuse}
use Rattle.cqf_admission.specs.Rows.{IsCountable}
use Rattle.cqf_program_plans.specs.Compile.Output.{admitted_from}
use Rattle.cqf_program_plans.specs.Latency.Text.{first_line_of, first_not_sure, latencies_from, latency_text, text_of_latency}
use Rattle.cqf_edge.specs.declared.edge.AccessTimes.{AccessTimes}
use Rattle.cqf_program_plans.specs.declared.latency.latencies.Latency.{Latency}

-- a text; or, if strict, the line for what isn't certain, if there is one
abbrev pub unless_strict : Bool → Option (List ℕ) → List ℕ → Result (List ℕ) (List ℕ)
unless_strict strict line text = refuse (if strict then line else None) (λ (first : List ℕ). first) (Ok text)

-- the latencies of a domain with all of these streams admitted before cycle 0, with the deadlines by stream number. Or the line of the
-- first stream that isn't admitted; or else, if strict, the line of the first latency that isn't certain to be within its deadline
abbrev pub latency_of_plan : Bool → Domain → List Asked → List (Option ℕ) → Result (List ℕ) (List ℕ)
latency_of_plan strict d streams deadlines = and_then (admitted_from d [] 1 streams) (λ entries.
    unless_strict strict (first_not_sure d (held_in d entries 0) deadlines) (latency_text d (held_in d entries 0) deadlines))

-- the result for latencies: their text; or, if strict, the line of the first that isn't certain to be within its deadline
abbrev pub latency_written : Bool → List Latency → Result (List ℕ) (List ℕ)
latency_written strict latencies = unless_strict strict (first_line_of latencies) (text_of_latency latencies)

-- a plan as its talkers see it: deadlines as written, and how long frames take to their edge bridges, if their talkers are stations; both
-- by stream number
pub record PlanFromTalkers : Type 0 where
  pub domain : Domain
  pub streams : List Asked
  pub deadlines : List (Option ℕ)
  pub times : List (Option AccessTimes)

abbrev pub latency_from_talkers : Bool → PlanFromTalkers → Result (List ℕ) (List ℕ)
latency_from_talkers strict plan = and_then (admitted_from plan.domain [] 1 plan.streams) (λ entries.
    latency_written strict (latencies_from plan.domain (held_in plan.domain entries 0) plan.deadlines plan.times))

-- a domain, and the rows of one of its tables
pub record DomainTable : Type 0 where
  pub domain : Domain
  pub rows : List Row

-- the cost of each row can be added to sums by link, for this number of links
abbrev pub AreCountable : ℕ → List Row → Type 0
AreCountable links rows = (row : Row) → Contains rows row → IsCountable links row

-- these are the costs of the rows in each cycle, of each of this number of links
pub record AreCostsOf (links : ℕ) (rows : List Row) (costs : SumsByCycle) : Type 0 where
  pub as_many : costs.links ≡ links
  pub each : (l cycle : ℕ) → l < links → sum_on costs l cycle ≡ link_cost rows l cycle

-- the costs are bounded as the budgets are: 11 octets for each nanosecond of the longest cycle
abbrev pub CostLittle : List Row → Type 0
CostLittle rows = (l cycle : ℕ) → link_cost rows l cycle ≤ 110000000

-- the costs of the rows of a domain's table of each of its links: the costs are bounded, they can be added up, and the rows have good paces
pub record AreCosts (d : Domain) (rows : List Row) (costs : SumsByCycle) : Type 0 where
  pub little : CostLittle rows
  pub countable : AreCountable (length d.links) rows
  pub good : AreOfGoodPaces rows
  pub each : AreCostsOf (length d.links) rows costs
