-- The figures of a network: how long frames may take, and what its links hold.
use Rattle.std.specs.Prelude.{ℕ, ◌++◌, List, [], ◌∷◌, Option, codes, decimal, length, map}
use Rattle.std.specs.Option.{option_map_or}
use Rattle.cqf_lists.specs.Lists.{each_below}
use Rattle.cqf_admission.specs.Costs.{most_cost}
use Rattle.cqf_model.specs.declared.topology.Row.{Row}
use Rattle.cqf_model.specs.Domain.{Domain, budget}
use Rattle.cqf_edge.specs.declared.edge.AccessTimes.{AccessTimes}
use Rattle.cqf_program_plans.specs.declared.latency.latencies.Latency.{Latency}
use Rattle.cqf_program_plans.specs.declared.load.access.AccessLoad.{AccessLoad}
use Rattle.cqf_program_plans.specs.Latency.Text.{latencies_from}
use Rattle.cqf_program_plans.specs.Load.Text.{left_text}
use Rattle.cqf_topology.specs.NodeNames.{name_of_link}
use Rattle.cqf_program_diff.specs.Element.{ElementText}

-- how long a frame of a stream takes to a listener at most, and what is left of the deadline, if there is one
abbrev pub slack_text : Option ℕ → ℕ → List ℕ
slack_text deadline most = option_map_or (λ (d : ℕ). left_text d most) deadline []

abbrev pub latency_element : Latency → ElementText
latency_element latency = record {
  name = latency.stream ++ (codes "," ++ latency.listener);
  values = decimal latency.most ∷ slack_text latency.deadline latency.most ∷ [];
}

-- what a link holds in a cycle at most, and what is left of its budget
abbrev pub load_values : ℕ → ℕ → List (List ℕ)
load_values budget held = decimal held ∷ left_text budget held ∷ []

abbrev pub load_element : Domain → ℕ → ℕ → ElementText
load_element d l cost = record { name = name_of_link d l; values = load_values (budget d l) cost }

abbrev pub load_elements : Domain → List Row → List ElementText
load_elements d rows = each_below (λ l. load_element d l (most_cost rows l) ∷ []) (length d.links)

-- what is taken of an access link
abbrev pub access_load_element : AccessLoad → ElementText
access_load_element load = record { name = load.from ++ (codes ">" ++ load.to); values = load_values load.budget load.held }

-- the figures of a table's rows
pub record FiguresText : Type 0 where
  pub latencies : List ElementText
  pub loads : List ElementText

abbrev pub figures_of : Domain → List Row → List (Option ℕ) → List (Option AccessTimes) → FiguresText
figures_of d rows deadlines times =
    record { latencies = map latency_element (latencies_from d rows deadlines times); loads = load_elements d rows }
