-- The check of a scenario that was read.
use Rattle.std.specs.Prelude.{ℕ, ◌≡◌, ◌⊎◌, List, [], Result, Err}
use Rattle.cqf_model.specs.History.{streams_of}
use Rattle.cqf_topology.specs.PlannedText.{PlannedText}
use Rattle.cqf_program_scenario.specs.Calls.{history_of}
use Rattle.cqf_program_scenario.specs.Closing.{scenario_given}
use Rattle.cqf_output.specs.declared.stops.Stop.{Stop}
use Rattle.cqf_program_runs.specs.declared.check.checked.OfferCounts.{OfferCounts}
use Rattle.cqf_program_runs.specs.declared.deliveries.reading.PlannedGiven.{PlannedGiven}
use Rattle.cqf_program_runs.specs.Check.Checked.{offer_counts}
use Rattle.cqf_program_runs.specs.Check.Output.{IsCheckedScenario}
use Rattle.cqf_program_runs.specs.Deliveries.Reading.{ArePlannedBeside}

-- the counts are those of its offers
abbrev pub AreOffersCounted : ℕ → PlannedGiven → OfferCounts → Type 0
AreOffersCounted cycles planned counts =
    counts ≡ offer_counts planned.given.domain cycles (streams_of planned.given.domain (history_of cycles (scenario_given planned.given)))
    planned.given.offers.items

-- the result is that of its check, for any streams with these requests and deadlines
abbrev pub IsCheckedGiven : ℕ → PlannedGiven → Result (List ℕ) (List ℕ) → Type 0
IsCheckedGiven cycles planned found = (streams : List PlannedText) → ArePlannedBeside streams planned.given.requests.items planned.deadlines.items →
    IsCheckedScenario cycles (scenario_given planned.given) streams found

-- not all is well and the line says why, or an allocation failed
pub record IsRefusedGiven (cycles : ℕ) (planned : PlannedGiven) (stop : Stop) : Type 0 where
  pub statuses : (stop.status ≡ 1) ⊎ (stop.status ≡ 3)
  pub line : stop.status ≡ 1 → IsCheckedGiven cycles planned (Err stop.text.items)
  pub memory : stop.status ≡ 3 → stop.text.items ≡ []
