-- What the command `deliveries` returns for its input.
use Rattle.cqf_model.specs.declared.limits.Limits.{Limits}
use Rattle.std.specs.Prelude.{ℕ, ◌≡◌, List, Ok}
use Rattle.cqf_model.specs.Book.{Contents}
use Rattle.cqf_topology.specs.PlannedText.{PlannedText}
use Rattle.cqf_program_scenario.specs.Books.{IsBookOfScenario}
use Rattle.cqf_program_scenario.specs.Scenario.{Scenario}
use Rattle.cqf_program_runs.specs.Deliveries.{deliveries_of}
use Rattle.cqf_program_runs.specs.Deliveries.Text.{text_of_deliveries}
use Rattle.cqf_program_runs.specs.Deliveries.PlannedScenario.{planned_scenario, run_of_scenario}

-- the output is the text of the deliveries in the one-thread book of the input's scenario
pub record IsDeliveriesOutput (limits : Limits) (cycles : ℕ) (input output : List ℕ) : Type 0 where
  pub found : Scenario × List PlannedText
  pub holds : planned_scenario limits cycles input ≡ Ok found
  pub book : Contents
  pub is_book : IsBookOfScenario cycles found.0 book
  pub written : output ≡ text_of_deliveries (deliveries_of (run_of_scenario cycles found.0) found.1 book)
