-- What the command `summary` returns for its input.
use Rattle.cqf_model.specs.declared.limits.Limits.{Limits}
use Rattle.std.specs.Prelude.{ℕ, ◌≡◌, List, Ok}
use Rattle.cqf_model.specs.Book.{Contents}
use Rattle.cqf_topology.specs.PlannedText.{PlannedText}
use Rattle.cqf_program_scenario.specs.Books.{IsBookOfScenario}
use Rattle.cqf_program_scenario.specs.Scenario.{Scenario}
use Rattle.cqf_program_runs.specs.Deliveries.PlannedScenario.{planned_scenario, run_of_scenario}
use Rattle.cqf_program_summary.specs.Summary.{summary_of}
use Rattle.cqf_program_summary.specs.Summary.Text.{text_of_summary}

-- the output is the text of the summary by the one-thread book of the input's scenario
pub record IsSummaryOutput (limits : Limits) (cycles : ℕ) (input output : List ℕ) : Type 0 where
  pub found : Scenario × List PlannedText
  pub holds : planned_scenario limits cycles input ≡ Ok found
  pub book : Contents
  pub is_book : IsBookOfScenario cycles found.0 book
  pub written : output ≡ text_of_summary (summary_of (run_of_scenario cycles found.0) found.1 book)
