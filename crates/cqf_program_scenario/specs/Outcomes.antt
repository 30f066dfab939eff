-- The outcome of a scenario's calls and offers.
use Rattle.std.specs.Prelude.{ℕ, ◌≡◌, map}
use Rattle.cqf_model.specs.History.{IsLegalHistory, seals}
use Rattle.cqf_admission.specs.Asking.{asked_paced}
use Rattle.cqf_admission.specs.Running.{AreThere}
use Rattle.cqf_instants_run.specs.HistoryStarts.{IsLaidOutHistoryOf}
use Rattle.cqf_program_scenario.specs.declared.given.RunInput.{RunInput}
use Rattle.cqf_program_scenario.specs.declared.outcomes.ScenarioOutcome.{ScenarioOutcome}
use Rattle.cqf_program_scenario.specs.Calls.{history_of}
use Rattle.cqf_program_scenario.specs.Closing.{scenario_given}
use Rattle.cqf_program_scenario.specs.Logged.{entries_in}

-- the log of the scenario's legal history over this number of cycles, which are all closed, and the streams that the history granted, with
-- the verdict on each offer by these streams
pub record IsOutcomeOf (cycles : ℕ) (given : RunInput) (outcome : ScenarioOutcome) : Type 0 where
  pub entries : entries_in given outcome.entries.items ≡ history_of cycles (scenario_given given)
  pub legal : IsLegalHistory given.domain (entries_in given outcome.entries.items)
  pub there : AreThere (map asked_paced given.requests.items) given.script.items outcome.entries.items
  pub closed : seals (entries_in given outcome.entries.items) ≡ cycles
  pub history : IsLaidOutHistoryOf given.domain cycles outcome.rows.items given.offers.items outcome.edge_verdicts.items
      (history_of cycles (scenario_given given))
