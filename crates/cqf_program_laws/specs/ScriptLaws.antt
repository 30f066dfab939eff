-- What a script's calls request, and which histories they make.
use Rattle.std.specs.Prelude.{ℕ, ◌≡◌, ◌≤◌, List, [], Ok, Contains, map}
use Rattle.cqf_model.specs.declared.limits.Limits.{Limits}
use Rattle.cqf_model.specs.Calls.{IsHistoryOf}
use Rattle.cqf_model.specs.History.{Act, Asked, IsLegalHistory, Recorded}
use Rattle.cqf_model.specs.Limits.{most_cycles}
use Rattle.cqf_topology.specs.PlannedText.{PlannedText}
use Rattle.cqf_topology.specs.PacedText.{PacedText, paced_of_text}
use Rattle.cqf_admission.specs.Asking.{asked_by}
use Rattle.cqf_admission.specs.Script.{Called, script_of}
use Rattle.cqf_laws_timing.specs.Streams.{AdmitsOnly}
use Rattle.cqf_laws_timing.specs.Asking.{AsksOnly}
use Rattle.cqf_program_scenario.specs.Calls.{HasRoom, history_of}
use Rattle.cqf_program_scenario.specs.Opening.{opening_history}
use Rattle.cqf_program_scenario.specs.Parting.{AreCommandsAfter}
use Rattle.cqf_program_scenario.specs.Parts.{RunTexts}
use Rattle.cqf_program_scenario.specs.Scenario.{Scenario, scenario_of}
use Rattle.cqf_program_plans.specs.Latency.Input.{asked_in}
use Rattle.cqf_program_runs.specs.Deliveries.PlannedScenario.{planned_scenario}

-- each of some calls requests no stream but one of the list
abbrev pub AskOnly : List Asked → List Called → Type 0
AskOnly streams calls = (call : Called) → Contains calls call → AsksOnly streams call.1

-- the calls of a script request no stream but one of the requests that it may name
abbrev pub ScriptsAskOnly : Type 0
ScriptsAskOnly = (requests : List Asked) (cycles : ℕ) (text : List ℕ) (calls : List Called) → script_of requests cycles text ≡ Ok calls →
    AskOnly requests calls

-- the same for the scenario of an input's parts, whose streams text has these requests
abbrev pub ScenariosAskOnly : Type 0
ScenariosAskOnly =
    (limits : Limits) (cycles : ℕ) (texts : RunTexts) (s : Scenario) (requests : List PacedText) → scenario_of limits cycles texts ≡ Ok s →
    paced_of_text texts.streams ≡ Ok requests → AskOnly (map asked_by requests) s.calls

-- and for the scenario of an input that is read with its deadlines
abbrev pub PlannedScenariosAskOnly : Type 0
PlannedScenariosAskOnly =
    (limits : Limits) (cycles : ℕ) (input : List ℕ) (s : Scenario) (streams : List PlannedText) →
    planned_scenario limits cycles input ≡ Ok (s, streams) → AskOnly (asked_in streams) s.calls

-- the history of such calls admits streams of the list alone, over any number of cycles
abbrev pub HistoriesAdmitOnly : Type 0
HistoriesAdmitOnly = (cycles : ℕ) (s : Scenario) (streams : List Asked) → AskOnly streams s.calls → AdmitsOnly streams (history_of cycles s)

-- and so does each history of a run on threads that begins with the calls before the first Seal, and in which each administrator makes its
-- calls after that Seal
abbrev pub AccountsAdmitOnly : Type 0
AccountsAdmitOnly = (cycles : ℕ) (s : Scenario) (streams : List Asked) (asked : List (List Act)) (entries : List Recorded) → AskOnly streams s.calls →
    AreCommandsAfter s.calls s.sealer asked → IsHistoryOf s.domain (opening_history s) asked cycles entries → AdmitsOnly streams entries

-- if there is room for the calls, their history is legal
abbrev pub HistoriesAreLegal : Type 0
HistoriesAreLegal = (cycles : ℕ) (s : Scenario) → cycles ≤ most_cycles → HasRoom cycles [] s.calls → IsLegalHistory s.domain (history_of cycles s)
