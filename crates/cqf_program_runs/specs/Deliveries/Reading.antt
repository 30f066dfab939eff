-- A scenario that was read with its streams, and its deliveries.
use Rattle.cqf_model.specs.declared.limits.Limits.{Limits}
use Rattle.std.specs.Prelude.{ℕ, ◌≡◌, List, Option, Ok, map}
use Rattle.cqf_admission.specs.Asking.{asked_paced}
use Rattle.cqf_model.specs.Book.{Contents}
use Rattle.cqf_topology.specs.declared.paced.PacedRequest.{PacedRequest}
use Rattle.cqf_topology.specs.PlannedText.{PlannedText, planned_of_text}
use Rattle.cqf_program_scenario.specs.Parts.{RunTexts}
use Rattle.cqf_program_plans.specs.Latency.Input.{asked_in, deadlines_in}
use Rattle.cqf_program_scenario.specs.Books.{IsBookOfScenario}
use Rattle.cqf_program_scenario.specs.Closing.{MayBeRun, scenario_given}
use Rattle.cqf_program_scenario.specs.Logged.{HasOrders}
use Rattle.cqf_program_scenario.specs.Scenario.{Scenario}
use Rattle.cqf_program_runs.specs.declared.deliveries.delivery.Delivery.{Delivery}
use Rattle.cqf_program_runs.specs.Deliveries.{deliveries_of}
use Rattle.cqf_program_runs.specs.declared.deliveries.reading.PlannedGiven.{PlannedGiven}
use Rattle.cqf_program_runs.specs.Deliveries.PlannedScenario.{planned_of_part, planned_scenario, planned_scenario_of, run_of_scenario}
use Rattle.cqf_network.specs.NetworkDomain.{NetworkDomain}

-- requests and deadlines, by the same indexes, are those of the streams
pub record ArePlannedBeside (streams : List PlannedText) (requests : List PacedRequest) (deadlines : List (Option ℕ)) : Type 0 where
  pub asked : map asked_paced requests ≡ asked_in streams
  pub ends : deadlines ≡ deadlines_in streams

-- the requests and the deadlines are those of the streams of a text
pub record ArePlannedIn (text : List ℕ) (requests : List PacedRequest) (deadlines : List (Option ℕ)) : Type 0 where
  pub streams : List PlannedText
  pub holds : planned_of_text text ≡ Ok streams
  pub planned : ArePlannedBeside streams requests deadlines

-- the requests and the deadlines are those of the streams of a part of a network, from their edge bridges on
pub record ArePlannedOf (network : NetworkDomain) (text : List ℕ) (requests : List PacedRequest) (deadlines : List (Option ℕ)) : Type 0 where
  pub streams : List PlannedText
  pub holds : planned_of_part network text ≡ Ok streams
  pub planned : ArePlannedBeside streams requests deadlines

-- the run's input is that of the parts, and it may be run; its orders refer to what is there
pub record IsPlannedIn (limits : Limits) (cycles : ℕ) (texts : RunTexts) (made : PlannedGiven) : Type 0 where
  pub streams : List PlannedText
  pub holds : planned_scenario_of limits cycles texts ≡ Ok (scenario_given made.given, streams)
  pub planned : ArePlannedBeside streams made.given.requests.items made.deadlines.items
  pub may : MayBeRun cycles (scenario_given made.given)
  pub stand : HasOrders made.given

-- the same for the parts of an input
pub record IsPlannedGiven (limits : Limits) (cycles : ℕ) (input : List ℕ) (made : PlannedGiven) : Type 0 where
  pub streams : List PlannedText
  pub holds : planned_scenario limits cycles input ≡ Ok (scenario_given made.given, streams)
  pub planned : ArePlannedBeside streams made.given.requests.items made.deadlines.items
  pub may : MayBeRun cycles (scenario_given made.given)
  pub stand : HasOrders made.given

-- the deliveries are those in the one-thread book of the scenario
pub record AreDeliveries (cycles : ℕ) (s : Scenario) (streams : List PlannedText) (deliveries : List Delivery) : Type 0 where
  pub book : Contents
  pub is_book : IsBookOfScenario cycles s book
  pub are : deliveries ≡ deliveries_of (run_of_scenario cycles s) streams book

-- the same for any streams with these requests and deadlines
abbrev pub AreDeliveriesOf : ℕ → PlannedGiven → List Delivery → Type 0
AreDeliveriesOf cycles planned deliveries = (streams : List PlannedText) → ArePlannedBeside streams planned.given.requests.items planned.deadlines.items →
    AreDeliveries cycles (scenario_given planned.given) streams deliveries
