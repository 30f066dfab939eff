-- The result for the deliveries that were made is the result for the input.
use Rattle.std.proofs.Common.{◌≡◌, ◌∙◌, ℕ, List, Option, Some, None, Result, Err, ap, find, length, map, option_map, refl, subst, sym}
use Rattle.cqf_lists.specs.Results.{refuse}
use Rattle.cqf_lists.proofs.EachBelow.{length-singles}
use Rattle.cqf_model.specs.declared.limits.Limits.{Limits}
use Rattle.cqf_model.specs.declared.topology.Row.{Row}
use Rattle.cqf_model.specs.Book.{Contents}
use Rattle.cqf_model.specs.History.{Recorded, streams_of, table_at}
use Rattle.cqf_topology.specs.PlannedText.{PlannedText}
use Rattle.cqf_admission.specs.Asking.{asked_paced}
use Rattle.cqf_admission.specs.declared.logs.Logged.{Logged}
use Rattle.cqf_admission.specs.Ledger.{recorded_in}
use Rattle.cqf_program_scenario.specs.declared.given.RunInput.{RunInput}
use Rattle.cqf_program_scenario.specs.Calls.{history_of}
use Rattle.cqf_program_scenario.specs.declared.outcomes.ScenarioOutcome.{ScenarioOutcome}
use Rattle.cqf_program_scenario.specs.Books.{IsBookOfScenario}
use Rattle.cqf_program_scenario.specs.Outcomes.{IsOutcomeOf}
use Rattle.cqf_program_scenario.specs.Closing.{scenario_given}
use Rattle.cqf_program_scenario.specs.Scenario.{Scenario}
use Rattle.cqf_output.specs.declared.stops.Stop.{Stop}
use Rattle.cqf_output.specs.Stops.{EndsWith, IsRefused}
use Rattle.cqf_program_runs.specs.declared.check.checked.CheckCounts.{CheckCounts}
use Rattle.cqf_program_runs.specs.declared.check.checked.OfferCounts.{OfferCounts}
use Rattle.cqf_program_runs.specs.declared.deliveries.delivery.Delivery.{Delivery}
use Rattle.cqf_program_runs.specs.Check.Checked.{checked_by, checked_deliveries, complaint_line, counts_of, finished, is_bad, offer_counts, run_offers}
use Rattle.cqf_program_runs.specs.Deliveries.{fate_of}
use Rattle.cqf_program_runs.specs.Deliveries.Text.{text_of_deliveries}
use Rattle.cqf_program_runs.specs.declared.deliveries.reading.PlannedGiven.{PlannedGiven}
use Rattle.cqf_program_runs.specs.Check.Checking.{AreOffersCounted, IsCheckedGiven, IsRefusedGiven}
use Rattle.cqf_program_runs.specs.Check.Output.{IsCheckRefusal, IsChecked, IsCheckedOf, IsCheckedScenario}
use Rattle.cqf_program_runs.specs.Deliveries.Output.{IsDeliveriesOutput}
use Rattle.cqf_program_runs.specs.Deliveries.PlannedScenario.{planned_scenario, run_of_scenario}
use Rattle.cqf_program_runs.specs.Deliveries.Reading.{AreDeliveries, AreDeliveriesOf, IsPlannedGiven}
use Rattle.cqf_program_runs.specs.Check.RefusedCalls.{first_refused, refused_call_line}
use Rattle.cqf_program_runs.specs.Check.RefusedInLog.{refused_from}
use Rattle.cqf_program_runs.proofs.RefusedInLogs.{first_refused-log}

-- the text of the deliveries is the output
pub IsDeliveriesOutput-made : (limits : Limits) (cycles : ℕ) (input : List ℕ) (planned : PlannedGiven) (deliveries : List Delivery) → IsPlannedGiven limits cycles input planned →
    AreDeliveriesOf cycles planned deliveries → IsDeliveriesOutput limits cycles input (text_of_deliveries deliveries)
IsDeliveriesOutput-made limits cycles input planned deliveries given are =
    let made = are given.streams given.planned in
    record {
      found = (scenario_given planned.given, given.streams);
      holds = given.holds;
      book = made.book;
      is_book = made.is_book;
      written = ap text_of_deliveries made.are;
    }

-- their result is that for the scenario
pub IsCheckedScenario-made : (cycles : ℕ) (s : Scenario) (streams : List PlannedText) (deliveries : List Delivery)
    (found : Result (List ℕ) (List ℕ)) → first_refused (history_of cycles s) ≡ None → AreDeliveries cycles s streams deliveries →
    checked_by deliveries (counts_of (offer_counts s.domain cycles (streams_of s.domain (history_of cycles s)) s.offers) deliveries) ≡ found →
    IsCheckedScenario cycles s streams found
IsCheckedScenario-made cycles s streams deliveries found granted made reported =
    let rows = streams_of s.domain (history_of cycles s) in
    let run = run_of_scenario cycles s in
    -- there is a table for each cycle
    let as_run : length run.tables ≡ cycles = length-singles (table_at s.domain (history_of cycles s)) cycles in
    record {
      book = made.book;
      is_book = made.is_book;
      reported = ap (λ (first : Option (ℕ × Recorded)). refuse first refused_call_line (checked_deliveries rows run streams made.book)) granted
          ∙ ap (λ (ds : List Delivery). checked_by ds (counts_of (run_offers rows run) ds)) (sym made.are)
          ∙ ap (λ (n : ℕ). checked_by deliveries (counts_of (offer_counts s.domain n rows s.offers) deliveries)) as_run
          ∙ reported;
    }

-- and for the input
pub IsChecked-given : (limits : Limits) (cycles : ℕ) (input : List ℕ) (planned : PlannedGiven) (found : Result (List ℕ) (List ℕ)) → IsPlannedGiven limits cycles input planned →
    IsCheckedGiven cycles planned found → IsChecked limits cycles input found
IsChecked-given limits cycles input planned found given reported =
    subst (λ read. IsCheckedOf cycles read found) (sym given.holds) (reported given.streams given.planned)

pub IsCheckRefusal-given : (limits : Limits) (cycles : ℕ) (input : List ℕ) (planned : PlannedGiven) (stop : Stop) → IsPlannedGiven limits cycles input planned →
    IsRefusedGiven cycles planned stop → IsCheckRefusal limits cycles input stop
IsCheckRefusal-given limits cycles input planned stop given refused = record {
  statuses = refused.statuses;
  line = λ one. IsChecked-given limits cycles input planned (Err stop.text.items) given (refused.line one);
  memory = refused.memory;
}

-- if an input is refused, the result is the line of its first fault
pub IsCheckRefusal-read : (limits : Limits) (cycles : ℕ) (input : List ℕ) (stop : Stop) → IsRefused (planned_scenario limits cycles input) stop → IsCheckRefusal limits cycles input stop
IsCheckRefusal-read limits cycles input stop refused = record {
  statuses = refused.statuses;
  line = λ one. subst (λ read. IsCheckedOf cycles read (Err stop.text.items)) (sym (refused.line one)) refl;
  memory = refused.memory;
}

-- the result for deliveries if none is bad, and if one is
module _ (deliveries : List Delivery) (counts : CheckCounts) where
  pub checked_none : find (λ (delivery : Delivery). is_bad (fate_of delivery)) deliveries ≡ None → checked_by deliveries counts ≡ finished counts
  checked_none is = ap (λ (found : Option Delivery). refuse found complaint_line (finished counts)) is

  pub checked_some : (bad : Delivery) → find (λ (delivery : Delivery). is_bad (fate_of delivery)) deliveries ≡ Some bad →
      checked_by deliveries counts ≡ Err (complaint_line bad)
  checked_some bad is = ap (λ (found : Option Delivery). refuse found complaint_line (finished counts)) is

-- a stop with a line that is the result
pub IsRefused-line : {A : Type 0} (found : Result A (List ℕ)) (line : List ℕ) (stop : Stop) → found ≡ Err line → EndsWith 1 line stop → IsRefused found stop
IsRefused-line found line stop is ends = record {
  statuses = ends.statuses;
  line = λ one. is ∙ ap Err (sym (ends.line_is one));
  memory = ends.memory;
}

-- the result for the deliveries that were made is the result for what was read
module _ (cycles : ℕ) (planned : PlannedGiven) (deliveries : List Delivery) (counts : CheckCounts)
    (granted : first_refused (history_of cycles (scenario_given planned.given)) ≡ None) (are : AreDeliveriesOf cycles planned deliveries)
    (offers : OfferCounts) (are_offers : AreOffersCounted cycles planned offers) (counted : counts ≡ counts_of offers deliveries) where
  pub IsCheckedGiven-made : (found : Result (List ℕ) (List ℕ)) → checked_by deliveries counts ≡ found → IsCheckedGiven cycles planned found
  IsCheckedGiven-made found reported streams those =
      IsCheckedScenario-made cycles (scenario_given planned.given) streams deliveries found granted (are streams those)
      (ap (checked_by deliveries) (ap (λ (o : OfferCounts). counts_of o deliveries) (sym are_offers) ∙ sym counted) ∙ reported)

  pub IsRefusedGiven-made : (stop : Stop) → IsRefused (checked_by deliveries counts) stop → IsRefusedGiven cycles planned stop
  IsRefusedGiven-made stop refused = record {
    statuses = refused.statuses;
    line = λ one. IsCheckedGiven-made (Err stop.text.items) (refused.line one);
    memory = refused.memory;
  }

-- the first refused call of a scenario's log is that of its history
pub refused_is : (cycles : ℕ) (given : RunInput) (outcome : ScenarioOutcome) (first : Option (ℕ × Logged)) → IsOutcomeOf cycles given outcome →
    refused_from 1 outcome.entries.items ≡ first → first_refused (history_of cycles (scenario_given given))
    ≡ option_map (λ (call : ℕ × Logged). (call.0, recorded_in (map asked_paced given.requests.items) given.script.items call.1)) first
refused_is cycles given outcome first comes is =
    ap first_refused (sym comes.entries) ∙ first_refused-log (map asked_paced given.requests.items) given.script.items outcome.entries.items
    ∙ ap (option_map (λ (call : ℕ × Logged). (call.0, recorded_in (map asked_paced given.requests.items) given.script.items call.1))) is

-- and its line is the result for what was read
pub IsRefusedGiven-call : (cycles : ℕ) (planned : PlannedGiven) (outcome : ScenarioOutcome) (book : Contents) (call : ℕ × Logged) (stop : Stop) →
    IsOutcomeOf cycles planned.given outcome → IsBookOfScenario cycles (scenario_given planned.given) book →
    refused_from 1 outcome.entries.items ≡ Some call →
    EndsWith 1 (refused_call_line (call.0, recorded_in (map asked_paced planned.given.requests.items) planned.given.script.items call.1)) stop →
    IsRefusedGiven cycles planned stop
IsRefusedGiven-call cycles planned outcome book call stop comes is_book is ends = record {
  statuses = ends.statuses;
  line = λ one streams those. record {
    book = book;
    is_book = is_book;
    reported = ap (λ (first : Option (ℕ × Recorded)). refuse first refused_call_line (checked_deliveries
        (streams_of planned.given.domain (history_of cycles (scenario_given planned.given))) (run_of_scenario cycles (scenario_given planned.given))
        streams book)) (refused_is cycles planned.given outcome (Some call) comes is)
        ∙ ap Err (sym (ends.line_is one));
  };
  memory = ends.memory;
}

-- equal results are refused alike
pub IsRefused-same : {A : Type 0} (found other : Result A (List ℕ)) (stop : Stop) → found ≡ other → IsRefused other stop → IsRefused found stop
IsRefused-same {A} found other stop is refused = subst (λ (r : Result A (List ℕ)). IsRefused r stop) (sym is) refused
