-- The summary that is made is that of the input's scenario.
use Rattle.std.proofs.Common.{◌≡◌, ◌∙◌, ℕ, List, ap, length, map, sym}
use Rattle.cqf_lists.proofs.EachBelow.{length-singles}
use Rattle.cqf_model.specs.declared.limits.Limits.{Limits}
use Rattle.cqf_model.specs.History.{table_at}
use Rattle.cqf_model.specs.Policing.{numbered}
use Rattle.cqf_admission.specs.Asking.{asked_paced}
use Rattle.cqf_program_scenario.specs.Calls.{history_of}
use Rattle.cqf_program_scenario.specs.Closing.{scenario_given}
use Rattle.cqf_program_runs.specs.declared.deliveries.noted.Noted.{Noted}
use Rattle.cqf_program_runs.specs.declared.deliveries.reading.PlannedGiven.{PlannedGiven}
use Rattle.cqf_program_runs.specs.declared.deliveries.under_way.UnderWay.{UnderWay}
use Rattle.cqf_program_runs.specs.Deliveries.Deadlines.{deadline_in}
use Rattle.cqf_program_runs.specs.Deliveries.Reading.{IsPlannedGiven}
use Rattle.cqf_program_runs.specs.Deliveries.Ending.{deliveries_over, over_by}
use Rattle.cqf_program_runs.specs.Deliveries.Following.{IsNotedOf}
use Rattle.cqf_program_runs.specs.Deliveries.PlannedScenario.{run_of_scenario}
use Rattle.cqf_program_runs.proofs.Judged.{due_is}
use Rattle.cqf_program_summary.specs.Summary.Gathering.{IsSummaryOf}
use Rattle.cqf_program_summary.specs.Summary.{Summary, offers_within, summary_by}
use Rattle.cqf_program_summary.specs.Summary.Output.{IsSummaryOutput}
use Rattle.cqf_program_summary.specs.Summary.Text.{text_of_summary}
use Rattle.cqf_program_summary.specs.Summary.Written.{written_streams}

-- by the notes about a scenario
pub IsSummaryOf-noted : (cycles : ℕ) (planned : PlannedGiven) (noted : Noted) (under_way : UnderWay) (summary : Summary)
    (is : IsNotedOf cycles planned noted under_way) →
    summary ≡ summary_by planned.given.domain (written_streams (map asked_paced planned.given.requests.items))
    (deadline_in (record { requests = planned.given.requests.items; deadlines = planned.deadlines.items }))
    (offers_within planned.given.domain cycles (numbered planned.given.offers.items)) (deliveries_over (over_by planned cycles noted is.whole)) →
    IsSummaryOf cycles planned summary
IsSummaryOf-noted cycles planned noted under_way summary is made streams those =
    let s = scenario_given planned.given in
    let reported = is.are streams those in
    let as_many : length (run_of_scenario cycles s).tables ≡ cycles = length-singles (table_at s.domain (history_of cycles s)) cycles in
    record {
      book = reported.book;
      is_book = reported.is_book;
      is = made ∙ (λ i. summary_by s.domain (written_streams (those.asked i))
          (λ name. due_is streams planned.given.requests.items planned.deadlines.items those name i)
          (offers_within s.domain (sym as_many i) (numbered s.offers)) (reported.are i));
    }

-- the text is the output
pub IsSummaryOutput-made : (limits : Limits) (cycles : ℕ) (input : List ℕ) (planned : PlannedGiven) (summary : Summary) → IsPlannedGiven limits cycles input planned →
    IsSummaryOf cycles planned summary → IsSummaryOutput limits cycles input (text_of_summary summary)
IsSummaryOutput-made limits cycles input planned summary given of =
    let made = of given.streams given.planned in
    record {
      found = (scenario_given planned.given, given.streams);
      holds = given.holds;
      book = made.book;
      is_book = made.is_book;
      written = ap text_of_summary made.is;
    }
