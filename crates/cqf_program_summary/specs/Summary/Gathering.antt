-- The summary of a run that is over, and of a scenario that was read.
use Rattle.std.specs.Prelude.{ℕ, ◌≡◌, ◌*◌, List, [], Option, take}
use Rattle.cqf_model.specs.Book.{Contents}
use Rattle.cqf_model.specs.History.{Asked}
use Rattle.cqf_model.specs.Policing.{numbered}
use Rattle.cqf_topology.specs.PlannedText.{PlannedText}
use Rattle.cqf_program_scenario.specs.Books.{IsBookOfScenario}
use Rattle.cqf_program_scenario.specs.Closing.{scenario_given}
use Rattle.cqf_program_runs.specs.declared.deliveries.reading.PlannedGiven.{PlannedGiven}
use Rattle.cqf_program_runs.specs.Deliveries.Reading.{ArePlannedBeside}
use Rattle.cqf_program_runs.specs.Deliveries.Ending.{Over, deliveries_among, deliveries_over}
use Rattle.cqf_program_runs.specs.Deliveries.PlannedScenario.{run_of_scenario}
use Rattle.cqf_program_summary.specs.Summary.Counting.{SummaryWithin}
use Rattle.cqf_program_summary.specs.Summary.{Summary, offers_within, summary_by, summary_of}
use Rattle.cqf_program_summary.specs.Summary.Written.{written_streams}

-- the summary by the offers of a run up to an index, for any streams and deadlines with which the summary began
abbrev pub IsSummaryOfFirst : Over → ℕ → Summary → Summary → Type 0
IsSummaryOfFirst over index before after = (streams : List Asked) (due : List ℕ → Option ℕ) → before ≡ summary_by over.domain (written_streams streams) due [] [] →
    after ≡ summary_by over.domain (written_streams streams) due (offers_within over.domain over.cycles (take index (numbered over.offers)))
    (deliveries_among over (take index (numbered over.offers)))

-- a summary is that by the first offers, and no count exceeds what these offers allow: 200 deliveries each, and the offer itself
pub record IsSummarySoFar (over : Over) (index : ℕ) (before after : Summary) : Type 0 where
  pub is : IsSummaryOfFirst over index before after
  pub within : SummaryWithin (201 * index) after

-- the summary by all offers
abbrev pub IsSummaryOver : Over → Summary → Summary → Type 0
IsSummaryOver over before after = (streams : List Asked) (due : List ℕ → Option ℕ) → before ≡ summary_by over.domain (written_streams streams) due [] [] →
    after ≡ summary_by over.domain (written_streams streams) due (offers_within over.domain over.cycles (numbered over.offers)) (deliveries_over over)

-- a summary is that by the one-thread book of a scenario
pub record IsSummaryBy (cycles : ℕ) (planned : PlannedGiven) (streams : List PlannedText) (summary : Summary) : Type 0 where
  pub book : Contents
  pub is_book : IsBookOfScenario cycles (scenario_given planned.given) book
  pub is : summary ≡ summary_of (run_of_scenario cycles (scenario_given planned.given)) streams book

-- a summary is that of a scenario, for any streams with these requests and deadlines
abbrev pub IsSummaryOf : ℕ → PlannedGiven → Summary → Type 0
IsSummaryOf cycles planned summary = (streams : List PlannedText) → ArePlannedBeside streams planned.given.requests.items planned.deadlines.items →
    IsSummaryBy cycles planned streams summary
