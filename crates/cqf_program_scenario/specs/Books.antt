-- The book of a scenario.
use Rattle.std.specs.Prelude.{ℕ, ◌≡◌}
use Rattle.cqf_model.specs.Book.{Contents}
use Rattle.cqf_model.specs.Headline.{KeepsThePromise}
use Rattle.cqf_model.specs.HistoryBook.{IsBookOfHistory, run_of_history}
use Rattle.cqf_program_scenario.specs.Calls.{history_of}
use Rattle.cqf_program_scenario.specs.Scenario.{Scenario}

-- the single-threaded book of a scenario's history over this number of cycles. There is exactly one such book. It has each covered frame on
-- each link in the cycle that the shift says, and loads, instants and latencies are as promised
pub record IsBookOfScenario (cycles : ℕ) (s : Scenario) (book : Contents) : Type 0 where
  pub is_book : IsBookOfHistory s.domain (history_of cycles s) s.offers s.background cycles book
  pub only : (other : Contents) → IsBookOfHistory s.domain (history_of cycles s) s.offers s.background cycles other → other ≡ book
  pub promise : KeepsThePromise (run_of_history s.domain (history_of cycles s) s.offers s.background cycles) book
