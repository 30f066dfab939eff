-- A text with the sums of a scenario's book.
use Rattle.std.specs.Prelude.{ℕ, ◌≡◌, List}
use Rattle.cqf_model.specs.Book.{Contents}
use Rattle.cqf_report.specs.LinkSums.{links_text}
use Rattle.cqf_program_scenario.specs.Books.{IsBookOfScenario}
use Rattle.cqf_program_scenario.specs.Scenario.{Scenario}

-- a text is that of the sums by link of the one book of the scenario's history over some cycles
pub record WritesTheSums (cycles : ℕ) (s : Scenario) (text : List ℕ) : Type 0 where
  pub book : Contents
  pub is_book : IsBookOfScenario cycles s book
  pub written : text ≡ links_text s.domain book
