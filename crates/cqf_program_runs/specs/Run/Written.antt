-- What the output of the command `run` writes.
use Rattle.std.specs.Prelude.{ℕ, ◌≡◌, List}
use Rattle.cqf_model.specs.Book.{Contents}
use Rattle.cqf_admission.specs.declared.logs.Logged.{Logged}
use Rattle.cqf_program_scenario.specs.declared.given.RunInput.{RunInput}
use Rattle.cqf_program_scenario.specs.Books.{IsBookOfScenario}
use Rattle.cqf_program_scenario.specs.Calls.{history_of}
use Rattle.cqf_program_scenario.specs.ExactBooks.{ExactParts, WritesBook}
use Rattle.cqf_program_scenario.specs.Logged.{entries_in}
use Rattle.cqf_program_scenario.specs.Scenario.{Scenario}
use Rattle.cqf_program_runs.specs.Run.Output.{run_text}

-- the data of the output: a scenario, the entries of its log, and the parts of its book
pub record RunToWrite : Type 0 where
  pub given : RunInput
  pub entries : List Logged
  pub book : ExactParts

-- the text of an output: that of its history, and of a book whose parts the output has
abbrev pub IsRunWritten : RunToWrite → List ℕ → Type 0
IsRunWritten output text = WritesBook output.book (λ book. text ≡ run_text output.given.domain (entries_in output.given output.entries) book)

-- an output writes the text of a scenario's history over some cycles, and of the one-thread book of that history
abbrev pub WritesTheRun : ℕ → Scenario → RunToWrite → Type 0
WritesTheRun cycles s output = (text : List ℕ) × IsRunWritten output text
    × (book : Contents) × IsBookOfScenario cycles s book × (text ≡ run_text s.domain (history_of cycles s) book)
