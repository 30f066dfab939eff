-- What the output of the command `line` writes.
use Rattle.std.specs.Prelude.{ℕ, ◌≡◌, List}
use Rattle.cqf_program_scenario.specs.ExactBooks.{WritesBook}
use Rattle.cqf_program_runs.specs.declared.line.outputs.LineOutput.{LineOutput}
use Rattle.cqf_report.specs.Books.{text_of_book}

-- the text of an output: that of a book whose parts the output has
abbrev pub IsLineWritten : LineOutput → List ℕ → Type 0
IsLineWritten output text = WritesBook output.book (λ book. text ≡ text_of_book output.domain book)
