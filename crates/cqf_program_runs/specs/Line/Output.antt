-- What the command `line` returns for its input: the book of the smallest network, or the line of the input's first
-- fault.
use Rattle.std.specs.Prelude.{ℕ, ◌≡◌, List, Result, Ok}
use Rattle.cqf_model.specs.Book.{Contents}
use Rattle.cqf_model.specs.Domain.{Domain}
use Rattle.cqf_model.specs.History.{tables_of}
use Rattle.cqf_model.specs.declared.frames.Offer.{Offer}
use Rattle.cqf_text.specs.Parts.{parts_of}
use Rattle.cqf_report.specs.Books.{text_of_book}
use Rattle.cqf_report.specs.Offers.{offers_of}
use Rattle.cqf_lists.specs.Results.{and_then}
use Rattle.cqf_program_scenario.specs.Lines.{offers_line}
use Rattle.cqf_program_scenario.specs.Parts.{one_part}
use Rattle.cqf_program_scenario.specs.Books.{IsBookOfScenario}
use Rattle.cqf_program_scenario.specs.Calls.{history_of}
use Rattle.cqf_output.specs.Stops.{or_line}
use Rattle.cqf_program_runs.specs.Line.{line_domain, line_scenario, line_tables}

-- the offers of an input to a domain, or the line of the first fault: of the parts, then of the offers
abbrev pub offers_input : Domain → List ℕ → Result (List Offer) (List ℕ)
offers_input d input = and_then (one_part (parts_of input)) (λ part. or_line offers_line (offers_of d part))

-- the offers of an input to the line
abbrev pub line_input : List ℕ → Result (List Offer) (List ℕ)
line_input input = offers_input line_domain input

-- the text is that of the one-thread book of the line's history over these offers; there is exactly one such book. By
-- that history the stream is live in every cycle
pub record IsBookText (cycles : ℕ) (offers : List Offer) (text : List ℕ) : Type 0 where
  pub book : Contents
  pub is_book : IsBookOfScenario cycles (line_scenario offers) book
  pub live : tables_of line_domain (history_of cycles (line_scenario offers)) cycles ≡ line_tables cycles
  pub written : text ≡ text_of_book line_domain book

-- the output is the text of the one-thread book, for the input's offers
pub record IsLineOutput (cycles : ℕ) (input output : List ℕ) : Type 0 where
  pub offers : List Offer
  pub holds : line_input input ≡ Ok offers
  pub text : IsBookText cycles offers output
