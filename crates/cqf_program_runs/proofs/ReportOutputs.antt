-- The sums of a scenario's columns are those of its book.
use Rattle.std.proofs.Common.{◌≡◌, ◌∙◌, ℕ, List, arith, sym}
use Rattle.cqf_model.specs.Domain.{IsAccepted}
use Rattle.cqf_model.specs.History.{IsLegalHistory, seals}
use Rattle.cqf_laws_coverage.specs.declared.column.Column.{Column}
use Rattle.cqf_laws_coverage.specs.Columns.{frames_by, octets_by}
use Rattle.cqf_laws_coverage.specs.Judged.{judged_of}
use Rattle.cqf_laws_coverage.specs.Reported.{BookOfHistoryIsThere}
use Rattle.cqf_report.specs.Columns.{columns_text}
use Rattle.cqf_report.specs.SumsWritten.{ReportIsWritten}
use Rattle.cqf_instants_run.specs.Columns.{AreSumsBy}
use Rattle.cqf_program_scenario.specs.Calls.{history_of}
use Rattle.cqf_program_scenario.specs.Closing.{MayBeRun}
use Rattle.cqf_program_scenario.specs.Scenario.{Scenario}
use Rattle.cqf_program_scenario.proofs.BookOf.{scenario_has_book}
use Rattle.cqf_program_runs.specs.Report.Writing.{WritesTheSums}

-- the sums of the columns tell the book
pub WritesTheSums-columns : ReportIsWritten → BookOfHistoryIsThere → (cycles : ℕ) (s : Scenario) (columns : List Column) (text : List ℕ) →
    IsAccepted s.domain → MayBeRun cycles s → IsLegalHistory s.domain (history_of cycles s) → seals (history_of cycles s) ≡ cycles →
    AreSumsBy s.domain cycles (judged_of s.domain (history_of cycles s) s.offers) s.offers columns →
    text ≡ columns_text s.domain (frames_by columns) (octets_by columns) → WritesTheSums cycles s text
WritesTheSums-columns reported is_there cycles s columns text accepted may legal closed by written =
    let found = scenario_has_book is_there cycles s accepted may legal (omega (arith, closed)) in
    record {
      book = found.0;
      is_book = found.1;
      written = written
          ∙ sym (reported s.domain (history_of cycles s) s.offers s.background cycles found.0 (frames_by columns) (octets_by columns) accepted legal
          may.offers may.background may.in_order found.1.is_book by.sums);
    }
