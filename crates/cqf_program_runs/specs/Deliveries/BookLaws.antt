-- Deliveries by verdicts, and by a book.
use Rattle.std.specs.Prelude.{ℕ, ◌≡◌, List, Option, length}
use Rattle.cqf_model.specs.declared.frames.Offered.{Offered}
use Rattle.cqf_model.specs.Book.{Contents}
use Rattle.cqf_model.specs.Run.{Run}
use Rattle.cqf_model.specs.Policing.{Verdict, numbered}
use Rattle.cqf_model.specs.Promise.{SaysTheShift}
use Rattle.cqf_topology.specs.PlannedText.{PlannedText}
use Rattle.cqf_laws_coverage.specs.Counted.{AreDecided}
use Rattle.cqf_program_runs.specs.Deliveries.ByVerdict.{deliveries_of_all, known_by}
use Rattle.cqf_program_runs.specs.Deliveries.{deadline_named, deliveries_of, whole_on}

-- if a book says the shift, its deliveries are those by correct verdicts: a covered offer goes to each listener of the
-- row that covers it, and every other is dropped for the first reason that applies
abbrev pub VerdictsGiveDeliveries : Type 0
VerdictsGiveDeliveries =
    (run : Run) (streams : List PlannedText) (book : Contents) (due : List ℕ → Option ℕ) (verdict : Offered → Verdict) → SaysTheShift run book →
    ((name : List ℕ) → due name ≡ deadline_named streams name) → AreDecided run verdict →
    deliveries_of_all run.domain (length run.tables) (known_by due (whole_on run.domain book.starts)) verdict (numbered run.offers)
    ≡ deliveries_of run streams book
