-- The parts of a scenario's book.
use Rattle.std.proofs.Common.{◌≡◌, ◌∙◌, ℕ, [], List, ap, arith, length, subst, sym}
use Rattle.cqf_lists.proofs.EachBelow.{length-singles}
use Rattle.cqf_model.specs.declared.frames.Background.{Background}
use Rattle.cqf_model.specs.declared.frames.Offer.{Offer}
use Rattle.cqf_model.specs.declared.topology.Row.{Row}
use Rattle.cqf_model.specs.Book.{Contents, background_of, starts_of}
use Rattle.cqf_model.specs.Domain.{Domain, IsAccepted}
use Rattle.cqf_model.specs.History.{IsLegalHistory, Recorded, seals, streams_of, table_at, tables_of}
use Rattle.cqf_model.specs.HistoryBook.{run_of_history}
use Rattle.cqf_instants_run.specs.declared.judged.EdgeVerdict.{EdgeVerdict}
use Rattle.cqf_instants_run.specs.Coverage.{AreJudged}
use Rattle.cqf_instants_run.specs.Drops.{AreDropsOfHistory}
use Rattle.cqf_instants_run.specs.Parts.{AreBackgroundOfHistory}
use Rattle.cqf_instants_run.proofs.OfParts.{no_background}
use Rattle.cqf_program_scenario.specs.ExactBooks.{ExactParts, WritesBook, WritesStarts}
use Rattle.cqf_program_scenario.specs.Books.{IsBookOfScenario}
use Rattle.cqf_program_scenario.specs.Calls.{history_of}
use Rattle.cqf_program_scenario.specs.Closing.{MayBeRun}
use Rattle.cqf_program_scenario.specs.Scenario.{Scenario}
use Rattle.cqf_program_scenario.proofs.BookOf.{scenario_has_book}
use Rattle.cqf_instants.specs.Progress.{AreStartsOf, Progress}
use Rattle.cqf_laws_history.specs.HistoryLaws.{TablesAreOrderly}
use Rattle.cqf_laws_coverage.specs.Reported.{BookOfHistoryIsThere}
use Rattle.cqf_instants_run.specs.HistoryStarts.{IsLaidOutHistoryOf}
use Rattle.cqf_instants_run.specs.Passes.{IsPassOf}
use Rattle.cqf_laws_shift.specs.Run.{IsLegalRun}

-- a history by whose streams the offers are judged
pub IsHistoryOf-judged : (d : Domain) (cycles : ℕ) (rows : List Row) (offers : List Offer) (covered edge_verdicts : List EdgeVerdict) (entries : List Recorded) →
    IsLegalHistory d entries → seals entries ≡ cycles → streams_of d entries ≡ rows →
    ((es : List Recorded) → IsLegalHistory d es → streams_of d es ≡ rows → AreJudged d es rows offers (length offers) covered) →
    edge_verdicts ≡ covered → IsLaidOutHistoryOf d cycles rows offers edge_verdicts entries
IsHistoryOf-judged d cycles rows offers covered edge_verdicts entries legal closed streams judges same = record {
  legal = legal;
  sealed = omega (arith, closed);
  streams = streams;
  judged = subst (λ (js : List EdgeVerdict). AreJudged d entries rows offers (length offers) js) (sym same) (judges entries legal streams);
}

-- the same with equal lists
pub IsHistoryOf-as : (d : Domain) (cycles : ℕ) (rows rows-as : List Row) (offers offers-as : List Offer) (edge_verdicts edge_verdicts-as : List EdgeVerdict)
    (entries : List Recorded) → rows-as ≡ rows → offers-as ≡ offers → edge_verdicts-as ≡ edge_verdicts → IsLaidOutHistoryOf d cycles rows offers edge_verdicts entries →
    IsLaidOutHistoryOf d cycles rows-as offers-as edge_verdicts-as entries
IsHistoryOf-as d cycles rows rows-as offers offers-as edge_verdicts edge_verdicts-as entries one two three is =
    subst (λ (js : List EdgeVerdict). IsLaidOutHistoryOf d cycles rows-as offers-as js entries) (sym three)
    (subst (λ (os : List Offer). IsLaidOutHistoryOf d cycles rows-as os edge_verdicts entries) (sym two)
    (subst (λ (rs : List Row). IsLaidOutHistoryOf d cycles rs offers edge_verdicts entries) (sym one) is))

-- if there are no background frames, none starts
pub none_backed : (d : Domain) (entries : List Recorded) (offers : List Offer) (background : List Background) (cycles : ℕ) → background ≡ [] →
    AreBackgroundOfHistory d entries offers background cycles []
none_backed d entries offers background cycles quiet net legal =
    sym (no_background (run_of_history d entries offers background cycles) quiet net legal cycles)

-- the legal run of a scenario's book
run_of_book : TablesAreOrderly → (cycles : ℕ) (s : Scenario) (book : Contents) → IsAccepted s.domain → MayBeRun cycles s →
    IsLegalHistory s.domain (history_of cycles s) → (is : IsBookOfScenario cycles s book) →
    IsLegalRun (run_of_history s.domain (history_of cycles s) s.offers s.background cycles) is.is_book.is_book.net
run_of_book are_orderly cycles s book accepted may legal is = record {
  accepted = accepted;
  orderly = are_orderly s.domain (history_of cycles s) cycles legal is.is_book.sealed;
  offered = may.offers;
  background = may.background;
  legal = is.is_book.is_book.legal;
}

-- there are as many tables as cycles
as_many : (cycles : ℕ) (s : Scenario) → cycles ≡ length (tables_of s.domain (history_of cycles s) cycles)
as_many cycles s = sym (length-singles (table_at s.domain (history_of cycles s)) cycles)

-- a pass of a scenario's history yields the starts of its book
pub starts_are_written : TablesAreOrderly → BookOfHistoryIsThere → (cycles : ℕ) (s : Scenario) (rows : List Row) (edge_verdicts : List EdgeVerdict)
    (pass : Progress) → IsAccepted s.domain → MayBeRun cycles s → IsLaidOutHistoryOf s.domain cycles rows s.offers edge_verdicts (history_of cycles s) →
    IsPassOf s.domain cycles rows s.offers edge_verdicts pass → WritesStarts pass (IsBookOfScenario cycles s)
starts_are_written are_orderly is_there cycles s rows edge_verdicts pass accepted may history reports =
    let entries = history_of cycles s in
    let found = scenario_has_book is_there cycles s accepted may history.legal history.sealed in
    let book : Contents = found.0 in
    let is : IsBookOfScenario cycles s book = found.1 in
    let one = is.is_book.is_book in
    let starts : starts_of s.domain cycles one.net.carried ≡ book.starts =
    ap (λ (n : ℕ). starts_of s.domain n one.net.carried) (as_many cycles s) ∙ sym one.are_starts in (
      book,
      subst (AreStartsOf pass.basis) starts
          (reports.reports entries s.background one.net history (run_of_book are_orderly cycles s book accepted may history.legal is)),
      is,
    )

-- with the starts of background frames, and the drops, the book can be written
pub parts_are_written : TablesAreOrderly → (cycles : ℕ) (s : Scenario) (parts : ExactParts) → IsAccepted s.domain → MayBeRun cycles s →
    IsLegalHistory s.domain (history_of cycles s) → WritesStarts parts.pass (IsBookOfScenario cycles s) →
    AreBackgroundOfHistory s.domain (history_of cycles s) s.offers s.background cycles parts.background →
    AreDropsOfHistory s.domain (history_of cycles s) s.offers cycles parts.drops → WritesBook parts (IsBookOfScenario cycles s)
parts_are_written are_orderly cycles s parts accepted may legal reported backed dropped =
    let book : Contents = reported.0 in
    let is : IsBookOfScenario cycles s book = reported.2 in
    let one = is.is_book.is_book in
    let background_starts : parts.background ≡ book.background =
    backed one.net (run_of_book are_orderly cycles s book accepted may legal is)
    ∙ ap (λ (n : ℕ). background_of s.domain n one.net.backed) (as_many cycles s) ∙ sym one.are_background in (
      book,
      record {
        are_starts = reported.1;
        are_background = sym background_starts;
        are_drops = sym (dropped s.background book may.background is.is_book);
      },
      is,
    )
