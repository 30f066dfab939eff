-- What was prepared for the frames of a scenario yields the book's starts and drops of them.
use Rattle.std.proofs.Common.{ℕ, ◌≡◌, ◌∙◌, ◌<◌, ◌≤◌, List, AllPairs, Contains, ap, arith, length, refl, subst, sym}
use Rattle.std.specs.Prelude.{slice_get}
use Rattle.std.proofs.lemmas.List.Kept.{AllPairs-filter}
use Rattle.std.proofs.lemmas.List.Sorted.{Contains-permutation, IsPermutation-sym}
use Rattle.cqf_lists.proofs.EachBelow.{length-singles}
use Rattle.cqf_instants.specs.Progress.{AreStartsOf, Progress}
use Rattle.cqf_instants_run.specs.Columns.{verdict_at}
use Rattle.cqf_instants_run.specs.declared.judged.EdgeVerdict.{EdgeVerdict}
use Rattle.cqf_laws_coverage.specs.Counted.{AreDecided}
use Rattle.cqf_model.specs.declared.frames.Dropped.{Dropped}
use Rattle.cqf_model.specs.declared.frames.Offer.{Offer}
use Rattle.cqf_model.specs.declared.topology.Row.{Row}
use Rattle.cqf_model.specs.Book.{Contents}
use Rattle.cqf_model.specs.Domain.{IsAccepted}
use Rattle.cqf_model.specs.History.{table_at}
use Rattle.cqf_model.specs.HistoryBook.{run_of_history}
use Rattle.cqf_model.specs.Run.{Run}
use Rattle.cqf_model.specs.Table.{AreOrderly}
use Rattle.cqf_program_runs.specs.Deliveries.UnderWay.{HopNumbersAreWithin}
use Rattle.cqf_program_scenario.proofs.InTime.{starts_in_time}
use Rattle.cqf_program_scenario.specs.Books.{IsBookOfScenario}
use Rattle.cqf_program_scenario.specs.Calls.{history_of}
use Rattle.cqf_program_scenario.specs.Scenario.{Scenario}
use Rattle.cqf_program_summary.specs.declared.hops.legs.Leg.{Leg}
use Rattle.cqf_program_summary.specs.declared.hops.preparing.Prepared.{Prepared}
use Rattle.cqf_program_summary.specs.declared.hops.rounds.Round.{Round}
use Rattle.cqf_program_summary.specs.Hops.Legs.{AreApart, Wanted, frame_of, is_wanted, legs_of_book, wanted_legs}
use Rattle.cqf_program_summary.specs.Hops.Output.{WritesHopsOf}
use Rattle.cqf_program_summary.specs.Hops.Prepared.{AreDropsByFrame, IsPreparedFor, written_with}
use Rattle.cqf_program_summary.specs.Hops.Rounds.{AreRounds, CanBeWritten, HaveRoom, Source, legs_of_run}
use Rattle.cqf_program_summary.proofs.OfBook.{all_apart, drop_number, from_run, start_or_drop, starts_soon, to_run}
use Rattle.cqf_program_summary.proofs.Order.{in_some_order}

module _ (cycles : ℕ) (s : Scenario) (wanted : Wanted) (prepared : Prepared) (for_it : IsPreparedFor cycles s wanted prepared) where
  abbrev book : Contents
  book = for_it.book

  abbrev run : Run
  run = run_of_history s.domain (history_of cycles s) s.offers s.background cycles

  book_apart : AllPairs AreApart (wanted_legs s.offers wanted book)
  book_apart =
      AllPairs-filter AreApart (λ (x : Leg). is_wanted s.offers wanted (frame_of x)) (legs_of_book book)
      (all_apart run book for_it.is_book.promise.says book.drops (λ z c. c) for_it.is_book.promise.says.once_dropped)

  pub writes_hops : WritesHopsOf cycles s wanted (written_with s.domain s.offers prepared)
  writes_hops =
      let sorted = in_some_order (wanted_legs s.offers wanted book) book_apart in
      let source : Source = record { offers = s.offers; wanted = prepared.wanted; drops = prepared.drops.items } in
      let same : source ≡ record { offers = s.offers; wanted = wanted; drops = prepared.drops.items } =
      ap {B = Source} (λ (w : Wanted). record { offers = s.offers; wanted = w; drops = prepared.drops.items }) for_it.is_wanted in
      record {
        book = book;
        is_book = for_it.is_book;
        legs = sorted.0;
        are = sorted.1;
        text = record {
          starts = book.starts;
          can = for_it.can;
          legs = sorted.0;
          are = record {
            in_order = sorted.1.in_order;
            each = λ x among. Contains-permutation (wanted_legs s.offers wanted book) sorted.0 x sorted.1.same
                (from_run s.offers wanted book prepared.drops.items for_it.drops x
                (subst (λ (z : Source). Contains (legs_of_run z book.starts) x) same among));
            only = λ x among. subst (λ (z : Source). Contains (legs_of_run z book.starts) x) (sym same)
                (to_run s.offers wanted book prepared.drops.items for_it.drops x
                (Contains-permutation sorted.0 (wanted_legs s.offers wanted book) x
                (IsPermutation-sym (wanted_legs s.offers wanted book) sorted.0 sorted.1.same) among));
          };
          is = refl;
        };
      }

-- what was prepared can be written
pub can_be_written : (cycles : ℕ) (s : Scenario) (source : Source) (book : Contents) (pass : Progress) (rows : List Row) (edge_verdicts : List EdgeVerdict)
    (hop_number kept here : ℕ) (rounds : List Round) → IsBookOfScenario cycles s book → AreStartsOf pass.basis book.starts → pass.reported ≡ 0 →
    source.offers ≡ s.offers → AreDropsByFrame book source.drops →
    AreOrderly s.domain (run_of_history s.domain (history_of cycles s) s.offers s.background cycles).tables →
    AreDecided (run_of_history s.domain (history_of cycles s) s.offers s.background cycles) (verdict_at s.domain rows edge_verdicts) →
    HopNumbersAreWithin rows hop_number → IsAccepted s.domain → cycles ≤ 100000 → AreRounds s.domain hop_number source.offers source.drops rounds →
    HaveRoom book.starts source rounds kept here →
    CanBeWritten book.starts (record { domain = s.domain; source = source; rounds = rounds; pass = pass; kept_room = kept; here_room = here })
can_be_written cycles s source book pass rows edge_verdicts hop_number kept here rounds is_book starts fresh same drops orderly decided hop_numbers accepted short are room =
    let run = run_of_history s.domain (history_of cycles s) s.offers s.background cycles in
    let says = is_book.promise.says in
    let own : (z : Dropped) → Contains source.drops z → Contains book.drops z =
    λ z among. Contains-permutation source.drops book.drops z (IsPermutation-sym book.drops source.drops drops.same) among in
    let few : length run.tables ≤ 100000 = omega (arith, short, length-singles (table_at s.domain (history_of cycles s)) cycles) in
    record {
      is = starts;
      fresh = fresh;
      hop_number = hop_number;
      rounds = are;
      soon = λ start among.
          let found = starts_soon run book says orderly rows edge_verdicts decided hop_number hop_numbers start among in
          (found.0, found.1, ap (λ (os : List Offer). slice_get os found.0) same ∙ found.2, found.3, found.4);
      of_offers = λ z among. omega (arith, (drop_number run book says z (own z among)).1, ap (λ (os : List Offer). length os) same);
      once = says.once_each;
      rise = drops.rise;
      apart = λ start z started dropped. start_or_drop run book says start z started (own z dropped);
      in_time = starts_in_time run book is_book.promise accepted few;
      room = room;
    }

-- each drop is of an offer
pub drops_in_number : (cycles : ℕ) (s : Scenario) (book : Contents) (drops : List Dropped) → IsBookOfScenario cycles s book → AreDropsByFrame book drops →
    (z : Dropped) → Contains drops z → (0 < z.frame) × (z.frame ≤ length s.offers)
drops_in_number cycles s book drops is_book by z among =
    drop_number (run_of_history s.domain (history_of cycles s) s.offers s.background cycles) book is_book.promise.says z
    (Contains-permutation drops book.drops z (IsPermutation-sym book.drops drops by.same) among)
