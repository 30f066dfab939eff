-- The parts are those of the scenario's book.
use Rattle.std.proofs.Common.{List, refl, subst, sym}
use Rattle.cqf_model.specs.declared.frames.Offer.{Offer}
use Rattle.cqf_instants_run.specs.Drops.{AreDropsOfHistory}
use Rattle.cqf_instants_run.specs.HistoryStarts.{IsLaidOutHistoryOf}
use Rattle.cqf_program_scenario.specs.Books.{IsBookOfScenario}
use Rattle.cqf_program_scenario.specs.Calls.{history_of}
use Rattle.cqf_program_scenario.specs.Closing.{scenario_given}
use Rattle.cqf_program_scenario.specs.ExactBooks.{ExactParts, WritesBook}
use Rattle.cqf_program_scenario.proofs.ExactParts.{IsHistoryOf-as, parts_are_written}
use Rattle.cqf_program_scenario.proofs.exact.book_of_outcome.Goals as goal

pub backed_of-requires-clause-history : goal.backed_of-requires-clause-history
backed_of-requires-clause-history c =
    let given = c.args.given.now in
    let outcome = c.args.outcome.now in
    let entries = history_of c.args.cycles (scenario_given given) in record {
      entries = entries;
      is = IsHistoryOf-as given.domain c.args.cycles outcome.rows.items c.as_slice-rows.result.now given.offers.items given.offers.items
          outcome.edge_verdicts.items c.as_slice-edge_verdicts.result.now entries c.as_slice-rows.ensures.value refl c.as_slice-edge_verdicts.ensures.value
          c.requires.outcome.history;
    }

pub returns : goal.returns
returns c =
    let s = scenario_given c.args.given.now in
    let outcome = c.args.outcome.now in
    let entries = history_of c.args.cycles s in
    let rows = c.as_slice-rows.result.now in
    let offers = c.as_slice-offers.result.now in
    let edge_verdicts = c.as_slice-edge_verdicts.result.now in
    let history : IsLaidOutHistoryOf s.domain c.args.cycles rows s.offers edge_verdicts entries =
    IsHistoryOf-as s.domain c.args.cycles outcome.rows.items rows s.offers s.offers outcome.edge_verdicts.items edge_verdicts entries
    c.as_slice-rows.ensures.value refl c.as_slice-edge_verdicts.ensures.value c.requires.outcome.history in
    let sliced : IsLaidOutHistoryOf s.domain c.args.cycles rows offers edge_verdicts entries =
    IsHistoryOf-as s.domain c.args.cycles rows rows s.offers offers edge_verdicts edge_verdicts entries refl c.as_slice-offers.ensures.value refl history in
    let dropped : AreDropsOfHistory s.domain entries s.offers c.args.cycles c.in_ok-drops.drops.items =
    subst (λ (os : List Offer). AreDropsOfHistory s.domain entries os c.args.cycles c.in_ok-drops.drops.items) c.as_slice-offers.ensures.value
    (c.in_ok-drops.ensures entries rows history.legal sliced.judged) in
    subst (λ (parts : ExactParts). WritesBook parts (IsBookOfScenario c.args.cycles s)) (sym c.new.ensures)
    (parts_are_written c.tables_are_orderly.ensures.orderly c.args.cycles s _ c.know.ensures.accepted c.requires.may history.legal
    c.in_ok-pass.ensures.reports (c.in_ok-backed.ensures entries history) dropped)
