-- The pass yields the starts of the scenario's book.
use Rattle.std.proofs.Common.{List, refl, subst}
use Rattle.std.proofs.lemmas.Result.{IfOk-weaker}
use Rattle.cqf_model.specs.declared.frames.Offer.{Offer}
use Rattle.cqf_instants_run.specs.HistoryStarts.{IsLaidOutHistoryOf}
use Rattle.cqf_instants_run.specs.Passes.{IsPassOf}
use Rattle.cqf_program_scenario.specs.Calls.{history_of}
use Rattle.cqf_program_scenario.specs.Closing.{scenario_given}
use Rattle.cqf_program_scenario.proofs.ExactParts.{IsHistoryOf-as, starts_are_written}
use Rattle.cqf_program_scenario.proofs.exact.pass_of_outcome.Goals as goal

pub pass_of_history-requires-clause-history : goal.pass_of_history-requires-clause-history
pass_of_history-requires-clause-history c =
    let given = c.args.given.now in
    let outcome = c.args.outcome.now in
    let entries = history_of c.args.cycles (scenario_given given) in record {
      entries = entries;
      is = IsHistoryOf-as given.domain c.args.cycles outcome.rows.items c.as_slice-rows.result.now given.offers.items c.as_slice-offers.result.now
          outcome.edge_verdicts.items c.as_slice-edge_verdicts.result.now entries c.as_slice-rows.ensures.value c.as_slice-offers.ensures.value
          c.as_slice-edge_verdicts.ensures.value c.requires.outcome.history;
    }

pub returns-clause-fresh : goal.returns-clause-fresh
returns-clause-fresh c = IfOk-weaker c.pass_of_history.result _ _ (λ pass is. is.begins) c.pass_of_history.ensures

pub returns-clause-reports : goal.returns-clause-reports
returns-clause-reports c =
    let s = scenario_given c.args.given.now in
    let outcome = c.args.outcome.now in
    let entries = history_of c.args.cycles s in
    let rows = c.as_slice-rows.result.now in
    let edge_verdicts = c.as_slice-edge_verdicts.result.now in
    let history : IsLaidOutHistoryOf s.domain c.args.cycles rows s.offers edge_verdicts entries =
    IsHistoryOf-as s.domain c.args.cycles outcome.rows.items rows s.offers s.offers outcome.edge_verdicts.items edge_verdicts entries
    c.as_slice-rows.ensures.value refl c.as_slice-edge_verdicts.ensures.value c.requires.outcome.history in
    IfOk-weaker c.pass_of_history.result _ _
    (λ pass is.
    starts_are_written c.tables_are_orderly.ensures.orderly c.book_of_history_is_there.ensures c.args.cycles s rows edge_verdicts pass c.know.ensures.accepted
    c.requires.may history
    (subst (λ (os : List Offer). IsPassOf s.domain c.args.cycles rows os edge_verdicts pass) c.as_slice-offers.ensures.value is))
    c.pass_of_history.ensures
