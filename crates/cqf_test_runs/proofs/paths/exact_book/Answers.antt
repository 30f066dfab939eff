use Rattle.std.proofs.Common.{◌∙◌, List, subst, sym}
use Rattle.cqf_model.specs.declared.topology.Row.{Row}
use Rattle.cqf_model.specs.Domain.{Domain}
use Rattle.cqf_model.specs.Run.{AreBackground, AreOffers}
use Rattle.cqf_instants_run.specs.declared.judged.EdgeVerdict.{EdgeVerdict}
use Rattle.cqf_instants_run.specs.HistoryStarts.{SomeHistory}
use Rattle.cqf_test_runs.proofs.paths.exact_book.Goals as goal

-- the starts are those of the history
pub background_of_history-requires-clause-starts : goal.background_of_history-requires-clause-starts
background_of_history-requires-clause-starts c =
    let d = c.args.admission.now.domain in
    let cycles = c.args.cycles in
    let offers = c.args.offers.now in
    let by_rows = subst (λ (rows : List Row). SomeHistory d cycles rows offers c.in_ok-granted.covered.items)
    (sym c.as_slice-rows.ensures.value) c.in_ok-granted.ensures.history in
    let by_both = subst (λ (edge_verdicts : List EdgeVerdict). SomeHistory d cycles c.as_slice-rows.result.now offers edge_verdicts)
    (sym c.as_slice-edge_verdicts.ensures.value) by_rows in
    let history = subst (λ (e : Domain). SomeHistory e cycles c.as_slice-rows.result.now offers c.as_slice-edge_verdicts.result.now)
    (sym c.domain-domain.ensures) by_both in
    record {
      entries = history.entries;
      offers = offers;
      background = c.args.background.now;
      legal = history.is.legal;
      sealed = history.is.sealed;
      offered = subst (λ (e : Domain). AreOffers e offers) (sym c.domain-domain.ensures) c.requires.offers;
      following = subst (λ (e : Domain). AreBackground e c.args.background.now) (sym c.domain-domain.ensures) c.requires.background;
      are = λ net legal. c.as_slice-starting.ensures.value ∙ c.in_ok-starts.ensures history.entries c.args.background.now net history.is legal;
    }
