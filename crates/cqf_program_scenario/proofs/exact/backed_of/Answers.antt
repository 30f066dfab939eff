-- The starts of background frames are the history's.
use Rattle.std.proofs.Common.{◌≡◌, ◌∙◌, [], List, eqb-true, length, refl, subst, sym}
use Rattle.std.proofs.lemmas.List.{nil_from_length}
use Rattle.std.proofs.lemmas.Result.{IfOk-weaker}
use Rattle.cqf_model.specs.declared.frames.Background.{Background}
use Rattle.cqf_model.specs.declared.frames.Offer.{Offer}
use Rattle.cqf_model.specs.declared.frames.Started.{Started}
use Rattle.cqf_model.specs.Run.{AreBackground, AreOffers}
use Rattle.cqf_instants_run.specs.Parts.{AreBackgroundOfHistory, AreStartsOfHistory}
use Rattle.cqf_instants_run.specs.HistoryStarts.{IsLaidOutHistoryOf}
use Rattle.cqf_program_scenario.proofs.ExactParts.{IsHistoryOf-as, none_backed}
use Rattle.cqf_program_scenario.proofs.exact.backed_of.Goals as goal

pub returns-then-is_empty : goal.returns-then-is_empty
returns-then-is_empty c entries history =
    let given = c.args.given.now in
    let background = c.as_slice-background.result.now in
    let quiet : given.background.items ≡ [] =
    sym c.as_slice-background.ensures.value
    ∙ nil_from_length background (eqb-true (length background) 0 (sym c.is_empty.ensures ∙ c.if-is_empty.true)) in
    subst (λ (ss : List Started). AreBackgroundOfHistory given.domain entries given.offers.items given.background.items c.args.cycles ss)
    (sym c.new.ensures.items) (none_backed given.domain entries given.offers.items given.background.items c.args.cycles quiet)

pub background_of_history-requires-clause-starts : goal.background_of_history-requires-clause-starts
background_of_history-requires-clause-starts c =
    let given = c.args.given.now in
    let d = given.domain in
    let some = c.requires.history in
    let rows = c.args.rows.now in
    let edge_verdicts = c.args.edge_verdicts.now in
    let offers = c.as_slice-offers.result.now in
    let background = c.as_slice-background.result.now in
    let history : IsLaidOutHistoryOf d c.args.cycles rows offers edge_verdicts some.entries =
    IsHistoryOf-as d c.args.cycles rows rows given.offers.items offers edge_verdicts edge_verdicts some.entries refl c.as_slice-offers.ensures.value refl some.is in
    let starts : AreStartsOfHistory d some.entries offers background c.args.cycles c.in_ok-starts.starts.items =
    λ net run. c.in_ok-starts.ensures some.entries background net history run in
    record {
      entries = some.entries;
      offers = offers;
      background = background;
      legal = some.is.legal;
      sealed = some.is.sealed;
      offered = subst (λ (os : List Offer). AreOffers d os) (sym c.as_slice-offers.ensures.value) c.requires.offers;
      following = subst (λ (bs : List Background). AreBackground d bs) (sym c.as_slice-background.ensures.value) c.requires.background;
      are = subst (λ (ss : List Started). AreStartsOfHistory d some.entries offers background c.args.cycles ss) (sym c.as_slice-starting.ensures.value) starts;
    }

pub returns : goal.returns
returns c =
    let given = c.args.given.now in
    let d = given.domain in
    let rows = c.args.rows.now in
    let edge_verdicts = c.args.edge_verdicts.now in
    let offers = c.as_slice-offers.result.now in
    let background = c.as_slice-background.result.now in
    IfOk-weaker c.background_of_history.result _ _
    (λ backed all entries is.
    let history : IsLaidOutHistoryOf d c.args.cycles rows offers edge_verdicts entries =
    IsHistoryOf-as d c.args.cycles rows rows given.offers.items offers edge_verdicts edge_verdicts entries refl c.as_slice-offers.ensures.value refl is in
    let starts : AreStartsOfHistory d entries offers background c.args.cycles c.as_slice-starting.result.now =
    subst (λ (ss : List Started). AreStartsOfHistory d entries offers background c.args.cycles ss) (sym c.as_slice-starting.ensures.value)
    (λ net run. c.in_ok-starts.ensures entries background net history run) in
    subst (λ (bs : List Background). AreBackgroundOfHistory d entries given.offers.items bs c.args.cycles backed.items) c.as_slice-background.ensures.value
    (subst (λ (os : List Offer). AreBackgroundOfHistory d entries os background c.args.cycles backed.items) c.as_slice-offers.ensures.value
    (all entries offers starts)))
    c.background_of_history.ensures
