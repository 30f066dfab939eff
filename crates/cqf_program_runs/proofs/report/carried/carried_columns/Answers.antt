use Rattle.std.proofs.Common.{List, subst, sym}
use Rattle.std.proofs.lemmas.Result.{IfOk-weaker}
use Rattle.cqf_model.specs.declared.frames.Offer.{Offer}
use Rattle.cqf_model.specs.Run.{AreOffers}
use Rattle.cqf_laws_coverage.specs.Judged.{StandInOrder, judged_of}
use Rattle.cqf_instants_run.specs.Columns.{AreSumsBy}
use Rattle.cqf_instants_run.proofs.JudgedSums.{judged_room, judged_sums}
use Rattle.cqf_program_scenario.specs.Calls.{history_of}
use Rattle.cqf_program_scenario.specs.Closing.{scenario_given}
use Rattle.cqf_program_scenario.proofs.ExactParts.{IsHistoryOf-as}
use Rattle.cqf_program_runs.proofs.report.carried.carried_columns.Goals as goal

pub columns_of-requires-clause-room : goal.columns_of-requires-clause-room
columns_of-requires-clause-room c =
    let given = c.args.given.now in
    let d = given.domain in
    let entries = history_of c.args.cycles (scenario_given given) in
    let rows = c.as_slice-rows.result.now in
    let offers = c.as_slice-offers.result.now in
    let edge_verdicts = c.as_slice-edge_verdicts.result.now in
    let history = IsHistoryOf-as d c.args.cycles c.args.outcome.now.rows.items rows given.offers.items offers
    c.args.outcome.now.edge_verdicts.items edge_verdicts entries c.as_slice-rows.ensures.value c.as_slice-offers.ensures.value c.as_slice-edge_verdicts.ensures.value c.requires.outcome.history in
    judged_room d entries rows offers edge_verdicts history.judged c.args.cycles history.sealed c.cells_fit.ensures c.know.ensures.accepted
    history.legal
    (subst (λ (os : List Offer). AreOffers d os) (sym c.as_slice-offers.ensures.value) c.requires.may.offers)
    (subst StandInOrder (sym c.as_slice-offers.ensures.value) c.requires.may.in_order)

pub returns : goal.returns
returns c =
    let given = c.args.given.now in
    let d = given.domain in
    let entries = history_of c.args.cycles (scenario_given given) in
    let rows = c.as_slice-rows.result.now in
    let offers = c.as_slice-offers.result.now in
    let edge_verdicts = c.as_slice-edge_verdicts.result.now in
    let history = IsHistoryOf-as d c.args.cycles c.args.outcome.now.rows.items rows given.offers.items offers
    c.args.outcome.now.edge_verdicts.items edge_verdicts entries c.as_slice-rows.ensures.value c.as_slice-offers.ensures.value c.as_slice-edge_verdicts.ensures.value c.requires.outcome.history in
    IfOk-weaker c.columns_of.result _ _
    (λ columns by. subst (λ (os : List Offer). AreSumsBy d c.args.cycles (judged_of d entries os) os columns.items) c.as_slice-offers.ensures.value
    (judged_sums d entries rows offers edge_verdicts history.judged c.args.cycles history.sealed columns.items by))
    c.columns_of.ensures
