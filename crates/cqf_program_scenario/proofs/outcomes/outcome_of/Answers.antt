-- The verdicts by the streams of the log are those of the scenario's history.
use Rattle.std.proofs.Common.{◌≡◌, ◌∙◌, List, ap, refl, subst, sym}
use Rattle.cqf_model.specs.History.{IsLegalHistory, Recorded, seals, streams_of}
use Rattle.cqf_instants_run.specs.HistoryStarts.{IsLaidOutHistoryOf}
use Rattle.cqf_program_scenario.specs.Calls.{history_of}
use Rattle.cqf_program_scenario.specs.Closing.{scenario_given}
use Rattle.cqf_program_scenario.proofs.ExactParts.{IsHistoryOf-as, IsHistoryOf-judged}
use Rattle.cqf_program_scenario.proofs.outcomes.outcome_of.Goals as goal

pub returns : goal.returns
returns c =
    let given = c.args.given.now in
    let d = given.domain in
    let entries = history_of c.args.cycles (scenario_given given) in
    let logged = c.in_ok-entries.ensures in
    let rows = c.as_slice.result.now in
    let offers = c.as_slice-2.result.now in
    let edge_verdicts = c.in_ok-edge_verdicts.edge_verdicts.items in
    let legal : IsLegalHistory d entries = subst (λ (es : List Recorded). IsLegalHistory d es) logged.entries logged.legal in
    let streams : streams_of d entries ≡ rows = ap (streams_of d) (sym logged.entries) ∙ sym logged.rows ∙ sym c.as_slice.ensures.value in
    let sliced : IsLaidOutHistoryOf d c.args.cycles rows offers edge_verdicts entries =
    IsHistoryOf-judged d c.args.cycles rows offers edge_verdicts edge_verdicts entries legal (ap seals (sym logged.entries) ∙ logged.all) streams
    c.in_ok-edge_verdicts.ensures refl in
    record {
      entries = logged.entries;
      legal = logged.legal;
      there = logged.there;
      closed = logged.all;
      history = IsHistoryOf-as d c.args.cycles rows c.in_ok-entries.rows.items offers given.offers.items edge_verdicts edge_verdicts entries
          (sym c.as_slice.ensures.value) (sym c.as_slice-2.ensures.value) refl sliced;
    }
