use Rattle.std.proofs.Common.{◌≡◌, ◌∙◌, ◌≤◌, ℕ, All, List, Option, ap, arith, length, refl, subst, sym}
use Rattle.cqf_lists.proofs.EachBelow.{length-singles}
use Rattle.cqf_units.specs.declared.timing.Nanos.{Nanos}
use Rattle.cqf_model.specs.declared.frames.Offer.{Offer}
use Rattle.cqf_model.specs.declared.frames.Started.{Started}
use Rattle.cqf_model.specs.declared.topology.Row.{Row}
use Rattle.cqf_model.specs.History.{table_at}
use Rattle.cqf_model.specs.Run.{AreOffers}
use Rattle.cqf_model.specs.Table.{AreOrderly}
use Rattle.cqf_laws_coverage.specs.Judged.{StandInOrder}
use Rattle.cqf_instants.specs.Progress.{AreStartsOf, Progress}
use Rattle.cqf_instants.specs.declared.basis.Basis.{Basis}
use Rattle.cqf_program_scenario.proofs.InTime.{starts_in_time}
use Rattle.cqf_program_scenario.specs.Calls.{history_of}
use Rattle.cqf_program_scenario.specs.Closing.{scenario_given}
use Rattle.cqf_program_runs.specs.Deliveries.Deadlines.{deadline_in}
use Rattle.cqf_program_runs.specs.Deliveries.{whole_on}
use Rattle.cqf_program_runs.specs.Deliveries.Ending.{IsOver, Over, deliveries_over}
use Rattle.cqf_program_runs.specs.Deliveries.Following.{IsAfter, IsBookAfter}
use Rattle.cqf_program_runs.specs.Deliveries.PlannedScenario.{run_of_scenario}
use Rattle.cqf_program_runs.specs.Deliveries.UnderWay.{IsInTime, IsLaid, starts_written}
use Rattle.cqf_program_runs.proofs.AfterOffers.{starts_after}
use Rattle.cqf_program_runs.proofs.FollowedOn.{followed_first}
use Rattle.cqf_program_runs.proofs.Judged.{AreDeliveries-run, due_is, edge_verdicts_decide}
use Rattle.cqf_program_runs.proofs.deliveries.noted.noted_of.Goals as goal

pub new-requires-clause-offers : goal.new-requires-clause-offers
new-requires-clause-offers c =
    let s = scenario_given c.args.planned.now.given in
    subst (λ (os : List Offer). AreOffers s.domain os) (sym c.as_slice-offers.ensures.value) c.requires.may.offers

pub new-requires-clause-order : goal.new-requires-clause-order
new-requires-clause-order c = subst StandInOrder (sym c.as_slice-offers.ensures.value) c.requires.may.in_order

pub returns : goal.returns
returns c =
    let planned = c.args.planned.now in
    let given = planned.given in
    let s = scenario_given given in
    let run = run_of_scenario c.args.cycles s in
    let d = given.domain in
    let offers = given.offers.items in
    let reported = c.in_ok-pass.ensures.reports in
    let book = reported.0 in
    let is_book = reported.2 in
    let history = c.requires.outcome.history in
    let edge_verdicts = c.args.outcome.edge_verdicts.items in
    let pass = c.in_ok-pass.pass in
    let under_way = c.in_ok-under_way.under_way in
    let whole : ℕ → ℕ → Option Nanos = whole_on d book.starts in
    let over : Over = record {
      domain = d;
      cycles = c.args.cycles;
      offers = offers;
      rows = c.args.outcome.rows.items;
      edge_verdicts = edge_verdicts;
      due = record { requests = given.requests.items; deadlines = planned.deadlines.items };
      dues = c.in_ok-dues.dues.items;
      whole = whole;
    } in
    let laid : IsLaid d over.rows offers under_way =
    subst (λ (rows : List Row). IsLaid d rows offers under_way) c.as_slice.ensures.value
    (subst (λ (os : List Offer). IsLaid d c.as_slice.result.now os under_way) c.as_slice-offers.ensures.value c.in_ok-under_way.ensures.1) in
    let is_pass : under_way.pass ≡ pass = c.in_ok-under_way.ensures.0 in
    let orderly : AreOrderly run.domain run.tables =
    c.tables_are_orderly.ensures.orderly d (history_of c.args.cycles s) c.args.cycles history.legal is_book.is_book.sealed in
    let decided = edge_verdicts_decide c.offers_are_judged.ensures c.args.cycles s book over.rows edge_verdicts is_book history.judged c.requires.may.in_order in
    let short : length run.tables ≤ 100000 = omega (arith, length-singles (table_at s.domain (history_of c.args.cycles s)) c.args.cycles, c.requires.short) in
    let starts : AreStartsOf pass.basis book.starts = reported.1 in
    let written_by : book.starts ≡ starts_written starts.given pass.basis.cycles = starts.are in
    let following : IsBookAfter over under_way.hop_number pass.basis starts.given = record {
      is = starts.is;
      whole = ap (whole_on d) written_by;
      in_time = subst (λ (ss : List Started). All (IsInTime d) ss) written_by
          (starts_in_time run book is_book.promise c.know.ensures.accepted short);
      following = subst (λ (ss : List Started). All (IsAfter d.cycle_time under_way.hop_number offers) ss) written_by
          (starts_after run book is_book.promise.says orderly over.rows edge_verdicts decided under_way.hop_number laid.hop_numbers);
    } in
    let is_over : IsOver over =
    record { offers = c.requires.may.offers; few = c.requires.may.few_offers; judged = history.judged.count; due = c.in_ok-dues.ensures } in
    record {
      whole = whole;
      followed = followed_first over under_way starts.given is_over c.requires.may.in_order
          (ap (λ (p : Progress). p.reported) is_pass ∙ c.in_ok-pass.ensures.fresh) laid
          (subst (λ (basis : Basis). IsBookAfter over under_way.hop_number basis starts.given) (sym (ap (λ (p : Progress). p.basis) is_pass)) following);
      are = λ texts those.
          AreDeliveries-run c.offers_are_judged.ensures c.args.cycles s texts book d (history_of c.args.cycles s) offers book.starts over.rows edge_verdicts
          (deadline_in over.due) (deliveries_over over) is_book refl refl refl refl history.judged c.requires.may.in_order
          (λ name. due_is texts given.requests.items planned.deadlines.items those name) refl;
    }
