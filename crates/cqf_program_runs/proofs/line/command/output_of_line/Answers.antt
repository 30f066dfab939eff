use Rattle.std.proofs.Common.{ap, refl, subst}
use Rattle.cqf_model.specs.Domain.{Domain}
use Rattle.cqf_report.specs.Books.{text_of_book}
use Rattle.cqf_program_scenario.specs.Books.{IsBookOfScenario}
use Rattle.cqf_program_scenario.specs.Scenario.{Scenario}
use Rattle.cqf_program_runs.proofs.LineRuns.{MayBeRun-line}
use Rattle.cqf_program_runs.proofs.LineTables.{line_tables-are}
use Rattle.cqf_program_runs.proofs.line.command.output_of_line.Goals as goal

-- the line's scenario may be run
pub outcome_of-requires-clause-may : goal.outcome_of-requires-clause-may
outcome_of-requires-clause-may c =
    MayBeRun-line c.args.cycles c.args.offers.items _ c.in_ok-given.ensures.given c.requires.offers c.requires.few c.requires.order

pub book_of_outcome-requires-clause-may : goal.book_of_outcome-requires-clause-may
book_of_outcome-requires-clause-may c =
    MayBeRun-line c.args.cycles c.args.offers.items _ c.in_ok-given.ensures.given c.requires.offers c.requires.few c.requires.order

-- and its book is the line's
pub returns : goal.returns
returns c =
    let reported = c.in_ok-book.ensures in
    let d = c.in_ok-given.given.domain in
    let text = text_of_book d reported.0 in (
      text,
      (reported.0, reported.1, refl),
      record {
        book = reported.0;
        is_book = subst (λ (s : Scenario). IsBookOfScenario c.args.cycles s reported.0) c.in_ok-given.ensures.given reported.2;
        live = line_tables-are (record {
          goes_on = c.state_follows_history.ensures.goes_on;
          counted = c.state_follows_history.ensures.counted;
          granted = c.state_follows_history.ensures.granted;
          lets_go = c.state_follows_history.ensures.lets_go;
          closes = c.state_follows_history.ensures.closes;
          stays = c.closed_tables_stay.ensures;
        }) c.args.cycles c.args.offers.items c.requires.short;
        written = ap (λ (d : Domain). text_of_book d reported.0) (ap (λ (s : Scenario). s.domain) c.in_ok-given.ensures.given);
      },
    )
