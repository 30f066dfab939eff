use Rattle.cqf_program_scenario.specs.Closing.{scenario_given}
use Rattle.cqf_program_runs.proofs.report.command.report_output.Goals as goal

pub returns-in-Ok-clause-ok : goal.returns-in-Ok-clause-ok
returns-in-Ok-clause-ok g c =
    let reported = c.in-Ok.ensures in
    record {
      scenario = scenario_given c.in_ok-given.given;
      holds = c.in_ok-given.ensures.ok;
      book = reported.book;
      is_book = reported.is_book;
      written = reported.written;
    }
