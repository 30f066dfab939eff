use Rattle.cqf_program_scenario.specs.Closing.{scenario_given}
use Rattle.cqf_program_runs.proofs.run.command.run_output.Goals as goal

pub returns-in-Ok-clause-ok : goal.returns-in-Ok-clause-ok
returns-in-Ok-clause-ok c =
    let reported = c.in-Ok.ensures in (
      reported.0,
      reported.1,
      record {
        scenario = scenario_given c.in_ok-given.given;
        holds = c.in_ok-given.ensures.ok;
        book = reported.2;
        is_book = reported.3;
        written = reported.4;
      },
    )
