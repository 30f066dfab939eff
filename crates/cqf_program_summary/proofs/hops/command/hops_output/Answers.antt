use Rattle.std.proofs.Common.{refl}
use Rattle.cqf_program_scenario.specs.Closing.{scenario_given}
use Rattle.cqf_program_summary.specs.Hops.Text.{text_of_legs}
use Rattle.cqf_program_summary.proofs.hops.command.hops_output.Goals as goal

pub returns-in-Ok-clause-ok : goal.returns-in-Ok-clause-ok
returns-in-Ok-clause-ok c =
    let s = scenario_given c.in_ok-given.given in
    let reported = c.in-Ok.ensures in (
      text_of_legs s.domain s.offers reported.legs,
      reported.text,
      record {
        scenario = s;
        holds = c.in_ok-given.ensures.ok.holds;
        book = reported.book;
        is_book = reported.is_book;
        legs = reported.legs;
        are = reported.are;
        written = refl;
      },
    )
