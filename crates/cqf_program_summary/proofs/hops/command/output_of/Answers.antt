use Rattle.cqf_program_scenario.specs.Closing.{scenario_given}
use Rattle.cqf_program_summary.specs.Hops.Gathered.{wanted_by}
use Rattle.cqf_program_summary.proofs.OfHops.{writes_hops}
use Rattle.cqf_program_summary.proofs.hops.command.output_of.Goals as goal

pub returns : goal.returns
returns c =
    writes_hops c.args.cycles (scenario_given c.args.given) (wanted_by c.args.choice) c.in_ok-prepared.prepared c.in_ok-prepared.ensures
