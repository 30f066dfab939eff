use Rattle.cqf_instants_run.proofs.Offers.{wide}
use Rattle.cqf_instants_run.proofs.counted.width_of.Goals as goal

pub returns-in-Some : goal.returns-in-Some
returns-in-Some c =
    wide c.args.cycle_time.0 c.args.cycles c.args.offers.now c.in-Some.last.now c.cycle_of.result.0 c.min.result c.requires.time
    c.requires.early c.requires.order
    c.in-Some.ensures.value c.cycle_of.ensures c.min.ensures
