use Rattle.cqf_program_scenario.specs.RunParts.{texts_of}
use Rattle.cqf_program_scenario.proofs.given.read_frames.Goals as goal

pub returns-clause-order : goal.returns-clause-order
returns-clause-order c =
    c.offers_are_read_in_order.ensures c.args.domain.now (texts_of c.args.parts).offers c.in_ok-offers.offers.items c.in_ok-offers.ensures.ok
