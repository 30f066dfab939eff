use Rattle.std.proofs.Common.{arith}
use Rattle.cqf_agenda.proofs.InCycles.{is_agenda}
use Rattle.cqf_agenda.proofs.agenda.Agenda.new.Goals as goal

-- the bridge's part is its agenda
pub returns : goal.returns
returns c =
    is_agenda c.args.domain.now c.args.offers.now c.args.background.now c.args.bridge _ c.frames_are_taken_in_order.ensures.offers
    c.background_comes_in_order.ensures.sorted
    (omega (arith, c.cycle_time.ensures.accepted.cycle_least)) c.cycle_time.ensures.value c.in_ok-offers_in_order.ensures c.in_ok-background_in_order.ensures
