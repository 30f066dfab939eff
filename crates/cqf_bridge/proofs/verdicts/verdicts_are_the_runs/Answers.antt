use Rattle.cqf_bridge.proofs.Anew.{policed_anew}
use Rattle.cqf_bridge.proofs.Losses.{unlost_may_come}
use Rattle.cqf_bridge.proofs.TakenCycles.{verdicts_are}
use Rattle.cqf_bridge.proofs.verdicts.verdicts_are_the_runs.Goals as goal

pub returns-clause-anew : goal.returns-clause-anew
returns-clause-anew c run carried bridge cycle = policed_anew run carried bridge cycle c.gate_is_reservation.ensures

pub returns-clause-verdicts : goal.returns-clause-verdicts
returns-clause-verdicts c = verdicts_are c.cycle_brings_its_batches.ensures.brings c.gate_is_reservation.ensures

pub returns-clause-batches : goal.returns-clause-batches
returns-clause-batches c run cycles cycle bridge net compiled none =
    unlost_may_come run cycles cycle bridge net compiled none c.cycle_brings_its_batches.ensures.whole
