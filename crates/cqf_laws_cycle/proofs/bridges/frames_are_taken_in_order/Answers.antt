use Rattle.cqf_laws_cycle.proofs.Gathering.{offers_in_order, sorted_is_taken}
use Rattle.cqf_laws_cycle.proofs.bridges.frames_are_taken_in_order.Goals as goal

pub returns-clause-offers : goal.returns-clause-offers
returns-clause-offers c = offers_in_order

pub returns-clause-taken : goal.returns-clause-taken
returns-clause-taken c = sorted_is_taken
