-- The orders so far are carried out, and there is room for the rest.
use Rattle.std.proofs.Common.{◌≡◌, drop, map}
use Rattle.cqf_admission.specs.Orders.{ordered_in}
use Rattle.cqf_program_scenario.specs.Calls.{HasRoom, with_calls}
use Rattle.cqf_program_scenario.proofs.administering.carry_out_all.Given as goal

abbrev pub invariant-loop-order : goal.invariant-loop-order
invariant-loop-order l =
    (l.ledger.administration.domain ≡ l.fn.ledger.administration.domain)
    × (l.ledger.requests ≡ l.fn.ledger.requests)
    × (l.ledger.script ≡ l.fn.ledger.script)
    × (with_calls l.fn.ledger.administration.domain l.ledger.administration.entries
    (map (ordered_in l.fn.ledger.requests l.fn.ledger.script) (drop l.order-index l.orders))
    ≡ with_calls l.fn.ledger.administration.domain l.fn.ledger.administration.entries (map (ordered_in l.fn.ledger.requests l.fn.ledger.script) l.fn.orders))
    × HasRoom l.cycles l.ledger.administration.entries (map (ordered_in l.fn.ledger.requests l.fn.ledger.script) (drop l.order-index l.orders))
