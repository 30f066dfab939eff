-- The cycles before this one are closed, and the Seals of the rest are to come.
use Rattle.std.proofs.Common.{◌≡◌, ◌-◌}
use Rattle.cqf_model.specs.History.{seals}
use Rattle.cqf_program_scenario.specs.Calls.{seals_by, with_calls}
use Rattle.cqf_program_scenario.proofs.administering.close_all.Given as goal

abbrev pub invariant-loop-cycle : goal.invariant-loop-cycle
invariant-loop-cycle l =
    (l.ledger.administration.domain ≡ l.fn.ledger.administration.domain)
    × (l.ledger.requests ≡ l.fn.ledger.requests)
    × (l.ledger.script ≡ l.fn.ledger.script)
    × (seals l.ledger.administration.entries ≡ l._cycle)
    × (with_calls l.fn.ledger.administration.domain l.ledger.administration.entries (seals_by l.seat (l.cycles - l._cycle))
    ≡ with_calls l.fn.ledger.administration.domain l.fn.ledger.administration.entries (seals_by l.seat (l.cycles - seals l.fn.ledger.administration.entries)))
