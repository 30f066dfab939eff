use Rattle.std.proofs.Common.{◌≡◌, ◌≤◌, ℕ, length}
use Rattle.cqf_lists.proofs.Ranks.{rank}
use Rattle.cqf_agenda.specs.Links.{links_from}
use Rattle.cqf_relay.specs.Standing.{is_onward}
use Rattle.cqf_worker_loops.specs.Stepping.{GoesFurther, IsUnderWay}
use Rattle.cqf_worker_loops.specs.Workers.{Offering}
use Rattle.cqf_worker_loops.proofs.rounds.report.Given as goal

-- it has gone on, for all traffic for which it was under way, and the port is that of the next link that ends in another bridge
abbrev pub invariant-loop-index : goal.invariant-loop-index
invariant-loop-index g l =
    GoesFurther l.fn.worker l.worker × (l.index-end ≡ length l.worker.relay.outlets.items) × (l.port ≤ l.index)
    × ((t : Offering) (number : ℕ) → IsUnderWay t number l.fn.worker → l.port ≡ rank (is_onward t.domain) (links_from t.domain number) l.index)
