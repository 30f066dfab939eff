use Rattle.std.proofs.Common.{◌-◌, ◌≤◌, length}
use Rattle.cqf_relay.proofs.Sources.{HasNothingMore}
use Rattle.cqf_relay.proofs.leads.Leads.learn.Given as goal

-- this many rows are known in addition to those before, and none of them leads to the link
abbrev pub invariant-loop-between : goal.invariant-loop-between
invariant-loop-between l =
    HasNothingMore (l._between - length l.fn.self.rows.items) l.fn.self l.self
    × (l._between - length l.fn.self.rows.items ≤ l.number - length l.fn.self.rows.items)
