use Rattle.std.proofs.Common.{◌≡◌, ◌++◌, take}
use Rattle.cqf_relay.specs.Queues.{that_go}
use Rattle.cqf_relay.proofs.queue.gather_from.Given as goal

-- those of the frames so far that go on follow what waited before
abbrev pub invariant-loop-came : goal.invariant-loop-came
invariant-loop-came l =
    l.queue.items ≡ l.fn.queue.items ++ that_go l.leads.rows.items l.by l.source (take l.came-index l.came-items)
