use Rattle.std.proofs.Common.{ℕ, ◌+◌, ap}
use Rattle.cqf_world.proofs.sending.send_all.Goals as goal

pub returns-clause-ok : goal.returns-clause-ok
returns-clause-ok c = record {
  between = c.send_cycle.new.bridge_driven;
  batches = c.in_ok-batches.batches.items;
  sends = c.in_ok-batches.ensures.ok;
  coming = c.in_ok-put_all.ensures.coming;
  counted = ap (λ (n : ℕ). record c.send_cycle.new.bridge_driven { sent = n + 1 }) c.send_cycle.ensures.posted;
}
