use Rattle.std.proofs.Common.{◌≡◌, ◌∙◌, ◌++◌, List, ap, arith, rules, subst, sym}
use Rattle.std.proofs.lemmas.List.Sorted.{IsNonDecreasingBy-from_sort_by_key}
use Rattle.cqf_relay.specs.declared.queue.Queued.{Queued}
use Rattle.cqf_relay.specs.Queues.{AreByCycle, AreLeads, key_of_queued, queue_of}
use Rattle.cqf_relay.specs.Sending.{SendsQueue, waits_for}
use Rattle.cqf_relay.proofs.Sends.{sent_cycle, waits_first, waits_later}
use Rattle.cqf_relay.proofs.outlet.Outlet.send_cycle.Goals as goal
use Rattle.cqf_relay.proofs.outlet.Outlet.send_cycle.Goals.{in-Some+in_ok-gather, in_default}

pub returns : goal.returns
returns c =
    let before = c.args.self.now in
    let inlets = c.args.inlets.now in
    let edge = c.args.edge.now in
    let sorted = c.sort_unstable_by_key.new.self.items in
    let waits : AreByCycle inlets edge → AreLeads before.leads →
    c.match-checked_sub.queue.items ≡ waits_for before.leads inlets edge before.sent = λ by_cycle leads.
    elim c.match-checked_sub.branch [
      | in-Some+in_ok-gather w ↦
          rw w.queue-is
          (w.in_ok-gather.ensures by_cycle leads
          ∙ ap (λ (xs : List Queued). xs ++ queue_of before.leads inlets edge w.in-Some.before) c.clear.ensures.items
          ∙ sym (waits_later before.leads inlets edge before.sent w.in-Some.before (omega (arith, w.in-Some.ensures))))
      | in_default w ↦
          rw w.queue-is (c.clear.ensures.items ∙ sym (waits_first before.leads inlets edge before.sent (omega (arith, w.in_default.ensures))))
    ] in
    sent_cycle inlets edge before c.send_queue.new.self c.match-checked_sub.queue.items sorted waits c.sort_unstable_by_key.ensures.permutation
    (IsNonDecreasingBy-from_sort_by_key key_of_queued _ c.sort_unstable_by_key.ensures.sorted (λ a r q k. search rules))
    (subst (λ (xs : List Queued). SendsQueue before.sent xs before c.send_queue.new.self) c.as_slice.ensures.value c.in_ok-send_queue.ensures)
    c.requires
