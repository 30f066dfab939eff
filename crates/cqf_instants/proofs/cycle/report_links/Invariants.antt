-- The links so far have sent, in each run that fits, and no more than their queues can hold.
use Rattle.std.proofs.Common.{◌≡◌, ◌≤◌, length, vec_capacity}
use Rattle.cqf_instants.specs.Queues.{caps_below}
use Rattle.cqf_instants.specs.Meaning.{CanSend, Given, SendsAll}
use Rattle.cqf_instants.proofs.cycle.report_links.Given as goal

abbrev pub invariant-loop-index : goal.invariant-loop-index
invariant-loop-index l = record {
  sends : (given : Given) → CanSend given l.branches l.links l.cycle.number.0 l.cycle.begins l.initial.now.items l.initial.next.items →
      SendsAll given l.branches l.cycle.number.0 l.index l.initial.now.items l.now.items l.initial.next.items l.next.items l.initial.starts.items
      l.starts.items;
  few : length l.starts.items ≤ caps_below l.initial.now.items l.index;
  capacity : vec_capacity l.starts ≡ vec_capacity l.initial.starts;
}
