-- The starts of the frames so far are added, and the frames are put into their next queues; the next frame starts when they and
-- their gaps are over.
use Rattle.std.proofs.Common.{◌≡◌, ◌+◌, ◌*◌, ◌++◌, length, take, vec_capacity}
use Rattle.cqf_instants.specs.Queues.{AddsToQueue, after_hop, in_pace, queue_time, start_of_queue}
use Rattle.cqf_instants.proofs.link.report_link.Given as goal

abbrev pub invariant-loop-frame : goal.invariant-loop-frame
invariant-loop-frame l = record {
  offset : l.offset ≡ queue_time l.sender.octet_time (take l.frame-index l.queue);
  starts : l.starts.items ≡ l.initial.starts.items ++ in_pace (start_of_queue l.cycle.number.0 l.sender.link l.cycle.begins) l.sender.octet_time
      0 (take l.frame-index l.queue);
  count : length l.starts.items ≡ length l.initial.starts.items + l.frame-index;
  capacity : vec_capacity l.starts ≡ vec_capacity l.initial.starts;
  next : AddsToQueue l.initial.next.items l.next.items (λ k. in_pace (after_hop l.sender l.branches k) l.sender.octet_time 0 (take l.frame-index l.queue));
}
