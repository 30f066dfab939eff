-- This is the number of frames of the links so far, and each link has few.
use Rattle.std.proofs.Common.{◌≡◌, ◌*◌, ◌^◌, ◌≤◌}
use Rattle.cqf_instants.specs.Queues.{sum_below}
use Rattle.cqf_instants.specs.Reporting.{room_at}
use Rattle.cqf_instants.proofs.rooms.frames_in_all.Given as goal

abbrev pub invariant-loop-index : goal.invariant-loop-index
invariant-loop-index l = record {
  sum : l.frames ≡ sum_below (room_at l.links l.cycle_time l.guard l.offers) l.index;
  few : l.frames ≤ l.index * 2 ^ 32;
}
