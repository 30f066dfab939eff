use Rattle.std.proofs.Common.{◌≡◌, ◌++◌, map}
use Rattle.std.specs.Vec.Iter.{into_iter_items}
use Rattle.cqf_worker.specs.Conducting.{commands_of, seat_of}
use Rattle.cqf_worker.proofs.conducting.seat_each.Given as goal

-- the administrators so far have the first seats, in order, and their commands
abbrev pub invariant-loop-commands : goal.invariant-loop-commands
invariant-loop-commands l = record {
  given : l.yielded ++ into_iter_items l.commands-iterator ≡ l.fn.admins.items;
  seats : map seat_of l.administrators.items ++ into_iter_items l.left ≡ l.fn.seats.items;
  commands : map commands_of l.administrators.items ≡ map (λ c. c.items) l.yielded;
}
