-- The seats so far are fresh.
use Rattle.std.proofs.Common.{◌≡◌}
use Rattle.cqf_desk.specs.Desk.{fresh_seats}
use Rattle.cqf_desk.proofs.desk.new_seats.Given as goal

abbrev pub invariant-loop-number : goal.invariant-loop-number
invariant-loop-number l = l.numbered.items ≡ fresh_seats l.number
