-- Each number so far is a seat's.
use Rattle.std.proofs.Common.{◌≡◌, ◌==◌, ℕ, ◌<◌, true}
use Rattle.std.specs.List.{list_any}
use Rattle.cqf_desk.specs.Desk.{Sitting}
use Rattle.cqf_desk.proofs.closing.are_its_seats.Given as goal

abbrev pub invariant-loop-number : goal.invariant-loop-number
invariant-loop-number l = (number : ℕ) → number < l.number → list_any (λ (s : Sitting). s.number == number) l.seats ≡ true
