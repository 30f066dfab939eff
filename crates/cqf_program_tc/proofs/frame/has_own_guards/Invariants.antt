-- None of the links so far has a guard band of its own.
use Rattle.std.proofs.Common.{◌≡◌, false, take}
use Rattle.std.specs.List.{list_any}
use Rattle.cqf_program_tc.specs.Bridge.{has_own_guard}
use Rattle.cqf_program_tc.proofs.frame.has_own_guards.Given as goal

abbrev pub invariant-loop-link : goal.invariant-loop-link
invariant-loop-link l = list_any has_own_guard (take l.link l.domain.links) ≡ false
