use Rattle.std.proofs.Common.{◌≡◌, drop, nat_lt}
use Rattle.std.specs.Prelude.{find}
use Rattle.cqf_network.proofs.domain.first_above.Given as goal

abbrev pub invariant-loop-cycle : goal.invariant-loop-cycle
invariant-loop-cycle l = find (nat_lt l.guard) (drop l.cycle-index l.candidates) ≡ find (nat_lt l.guard) l.candidates
