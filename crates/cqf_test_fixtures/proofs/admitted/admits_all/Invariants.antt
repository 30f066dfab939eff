-- The admission's domain is unchanged.
use Rattle.std.proofs.Common.{◌≡◌}
use Rattle.cqf_test_fixtures.proofs.admitted.admits_all.Given as goal

abbrev pub invariant-loop-asked : goal.invariant-loop-asked
invariant-loop-asked l = l.admission.domain ≡ l.fn.admission.domain
