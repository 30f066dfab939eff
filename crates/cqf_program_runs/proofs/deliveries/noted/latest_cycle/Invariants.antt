-- The cycle of the latest of the offers so far.
use Rattle.std.proofs.Common.{◌≡◌, take}
use Rattle.cqf_program_runs.specs.Check.Checked.{latest_cycle}
use Rattle.cqf_program_runs.proofs.deliveries.noted.latest_cycle.Given as goal

abbrev pub invariant-loop-offer : goal.invariant-loop-offer
invariant-loop-offer l = l.most ≡ latest_cycle l.domain (take l.offer-index l.offers)
