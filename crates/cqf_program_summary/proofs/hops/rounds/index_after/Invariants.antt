-- The offers so far are of cycles before the end.
use Rattle.std.proofs.Common.{ℕ, ◌≡◌, ◌<◌, ◌≤◌, Some}
use Rattle.std.specs.Prelude.{slice_get}
use Rattle.cqf_units.specs.Timing.{cycle_at}
use Rattle.cqf_model.specs.declared.frames.Offer.{Offer}
use Rattle.cqf_program_summary.proofs.hops.rounds.index_after.Given as goal

abbrev pub invariant-loop-index : goal.invariant-loop-index
invariant-loop-index l = (index : ℕ) (offer : Offer) → l.from ≤ index → index < l.index → slice_get l.offers index ≡ Some offer →
    cycle_at l.domain.cycle_time offer.at.0 < l.end
