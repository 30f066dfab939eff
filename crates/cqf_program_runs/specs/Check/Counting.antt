-- What a check has examined so far.
use Rattle.std.specs.Prelude.{ℕ, ◌≡◌, ◌*◌, ◌≤◌, List, None, Result, find, take}
use Rattle.cqf_model.specs.Policing.{numbered}
use Rattle.cqf_program_runs.specs.declared.check.checked.CheckCounts.{CheckCounts}
use Rattle.cqf_program_runs.specs.declared.check.checked.OfferCounts.{OfferCounts}
use Rattle.cqf_program_runs.specs.declared.deliveries.delivery.Delivery.{Delivery}
use Rattle.cqf_program_runs.specs.Check.Checked.{checked_by, counts_of, is_bad}
use Rattle.cqf_program_runs.specs.Deliveries.{fate_of}
use Rattle.cqf_program_runs.specs.Deliveries.Ending.{Over, deliveries_among, deliveries_over}

-- the counts are bounded as those of the deliveries of `index` offers, at most 200 for each
pub record AreCountsBefore (index : ℕ) (counts : CheckCounts) : Type 0 where
  pub under_way : counts.under_way ≤ 200 * index
  pub delivered : counts.delivered ≤ 200 * index
  pub timed : counts.timed ≤ 200 * index

-- the check of a run that is over, with these counts of its offers
abbrev pub checked_over : Over → OfferCounts → Result (List ℕ) (List ℕ)
checked_over over offers = checked_by (deliveries_over over) (counts_of offers (deliveries_over over))

-- none of the deliveries is bad
abbrev pub NoneBad : List Delivery → Type 0
NoneBad deliveries = find (λ (delivery : Delivery). is_bad (fate_of delivery)) deliveries ≡ None

-- none of the deliveries of the first `index` offers is bad, and all are counted
pub record GoesWellSoFar (over : Over) (offers : OfferCounts) (index : ℕ) (counts : CheckCounts) : Type 0 where
  pub well : NoneBad (deliveries_among over (take index (numbered over.offers)))
  pub counted : counts ≡ counts_of offers (deliveries_among over (take index (numbered over.offers)))
  pub before : AreCountsBefore index counts
