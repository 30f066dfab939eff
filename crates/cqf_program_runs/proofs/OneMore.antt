-- The deliveries of one offer follow those of the offers before it.
use Rattle.std.proofs.Common.{◌≡◌, ◌∙◌, ◌+◌, ◌<◌, ◌++◌, ℕ, List, Some, ap, arith, inl, inr, length, refl, take}
use Rattle.std.specs.Prelude.{slice_get}
use Rattle.std.proofs.lemmas.Option.{slice_get_cases}
use Rattle.cqf_model.specs.declared.frames.Offer.{Offer}
use Rattle.cqf_model.specs.declared.frames.Offered.{Offered}
use Rattle.cqf_model.specs.Policing.{numbered}
use Rattle.cqf_instants_run.specs.Columns.{verdict_at}
use Rattle.cqf_instants_run.proofs.Covers.{numbered_at}
use Rattle.cqf_program_runs.specs.declared.deliveries.delivery.Delivery.{Delivery}
use Rattle.cqf_program_runs.specs.Deliveries.Ending.{Over, deliveries_among, deliveries_at, known_over}
use Rattle.cqf_program_runs.proofs.Passed.{deliveries_more}

pub among_more : (over : Over) (index : ℕ) (here : List Delivery) → index < length over.offers →
    ((x : Offered) → slice_get (numbered over.offers) index ≡ Some x → here ≡ deliveries_at over x) →
    deliveries_among over (take index (numbered over.offers)) ++ here ≡ deliveries_among over (take (index + 1) (numbered over.offers))
among_more over index here within are = one (there over.offers index within)
  where
    -- the offer at an index
    there : (offers : List Offer) (k : ℕ) → k < length offers → (offer : Offer) × (slice_get offers k ≡ Some offer)
    there offers k inside = elim (slice_get_cases offers k).1 [
      | inl here ↦ (here.0, here.2)
      | inr past ↦ absurd (omega (arith, past.0, inside))
    ]

    one : (offer : Offer) × (slice_get over.offers index ≡ Some offer) →
        deliveries_among over (take index (numbered over.offers)) ++ here ≡ deliveries_among over (take (index + 1) (numbered over.offers))
    one found =
        ap (λ (more : List Delivery). deliveries_among over (take index (numbered over.offers)) ++ more)
        (are (record { frame = index + 1; offer = found.0 }) (numbered_at over.offers index found.0 found.1))
        ∙ deliveries_more over.domain over.cycles (known_over over) (verdict_at over.domain over.rows over.edge_verdicts) over.offers index found.0 found.1
        (deliveries_among over (take index (numbered over.offers))) refl
