-- Deliveries, counted and searched for the first bad one, offer by offer.
use Rattle.std.proofs.Common.{◌≡◌, ◌∙◌, ◌+◌, ◌<◌, ◌++◌, ◌&&◌, ℕ, Bool, List, None, Option, Some, ap, count_by, drop, filter, find, length, sym, take}
use Rattle.std.specs.Option.{option_or}
use Rattle.std.specs.Prelude.{slice_get}
use Rattle.std.proofs.lemmas.Grind.{flat_map-append}
use Rattle.std.proofs.lemmas.List.{length-append, take-append-drop}
use Rattle.std.proofs.lemmas.List.Elements.{filter-append}
use Rattle.std.proofs.lemmas.List.Folds.{find-append}
use Rattle.std.proofs.lemmas.List.Sums.{length-filter}
use Rattle.cqf_model.specs.declared.frames.Offered.{Offered}
use Rattle.cqf_model.specs.Policing.{numbered}
use Rattle.cqf_program_runs.specs.declared.check.checked.CheckCounts.{CheckCounts}
use Rattle.cqf_program_runs.specs.declared.check.checked.OfferCounts.{OfferCounts}
use Rattle.cqf_program_runs.specs.declared.deliveries.delivery.Delivery.{Delivery}
use Rattle.cqf_program_runs.specs.Check.Checked.{counts_of, is_bad, is_delivered, is_timed, is_under_way}
use Rattle.cqf_program_runs.specs.Check.Counting.{NoneBad}
use Rattle.cqf_program_runs.specs.Deliveries.{fate_of}
use Rattle.cqf_program_runs.specs.Deliveries.Ending.{Over, deliveries_among, deliveries_at, deliveries_over}
use Rattle.cqf_program_runs.proofs.OneMore.{among_more}

-- how many of two lists pass
count_by_joined : {X : Type 0} (p : X → Bool) (xs ys : List X) → count_by p (xs ++ ys) ≡ count_by p xs + count_by p ys
count_by_joined p xs ys =
    sym (length-filter p (xs ++ ys)) ∙ ap length (filter-append p xs ys) ∙ length-append (filter p xs) (filter p ys)
    ∙ (λ i. length-filter p xs i + length-filter p ys i)

-- the three tests by which deliveries are counted
abbrev goes : Delivery → Bool
goes delivery = is_under_way (fate_of delivery)

abbrev is_there : Delivery → Bool
is_there delivery = is_delivered (fate_of delivery)

abbrev is_there_timed : Delivery → Bool
is_there_timed delivery = is_delivered (fate_of delivery) && is_timed delivery.passage

-- some more are counted
pub counted_more : (counts : CheckCounts) (offers : OfferCounts) (u v w : ℕ) (done here : List Delivery) → u ≡ count_by goes here → v ≡ count_by is_there here →
    w ≡ count_by is_there_timed here → counts ≡ counts_of offers done →
    record { offers = counts.offers; under_way = counts.under_way + u; delivered = counts.delivered + v; timed = counts.timed + w }
    ≡ counts_of offers (done ++ here)
counted_more counts offers u v w done here us vs ws is = λ i. record {
  offers = (is i).offers;
  under_way = under i;
  delivered = there i;
  timed = timed i;
}
  where
    under : counts.under_way + u ≡ count_by goes (done ++ here)
    under = (λ i. (is i).under_way + us i) ∙ sym (count_by_joined goes done here)

    there : counts.delivered + v ≡ count_by is_there (done ++ here)
    there = (λ i. (is i).delivered + vs i) ∙ sym (count_by_joined is_there done here)

    timed : counts.timed + w ≡ count_by is_there_timed (done ++ here)
    timed = (λ i. (is i).timed + ws i) ∙ sym (count_by_joined is_there_timed done here)

-- whether a delivery ends a check
abbrev pub ends_it : Delivery → Bool
ends_it delivery = is_bad (fate_of delivery)

-- those of one offer, of a run that is over
module _ (over : Over) (index : ℕ) (here : List Delivery) (within : index < length over.offers)
    (are : (x : Offered) → slice_get (numbered over.offers) index ≡ Some x → here ≡ deliveries_at over x)
    (well : NoneBad (deliveries_among over (take index (numbered over.offers)))) where
  -- the result of the search in its deliveries is that of the search in the deliveries up to it
  found_here : (found : Option Delivery) → find ends_it here ≡ found → find ends_it (deliveries_among over (take (index + 1) (numbered over.offers))) ≡ found
  found_here found is =
      ap (find ends_it) (sym (among_more over index here within are))
      ∙ find-append ends_it (deliveries_among over (take index (numbered over.offers))) here
      ∙ (λ i. option_or (well i) (is i))

  -- no delivery so far is bad if none of this offer is
  pub none_bad_more : find ends_it here ≡ None → NoneBad (deliveries_among over (take (index + 1) (numbered over.offers)))
  none_bad_more is = found_here None is

  -- otherwise its first bad delivery is the first of all
  pub first_bad_of_all : (bad : Delivery) → find ends_it here ≡ Some bad → find ends_it (deliveries_over over) ≡ Some bad
  first_bad_of_all bad is =
      let front = take (index + 1) (numbered over.offers) in
      let back = drop (index + 1) (numbered over.offers) in
      ap (find ends_it) (ap (deliveries_among over) (sym (take-append-drop (index + 1) (numbered over.offers)))
      ∙ flat_map-append (deliveries_at over) front back)
      ∙ find-append ends_it (deliveries_among over front) (deliveries_among over back)
      ∙ ap (λ (o : Option Delivery). option_or o (find ends_it (deliveries_among over back))) (found_here (Some bad) is)
