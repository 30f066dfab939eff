-- Offers of cycles that aren't run, and one offer more.
use Rattle.std.proofs.Common.{◌≡◌, ◌∙◌, ◌+◌, ◌<◌, ℕ, Bool, true, false, List, Some, ap, arith, count_by, get_or, length, take}
use Rattle.std.specs.Prelude.{slice_get}
use Rattle.std.proofs.lemmas.List.Sums.{count_by_more_no, count_by_more_yes}
use Rattle.std.proofs.lemmas.Option.{get_or_from_slice_get, slice_get_within}
use Rattle.cqf_model.specs.declared.frames.Offer.{Offer}
use Rattle.cqf_model.specs.declared.frames.Offered.{Offered}
use Rattle.cqf_model.specs.Policing.{numbered}
use Rattle.cqf_instants_run.proofs.Covers.{numbered_at}

module _ (late : Offered → Bool) (offers : List Offer) (index : ℕ) (offer : Offer) (at : slice_get offers index ≡ Some offer) where
  -- the offer with its number
  abbrev x : Offered
  x = record { frame = index + 1; offer = offer }

  inside : index < length (numbered offers)
  inside = slice_get_within (numbered offers) index x (numbered_at offers index offer at)

  is : (b : Bool) → late x ≡ b → late (get_or (numbered offers) index x) ≡ b
  is b e = ap late (get_or_from_slice_get (numbered offers) index x x (numbered_at offers index offer at)) ∙ e

  -- it is counted if its cycle isn't run
  pub one_later : late x ≡ true → (so_far : ℕ) → so_far ≡ count_by late (take index (numbered offers)) →
      so_far + 1 ≡ count_by late (take (index + 1) (numbered offers))
  one_later e so_far counted = omega (arith, counted, count_by_more_yes late (numbered offers) index x inside (is true e))

  pub none_later : late x ≡ false → (so_far : ℕ) → so_far ≡ count_by late (take index (numbered offers)) →
      so_far ≡ count_by late (take (index + 1) (numbered offers))
  none_later e so_far counted = omega (arith, counted, count_by_more_no late (numbered offers) index x inside (is false e))
