-- Offers in order of instant are in order of cycle; and from some distance on, an offer's cycle is at least `hop_number`
-- cycles after that of the offer this far before it.
use Rattle.std.proofs.Common.{◌≡◌, ◌∙◌, ◌+◌, ◌-◌, ◌/◌, ◌<◌, ◌≤◌, ℕ, List, Some, ap, arith, get_or, inl, inr, length, sym}
use Rattle.std.specs.Prelude.{slice_get, suc, zero}
use Rattle.std.proofs.lemmas.Bool.{cases_lt}
use Rattle.std.proofs.lemmas.Option.{get_or_from_slice_get, slice_get-get_or, slice_get_within}
use Rattle.std.proofs.Math.Nat.{div-zero}
use Rattle.cqf_units.specs.Timing.{cycle_at}
use Rattle.cqf_units.proofs.Cycles.{cycles_ordered}
use Rattle.cqf_model.specs.declared.frames.Offer.{Offer}
use Rattle.cqf_laws_coverage.specs.Judged.{StandInOrder}

-- a later instant is in no earlier cycle
pub cycles_rise : (n s t : ℕ) → s ≤ t → s / n ≤ t / n
cycles_rise zero s t order = omega (arith, div-zero s, div-zero t)
cycles_rise (suc n) s t order = cycles_ordered (suc n) s t (omega arith) order

-- below a place, an offer `frames` positions after another is of a cycle at least `hop_number` cycles after the other's
abbrev pub EnoughBelow : ℕ → List Offer → ℕ → ℕ → ℕ → Type 0
EnoughBelow n offers hop_number index frames = (p : ℕ) (early late : Offer) → p + frames < index → slice_get offers p ≡ Some early →
    slice_get offers (p + frames) ≡ Some late → cycle_at n early.at.0 + hop_number ≤ cycle_at n late.at.0

module _ (n : ℕ) (offers : List Offer) (ordered : StandInOrder offers) where
  pub in_order : (p q : ℕ) (a b : Offer) → p ≤ q → slice_get offers p ≡ Some a → slice_get offers q ≡ Some b → cycle_at n a.at.0 ≤ cycle_at n b.at.0
  in_order p q a b before at_p at_q = elim (cases_lt p q) [
    | inl less ↦
        let one : get_or offers p a ≡ a = get_or_from_slice_get offers p a a at_p in
        let two : get_or offers q a ≡ b = get_or_from_slice_get offers q b a at_q in
        let rise : (get_or offers p a).at.0 ≤ (get_or offers q a).at.0 = ordered p q a less (slice_get_within offers q b at_q) in
        cycles_rise n a.at.0 b.at.0 (omega (arith, rise, ap (λ (o : Offer). o.at.0) one, ap (λ (o : Offer). o.at.0) two))
    | inr past ↦
        let same : p ≡ q = omega (arith, before, past) in
        let both : Some a ≡ Some b = sym at_p ∙ ap (slice_get offers) same ∙ at_q in
        let is : a ≡ b = cc in
        omega (arith, ap (λ (o : Offer). cycle_at n o.at.0) is)
  ]

  module _ (hop_number index frames : ℕ) (below : EnoughBelow n offers hop_number index frames) where
    -- if that holds for the last one too
    pub enough_same : ((p : ℕ) (early late : Offer) → p + frames ≡ index → slice_get offers p ≡ Some early → slice_get offers index ≡ Some late →
        cycle_at n early.at.0 + hop_number ≤ cycle_at n late.at.0) → EnoughBelow n offers hop_number (index + 1) frames
    enough_same last p early late inside at_early at_late = elim (cases_lt (p + frames) index) [
      | inl less ↦ below p early late less at_early at_late
      | inr past ↦
          let here : p + frames ≡ index = omega (arith, inside, past) in
          last p early late here at_early (ap (slice_get offers) (sym here) ∙ at_late)
    ]

    -- otherwise for a distance of one position more
    pub enough_more : 0 < frames → EnoughBelow n offers hop_number (index + 1) (frames + 1)
    enough_more some p early late inside at_early at_late =
        let before : p + frames < length offers = omega (arith, slice_get_within offers (p + (frames + 1)) late at_late) in
        let middle = get_or offers (p + frames) early in
        let at_middle : slice_get offers (p + frames) ≡ Some middle = slice_get-get_or offers (p + frames) early before in
        omega (
          arith,
          below p early middle (omega (arith, inside)) at_early at_middle,
          in_order (p + frames) (p + (frames + 1)) middle late (omega arith) at_middle at_late,
        )
