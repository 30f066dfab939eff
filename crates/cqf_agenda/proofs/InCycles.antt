-- A list in order of instant is in order cycle by cycle.
use Rattle.std.proofs.Common.{◌≡◌, ◌&&◌, ℕ, ◌<◌, Bool, true, false, List, [], sym, refl, ap, ◌∙◌}
use Rattle.std.specs.Prelude.{◌==◌, filter}
use Rattle.std.proofs.lemmas.List.Kept.{IsNonDecreasingBy-filter}
use Rattle.cqf_lists.proofs.EachBelow.{filter_twice}
use Rattle.cqf_lists.proofs.Filters.{filter_alike}
use Rattle.cqf_units.specs.Timing.{cycle_at}
use Rattle.cqf_model.specs.declared.frames.Backed.{Backed}
use Rattle.cqf_model.specs.declared.frames.Background.{Background}
use Rattle.cqf_model.specs.declared.frames.Offer.{Offer}
use Rattle.cqf_model.specs.declared.frames.Offered.{Offered}
use Rattle.cqf_model.specs.Domain.{Domain}
use Rattle.cqf_model.specs.Network.{numbered_background}
use Rattle.cqf_model.specs.Policing.{numbered}
use Rattle.cqf_laws_cycle.specs.Gathered.{BackgroundStandsInOrder, IsInOrderOf, OffersStandInOrder}
use Rattle.cqf_agenda.specs.Agenda.{AgendaOf, IsAgendaOf, instant_of_backed, instant_of_offer}
use Rattle.cqf_agenda.specs.Picking.{is_backed_from, is_offered_to}

-- both tests in the other order
and_turned : (a b : Bool) → (a && b) ≡ (b && a)
and_turned true true = refl
and_turned true false = refl
and_turned false true = refl
and_turned false false = refl

-- two filters in the other order
turned : {X : Type 0} (p q : X → Bool) (xs : List X) → filter p (filter q xs) ≡ filter (λ x. q x && p x) xs
turned p q xs = filter_twice p q xs ∙ filter_alike (λ x. p x && q x) (λ x. q x && p x) xs (λ x held. and_turned (p x) (q x))

module _ {X : Type 0} (key : X → ℕ) where
  -- filtering keeps the order
  pub kept_in_order : (here kept : X → Bool) (xs ys : List X) → IsInOrderOf key (filter here xs) ys →
      IsInOrderOf key (filter (λ x. here x && kept x) xs) (filter kept ys)
  kept_in_order here kept xs ys h = record {
    in_order = IsNonDecreasingBy-filter key kept ys h.in_order;
    stable = λ t.
        (let at = λ (x : X). key x == t in
        turned at kept ys ∙ sym (filter_twice kept at ys) ∙ ap (filter kept) (h.stable t)
        ∙ filter_twice kept at (filter here xs) ∙ sym (turned at kept (filter here xs))
        ∙ ap (filter at) (turned kept here xs));
  }

-- an offer at a given instant
pub offer_at : ℕ → Offered
offer_at t = record { frame = 0; offer = record { at = record { 0 = t }; bridge = 0; stream = []; octets = 0 } }

-- each instant is that of some offer
pub offers_at_instants : (t : ℕ) → instant_of_offer (offer_at t) ≡ t
unfolding offer_at
offers_at_instants t = refl

-- a background frame at an instant
pub backed_at : ℕ → Backed
backed_at t = record { frame = 0; background = record { at = record { 0 = t }; link = 0; class = 0; octets = 0 } }

-- each instant is that of some background frame
pub backed_at_instants : (t : ℕ) → instant_of_backed (backed_at t) ≡ t
unfolding backed_at
backed_at_instants t = refl

-- so the bridge's part, in order of instant, is its agenda
pub is_agenda : (d : Domain) (offers : List Offer) (background : List Background) (bridge : ℕ) (a : AgendaOf) → OffersStandInOrder → BackgroundStandsInOrder →
    0 < d.cycle_time → a.cycle_time ≡ d.cycle_time →
    IsInOrderOf instant_of_offer (filter (is_offered_to bridge) (numbered offers)) a.offers →
    IsInOrderOf instant_of_backed (filter (is_backed_from d bridge) (numbered_background background)) a.background →
    IsAgendaOf d offers background bridge a
is_agenda d offers background bridge a offers_stand background_stands some time own own_background = record {
  offers_are = λ cycle.
      ap (λ (t : ℕ). filter (λ (x : Offered). cycle_at t (instant_of_offer x) == cycle) a.offers) time
      ∙ offers_stand d offers bridge cycle (filter (λ (x : Offered). cycle_at d.cycle_time (instant_of_offer x) == cycle) a.offers) some
      (kept_in_order instant_of_offer (is_offered_to bridge) (λ (x : Offered). cycle_at d.cycle_time (instant_of_offer x) == cycle)
      (numbered offers) a.offers own);
  background_are = λ cycle.
      ap (λ (t : ℕ). filter (λ (x : Backed). cycle_at t (instant_of_backed x) == cycle) a.background) time
      ∙ background_stands d background bridge cycle (filter (λ (x : Backed). cycle_at d.cycle_time (instant_of_backed x) == cycle) a.background) some
      (kept_in_order instant_of_backed (is_backed_from d bridge) (λ (x : Backed). cycle_at d.cycle_time (instant_of_backed x) == cycle)
      (numbered_background background)
      a.background own_background);
}
