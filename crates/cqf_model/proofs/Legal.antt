-- When a frame is eligible, and when nothing is legal.
use Rattle.std.proofs.Common.{◌≡◌, ℕ, ◌+◌, ◌<◌, List, arith, refl, subst}
use Rattle.std.specs.Prelude.{[], ◌∷◌, slice_index_or}
use Rattle.cqf_lists.proofs.Members.{contains_here}
use Rattle.cqf_units.specs.Timing.{ending_of}
use Rattle.cqf_units.proofs.Times.{time_some}
use Rattle.cqf_model.specs.declared.ports.Arrival.{Arrival}
use Rattle.cqf_model.specs.GateList.{IsOpenThrough}
use Rattle.cqf_model.specs.Port.{AreLegal, IsEligible, PortRules, Transmission, no_arrival}

-- a frame ends after it began, if an octet takes time
pub ends_later : (t octets octet_time : ℕ) → 0 < octet_time → t < ending_of t octets octet_time
ends_later t octets octet_time h = omega (arith, time_some (octets + 8) octet_time (omega arith) h)

-- eligibility depends on the arrival, not on its index
pub eligible_alike : (rules : PortRules) (xs ys : List Arrival) (p t : ℕ) → slice_index_or xs p no_arrival ≡ slice_index_or ys p no_arrival →
    IsEligible rules xs p t → IsEligible rules ys p t
eligible_alike rules xs ys p t e h =
    subst (λ (y : Arrival). IsOpenThrough rules.entries y.class t (ending_of t y.octets rules.octet_time)) e h

-- up to instant 0 no transmission is legal
pub none_at_0 : (rules : PortRules) (arrivals : List Arrival) (end : ℕ) (starts : List Transmission) → end ≡ 0 → AreLegal rules arrivals end starts →
    starts ≡ []
none_at_0 rules arrivals end [] e legal = refl
none_at_0 rules arrivals end (x ∷ xs) e legal = absurd (omega (arith, e, legal.before_end x.0 x.1 (contains_here x xs)))
