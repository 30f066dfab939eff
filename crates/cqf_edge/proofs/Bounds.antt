-- The least time that is enough is the least bound that there is.
use Rattle.std.proofs.Common.{◌≡◌, ℕ, suc, zero, ◌<◌, ◌≤◌, ◌++◌, ◌∷◌, [], ◌∙◌, Bool, true, false, Contains, List, Option, Some, None, ap, arith, inl, inr, length, map, refl, subst, sym}
use Rattle.std.specs.Prelude.{◌==◌, if◌then◌else◌, option_map, slice_get}
use Rattle.std.proofs.lemmas.Bool.{cases_Bool, cases_lt, eqb-false, le-leb, leb-true}
use Rattle.cqf_lists.specs.Lists.{each_below, least}
use Rattle.std.proofs.lemmas.Option.{same_Some}
use Rattle.cqf_lists.proofs.EachBelow.{contains_from_below, none_below}
use Rattle.cqf_lists.proofs.Members.{contains_at, contains_none, contains_one}
use Rattle.cqf_lists.proofs.Indices.{first_stays}
use Rattle.cqf_units.specs.declared.timing.Nanos.{Nanos}
use Rattle.cqf_units.specs.declared.timing.Octets.{Octets}
use Rattle.cqf_laws_timing.specs.Traffic.{Traffic}
use Rattle.cqf_traffic.specs.TrafficText.{TrafficText, promise_of}
use Rattle.cqf_network.specs.declared.domain.TalkerLink.{TalkerLink}
use Rattle.cqf_access.specs.Access.{AccessLink, IsBound, demand}
use Rattle.cqf_access.specs.Bounding.{IsAccessBound, IsLeastBound, all_promises, link_of}
use Rattle.cqf_edge.specs.Uses.{bound_by, bound_of, is_enough, least_bound, link_with, most_bound}

-- the first number that passes is the least one
least_is : (test : ℕ → Bool) (n k : ℕ) → k < n → test k ≡ true → ((j : ℕ) → j < k → test j ≡ false) → least test n ≡ Some k
least_is test zero k h t below = absurd (omega (arith, h))
least_is test (suc n) k h t below =
    let front = each_below (λ i. if test i then i ∷ [] else []) n in
    elim (cases_lt k n) [
      | inl l ↦ first_stays front (if test n then n ∷ [] else []) k (least_is test n k l t below)
      | inr g ↦ (let same : n ≡ k = omega (arith, g, h) in
          ap (λ (xs : List ℕ). slice_get (xs ++ (if test n then n ∷ [] else [])) 0)
          (none_below (λ i. if test i then i ∷ [] else []) n (λ i l. ap (λ (b : Bool). if b then i ∷ [] else []) (below i (omega (arith, l, same)))))
          ∙ ap (λ (b : Bool). slice_get (if b then n ∷ [] else []) 0) (ap test same ∙ t)
          ∙ ap (λ (i : ℕ). Some i) same)
    ]

-- where no number passes there is none
none_least : (test : ℕ → Bool) (n : ℕ) → ((k : ℕ) → k < n → test k ≡ false) → least test n ≡ None
none_least test n h = ap (λ (xs : List ℕ). slice_get xs 0)
    (none_below (λ k. if test k then k ∷ [] else []) n (λ k l. ap (λ (b : Bool). if b then k ∷ [] else []) (h k l)))

-- a time that is no bound isn't enough
not_enough : (link : AccessLink) (ts : List Traffic) (k : ℕ) → (IsBound link ts (suc k) → ⊥) → is_enough link ts (suc k) ≡ false
not_enough link ts k none = elim (cases_Bool (is_enough link ts (suc k))) [
  | inl e ↦ absurd (none (record { positive = omega arith; enough = leb-true (demand link ts (suc k)) (suc k) e }))
  | inr e ↦ e
]

-- the least bound, by the number before it
least_before : (link : AccessLink) (ts : List Traffic) (most k time : ℕ) → time ≡ suc k → IsLeastBound link ts time → time ≤ most →
    least (λ k. is_enough link ts (suc k)) most ≡ Some k
least_before link ts most k time e found few =
    least_is (λ k. is_enough link ts (suc k)) most k (omega (arith, few, e))
    (le-leb (demand link ts (suc k)) (suc k) (subst (λ (t : ℕ). demand link ts t ≤ t) e found.bound.enough))
    (λ j l. not_enough link ts j (λ b. omega (arith, found.least (suc j) b, l, e)))

pub least_bound_is : (link : AccessLink) (ts : List Traffic) (most : ℕ) (found : Option Nanos) → IsAccessBound link ts most found →
    least_bound link ts most ≡ option_map (λ (time : Nanos). time.0) found
unfolding least_bound
least_bound_is link ts most None none =
    ap (option_map suc) (none_least (λ k. is_enough link ts (suc k)) most (λ k l. not_enough link ts k (none (suc k) (omega (arith, l)))))
least_bound_is link ts most (Some time) (found, few) = ends time.0 refl
  where
    ends : (t : ℕ) → time.0 ≡ t → option_map suc (least (λ k. is_enough link ts (suc k)) most) ≡ Some time.0
    ends zero e = absurd (omega (arith, found.bound.positive, e))
    ends (suc k) e = ap (option_map suc) (least_before link ts most k time.0 e found few) ∙ ap (λ (t : ℕ). Some t) (sym e)

-- so what is found of a link's promises is its bound
pub found_is : (link : TalkerLink) (other : Option ℕ) (given : Option Octets) (slice ts : List TrafficText) (found : Option Nanos) →
    option_map (λ (octets : Octets). octets.0) given ≡ other → slice ≡ ts → (length slice == 0) ≡ false →
    IsAccessBound (link_of link.rate given) (all_promises slice) most_bound found →
    bound_by (option_map (λ (time : Nanos). time.0) found) ≡ bound_of link other (map promise_of ts)
found_is link other given slice [] found e same some h = absurd (eqb-false (length slice) 0 some (ap length same))
found_is link other given slice (t ∷ ts) found e same some h =
    ap bound_by (sym (least_bound_is (link_of link.rate given) (all_promises slice) most_bound found h))
    ∙ ap (λ (us : List TrafficText). bound_by (least_bound (link_of link.rate given) (all_promises us) most_bound)) same
    ∙ ap (λ (o : Option ℕ). bound_by (least_bound (link_with link o) (all_promises (t ∷ ts)) most_bound)) e

-- ---- and back

-- the least number that passes does
least_passes : (test : ℕ → Bool) (n k : ℕ) → least test n ≡ Some k → test k ≡ true
least_passes test n k e =
    let (j, inside, c) = contains_from_below (λ i. if test i then i ∷ [] else []) n k
    (contains_at (each_below (λ i. if test i then i ∷ [] else []) n) 0 k e) in
    by j (test j) refl c
  where
    by : (j : ℕ) (b : Bool) → test j ≡ b → Contains (if b then j ∷ [] else []) k → test k ≡ true
    by j true t c = subst (λ (i : ℕ). test i ≡ true) (contains_one j k c) t
    by j false t c = absurd (contains_none k c)

-- so what is found is a bound
pub bound_from : (link : AccessLink) (ts : List Traffic) (most time : ℕ) → least_bound link ts most ≡ Some time → IsBound link ts time
unfolding least_bound
bound_from link ts most time e = by (least (λ k. is_enough link ts (suc k)) most) refl e
  where
    by : (o : Option ℕ) → least (λ k. is_enough link ts (suc k)) most ≡ o → option_map suc o ≡ Some time → IsBound link ts time
    by None at h = absurd cc
    by (Some k) at h =
        let passes = least_passes (λ j. is_enough link ts (suc j)) most k at in
        subst (λ (t : ℕ). IsBound link ts t) (same_Some (suc k) time h)
        (record { positive = omega arith; enough = leb-true (demand link ts (suc k)) (suc k) passes })
