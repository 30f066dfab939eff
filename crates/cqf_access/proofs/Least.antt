-- What streams take of a link grows with the time. So what is taken within a time that is at most any bound is at most any bound too.
use Rattle.std.proofs.Common.{◌≡◌, ℕ, ◌+◌, ◌-◌, ◌<◌, ◌≤◌, ◌++◌, ◌∷◌, [], ◌∙◌, List, All, Contains, ◌⊎◌, inl, inr, sym, ap, arith, min, sum_by, mul-le-mul_right}
use Rattle.std.proofs.Common.{get_or, length, take, zero-add}
use Rattle.std.proofs.lemmas.List.{map-append, take_more}
use Rattle.std.proofs.lemmas.List.Sums.{sum_by-append}
use Rattle.std.proofs.lemmas.Bool.{cases_lt}
use Rattle.std.proofs.lemmas.List.Elements.{All-contains}
use Rattle.cqf_lists.proofs.Members.{contains_from_map}
use Rattle.cqf_lists.proofs.Sums.{sum_le_members}
use Rattle.cqf_units.proofs.Cycles.{cycles_ordered}
use Rattle.cqf_laws_timing.specs.Traffic.{Traffic}
use Rattle.cqf_traffic.specs.TrafficText.{IsTrafficText, TrafficText, promise_of}
use Rattle.cqf_access.specs.Access.{AccessLink, IsBound, demand, taken_of, taken_within}
use Rattle.cqf_access.specs.Bounding.{IsLeastBound, all_promises}

-- one stream
taken_more : (link : AccessLink) (t : Traffic) (a b : ℕ) → 0 < t.interval → a ≤ b → taken_within link a t ≤ taken_within link b t
taken_more link t a b some order =
    let intervals = cycles_ordered t.interval (a + t.jitter + t.interval - 1) (b + t.jitter + t.interval - 1) some (omega (arith, order)) in
    mul-le-mul_right (taken_of link t.size) (mul-le-mul_right t.frames intervals)

-- all of them
pub demand_more : (link : AccessLink) (ts : List TrafficText) (a b : ℕ) → All IsTrafficText ts → a ≤ b → demand link (all_promises ts) a ≤ demand link (all_promises ts) b
demand_more link ts a b are order =
    let each = sum_le_members (λ (t : Traffic). taken_within link a t) (λ (t : Traffic). taken_within link b t) (all_promises ts) (λ t c. one t c) in
    omega (arith, each)
  where
    one : (t : Traffic) → Contains (all_promises ts) t → taken_within link a t ≤ taken_within link b t
    one t c =
        let w = contains_from_map promise_of ts t c in
        let is = All-contains IsTrafficText ts w.0 are w.1 in
        let same : w.0.interval ≡ t.interval = ap (λ (r : Traffic). r.interval) w.2 in
        let some : 0 < t.interval = omega (arith, same, is.interval.least) in
        taken_more link t a b some order

-- a time is at most any bound that is allowed
pub record IsBelow (link : AccessLink) (ts : List TrafficText) (most time : ℕ) : Type 0 where
  pub positive : 0 < time
  pub below : (t : ℕ) → IsBound link (all_promises ts) t → t ≤ most → time ≤ t

pub first_below : (link : AccessLink) (ts : List TrafficText) (most : ℕ) → IsBelow link ts most 1
first_below link ts most = record { positive = omega arith; below = λ t b l. omega (arith, b.positive) }

-- a minimum is at most both
min_parts : (a b c : ℕ) → c ≡ min a b → (c ≤ a) × (c ≤ b) × ((c ≡ a) ⊎ (c ≡ b))
min_parts a b c e = elim (cases_lt a b) [
  | inl l ↦ let is : min a b ≡ a = omega (arith, l) in (omega (arith, e, is), omega (arith, e, is, l), inl (omega (arith, e, is)))
  | inr l ↦ let is : min a b ≡ b = omega (arith, l) in (omega (arith, e, is, l), omega (arith, e, is), inr (omega (arith, e, is)))
]

pub next_below : (link : AccessLink) (ts : List TrafficText) (most time taken : ℕ) → All IsTrafficText ts → IsBelow link ts most time →
    taken ≡ min (demand link (all_promises ts) time) (most + 1) → time < taken → IsBelow link ts most taken
next_below link ts most time taken are r is more = record {
  positive = omega (arith, more);
  below = λ t b l. omega (
    arith,
    (min_parts (demand link (all_promises ts) time) (most + 1) taken is).0,
    demand_more link ts time t are (r.below t b l),
    b.enough,
  );
}

pub found_least : (link : AccessLink) (ts : List TrafficText) (most time taken : ℕ) → IsBelow link ts most time →
    taken ≡ min (demand link (all_promises ts) time) (most + 1) → taken ≤ time → time ≤ most → IsLeastBound link (all_promises ts) time
found_least link ts most time taken r is enough small = record {
  bound = record { positive = r.positive; enough = fits };
  least = λ t b. elim (cases_lt most t) [
    | inl more ↦ omega (arith, more, small)
    | inr few ↦ r.below t b few
  ];
}
  where
    fits : demand link (all_promises ts) time ≤ time
    fits = elim (min_parts (demand link (all_promises ts) time) (most + 1) taken is).2 [
      | inl e ↦ omega (arith, e, enough)
      | inr e ↦ absurd (omega (arith, e, enough, small))
    ]

pub none_found : (link : AccessLink) (ts : List TrafficText) (most time : ℕ) → IsBelow link ts most time → most < time →
    (t : ℕ) → t ≤ most → IsBound link (all_promises ts) t → ⊥
none_found link ts most time r past t few b = omega (arith, r.below t b few, past, few)

-- ---- what is taken, stream by stream

-- with one more stream
pub demand_next : (link : AccessLink) (ts : List TrafficText) (n time : ℕ) (d : TrafficText) → n < length ts →
    demand link (all_promises (take (n + 1) ts)) time ≡ demand link (all_promises (take n ts)) time + taken_within link time (promise_of (get_or ts n d))
demand_next link ts n time d inside =
    let f : Traffic → ℕ = λ t. taken_within link time t in
    let step : all_promises (take (n + 1) ts) ≡ all_promises (take n ts) ++ all_promises (get_or ts n d ∷ []) =
    ap all_promises (take_more ts n d inside) ∙ map-append promise_of (take n ts) (get_or ts n d ∷ []) in
    let sum : sum_by f (all_promises (take (n + 1) ts)) ≡ sum_by f (all_promises (take n ts)) + sum_by f (promise_of (get_or ts n d) ∷ []) =
    ap (sum_by f) step ∙ sum_by-append f (all_promises (take n ts)) (all_promises (get_or ts n d ∷ [])) in
    let one : sum_by f (promise_of (get_or ts n d) ∷ []) ≡ f (promise_of (get_or ts n d)) = zero-add (f (promise_of (get_or ts n d))) in
    omega (arith, sum, one)

-- a sum may be limited before another number is added
pub cut_off : (a b most sum : ℕ) → sum ≡ min a most → min (sum + b) most ≡ min (a + b) most
cut_off a b most sum e = elim (cases_lt a most) [
  | inl l ↦ let is : min a most ≡ a = omega (arith, l) in let same : sum ≡ a = omega (arith, e, is) in ap (λ (z : ℕ). min (z + b) most) same
  | inr l ↦
      let is : min a most ≡ most = omega (arith, l) in
      let left : min (sum + b) most ≡ most = omega (arith, e, is) in
      let right : min (a + b) most ≡ most = omega (arith, l) in
      left ∙ sym right
]

-- so the limited sum continues with one more stream
pub taken_next : (link : AccessLink) (ts : List TrafficText) (n time most : ℕ) (item d : TrafficText) (sum taken next : ℕ) → n < length ts →
    get_or ts n d ≡ item → sum ≡ min (demand link (all_promises (take n ts)) time) most → taken ≡ taken_within link time (promise_of item) →
    next ≡ min (sum + taken) most → next ≡ min (demand link (all_promises (take (n + 1) ts)) time) most
taken_next link ts n time most item d sum taken next inside is so_far takes e =
    let more : demand link (all_promises (take (n + 1) ts)) time ≡ demand link (all_promises (take n ts)) time + taken_within link time (promise_of item) =
    demand_next link ts n time d inside ∙ ap (λ (t : TrafficText). demand link (all_promises (take n ts)) time + taken_within link time (promise_of t)) is in
    e
    ∙ ap (λ (z : ℕ). min (sum + z) most) takes
    ∙ cut_off (demand link (all_promises (take n ts)) time) (taken_within link time (promise_of item)) most sum so_far
    ∙ ap (λ (z : ℕ). min z most) (sym more)
