-- The choice among the heads, from what their classes need.
use Rattle.std.proofs.Common.{ℕ, ◌≡◌, ◌≢◌, ◌+◌, ◌*◌, ◌%◌, ◌^◌, ◌≤◌, ◌<◌, ◌↔◌, List, length, get_or, set, IsBitSet}
use Rattle.std.proofs.Common.{Option, None, min, bit_or, w8, inl, inr, sym, ap, subst, ◌∙◌, arith}
use Rattle.std.specs.Prelude.{MatchOption}
use Rattle.std.specs.Int.{bit_at}
use Rattle.std.proofs.lemmas.Bool.{cases_lt}
use Rattle.std.proofs.lemmas.List.{get_or-set_same, get_or-set_other, length-set}
use Rattle.std.proofs.lemmas.Nat.Bits.{bit_at_set_same, bit_at_set_other, bit_at-zero}
use Rattle.cqf_units.specs.Timing.{time_of}
use Rattle.cqf_units.proofs.Times.{time_some}
use Rattle.cqf_lanes.specs.Kernels.{AreEligible, IsHighest}
use Rattle.cqf_lanes.proofs.Bits.{one_from_set, set_from_one, unset_from_zero}
use Rattle.cqf_model.specs.declared.ports.Arrival.{Arrival}
use Rattle.cqf_model.specs.GateList.{IsOpenThrough}
use Rattle.cqf_model.specs.Port.{PortRules, octets_of}
use Rattle.cqf_port.specs.Progress.{AreInside, IsReady, NoneReady, IsChosen}
use Rattle.cqf_port.specs.Asked.{HeadFits, NoHeadFits, IsShortFrame, AreAsked}
use Rattle.cqf_port.specs.Spans.{AreSpansAt}

-- at first no class is set
pub none_asked : (octet_time : ℕ) (arrivals : List Arrival) (heads : List (Option ℕ)) (t : ℕ) (spans need left : List ℕ) → length need ≡ 8 →
    length left ≡ 8 → AreAsked octet_time arrivals heads t spans 0 0 need left
none_asked octet_time arrivals heads t spans need left eight also = record {
  eight_need = eight;
  eight_left = also;
  each = λ class low seen. absurd (omega arith);
  short = λ class low seen. absurd (omega arith);
  others = λ class low unseen. unset_from_zero 0 class (bit_at-zero class);
}

module _ (octet_time : ℕ) (arrivals : List Arrival) (heads : List (Option ℕ)) (t : ℕ) (spans : List ℕ) (seen classes : ℕ) (need left : List ℕ)
    (low_seen : seen < 8) (so_far : AreAsked octet_time arrivals heads t spans seen classes need left)
    (short : IsShortFrame octet_time arrivals (get_or heads seen None)) where
  -- the frames of the classes so far and of one more are short
  short_more : (class : ℕ) → class < 8 → class < seen + 1 → IsShortFrame octet_time arrivals (get_or heads class None)
  short_more class low looked = elim (cases_lt class seen) [
    | inl before ↦ so_far.short class low before
    | inr here ↦ subst (λ k. IsShortFrame octet_time arrivals (get_or heads k None)) (let same : seen ≡ class = omega arith in same) short
  ]

  -- one more class isn't set
  pub asked_none : NoHeadFits octet_time arrivals (get_or heads seen None) t (get_or spans seen 0) →
      AreAsked octet_time arrivals heads t spans (seen + 1) classes need left
  asked_none none = record {
    eight_need = so_far.eight_need;
    eight_left = so_far.eight_left;
    each = λ class low looked. elim (cases_lt class seen) [
      | inl before ↦ so_far.each class low before
      | inr here ↦
          let same : seen ≡ class = omega arith in (
            λ is_set. absurd (so_far.others class low (omega arith) is_set.0),
            λ fits. absurd (none (subst (λ k. HeadFits octet_time arrivals (get_or heads k None) t (get_or spans k 0)) (sym same) fits)),
          )
    ];
    short = short_more;
    others = λ class low unseen. so_far.others class low (omega arith);
  }

  -- one more class is set
  pub asked_some : (asked_need asked_left after : ℕ) → after ≡ bit_or classes (1 * 2 ^ seen % 2 ^ 8) →
      (asked_need ≤ asked_left) ↔ HeadFits octet_time arrivals (get_or heads seen None) t (get_or spans seen 0) →
      AreAsked octet_time arrivals heads t spans (seen + 1) after (set need seen asked_need) (set left seen asked_left)
  asked_some asked_need asked_left after is asks = record {
    eight_need = length-set need seen asked_need ∙ so_far.eight_need;
    eight_left = length-set left seen asked_left ∙ so_far.eight_left;
    each = λ class low looked. elim (cases_lt class seen) [
      | inl before ↦
          let differs : class ≢ seen = λ same. omega arith in
          let bit : bit_at after class ≡ bit_at classes class = ap (λ m. bit_at m class) is ∙ bit_at_set_other w8 classes seen low_seen class differs in
          let old_need = get_or-set_other need seen class asked_need 0 differs in
          let old_left = get_or-set_other left seen class asked_left 0 differs in
          let both = so_far.each class low before in (
            λ is_set. both.0 (set_from_one classes class (sym bit ∙ one_from_set after class is_set.0), omega (arith, old_need, old_left, is_set.1)),
            λ fits. let was = both.1 fits in (set_from_one after class (bit ∙ one_from_set classes class was.0), omega (arith, old_need, old_left, was.1)),
          )
      | inr here ↦
          let same : seen ≡ class = omega arith in
          let bit : bit_at after seen ≡ 1 = ap (λ m. bit_at m seen) is ∙ bit_at_set_same w8 classes seen low_seen in
          let new_need = get_or-set_same need seen asked_need 0 (omega (arith, so_far.eight_need)) in
          let new_left = get_or-set_same left seen asked_left 0 (omega (arith, so_far.eight_left)) in
          subst (λ k. (IsBitSet after k × (get_or (set need seen asked_need) k 0 ≤ get_or (set left seen asked_left) k 0)) ↔ HeadFits
          octet_time arrivals (get_or heads k None) t (get_or spans k 0)) same (
            λ is_set. asks.0 (omega (arith, new_need, new_left, is_set.1)),
            λ fits. (set_from_one after seen bit, omega (arith, new_need, new_left, asks.1 fits)),
          )
    ];
    short = short_more;
    others = λ class low unseen is_set.
        let differs : class ≢ seen = λ same. omega arith in
        let bit : bit_at after class ≡ bit_at classes class = ap (λ m. bit_at m class) is ∙ bit_at_set_other w8 classes seen low_seen class differs in
        so_far.others class low (omega arith) (set_from_one classes class (sym bit ∙ one_from_set after class is_set));
  }

-- two numbers capped by a third
pub capped : (need left most : ℕ) → ¬ ((most < need) × (left < need)) → (min need most ≤ min left most) ↔ (need ≤ left)
capped need left most fits = (
  λ less. elim (cases_lt left need) [
    | inl over ↦ elim (cases_lt most need) [ inl long ↦ absurd (fits (long, over)) | inr short ↦ absurd (omega arith) ]
    | inr within ↦ within
  ],
  λ le. omega arith,
)

module _ (rules : PortRules) (arrivals : List Arrival) (heads : List (Option ℕ)) (t : ℕ) (spans : List ℕ) (classes : ℕ) (need left : List ℕ)
    (some : 0 < rules.octet_time) (inside : AreInside arrivals heads) (open_for : AreSpansAt rules.entries t (2 ^ 62) spans)
    (asked : AreAsked rules.octet_time arrivals heads t spans 8 classes need left) where
  -- a frame takes some time
  takes_some : (index : ℕ) → 0 < time_of (octets_of arrivals index + 8) rules.octet_time
  takes_some index = time_some (octets_of arrivals index + 8) rules.octet_time (omega arith) some

  -- a head that fits is ready
  ready_from_fits : (class : ℕ) → class < 8 → (fits : HeadFits rules.octet_time arrivals (get_or heads class None) t (get_or spans class 0))
      → IsReady rules arrivals heads t class fits.index
  ready_from_fits class low fits =
      let takes : ℕ = time_of (octets_of arrivals fits.index + 8) rules.octet_time in
      let small = asked.short class low low fits.index fits.is_head in
      let through : IsOpenThrough rules.entries class t (t + takes) = ((open_for.each class low) takes (takes_some fits.index) (omega arith)).1 fits.fits in
      record {
        is_head = fits.is_head;
        come = fits.come;
        eligible = subst (λ k. IsOpenThrough rules.entries k t (t + takes)) (sym (inside.classes class fits.index low fits.is_head)) through;
      }

  -- and the other way round
  fits_from_ready : (class index : ℕ) → class < 8 → IsReady rules arrivals heads t class index →
      HeadFits rules.octet_time arrivals (get_or heads class None) t (get_or spans class 0)
  fits_from_ready class index low ready =
      let takes : ℕ = time_of (octets_of arrivals index + 8) rules.octet_time in
      let small = asked.short class low low index ready.is_head in
      let through : IsOpenThrough rules.entries class t (t + takes) =
      subst (λ k. IsOpenThrough rules.entries k t (t + takes)) (inside.classes class index low ready.is_head) ready.eligible in
      record {
        index = index;
        is_head = ready.is_head;
        come = ready.come;
        fits = ((open_for.each class low) takes (takes_some index) (omega arith)).0 through;
      }

  -- if no class is eligible, no head is ready
  pub none_ready : (eligible : ℕ) → AreEligible classes need left eligible → eligible ≡ 0 → NoneReady rules arrivals heads t 0
  none_ready eligible are none class index from low ready =
      let bits = (asked.each class low low).1 (fits_from_ready class index low ready) in
      unset_from_zero eligible class (ap (λ m. bit_at m class) none ∙ bit_at-zero class) ((are class low).1 bits)

  -- otherwise the head of the highest eligible class is chosen
  pub highest_is_chosen : (eligible class : ℕ) → AreEligible classes need left eligible → IsHighest eligible class →
      MatchOption (get_or heads class None) (NoneReady rules arrivals heads t 0) (IsChosen rules arrivals heads t)
  highest_is_chosen eligible class are highest =
      let fits = (asked.each class highest.low highest.low).0 ((are class highest.low).0 highest.is_set) in
      subst (λ head. MatchOption head (NoneReady rules arrivals heads t 0) (IsChosen rules arrivals heads t)) (sym fits.is_head) (record {
        class = class;
        low = highest.low;
        ready = ready_from_fits class highest.low fits;
        above = λ other index above low ready. highest.none_above other (omega arith)
            ((are other low).1 ((asked.each other low low).1 (fits_from_ready other index low ready)));
      })
