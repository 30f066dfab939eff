-- What isn't ready remains so until a head comes or fits.
use Rattle.std.proofs.Common.{ℕ, ◌≡◌, ◌+◌, ◌*◌, ◌≤◌, ◌<◌, List, Option, None, Some, get_or, min, inl, inr, ap, sym, ◌∙◌, subst, arith}
use Rattle.std.proofs.lemmas.Bool.{cases_lt}
use Rattle.cqf_units.specs.Timing.{slot_of, time_of}
use Rattle.cqf_units.proofs.Times.{slot_some}
use Rattle.cqf_model.specs.declared.ports.Arrival.{Arrival}
use Rattle.cqf_model.specs.GateList.{IsOpenThrough}
use Rattle.cqf_model.specs.Port.{PortRules, Transmission, IsEligible, instant_of, class_of, octets_of}
use Rattle.cqf_port.specs.PortState.{AreTaken}
use Rattle.cqf_port.specs.Progress.{IsAbreast, IsChosen, IsAfterStart, StepsTo}
use Rattle.cqf_port.specs.Quiet.{FitsNowhere, IsIdleOf, IsIdleUntil, OneTurns, Turns}
use Rattle.cqf_port.specs.declared.progress.Progress.{Progress}
use Rattle.cqf_port.proofs.Steps.{abreast_busy, abreast_none}

-- a port that isn't idle yet
pub steps_busy : (rules : PortRules) (arrivals : List Arrival) (t : ℕ) (starts : List Transmission) (before : Progress) →
    IsAbreast rules arrivals t starts before → t < before.idle_from.0 → StepsTo rules arrivals t starts before before.idle_from.0
steps_busy rules arrivals t starts before abreast busy = record {
  later = busy;
  abreast = λ e after until. abreast_busy rules arrivals t e starts before abreast (omega arith) until;
}

-- no head is ready
pub steps_none : (rules : PortRules) (arrivals : List Arrival) (t until : ℕ) (starts : List Transmission) (before : Progress) →
    AreTaken arrivals → IsAbreast rules arrivals t starts before → t < until → IsIdleUntil rules arrivals before.heads t until →
    StepsTo rules arrivals t starts before until
steps_none rules arrivals t until starts before taken abreast later idle = record {
  later = later;
  abreast = λ e after within. abreast_none rules arrivals t e starts before taken abreast (omega arith) (λ s from soon. idle s from (omega arith));
}

-- a frame and its gap take some time
takes : (octet_time octets : ℕ) → 0 < octet_time → 0 < slot_of octets octet_time
takes octet_time octets some = slot_some octets octet_time some

-- a port that starts a frame
pub steps_start : (rules : PortRules) (arrivals : List Arrival) (t index : ℕ) (starts all : List Transmission) (before after : Progress) →
    0 < rules.octet_time → AreTaken arrivals → IsAbreast rules arrivals t starts before → before.idle_from.0 ≤ t →
    IsChosen rules arrivals before.heads t index → IsAfterStart rules.octet_time arrivals index t before after →
    IsAbreast rules arrivals (t + 1) all after → StepsTo rules arrivals t all after after.idle_from.0
steps_start rules arrivals t index starts all before after some taken abreast free chosen step started =
    let later : t < after.idle_from.0 = omega (arith, step.idle_from, takes rules.octet_time (octets_of arrivals index) some) in
    record {
      later = later;
      abreast = λ e following until. abreast_busy rules arrivals (t + 1) e all after started (omega arith) until;
    }

-- one more class is idle
pub idle_one_more : (rules : PortRules) (arrivals : List Arrival) (heads : List (Option ℕ)) (t until other less seen : ℕ) →
    ((class : ℕ) → class < seen → IsIdleOf rules arrivals (get_or heads class None) t until) → IsIdleOf rules arrivals (get_or heads seen None) t other
    → less ≤ until → less ≤ other → (class : ℕ) → class < seen + 1 → IsIdleOf rules arrivals (get_or heads class None) t less
idle_one_more rules arrivals heads t until other less seen so_far here shorter also class below = elim (cases_lt class seen) [
  | inl before ↦ λ s index from soon. so_far class before s index from (omega arith)
  | inr last ↦ subst (λ k. IsIdleOf rules arrivals (get_or heads k None) t less) (let same : seen ≡ class = omega arith in same)
      (λ s index from soon. here s index from (omega arith))
]

-- if each class is idle, no head is ready
pub idle_each : (rules : PortRules) (arrivals : List Arrival) (heads : List (Option ℕ)) (t until : ℕ) →
    ((class : ℕ) → class < 8 → IsIdleOf rules arrivals (get_or heads class None) t until) → IsIdleUntil rules arrivals heads t until
idle_each rules arrivals heads t until each s from soon class index lowest low ready = each class low s index from soon ready.is_head ready.come ready.eligible

-- the index of a head
abbrev index_in : Option ℕ → ℕ
index_in None = 0
index_in (Some index) = index

-- if it fits nowhere, the head isn't eligible
pub idle_nowhere : (rules : PortRules) (arrivals : List Arrival) (head : Option ℕ) (class t until index need : ℕ) → head ≡ Some index →
    class_of arrivals index ≡ class → need ≡ time_of (octets_of arrivals index + 8) rules.octet_time → FitsNowhere rules.entries class need t until
    → IsIdleOf rules arrivals head t until
idle_nowhere rules arrivals head class t until index need was of_class takes_so nowhere s other from soon is_head come eligible =
    let same : index ≡ other = ap index_in (sym was ∙ is_head) in
    let here : IsEligible rules arrivals index s = subst (λ n. IsEligible rules arrivals n s) (sym same) eligible in
    let ends : s + time_of (octets_of arrivals index + 8) rules.octet_time ≡ s + need = ap (λ n. s + n) (sym takes_so) in
    nowhere s from soon (subst (λ n. IsOpenThrough rules.entries class s n) ends
    (subst (λ k. IsOpenThrough rules.entries k s (s + time_of (octets_of arrivals index + 8) rules.octet_time)) of_class here))

-- if the head has come and fits, something can start
pub turns_fits : (rules : PortRules) (arrivals : List Arrival) (head : Option ℕ) (class t index need : ℕ) → head ≡ Some index →
    class_of arrivals index ≡ class → need ≡ time_of (octets_of arrivals index + 8) rules.octet_time → instant_of arrivals index ≤ t →
    IsOpenThrough rules.entries class t (t + need) → Turns rules arrivals head t
turns_fits rules arrivals head class t index need was of_class takes_so come fits =
    let ends : t + need ≡ t + time_of (octets_of arrivals index + 8) rules.octet_time = ap (λ n. t + n) takes_so in
    record {
      index = index;
      is_head = was;
      turns = inr (
        come,
        subst (λ k. IsOpenThrough rules.entries k t (t + time_of (octets_of arrivals index + 8) rules.octet_time)) (sym of_class)
            (subst (λ n. IsOpenThrough rules.entries class t n) ends fits),
      );
    }

-- the lesser of two such instants is one
pub turns_less : (rules : PortRules) (arrivals : List Arrival) (heads : List (Option ℕ)) (until other less seen most : ℕ) → seen < 8 →
    until ≤ most → (until < most → OneTurns rules arrivals heads until) → (other < until → Turns rules arrivals (get_or heads seen None) other)
    → less ≡ min until other → less < most → OneTurns rules arrivals heads less
turns_less rules arrivals heads until other less seen most low within so_far here is soon = elim (cases_lt other until) [
  | inl sooner ↦ (let same : other ≡ less = omega (arith, is) in record {
    class = seen;
    low = low;
    head =
        subst (λ n. Turns rules arrivals (get_or heads seen None) n) same (here sooner);
  })
  | inr later ↦ (let same : until ≡ less = omega (arith, is) in subst (λ n. OneTurns rules arrivals heads n) same (so_far (omega arith)))
]
