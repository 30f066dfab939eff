-- Further arrivals whose classes are closed from their instants on: starts are legal with them if and only if they are legal without.
use Rattle.std.proofs.Common.{ℕ, ◌≡◌, ◌≤◌, ◌<◌, inl, inr, List, [], ◌∷◌, ◌++◌, length, ap, sym, subst, ◌∙◌, arith, length-append}
use Rattle.std.specs.Prelude.{Contains, slice_index_or}
use Rattle.std.proofs.lemmas.List.{get_or_append_left}
use Rattle.cqf_lists.proofs.Members.{contains_one}
use Rattle.cqf_lists.proofs.Indices.{in_either}
use Rattle.cqf_units.specs.Timing.{idle_after}
use Rattle.cqf_model.specs.declared.ports.Arrival.{Arrival}
use Rattle.cqf_model.specs.GateList.{IsOpen}
use Rattle.cqf_model.specs.Port.{AreLegal, IsEligible, IsFirst, IsIdle, PortRules, Transmission, Waits, no_arrival, octets_of}
use Rattle.cqf_model.proofs.Legal.{eligible_alike, ends_later}

-- the gate of an arrival is closed from the arrival's instant up to the end
abbrev pub IsClosedUntil : PortRules → ℕ → Arrival → Type 0
IsClosedUntil rules end x = (t : ℕ) → x.at.0 ≤ t → t < end → IsOpen rules.entries x.class t → ⊥

-- an arrival of the front has the same index with further arrivals
kept : (xs ys : List Arrival) (p : ℕ) → p < length xs → slice_index_or xs p no_arrival ≡ slice_index_or (xs ++ ys) p no_arrival
kept xs ys p l = sym (get_or_append_left xs ys no_arrival p l)

module _ (rules : PortRules) (xs ys : List Arrival) (end : ℕ) (positive : 0 < rules.octet_time)
    (closed : (x : Arrival) → Contains ys x → IsClosedUntil rules end x) where
  -- so an eligible first arrival is of the front
  in_front : (starts : List Transmission) (p t : ℕ) → t < end → IsFirst (xs ++ ys) starts p t → IsEligible rules (xs ++ ys) p t → p < length xs
  in_front starts p t l f e =
      elim (in_either xs ys p no_arrival f.waits.inside) [
        | inl k ↦ k
        | inr m ↦ absurd (closed (slice_index_or (xs ++ ys) p no_arrival) m t f.waits.come l
            (e t (omega arith) (ends_later t (octets_of (xs ++ ys) p) rules.octet_time positive)))
      ]

  -- an arrival of the front that waits among all waits in the front alone
  waits_fewer : (starts : List Transmission) (p t : ℕ) → p < length xs → Waits (xs ++ ys) starts p t → Waits xs starts p t
  waits_fewer starts p t l w =
      record { inside = l; come = omega (arith, w.come, ap (λ (y : Arrival). y.at.0) (kept xs ys p l)); not_started = w.not_started }

  -- and the other way round
  waits_more : (starts : List Transmission) (p t : ℕ) → Waits xs starts p t → Waits (xs ++ ys) starts p t
  waits_more starts p t w =
      record {
        inside = omega (arith, w.inside, length-append xs ys);
        come = omega (arith, w.come, ap (λ (y : Arrival). y.at.0) (kept xs ys p w.inside));
        not_started = w.not_started;
      }

  -- the first of a class among all is the first in the front alone
  first_fewer : (starts : List Transmission) (p t : ℕ) → p < length xs → IsFirst (xs ++ ys) starts p t → IsFirst xs starts p t
  first_fewer starts p t l f =
      let class = λ (y : Arrival). y.class in
      let own = ap class (kept xs ys p l) in
      record {
        waits = waits_fewer starts p t l f.waits;
        none_before = λ other m c w. f.none_before other m (sym (ap class (kept xs ys other w.inside)) ∙ c ∙ own) (waits_more starts other t w);
      }

  -- and the other way round
  first_more : (starts : List Transmission) (p t : ℕ) → IsFirst xs starts p t → IsFirst (xs ++ ys) starts p t
  first_more starts p t f =
      let class = λ (y : Arrival). y.class in
      let own = ap class (kept xs ys p f.waits.inside) in
      record {
        waits = waits_more starts p t f.waits;
        none_before = λ other m c w.
            let inside : other < length xs = omega (arith, m, f.waits.inside) in
            f.none_before other m (ap class (kept xs ys other inside) ∙ c ∙ sym own) (waits_fewer starts other t inside w);
      }

  -- if the starts are of the front and the port is idle for all arrivals, it is idle for the front alone
  idle_fewer : (starts : List Transmission) → ((p s : ℕ) → Contains starts (p, s) → p < length xs) → (t : ℕ) → IsIdle rules (xs ++ ys) starts t →
      IsIdle rules xs starts t
  idle_fewer starts inside t idle p s h l =
      omega (arith, idle p s h l, ap (λ (y : Arrival). idle_after s y.octets rules.octet_time) (kept xs ys p (inside p s h)))

  -- and the other way round
  idle_more : (starts : List Transmission) → ((p s : ℕ) → Contains starts (p, s) → p < length xs) → (t : ℕ) → IsIdle rules xs starts t →
      IsIdle rules (xs ++ ys) starts t
  idle_more starts inside t idle p s h l =
      omega (arith, idle p s h l, ap (λ (y : Arrival). idle_after s y.octets rules.octet_time) (kept xs ys p (inside p s h)))

  -- an arrival that is eligible in the front alone is eligible among all
  eligible_more : (p t : ℕ) → p < length xs → IsEligible rules xs p t → IsEligible rules (xs ++ ys) p t
  eligible_more p t l = eligible_alike rules xs (xs ++ ys) p t (kept xs ys p l)

  -- and the other way round
  eligible_fewer : (p t : ℕ) → p < length xs → IsEligible rules (xs ++ ys) p t → IsEligible rules xs p t
  eligible_fewer p t l = eligible_alike rules (xs ++ ys) xs p t (sym (kept xs ys p l))

  -- starts that are legal with further arrivals are legal for the front alone
  pub front_legal : (starts : List Transmission) → AreLegal rules (xs ++ ys) end starts → AreLegal rules xs end starts
  front_legal starts legal =
      let inside : (p s : ℕ) → Contains starts (p, s) → p < length xs =
      λ p s h. in_front starts p s (legal.before_end p s h) (legal.first p s h) (legal.eligible p s h) in
      let class = λ (y : Arrival). y.class in
      record {
        in_order = legal.in_order;
        before_end = legal.before_end;
        once = legal.once;
        idle = λ p s h. idle_fewer starts inside s (legal.idle p s h);
        first = λ p s h. first_fewer starts p s (inside p s h) (legal.first p s h);
        eligible = λ p s h. eligible_fewer p s (inside p s h) (legal.eligible p s h);
        strict_priority = λ p s other h c f e.
            legal.strict_priority p s other h (omega (arith, c, ap class (kept xs ys p (inside p s h)), ap class (kept xs ys other f.waits.inside)))
            (first_more starts other s f) (eligible_more other s f.waits.inside e);
        work_conserving = λ t other k i f e.
            legal.work_conserving t other k (idle_more starts inside t i) (first_more starts other t f) (eligible_more other t f.waits.inside e);
      }

  -- and the other way round
  pub more_legal : (starts : List Transmission) → AreLegal rules xs end starts → AreLegal rules (xs ++ ys) end starts
  more_legal starts legal =
      let inside : (p s : ℕ) → Contains starts (p, s) → p < length xs = λ p s h. (legal.first p s h).waits.inside in
      let class = λ (y : Arrival). y.class in
      record {
        in_order = legal.in_order;
        before_end = legal.before_end;
        once = legal.once;
        idle = λ p s h. idle_more starts inside s (legal.idle p s h);
        first = λ p s h. first_more starts p s (legal.first p s h);
        eligible = λ p s h. eligible_more p s (inside p s h) (legal.eligible p s h);
        strict_priority = λ p s other h c f e.
            let l = in_front starts other s (legal.before_end p s h) f e in
            legal.strict_priority p s other h (omega (arith, c, ap class (kept xs ys p (inside p s h)), ap class (kept xs ys other l)))
            (first_fewer starts other s l f) (eligible_fewer other s l e);
        work_conserving = λ t other k i f e.
            let l = in_front starts other t k f e in
            legal.work_conserving t other k (idle_fewer starts inside t i) (first_fewer starts other t l f) (eligible_fewer other t l e);
      }

-- so are they with one further arrival
pub one_more_legal : (rules : PortRules) (xs : List Arrival) (late : Arrival) (end : ℕ) (starts : List Transmission) → 0 < rules.octet_time →
    IsClosedUntil rules end late → AreLegal rules xs end starts → AreLegal rules (xs ++ late ∷ []) end starts
one_more_legal rules xs late end starts positive closed legal =
    more_legal rules xs (late ∷ []) end positive (λ x h. subst (IsClosedUntil rules end) (contains_one late x h) closed) starts legal
