-- What a port sends is determined by its gate list, its link and its arrivals: legal starts are unique.
use Rattle.std.proofs.Common.{◌≡◌, ℕ, ◌<◌, ◌≤◌, List, sym, inl, inr, arith, subst}
use Rattle.std.specs.Prelude.{Contains, nat_lt, zero, suc}
use Rattle.std.proofs.lemmas.Bool.{cases_lt, cases_order, ltb-true, lt-ltb}
use Rattle.std.proofs.lemmas.List.Kept.{AllPairs-filter}
use Rattle.cqf_model.specs.declared.ports.Arrival.{Arrival}
use Rattle.cqf_model.specs.Port.{AreLegal, IsEligible, IsFirst, IsIdle, PortRules, Transmission, class_of}
use Rattle.cqf_laws_network.specs.PortLaws.{HasAllBefore, starts_before}
use Rattle.cqf_lists.proofs.Members.{contains_filter, contains_from_filter}
use Rattle.cqf_lists.proofs.Pairs.{same_ordered}
use Rattle.cqf_laws_network.proofs.Alike.{CameAlike, StartedAlike, came_same, first_alike, idle_alike, legal_alike, started_back}

-- if the same started before an instant, two firsts are equal unless one has a higher class
same_choice : (xs : List Arrival) (b : List Transmission) (p q t : ℕ) → IsFirst xs b p t → IsFirst xs b q t → (class_of xs p < class_of xs q → ⊥) →
    (class_of xs q < class_of xs p → ⊥) → p ≡ q
same_choice xs b p q t f g above below =
    elim (cases_order (class_of xs p) (class_of xs q)) [
      | inl e ↦ elim (cases_order p q) [
        | inl same ↦ same
        | inr other ↦ elim other [
          | inl l ↦ absurd (g.none_before p l e f.waits)
          | inr l ↦ absurd (f.none_before q l (sym e) g.waits)
        ]
      ]
      | inr other ↦ elim other [ inl l ↦ absurd (above l) | inr l ↦ absurd (below l) ]
    ]

-- what starts at an instant in one legal list starts in the other, if the same started before
start_same : (rules : PortRules) (xs : List Arrival) (end : ℕ) (a b : List Transmission) → AreLegal rules xs end a → AreLegal rules xs end b → (t : ℕ) →
    StartedAlike t a b → (p : ℕ) → Contains a (p, t) → Contains b (p, t)
start_same rules xs end a b la lb t s p h =
    let came = came_same t xs in
    let f : IsFirst xs a p t = la.first p t h in
    let f_b : IsFirst xs b p t = first_alike t xs xs a b came s p f in
    let e : IsEligible rules xs p t = la.eligible p t h in
    let idle : IsIdle rules xs b t = idle_alike rules end t xs xs a b la came s (la.idle p t h) in
    let w = lb.work_conserving t p (la.before_end p t h) idle f_b e in
    let q = w.0 in
    let g_b : IsFirst xs b q t = lb.first q t w.1 in
    let g : IsFirst xs a q t = first_alike t xs xs b a came (started_back s) q g_b in
    let k : IsEligible rules xs q t = lb.eligible q t w.1 in
    let same : p ≡ q = same_choice xs b p q t f_b g_b (λ l. la.strict_priority p t q h l g k) (λ l. lb.strict_priority q t p w.1 l f_b e) in
    subst (λ (x : ℕ). Contains b (x, t)) (sym same) w.1

-- two legal lists start the same before each instant
started_same : (rules : PortRules) (xs : List Arrival) (end : ℕ) (a b : List Transmission) → AreLegal rules xs end a → AreLegal rules xs end b → (n : ℕ) →
    StartedAlike n a b
started_same rules xs end a b la lb zero = record { to = λ p s l h. absurd (omega (arith, l)); from = λ p s l h. absurd (omega (arith, l)) }
started_same rules xs end a b la lb (suc n) =
    let before = started_same rules xs end a b la lb n in
    record {
      to = λ p s l h. elim (cases_lt s n) [
        | inl k ↦ before.to p s k h
        | inr g ↦ let e : s ≡ n = omega (arith, l, g) in
            subst (λ (x : ℕ). Contains b (p, x)) (sym e) (start_same rules xs end a b la lb n before p (subst (λ (x : ℕ). Contains a (p, x)) e h))
      ];
      from = λ p s l h. elim (cases_lt s n) [
        | inl k ↦ before.from p s k h
        | inr g ↦ let e : s ≡ n = omega (arith, l, g) in
            subst (λ (x : ℕ). Contains a (p, x)) (sym e)
            (start_same rules xs end b a lb la n (started_back before) p (subst (λ (x : ℕ). Contains b (p, x)) e h))
      ];
    }

-- legal starts are unique
pub legal_same : (rules : PortRules) (xs : List Arrival) (end : ℕ) (a b : List Transmission) → AreLegal rules xs end a → AreLegal rules xs end b → a ≡ b
legal_same rules xs end a b la lb =
    let s = started_same rules xs end a b la lb end in
    same_ordered (λ (x y : Transmission). x.1 < y.1) (λ x y l m. omega (arith, l, m)) a b la.in_order lb.in_order
    (λ z h. s.to z.0 z.1 (la.before_end z.0 z.1 h) h) (λ z h. s.from z.0 z.1 (lb.before_end z.0 z.1 h) h)

-- the starts before an instant are those of the whole list there
pub started_before : (earlier : ℕ) (starts : List Transmission) → StartedAlike earlier starts (starts_before earlier starts)
started_before earlier starts =
    let test = λ (x : Transmission). nat_lt x.1 earlier in
    record {
      to = λ p s l h. contains_filter test starts (p, s) h (lt-ltb s earlier l);
      from = λ p s l h. (contains_from_filter test starts (p, s) h).0;
    }

-- the part before an earlier end is legal up to it, also for arrivals that differ only in what comes later
pub part_legal : (rules : PortRules) (xs ys : List Arrival) (earlier end : ℕ) (starts : List Transmission) → earlier ≤ end →
    ((t : ℕ) → t < earlier → CameAlike t xs ys) → AreLegal rules xs end starts → AreLegal rules ys earlier (starts_before earlier starts)
part_legal rules xs ys earlier end starts le came legal =
    let test = λ (x : Transmission). nat_lt x.1 earlier in
    legal_alike rules earlier end xs ys starts (starts_before earlier starts) le came (started_before earlier starts)
    (AllPairs-filter (λ (x y : Transmission). x.1 < y.1) test starts legal.in_order)
    (λ p s h. ltb-true s earlier (contains_from_filter test starts (p, s) h).1)
    legal

-- what comes before an instant is what comes at each instant before it
same_past : (xs ys : List Arrival) (earlier : ℕ) → HasAllBefore earlier xs ys → HasAllBefore earlier ys xs → (t : ℕ) → t < earlier → CameAlike t xs ys
same_past xs ys earlier to from t l = record { to = λ p h k. to p h (omega (arith, k, l)); from = λ p h k. from p h (omega (arith, k, l)) }

-- a legal part is legal for arrivals that agree before its end
pub part_legal_past : (rules : PortRules) (xs ys : List Arrival) (earlier end : ℕ) (starts : List Transmission) → earlier ≤ end → HasAllBefore earlier xs ys →
    HasAllBefore earlier ys xs → AreLegal rules xs end starts → AreLegal rules ys earlier (starts_before earlier starts)
part_legal_past rules xs ys earlier end starts le to from legal =
    part_legal rules xs ys earlier end starts le (same_past xs ys earlier to from) legal

-- what comes before an instant determines what is sent before it
pub past_counts : (rules : PortRules) (xs ys : List Arrival) (earlier end other_end : ℕ) (a b : List Transmission) → earlier ≤ end → earlier ≤ other_end →
    HasAllBefore earlier xs ys → HasAllBefore earlier ys xs → AreLegal rules xs end a → AreLegal rules ys other_end b →
    starts_before earlier a ≡ starts_before earlier b
past_counts rules xs ys earlier end other_end a b le other_le to from la lb =
    legal_same rules ys earlier (starts_before earlier a) (starts_before earlier b)
    (part_legal_past rules xs ys earlier end a le to from la)
    (part_legal rules ys ys earlier other_end b other_le (λ t l. came_same t ys) lb)
