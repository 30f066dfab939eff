-- Legal starts exist for any gate list and arrivals: the port goes from instant to instant, and what it may start is decidable.
use Rattle.std.proofs.Common.{◌≡◌, ℕ, ◌<◌, ◌≤◌, List, length, add-one, refl, inl, inr, arith, subst}
use Rattle.std.specs.Prelude.{[], ◌∷◌, ◌++◌, Contains, zero, suc}
use Rattle.std.proofs.lemmas.Bool.{cases_eq}
use Rattle.cqf_units.specs.Timing.{ending_of}
use Rattle.cqf_model.specs.declared.ports.Arrival.{Arrival}
use Rattle.cqf_model.specs.GateList.{Entry, IsOpen, IsOpenThrough}
use Rattle.cqf_model.specs.Port.{AreLegal, IsEligible, IsFirst, IsIdle, PortRules, Transmission, Waits, class_of, free_from, instant_of, octets_of}
use Rattle.cqf_model.proofs.Starts.{legal_skip, legal_start}
use Rattle.cqf_laws_network.proofs.Decide.{Decided, IsBest, best_below, decided_below, decided_both, decided_if, decided_le, decided_like, decided_lt, decided_members, decided_not}

-- whether a class is open is decided
decided_open : (entries : List Entry) (class t : ℕ) → Decided (IsOpen entries class t)
decided_open entries class t = decided_not (cases_eq _ _)

-- whether it stays open is decided
decided_through : (entries : List Entry) (class first last : ℕ) → Decided (IsOpenThrough entries class first last)
decided_through entries class first last =
    decided_like {P = (t : ℕ) → t < last → first ≤ t → IsOpen entries class t}
    (λ f t g l. f t l g) (λ f t l g. f t g l)
    (decided_below (λ t. first ≤ t → IsOpen entries class t) (λ t. decided_if (decided_le first t) (decided_open entries class t)) last)

-- whether an arrival waits is decided
decided_waits : (xs : List Arrival) (starts : List Transmission) (p t : ℕ) → Decided (Waits xs starts p t)
decided_waits xs starts p t =
    decided_like {P = (p < length xs) × (instant_of xs p ≤ t) × ((x : Transmission) → Contains starts x → x.0 ≡ p → t ≤ x.1)}
    (λ w. record { inside = w.0; come = w.1; not_started = λ s h. w.2 (p, s) h refl })
    (λ w. (w.inside, w.come, λ x h e. w.not_started x.1 (subst (λ (q : ℕ). Contains starts (q, x.1)) e h)))
    (decided_three (decided_lt p (length xs)) (decided_le (instant_of xs p) t)
    (decided_members (λ (x : Transmission). x.0 ≡ p → t ≤ x.1) (λ x. decided_if (cases_eq x.0 p) (decided_le t x.1)) (0, 0) starts))
  where
    -- a conjunction of three is decided if all three are
    decided_three : {P Q R : Type 0} → Decided P → Decided Q → Decided R → Decided (P × Q × R)
    decided_three p q r = decided_like (λ w. (w.0, w.1.0, w.1.1)) (λ w. (w.0, (w.1, w.2))) (decided_both p (decided_both q r))

-- whether it is the first that waits is decided
decided_first : (xs : List Arrival) (starts : List Transmission) (p t : ℕ) → Decided (IsFirst xs starts p t)
decided_first xs starts p t =
    decided_like {P = Waits xs starts p t × ((other : ℕ) → other < p → class_of xs other ≡ class_of xs p → Waits xs starts other t → ⊥)}
    (λ w. record { waits = w.0; none_before = w.1 })
    (λ w. (w.waits, w.none_before))
    (decided_both (decided_waits xs starts p t)
    (decided_below (λ other. class_of xs other ≡ class_of xs p → Waits xs starts other t → ⊥)
    (λ other. decided_if (cases_eq (class_of xs other) (class_of xs p)) (decided_not (decided_waits xs starts other t))) p))

-- whether the port is idle is decided
decided_idle : (rules : PortRules) (xs : List Arrival) (starts : List Transmission) (t : ℕ) → Decided (IsIdle rules xs starts t)
decided_idle rules xs starts t =
    decided_like {P = (x : Transmission) → Contains starts x → x.1 < t → free_from rules xs x.0 x.1 ≤ t}
    (λ f p s h l. f (p, s) h l) (λ f x h l. f x.0 x.1 h l)
    (decided_members (λ (x : Transmission). x.1 < t → free_from rules xs x.0 x.1 ≤ t) (λ x. decided_if (decided_lt x.1 t) (decided_le (free_from rules xs x.0 x.1) t))
    (0, 0) starts)

-- what may start at an instant, if no other class has precedence
abbrev MayStart : PortRules → List Arrival → List Transmission → ℕ → ℕ → Type 0
MayStart rules xs starts t p = IsFirst xs starts p t × IsEligible rules xs p t

-- whether an arrival may start is decided
decided_may_start : (rules : PortRules) (xs : List Arrival) (starts : List Transmission) (t p : ℕ) → Decided (MayStart rules xs starts t p)
decided_may_start rules xs starts t p =
    decided_both (decided_first xs starts p t) (decided_through rules.entries (class_of xs p) t (ending_of t (octets_of xs p) rules.octet_time))

-- if nothing may start at the end, the starts are legal one instant longer
legal_without : (rules : PortRules) (xs : List Arrival) (end : ℕ) (starts : List Transmission) → AreLegal rules xs end starts →
    (IsIdle rules xs starts end → (p : ℕ) → MayStart rules xs starts end p → ⊥) → AreLegal rules xs (suc end) starts
legal_without rules xs end starts legal none =
    legal_skip rules xs end (suc end) starts legal (omega arith) (λ t p from before idle first able.
    let same : t ≡ end = omega (arith, from, before) in
    none (subst (λ (u : ℕ). IsIdle rules xs starts u) same idle) p (subst (λ (u : ℕ). MayStart rules xs starts u p) same (first, able)))

-- the starts are legal one instant longer with the best of what may start
legal_with : (rules : PortRules) (xs : List Arrival) (end : ℕ) (starts : List Transmission) (p : ℕ) → AreLegal rules xs end starts →
    IsIdle rules xs starts end → IsBest (MayStart rules xs starts end) (class_of xs) (length xs) p → AreLegal rules xs (suc end) (starts ++ (p, end) ∷ [])
legal_with rules xs end starts p legal idle best =
    subst (λ (u : ℕ). AreLegal rules xs u (starts ++ (p, end) ∷ [])) (add-one end) (legal_start rules xs end starts p legal idle (record {
      first = best.holds.0;
      eligible = best.holds.1;
      above = λ other higher first able. omega (arith, higher, best.best other first.waits.inside (first, able));
    }))

-- the starts can be continued for one instant
legal_longer : (rules : PortRules) (xs : List Arrival) (end : ℕ) (starts : List Transmission) → AreLegal rules xs end starts → (more : List Transmission) ×
    AreLegal rules xs (suc end) more
legal_longer rules xs end starts legal =
    elim (decided_idle rules xs starts end) [
      | inr busy ↦ (starts, legal_without rules xs end starts legal (λ idle p may. busy idle))
      | inl idle ↦ elim (best_below (MayStart rules xs starts end) (class_of xs) (decided_may_start rules xs starts end) (length xs)) [
        | inl w ↦ (starts ++ (w.0, end) ∷ [], legal_with rules xs end starts w.0 legal idle w.1)
        | inr none ↦ (starts, legal_without rules xs end starts legal (λ i p may. none p may.0.waits.inside may))
      ]
    ]

-- no starts at all are legal up to instant 0
nothing_legal : (rules : PortRules) (xs : List Arrival) → AreLegal rules xs 0 []
nothing_legal rules xs =
    let never : (x : Transmission) → Contains [] x → ⊥ = λ x h. omega (arith, h.1) in
    record {
      in_order = λ i j d l m. absurd (omega (arith, m));
      before_end = λ p s h. absurd (never (p, s) h);
      once = λ p s t h k. absurd (never (p, s) h);
      idle = λ p s h. absurd (never (p, s) h);
      first = λ p s h. absurd (never (p, s) h);
      eligible = λ p s h. absurd (never (p, s) h);
      strict_priority = λ p s other h. absurd (never (p, s) h);
      work_conserving = λ t other l. absurd (omega (arith, l));
    }

-- legal starts up to any end
pub legal_exist : (rules : PortRules) (xs : List Arrival) (end : ℕ) → (starts : List Transmission) × AreLegal rules xs end starts
legal_exist rules xs zero = ([], nothing_legal rules xs)
legal_exist rules xs (suc end) = let w = legal_exist rules xs end in legal_longer rules xs end w.0 w.1
