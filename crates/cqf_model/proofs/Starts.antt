-- Legal starts after an instant passes or a frame starts.
use Rattle.std.proofs.Common.{ℕ, ◌≡◌, ◌+◌, ◌≤◌, ◌<◌, ◌⊎◌, inl, inr, List, [], ◌∷◌, ◌++◌, get_or, ap, sym, subst, ◌∙◌, arith}
use Rattle.std.specs.Prelude.{Contains}
use Rattle.std.proofs.lemmas.Bool.{cases_lt}
use Rattle.std.proofs.lemmas.List.Elements.{Contains-get_or, Contains-append_left, Contains-push, Contains-push_cases}
use Rattle.std.proofs.lemmas.List.Quantifiers.{all_pairs_push}
use Rattle.cqf_model.specs.declared.ports.Arrival.{Arrival}
use Rattle.cqf_model.specs.Port.{Transmission, PortRules, AreLegal, Waits, IsFirst, IsIdle, IsEligible, class_of}

-- if no frame is due from a up to but excluding b, what is legal up to a is legal up to b
pub legal_skip : (rules : PortRules) (arrivals : List Arrival) (a b : ℕ) (starts : List Transmission) → AreLegal rules arrivals a starts → a ≤ b →
    ((t other : ℕ) → a ≤ t → t < b → IsIdle rules arrivals starts t → IsFirst arrivals starts other t → ¬ IsEligible rules arrivals other t) →
    AreLegal rules arrivals b starts
legal_skip rules arrivals a b starts legal later nothing = record {
  in_order = legal.in_order;
  before_end = λ index s started. omega (arith, legal.before_end index s started);
  once = legal.once;
  idle = legal.idle;
  first = legal.first;
  eligible = legal.eligible;
  strict_priority = legal.strict_priority;
  work_conserving = λ t other inside idle first eligible. elim (cases_lt t a) [
    | inl past ↦ legal.work_conserving t other past idle first eligible
    | inr ahead ↦ absurd (nothing t other ahead inside idle first eligible)
  ];
}

-- a start of the longer list is one of the shorter, or the last
pub start_cases : (starts : List Transmission) (index t other s : ℕ) → Contains (starts ++ (index, t) ∷ []) (other, s) →
    Contains starts (other, s) ⊎ ((index ≡ other) × (t ≡ s))
start_cases starts index t other s started = elim (Contains-push_cases starts (index, t) (other, s) started) [
  | inl before ↦ inl before
  | inr same ↦ inr (ap (λ (x : Transmission). x.0) same, ap (λ (x : Transmission). x.1) same)
]

module _ (arrivals : List Arrival) (starts : List Transmission) (index t : ℕ) where
  -- a start at t doesn't change what waits up to and at t
  pub waits_still : (other s : ℕ) → s ≤ t → Waits arrivals starts other s → Waits arrivals (starts ++ (index, t) ∷ []) other s
  waits_still other s early waits = record {
    inside = waits.inside;
    come = waits.come;
    not_started = λ u started. elim (start_cases starts index t other u started) [
      | inl before ↦ waits.not_started u before
      | inr same ↦ omega (arith, same.1)
    ];
  }

  -- and the other way round
  pub waited_before : (other s : ℕ) → Waits arrivals (starts ++ (index, t) ∷ []) other s → Waits arrivals starts other s
  waited_before other s waits = record {
    inside = waits.inside;
    come = waits.come;
    not_started = λ u started. waits.not_started u (Contains-append_left starts ((index, t) ∷ []) (other, u) started);
  }

  -- nor what is first
  pub first_still : (other s : ℕ) → s ≤ t → IsFirst arrivals starts other s → IsFirst arrivals (starts ++ (index, t) ∷ []) other s
  first_still other s early first = record {
    waits = waits_still other s early first.waits;
    none_before = λ another lower same waits. first.none_before another lower same (waited_before another s waits);
  }

  -- and the other way round
  pub first_before : (other s : ℕ) → s ≤ t → IsFirst arrivals (starts ++ (index, t) ∷ []) other s → IsFirst arrivals starts other s
  first_before other s early first = record {
    waits = waited_before other s first.waits;
    none_before = λ another lower same waits. first.none_before another lower same (waits_still another s early waits);
  }

  -- nor whether the port is idle
  pub idle_still : (rules : PortRules) (s : ℕ) → s ≤ t → IsIdle rules arrivals starts s → IsIdle rules arrivals (starts ++ (index, t) ∷ []) s
  idle_still rules s early idle other u started earlier = elim (start_cases starts index t other u started) [
    | inl before ↦ idle other u before earlier
    | inr same ↦ absurd (omega (arith, same.1))
  ]

  -- and the other way round
  pub idle_before : (rules : PortRules) (s : ℕ) → IsIdle rules arrivals (starts ++ (index, t) ∷ []) s → IsIdle rules arrivals starts s
  idle_before rules s idle other u started earlier = idle other u (Contains-append_left starts ((index, t) ∷ []) (other, u) started) earlier

-- a property of starts holds of each start of the longer list if it holds of those of the shorter one and of the last
each_start : (starts : List Transmission) (index t : ℕ) (P : ℕ → ℕ → Type 0) → ((other s : ℕ) → Contains starts (other, s) → P other s) →
    P index t → (other s : ℕ) → Contains (starts ++ (index, t) ∷ []) (other, s) → P other s
each_start starts index t P before last other s started = elim (start_cases starts index t other s started) [
  | inl earlier ↦ before other s earlier
  | inr same ↦ subst (λ (n : ℕ). P n s) same.0 (subst (λ (n : ℕ). P index n) same.1 last)
]

-- what may start at t: an arrival that is the first of its class and eligible, with no eligible first of a higher class
pub record IsDue (rules : PortRules) (arrivals : List Arrival) (starts : List Transmission) (index t : ℕ) : Type 0 where
  pub first : IsFirst arrivals starts index t
  pub eligible : IsEligible rules arrivals index t
  pub above : (other : ℕ) → class_of arrivals index < class_of arrivals other → IsFirst arrivals starts other t → ¬ IsEligible rules arrivals other t

-- if the frame that is due at the end of legal starts starts then, they are legal one instant further
pub legal_start : (rules : PortRules) (arrivals : List Arrival) (t : ℕ) (starts : List Transmission) (index : ℕ) → AreLegal rules arrivals t starts →
    IsIdle rules arrivals starts t → IsDue rules arrivals starts index t → AreLegal rules arrivals (t + 1) (starts ++ (index, t) ∷ [])
legal_start rules arrivals t starts index legal idle due =
    let longer : List Transmission = starts ++ (index, t) ∷ [] in
    let early : (other s : ℕ) → Contains starts (other, s) → s ≤ t = λ other s started. omega (arith, legal.before_end other s started) in
    let not_yet : (s : ℕ) → ¬ Contains starts (index, s) = λ s started.
    omega (arith, due.first.waits.not_started s started, legal.before_end index s started) in
    record {
      in_order = all_pairs_push (λ (a b : Transmission). a.1 < b.1) starts (index, t) legal.in_order
          (λ k d inside. legal.before_end (get_or starts k d).0 (get_or starts k d).1 (Contains-get_or starts k d inside));
      before_end = each_start starts index t (λ other s. s < t + 1) (λ other s started. omega (arith, early other s started)) (omega arith);
      once = λ other s u one two. elim (start_cases starts index t other s one) [
        | inl before ↦ elim (start_cases starts index t other u two) [
          | inl also ↦ legal.once other s u before also
          | inr same ↦ absurd (not_yet s (subst (λ (n : ℕ). Contains starts (n, s)) (sym same.0) before))
        ]
        | inr same ↦ elim (start_cases starts index t other u two) [
          | inl also ↦ absurd (not_yet u (subst (λ (n : ℕ). Contains starts (n, u)) (sym same.0) also))
          | inr again ↦ sym same.1 ∙ again.1
        ]
      ];
      idle = each_start starts index t (λ other s. IsIdle rules arrivals longer s)
          (λ other s started. idle_still arrivals starts index t rules s (early other s started) (legal.idle other s started))
          (idle_still arrivals starts index t rules t (omega arith) idle);
      first = each_start starts index t (λ other s. IsFirst arrivals longer other s)
          (λ other s started. first_still arrivals starts index t other s (early other s started) (legal.first other s started))
          (first_still arrivals starts index t index t (omega arith) due.first);
      eligible = each_start starts index t (λ other s. IsEligible rules arrivals other s) legal.eligible due.eligible;
      strict_priority = λ other s another started. each_start starts index t
          (λ other s. (another : ℕ) → class_of arrivals other < class_of arrivals another → IsFirst arrivals longer another s →
          ¬ IsEligible rules arrivals another s)
          (λ other s started another higher first. legal.strict_priority other s another started higher
          (first_before arrivals starts index t another s (early other s started) first))
          (λ another higher first. due.above another higher (first_before arrivals starts index t another t (omega arith) first))
          other s started another;
      work_conserving = λ u other inside idle first eligible. elim (cases_lt u t) [
        | inl past ↦ (let made = legal.work_conserving u other past (idle_before arrivals starts index t rules u idle)
            (first_before arrivals starts index t other u (omega arith) first) eligible in
            (made.0, Contains-append_left starts ((index, t) ∷ []) (made.0, u) made.1))
        | inr at_end ↦ (index, (let same : t ≡ u = omega arith in subst (λ (n : ℕ). Contains longer (index, n)) same (Contains-push starts (index, t))))
      ];
    }
