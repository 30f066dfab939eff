-- The head of each class determines what is first of its class, so a port finds what is due without its starts.
use Rattle.std.proofs.Common.{ℕ, ◌≡◌, ◌≤◌, ◌<◌, ◌⊎◌, inl, inr, List, get_or, ap, subst, ◌∙◌, arith, refl, Option, Some, None}
use Rattle.std.proofs.lemmas.Bool.{cases_lt}
use Rattle.cqf_model.specs.declared.ports.Arrival.{Arrival}
use Rattle.cqf_model.specs.Port.{Transmission, PortRules, AreLegal, Waits, IsFirst, IsEligible, instant_of, class_of}
use Rattle.cqf_port.specs.PortState.{AreTaken}
use Rattle.cqf_port.specs.Progress.{HasStarted, IsHead, IsHeadOf, IsAbreast, NoneReady, IsChosen}
use Rattle.cqf_port.specs.declared.progress.Progress.{Progress}
use Rattle.cqf_model.proofs.Starts.{IsDue}

-- one number is below, at, or above another
pub cases_order : (m n : ℕ) → (m < n) ⊎ ((m ≡ n) ⊎ (n < m))
cases_order m n = elim (cases_lt m n) [
  | inl below ↦ inl below
  | inr at_least ↦ elim (cases_lt n m) [ inl above ↦ inr (inr above) | inr at_most ↦ inr (inl (omega arith)) ]
]

module _ (rules : PortRules) (arrivals : List Arrival) (t now_at : ℕ) (starts : List Transmission) (taken : AreTaken arrivals)
    (legal : AreLegal rules arrivals t starts) (later : t ≤ now_at) where
  -- an arrival that has started doesn't wait
  pub started_waits_not : (index : ℕ) → HasStarted starts index → ¬ Waits arrivals starts index now_at
  started_waits_not index started waits = omega (arith, waits.not_started started.0 started.1, legal.before_end index started.0 started.1)

  -- a head that has come is the first of its class
  pub head_is_first : (class index : ℕ) → IsHead arrivals starts class index → instant_of arrivals index ≤ now_at → IsFirst arrivals starts index now_at
  head_is_first class index head come = record {
    waits = record { inside = head.inside; come = come; not_started = λ s started. absurd (head.not_started s started) };
    none_before = λ other lower same. started_waits_not other (head.started_before other lower (same ∙ head.of_class));
  }

  -- the first of a class is that class's head
  pub first_is_head : (head : Option ℕ) (index : ℕ) → IsHeadOf arrivals starts (class_of arrivals index) head → IsFirst arrivals starts index now_at
      → head ≡ Some index
  first_is_head None index started first = absurd (started_waits_not index (started index first.waits.inside refl) first.waits)
  first_is_head (Some other) index head first = elim (cases_order other index) [
    | inl lower ↦ (let in_order : instant_of arrivals other ≤ instant_of arrivals index = taken.by_class other index lower first.waits.inside head.of_class in
        let waits : Waits arrivals starts other now_at = record {
          inside = head.inside;
          come = omega (arith, in_order, first.waits.come);
          not_started = λ s started. absurd (head.not_started s started);
        } in
        absurd (first.none_before other lower head.of_class waits))
    | inr rest ↦ elim rest [
      | inl same ↦ ap (λ (n : ℕ). Some n) same
      | inr higher ↦ absurd (started_waits_not index (head.started_before index higher refl) first.waits)
    ]
  ]

-- if no head is ready, no first of a class is eligible
pub none_is_due : (rules : PortRules) (arrivals : List Arrival) (t s : ℕ) (starts : List Transmission) (progress : Progress) → AreTaken arrivals
    → IsAbreast rules arrivals t starts progress → t ≤ s → NoneReady rules arrivals progress.heads s 0 → (other : ℕ) →
    IsFirst arrivals starts other s → ¬ IsEligible rules arrivals other s
none_is_due rules arrivals t s starts progress taken abreast later none_ready other first eligible =
    let low : class_of arrivals other < 8 = taken.classes other first.waits.inside in
    none_ready (class_of arrivals other) other (omega arith) low (record {
      is_head = first_is_head rules arrivals t s starts taken abreast.legal later (get_or progress.heads (class_of arrivals other) None)
          other (abreast.heads (class_of arrivals other) low) first;
      come = first.waits.come;
      eligible = eligible;
    })

-- the head in a class's slot of the list of heads
pub head_at : (arrivals : List Arrival) (starts : List Transmission) (class index : ℕ) (head : Option ℕ) → head ≡ Some index →
    IsHeadOf arrivals starts class head → IsHead arrivals starts class index
head_at arrivals starts class index head is_head = subst (λ (o : Option ℕ). IsHeadOf arrivals starts class o) is_head

-- the chosen head is due
pub chosen_is_due : (rules : PortRules) (arrivals : List Arrival) (t : ℕ) (starts : List Transmission) (progress : Progress) (index : ℕ) →
    AreTaken arrivals → IsAbreast rules arrivals t starts progress → IsChosen rules arrivals progress.heads t index → IsDue rules arrivals starts index t
chosen_is_due rules arrivals t starts progress index taken abreast chosen =
    let head : IsHead arrivals starts chosen.class index = head_at arrivals starts chosen.class index (get_or progress.heads chosen.class None)
    chosen.ready.is_head (abreast.heads chosen.class chosen.low) in
    record {
      first = head_is_first rules arrivals t t starts taken abreast.legal (omega arith) chosen.class index head chosen.ready.come;
      eligible = chosen.ready.eligible;
      above = λ other higher first eligible.
          let low : class_of arrivals other < 8 = taken.classes other first.waits.inside in
          chosen.above (class_of arrivals other) other (omega (arith, higher, head.of_class)) low (record {
            is_head = first_is_head rules arrivals t t starts taken abreast.legal (omega arith) (get_or progress.heads (class_of arrivals other) None)
                other (abreast.heads (class_of arrivals other) low) first;
            come = first.waits.come;
            eligible = eligible;
          });
    }
