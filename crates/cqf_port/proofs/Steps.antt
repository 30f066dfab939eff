-- What a port knows remains correct as instants pass, frames start and frames arrive.
use Rattle.std.proofs.Common.{ℕ, ◌≡◌, ◌≢◌, ◌+◌, ◌≤◌, ◌<◌, ◌⊎◌, inl, inr, List, [], ◌∷◌, ◌++◌, length, get_or, ap, sym}
use Rattle.std.proofs.Common.{subst, ◌∙◌, arith, refl, Option, Some, None}
use Rattle.std.specs.Prelude.{Contains}
use Rattle.std.proofs.lemmas.Bool.{cases_lt}
use Rattle.std.proofs.lemmas.List.Elements.{Contains-append_left, Contains-push}
use Rattle.cqf_model.specs.declared.ports.Arrival.{Arrival}
use Rattle.cqf_model.specs.GateList.{IsOpen}
use Rattle.cqf_model.specs.Port.{Transmission, PortRules, AreLegal, IsFirst, IsIdle, IsEligible, no_arrival, instant_of, class_of, free_from}
use Rattle.cqf_units.specs.Timing.{idle_after}
use Rattle.cqf_port.specs.PortState.{AreTaken}
use Rattle.cqf_port.specs.Progress.{HasStarted, IsHead, IsHeadOf, IsAbreast, AreInside, NoneReady, IsChosen, IsNextOf, IsAfterStart, IsAfterArrival}
use Rattle.cqf_port.specs.declared.progress.Progress.{Progress}
use Rattle.cqf_model.proofs.Arrivals.{one_more_legal}
use Rattle.cqf_model.proofs.Starts.{IsDue, legal_skip, legal_start, start_cases}
use Rattle.cqf_port.proofs.Longer.{same_arrival, last_arrival, arrival_after, arrival_before, longer}
use Rattle.cqf_port.proofs.Heads.{cases_order, none_is_due, chosen_is_due, head_at}

-- instants pass at which nothing starts
pub abreast_skip : (rules : PortRules) (arrivals : List Arrival) (t e : ℕ) (starts : List Transmission) (progress : Progress) →
    IsAbreast rules arrivals t starts progress → t ≤ e → ((s : ℕ) → t ≤ s → s < e → IsIdle rules arrivals starts s → (other : ℕ) →
    IsFirst arrivals starts other s → ¬ IsEligible rules arrivals other s) → IsAbreast rules arrivals e starts progress
abreast_skip rules arrivals t e starts progress abreast later nothing = record {
  legal = legal_skip rules arrivals t e starts abreast.legal later (λ s other from_there soon idle first. nothing s from_there soon idle other first);
  idle = λ s after. abreast.idle s (omega arith);
  idle_again = λ s after. abreast.idle_again s (omega arith);
  soon = abreast.soon;
  eight = abreast.eight;
  heads = abreast.heads;
}

-- the port isn't idle yet
pub abreast_busy : (rules : PortRules) (arrivals : List Arrival) (t e : ℕ) (starts : List Transmission) (progress : Progress) →
    IsAbreast rules arrivals t starts progress → t ≤ e → e ≤ progress.idle_from.0 → IsAbreast rules arrivals e starts progress
abreast_busy rules arrivals t e starts progress abreast later busy =
    abreast_skip rules arrivals t e starts progress abreast later (λ s from_there soon idle other first. absurd (omega (arith, abreast.idle s from_there idle)))

-- no head is ready
pub abreast_none : (rules : PortRules) (arrivals : List Arrival) (t e : ℕ) (starts : List Transmission) (progress : Progress) →
    AreTaken arrivals → IsAbreast rules arrivals t starts progress → t ≤ e → ((s : ℕ) → t ≤ s → s < e → NoneReady rules arrivals progress.heads s 0)
    → IsAbreast rules arrivals e starts progress
abreast_none rules arrivals t e starts progress taken abreast later none_ready =
    abreast_skip rules arrivals t e starts progress abreast later (λ s from_there soon idle. none_is_due rules arrivals t s starts progress
    taken abreast from_there (none_ready s from_there soon))

-- what had started still has
started_still : (starts : List Transmission) (index t other : ℕ) → HasStarted starts other → HasStarted (starts ++ (index, t) ∷ []) other
started_still starts index t other started = (started.0, Contains-append_left starts ((index, t) ∷ []) (other, started.0) started.1)

-- and so has the last
started_now : (starts : List Transmission) (index t other : ℕ) → index ≡ other → HasStarted (starts ++ (index, t) ∷ []) other
started_now starts index t other same = (t, subst (λ (n : ℕ). Contains (starts ++ (index, t) ∷ []) (n, t)) same (Contains-push starts (index, t)))

module _ (rules : PortRules) (arrivals : List Arrival) (t : ℕ) (starts : List Transmission) (index : ℕ) (taken : AreTaken arrivals)
    (legal : AreLegal rules arrivals t starts) (due : IsDue rules arrivals starts index t) where
  -- no later arrival of the class of the frame that starts has started
  after_not_started : (other s : ℕ) → index < other → class_of arrivals index ≡ class_of arrivals other → ¬ Contains starts (other, s)
  after_not_started other s higher same started =
      let first : IsFirst arrivals starts other s = legal.first other s started in
      let in_order : instant_of arrivals index ≤ instant_of arrivals other = taken.by_class index other higher first.waits.inside same in
      first.none_before index higher same (record {
        inside = due.first.waits.inside;
        come = omega (arith, in_order, first.waits.come);
        not_started = λ u began. omega (arith, due.first.waits.not_started u began, legal.before_end index u began);
      })

  -- the head of the class after a start
  next_head : (head : Option ℕ) → IsHead arrivals starts (class_of arrivals index) index → IsNextOf arrivals (index + 1) (class_of arrivals index) head
      → IsHeadOf arrivals (starts ++ (index, t) ∷ []) (class_of arrivals index) head
  next_head None head none_after = λ other inside same. elim (cases_order other index) [
    | inl lower ↦ started_still starts index t other (head.started_before other lower same)
    | inr rest ↦ elim rest [
      | inl here ↦ started_now starts index t other (sym here)
      | inr higher ↦ absurd (none_after other (omega arith) inside same)
    ]
  ]
  next_head (Some next) head found = record {
    inside = found.inside;
    of_class = found.of_class;
    not_started = λ s started. elim (start_cases starts index t next s started) [
      | inl before ↦ after_not_started next s (omega (arith, found.from_there)) (sym found.of_class) before
      | inr same ↦ omega (arith, same.0, found.from_there)
    ];
    started_before = λ other lower same. elim (cases_order other index) [
      | inl below ↦ started_still starts index t other (head.started_before other below same)
      | inr rest ↦ elim rest [
        | inl here ↦ started_now starts index t other (sym here)
        | inr above ↦ absurd (found.none_between other (omega arith) lower same)
      ]
    ];
  }

  -- the head of another class after a start
  other_head : (class : ℕ) (head : Option ℕ) → class ≢ class_of arrivals index → IsHeadOf arrivals starts class head →
      IsHeadOf arrivals (starts ++ (index, t) ∷ []) class head
  other_head class None differs all = λ other inside same. started_still starts index t other (all other inside same)
  other_head class (Some first) differs head = record {
    inside = head.inside;
    of_class = head.of_class;
    not_started = λ s started. elim (start_cases starts index t first s started) [
      | inl before ↦ head.not_started s before
      | inr same ↦ differs (sym head.of_class ∙ sym (ap (λ (n : ℕ). class_of arrivals n) same.0))
    ];
    started_before = λ other lower same. started_still starts index t other (head.started_before other lower same);
  }

-- two numbers are the same or not
pub cases_same : (m n : ℕ) → (m ≡ n) ⊎ (m ≢ n)
cases_same m n = elim (cases_order m n) [
  | inl below ↦ inr (λ same. omega arith)
  | inr rest ↦ elim rest [ inl same ↦ inl same | inr above ↦ inr (λ same. omega arith) ]
]

-- the chosen frame starts
pub abreast_start : (rules : PortRules) (arrivals : List Arrival) (t : ℕ) (starts : List Transmission) (index : ℕ) (before after : Progress)
    → AreTaken arrivals → IsAbreast rules arrivals t starts before → before.idle_from.0 ≤ t → IsChosen rules arrivals before.heads t index →
    IsAfterStart rules.octet_time arrivals index t before after → IsAbreast rules arrivals (t + 1) (starts ++ (index, t) ∷ []) after
abreast_start rules arrivals t starts index before after taken abreast free chosen step =
    let due : IsDue rules arrivals starts index t = chosen_is_due rules arrivals t starts before index taken abreast chosen in
    let old_head : IsHead arrivals starts chosen.class index =
    head_at arrivals starts chosen.class index (get_or before.heads chosen.class None) chosen.ready.is_head (abreast.heads chosen.class chosen.low) in
    let head : IsHead arrivals starts (class_of arrivals index) index =
    subst (λ (class : ℕ). IsHead arrivals starts class index) (sym old_head.of_class) old_head in
    record {
      legal = legal_start rules arrivals t starts index abreast.legal (abreast.idle_again t (omega arith) free) due;
      idle = λ s later idle. omega (arith, step.idle_from, idle index t (Contains-push starts (index, t)) (omega arith));
      idle_again = λ s later free_again other u started earlier. elim (start_cases starts index t other u started) [
        | inl old ↦ abreast.idle_again s (omega arith) (omega arith) other u old earlier
        | inr same ↦ subst (λ (n : ℕ). free_from rules arrivals n u ≤ s) same.0
            (subst (λ (n : ℕ). free_from rules arrivals index n ≤ s) same.1 (omega (arith, step.idle_from)))
      ];
      soon = step.soon;
      eight = step.eight ∙ abreast.eight;
      heads = λ class low. elim (cases_same class (class_of arrivals index)) [
        | inl same ↦ subst (λ (c : ℕ). IsHeadOf arrivals (starts ++ (index, t) ∷ []) c (get_or after.heads c None)) (sym same)
            (next_head rules arrivals t starts index taken abreast.legal due (get_or after.heads (class_of arrivals index) None) head step.next)
        | inr differs ↦ subst (λ (o : Option ℕ). IsHeadOf arrivals (starts ++ (index, t) ∷ []) class o) (sym (step.others class differs))
            (other_head rules arrivals t starts index taken abreast.legal due class (get_or before.heads class None) differs (abreast.heads class low))
      ];
    }

module _ (arrivals : List Arrival) (arrival : Arrival) (starts : List Transmission) where
  -- a head stays one when a frame arrives
  head_still : (class index : ℕ) → IsHead arrivals starts class index → IsHead (arrivals ++ arrival ∷ []) starts class index
  head_still class index head = record {
    inside = omega (arith, head.inside, longer arrivals arrival);
    of_class = ap (λ (x : Arrival). x.class) (same_arrival arrivals arrival index head.inside) ∙ head.of_class;
    not_started = head.not_started;
    started_before = λ other lower same. head.started_before other lower
        (sym (ap (λ (x : Arrival). x.class) (same_arrival arrivals arrival other (omega (arith, head.inside)))) ∙ same);
  }

  -- a frame that arrives in a class without a head is its head
  new_head : (rules : PortRules) (t : ℕ) → AreLegal rules arrivals t starts →
      ((index : ℕ) → index < length arrivals → class_of arrivals index ≡ arrival.class → HasStarted starts index) →
      IsHead (arrivals ++ arrival ∷ []) starts arrival.class (length arrivals)
  new_head rules t legal all = record {
    inside = omega (arith, longer arrivals arrival);
    of_class = ap (λ (x : Arrival). x.class) (last_arrival arrivals arrival);
    not_started = λ s started. omega (arith, (legal.first (length arrivals) s started).waits.inside);
    started_before = λ other lower same. all other lower (sym (ap (λ (x : Arrival). x.class) (same_arrival arrivals arrival other lower)) ∙ same);
  }

  -- a class without a head has none when a frame of another class arrives
  none_still : (class : ℕ) → class ≢ arrival.class → IsHeadOf arrivals starts class None → IsHeadOf (arrivals ++ arrival ∷ []) starts class None
  none_still class differs all index inside same = elim (cases_lt index (length arrivals)) [
    | inl in_list ↦ all index in_list (sym (ap (λ (x : Arrival). x.class) (same_arrival arrivals arrival index in_list)) ∙ same)
    | inr past ↦ (let here : length arrivals ≡ index = omega (arith, longer arrivals arrival) in
        absurd (differs (sym same ∙ (let is_new : get_or (arrivals ++ arrival ∷ []) index no_arrival ≡ arrival =
        subst (λ (n : ℕ). get_or (arrivals ++ arrival ∷ []) n no_arrival ≡ arrival) here (last_arrival arrivals arrival) in
        ap (λ (x : Arrival). x.class) is_new))))
  ]

  -- the head of another class
  other_head_still : (class : ℕ) (head : Option ℕ) → class ≢ arrival.class → IsHeadOf arrivals starts class head →
      IsHeadOf (arrivals ++ arrival ∷ []) starts class head
  other_head_still class None differs all = none_still class differs all
  other_head_still class (Some index) differs head = head_still class index head

  -- the head of the class of the frame that arrives
  own_head : (rules : PortRules) (t : ℕ) (before after : Progress) → AreLegal rules arrivals t starts →
      IsAfterArrival (length arrivals) arrival.class before after → (head : Option ℕ) → get_or before.heads arrival.class None ≡ head →
      IsHeadOf arrivals starts arrival.class head → IsHeadOf (arrivals ++ arrival ∷ []) starts arrival.class (get_or after.heads arrival.class None)
  own_head rules t before after legal step None was all = subst (λ (o : Option ℕ). IsHeadOf (arrivals ++ arrival ∷ []) starts arrival.class o)
      (sym (step.head was)) (new_head rules t legal all)
  own_head rules t before after legal step (Some index) was head =
      subst (λ (o : Option ℕ). IsHeadOf (arrivals ++ arrival ∷ []) starts arrival.class o) (sym (step.head_still index was))
      (head_still arrival.class index head)

-- a frame arrives that could not have started yet
pub abreast_arrival : (rules : PortRules) (arrivals : List Arrival) (t : ℕ) (starts : List Transmission) (arrival : Arrival) (before after : Progress)
    → 0 < rules.octet_time → IsAbreast rules arrivals t starts before → ((s : ℕ) → arrival.at.0 ≤ s → s < t → ¬ IsOpen rules.entries arrival.class s)
    → IsAfterArrival (length arrivals) arrival.class before after → arrival.class < 8 → IsAbreast rules (arrivals ++ arrival ∷ []) t starts after
abreast_arrival rules arrivals t starts arrival before after some abreast closed step low_class =
    let inside : (index s : ℕ) → Contains starts (index, s) → index < length arrivals = λ index s started. (abreast.legal.first index s started).waits.inside in
    record {
      legal = one_more_legal rules arrivals arrival t starts some closed abreast.legal;
      idle = λ s later idle. omega (
        arith,
        step.idle_from,
        abreast.idle s later
            (λ index u started earlier. arrival_before arrivals arrival (λ x. idle_after u x.octets rules.octet_time ≤ s) index
            (inside index u started) (idle index u started earlier)),
      );
      idle_again = λ s later free index u started earlier. arrival_after arrivals arrival (λ x. idle_after u x.octets rules.octet_time ≤ s)
          index (inside index u started) (abreast.idle_again s later (omega (arith, step.idle_from)) index u started earlier);
      soon = omega (arith, step.idle_from, abreast.soon);
      eight = step.eight ∙ abreast.eight;
      heads = λ class low. elim (cases_same class arrival.class) [
        | inl same ↦ subst (λ (c : ℕ). IsHeadOf (arrivals ++ arrival ∷ []) starts c (get_or after.heads c None)) (sym same)
            (own_head arrivals arrival starts rules t before after abreast.legal step (get_or before.heads arrival.class None) refl
            (abreast.heads arrival.class low_class))
        | inr differs ↦ subst (λ (o : Option ℕ). IsHeadOf (arrivals ++ arrival ∷ []) starts class o) (sym (step.others class differs))
            (other_head_still arrivals arrival starts class (get_or before.heads class None) differs (abreast.heads class low))
      ];
    }

-- each head is within the arrivals
pub heads_inside : (rules : PortRules) (arrivals : List Arrival) (t : ℕ) (starts : List Transmission) (progress : Progress) →
    IsAbreast rules arrivals t starts progress → AreInside arrivals progress.heads
heads_inside rules arrivals t starts progress abreast = record {
  indices = λ class index low is_head. (head_at arrivals starts class index (get_or progress.heads class None) is_head (abreast.heads class low)).inside;
  classes = λ class index low is_head. (head_at arrivals starts class index (get_or progress.heads class None) is_head (abreast.heads class low)).of_class;
}
