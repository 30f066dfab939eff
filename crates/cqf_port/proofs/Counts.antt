-- The number of waiting frames, counted from the head of their class on.
use Rattle.std.proofs.Common.{ℕ, ◌≡◌, ◌+◌, ◌≤◌, ◌<◌, inl, inr, List, [], ◌∷◌, length, get_or, take, drop, ◌-◌, refl}
use Rattle.std.proofs.Common.{sym, ap, subst, ◌∙◌, arith, Bool, true, false, cond, ◌&&◌, not, ◌==◌, Option, Some, None}
use Rattle.std.proofs.Common.{eq-eqb, zero, suc}
use Rattle.std.specs.Prelude.{Contains, count_by}
use Rattle.std.specs.List.{enumerate_from}
use Rattle.std.proofs.lemmas.Bool.{ne_eqb}
use Rattle.std.proofs.lemmas.Bool.Decides.{eqb_tells}
use Rattle.std.proofs.lemmas.List.{drop_all}
use Rattle.std.proofs.lemmas.List.Sums.{sum_by-cons}
use Rattle.std.proofs.lemmas.List.Folds.{list_any_at, list_any_none}
use Rattle.std.proofs.lemmas.List.Elements.{Contains-get_or}
use Rattle.cqf_model.specs.declared.ports.Arrival.{Arrival}
use Rattle.cqf_model.specs.Port.{Transmission, PortRules, AreLegal, IsFirst, no_arrival, instant_of, class_of}
use Rattle.cqf_port.specs.PortState.{AreTaken, has_started, waiting_of}
use Rattle.cqf_port.specs.Progress.{HasStarted, IsHead, IsHeadOf, IsAbreast}
use Rattle.cqf_port.specs.declared.progress.Progress.{Progress}
use Rattle.cqf_port.proofs.Heads.{cases_order, head_at}
use Rattle.cqf_port.proofs.More.{range_to_end}

-- an arrival with a start has started
pub started_is : (starts : List Transmission) (index : ℕ) → HasStarted starts index → has_started starts index ≡ true
started_is starts index started = list_any_at (λ (x : Transmission). x.0 == index) starts started.1.0 (index, started.0) started.1.1
    (ap (λ (x : Transmission). x.0 == index) started.1.2 ∙ eq-eqb index index refl)

-- an arrival without a start hasn't
pub not_started_is : (starts : List Transmission) (index : ℕ) → ((s : ℕ) → ¬ Contains starts (index, s)) → has_started starts index ≡ false
not_started_is starts index none = list_any_none (λ (x : Transmission). x.0 == index) starts
    (λ k d inside. ne_eqb (get_or starts k d).0 index (λ same.
    none (get_or starts k d).1 (subst (λ (n : ℕ). Contains starts (n, (get_or starts k d).1)) same (Contains-get_or starts k d inside))))

-- no arrival of a class after its head has started
pub after_head : (rules : PortRules) (arrivals : List Arrival) (t : ℕ) (starts : List Transmission) (class index other s : ℕ) →
    AreTaken arrivals → AreLegal rules arrivals t starts → IsHead arrivals starts class index → index ≤ other → class_of arrivals other
    ≡ class → ¬ Contains starts (other, s)
after_head rules arrivals t starts class index other s taken legal head following same started = elim (cases_order index other) [
  | inl lower ↦ (let first : IsFirst arrivals starts other s = legal.first other s started in
      let one_class : class_of arrivals index ≡ class_of arrivals other = head.of_class ∙ sym same in
      let in_order : instant_of arrivals index ≤ instant_of arrivals other = taken.by_class index other lower first.waits.inside one_class in
      first.none_before index lower one_class (record {
        inside = head.inside;
        come = omega (arith, in_order, first.waits.come);
        not_started = λ u began. absurd (head.not_started u began);
      }))
  | inr rest ↦ elim rest [
    | inl here ↦ head.not_started s (subst (λ (n : ℕ). Contains starts (n, s)) (sym here) started)
    | inr higher ↦ omega arith
  ]
]

-- a test and true
and_true : (a : Bool) → (a && true) ≡ a
and_true true = refl
and_true false = refl

-- a test and false
and_false : (a : Bool) → (a && false) ≡ false
and_false true = refl
and_false false = refl

-- one element more is counted
count_cons : {X : Type 0} (p : X → Bool) (x : X) (xs : List X) (hit : Bool) (n : ℕ) → p x ≡ hit → count_by p xs ≡ n → count_by p (x ∷ xs) ≡ cond hit 1 0 + n
count_cons p x xs hit n first rest = sum_by-cons (λ y. cond (p y) 1 0) x xs ∙ ap (λ (b : Bool). cond b 1 0 + count_by p xs) first
    ∙ ap (λ (m : ℕ). cond hit 1 0 + m) rest

module _ (starts : List Transmission) (class : ℕ) where
  -- the frame waits
  abbrev still_waits : ℕ × Arrival → Bool
  still_waits x = (x.1.class == class) && not (has_started starts x.0)

  -- the frame is of the class
  abbrev is_of_class : Arrival → Bool
  is_of_class x = x.class == class

  -- a frame that hasn't started waits if it is of the class
  fresh : (n : ℕ) (x : Arrival) → (x.class ≡ class → has_started starts n ≡ false) → still_waits (n, x) ≡ is_of_class x
  fresh n x not_started = elim (eqb_tells x.class class) [
    | inl same ↦ ap (λ (b : Bool). is_of_class x && not b) (not_started same.1) ∙ and_true (is_of_class x)
    | inr differs ↦ ap (λ (b : Bool). b && not (has_started starts n)) differs.0 ∙ sym differs.0
  ]

  -- a frame that has started doesn't wait
  gone : (n : ℕ) (x : Arrival) → (x.class ≡ class → has_started starts n ≡ true) → still_waits (n, x) ≡ false
  gone n x started = elim (eqb_tells x.class class) [
    | inl same ↦ ap (λ (b : Bool). is_of_class x && not b) (started same.1) ∙ and_false (is_of_class x)
    | inr differs ↦ ap (λ (b : Bool). b && not (has_started starts n)) differs.0
  ]

  -- if none of the class has started, all of the class wait
  each_waits : (n : ℕ) (xs : List Arrival) → ((index i : ℕ) → index ≡ n + i → i < length xs → (get_or xs i no_arrival).class ≡ class →
      has_started starts index ≡ false) → count_by still_waits (enumerate_from n xs) ≡ count_by is_of_class xs
  each_waits n [] following = refl
  each_waits n (x ∷ xs) following =
      let rest : count_by still_waits (enumerate_from (n + 1) xs) ≡ count_by is_of_class xs =
      each_waits (n + 1) xs (λ index i is inside same. following index (suc i) (omega arith) (omega arith) same) in
      count_cons still_waits (n, x) (enumerate_from (n + 1) xs) (is_of_class x) (count_by is_of_class xs)
      (fresh n x (λ same. following n 0 (omega arith) (omega arith) same)) rest
      ∙ sym (count_cons is_of_class x xs (is_of_class x) (count_by is_of_class xs) refl refl)

  -- the frames that wait are those of the class from its head on
  pub count_from : (n head : ℕ) (xs : List Arrival) → ((index i : ℕ) → index ≡ n + i → i < length xs → i < head → (get_or xs i no_arrival).class
      ≡ class → has_started starts index ≡ true) → ((index i : ℕ) → index ≡ n + i → i < length xs → head ≤ i → (get_or xs i no_arrival).class
      ≡ class → has_started starts index ≡ false) → count_by still_waits (enumerate_from n xs) ≡ count_by is_of_class (drop head xs)
  count_from n zero xs before following = each_waits n xs (λ index i is inside same. following index i is inside (omega arith) same)
  count_from n (suc head) [] before following = refl
  count_from n (suc head) (x ∷ xs) before following =
      let rest : count_by still_waits (enumerate_from (n + 1) xs) ≡ count_by is_of_class (drop head xs) =
      count_from (n + 1) head xs (λ index i is inside lower same. before index (suc i) (omega arith) (omega arith) (omega arith) same)
      (λ index i is inside upper same. following index (suc i) (omega arith) (omega arith) (omega arith) same) in
      count_cons still_waits (n, x) (enumerate_from (n + 1) xs) false (count_by is_of_class (drop head xs))
      (gone n x (λ same. before n 0 (omega arith) (omega arith) (omega arith) same)) rest
      ∙ omega arith

-- from the head of the class on
pub waiting_from_head : (rules : PortRules) (arrivals : List Arrival) (t : ℕ) (starts : List Transmission) (class head : ℕ) → AreTaken arrivals
    → AreLegal rules arrivals t starts → IsHead arrivals starts class head → waiting_of arrivals starts class
    ≡ count_by (λ (x : Arrival). x.class == class) (drop head arrivals)
waiting_from_head rules arrivals t starts class head taken legal is_head = count_from starts class 0 head arrivals
    (λ index i is inside lower same. let here : index ≡ i = omega arith in
    started_is starts index (is_head.started_before index (omega arith) (subst (λ (n : ℕ). class_of arrivals n ≡ class) (sym here) same)))
    (λ index i is inside upper same. let here : index ≡ i = omega arith in
    not_started_is starts index (λ s. after_head rules arrivals t starts class head index s taken legal is_head (omega arith)
    (subst (λ (n : ℕ). class_of arrivals n ≡ class) (sym here) same)))

-- none waits if the class has no head
pub none_waiting : (arrivals : List Arrival) (starts : List Transmission) (class : ℕ) → IsHeadOf arrivals starts class None →
    waiting_of arrivals starts class ≡ 0
none_waiting arrivals starts class all =
    count_from starts class 0 (length arrivals) arrivals
    (λ index i is inside lower same. let here : index ≡ i = omega arith in
    started_is starts index (all index (omega arith) (subst (λ (n : ℕ). class_of arrivals n ≡ class) (sym here) same)))
    (λ index i is inside upper same. absurd (omega arith))
    ∙ ap (λ (rest : List Arrival). count_by (λ (x : Arrival). x.class == class) rest) (drop_all (length arrivals) arrivals (omega arith))

-- what a port returns if the class has a head
pub waiting_as : (rules : PortRules) (arrivals xs : List Arrival) (t : ℕ) (starts : List Transmission) (progress : Progress) (class slot head answer : ℕ)
    → AreTaken arrivals → IsAbreast rules arrivals t starts progress → class < 8 → slot ≡ class → get_or progress.heads slot None ≡ Some head
    → xs ≡ arrivals → answer ≡ count_by (λ (x : Arrival). x.class == class) (take (length xs - head) (drop head xs)) → answer ≡ waiting_of arrivals starts class
waiting_as rules arrivals xs t starts progress class slot head answer taken abreast low same is_head is counted =
    let own : get_or progress.heads class None ≡ Some head = subst (λ (n : ℕ). get_or progress.heads n None ≡ Some head) same is_head in
    let from_head : IsHead arrivals starts class head = head_at arrivals starts class head (get_or progress.heads class None) own (abreast.heads class low) in
    counted
    ∙ ap (λ (ys : List Arrival). count_by (λ (x : Arrival). x.class == class) ys) (range_to_end head xs)
    ∙ ap (λ (ys : List Arrival). count_by (λ (x : Arrival). x.class == class) (drop head ys)) is
    ∙ sym (waiting_from_head rules arrivals t starts class head taken abreast.legal from_head)

-- what a port returns if the class has no head
pub none_as : (rules : PortRules) (arrivals : List Arrival) (t : ℕ) (starts : List Transmission) (progress : Progress) (class slot : ℕ) →
    IsAbreast rules arrivals t starts progress → class < 8 → slot ≡ class → get_or progress.heads slot None ≡ None → 0 ≡ waiting_of arrivals starts class
none_as rules arrivals t starts progress class slot abreast low same is_none =
    let own : get_or progress.heads class None ≡ None = subst (λ (n : ℕ). get_or progress.heads n None ≡ None) same is_none in
    sym (none_waiting arrivals starts class (subst (λ (head : Option ℕ). IsHeadOf arrivals starts class head) own (abreast.heads class low)))
