-- Paths by numbered steps, and how the first path into a set follows from the first path into the set before it.
use Rattle.std.proofs.Common.{◌≡◌, ◌∙◌, ◌+◌, ◌≤◌, ℕ, Bool, true, false, List, [], ◌∷◌, ◌++◌, Option, Some, None, length, refl, sym, ap, subst, inl, inr, arith, length-append}
use Rattle.std.specs.Prelude.{option_and_then}
use Rattle.std.proofs.lemmas.Option.{option_and_then_some}
use Rattle.cqf_network.specs.Steps.{AreBefore, IsFirstInto, IsFirstStep, LeadsInto, PathInto, is_before, led_along}
use Rattle.cqf_network.proofs.OrderLemmas.{before_after, higher_alone, same_or_after, stays_before}

-- appended steps lead on from where the first ones lead
pub along-append : {N : Type 0} (next : N → ℕ → Option N) (from : N) (xs ys : List ℕ) →
    led_along next from (xs ++ ys) ≡ option_and_then (λ end. led_along next end ys) (led_along next from xs)
along-append next from [] ys = refl
along-append next from (x ∷ xs) ys =
    elim (next from x) as (λ o. option_and_then (λ end. led_along next end (xs ++ ys)) o
    ≡ option_and_then (λ end. led_along next end ys) (option_and_then (λ end. led_along next end xs) o)) [
      | None ↦ refl
      | Some end ↦ along-append next end xs ys
    ]

-- a single step leads where it does
along-one : {N : Type 0} (next : N → ℕ → Option N) (node : N) (step : ℕ) → led_along next node (step ∷ []) ≡ next node step
along-one next node step = elim (next node step) as (λ o. option_and_then (λ end. Some end) o ≡ o) [ None ↦ refl | Some end ↦ refl ]

-- and an appended step leads on from where the path leads
pub along-push : {N : Type 0} (next : N → ℕ → Option N) (from node end : N) (path : List ℕ) (step : ℕ) → led_along next from path ≡ Some node →
    next node step ≡ Some end → led_along next from (path ++ step ∷ []) ≡ Some end
along-push {N} next from node end path step to_node to_end =
    along-append next from path (step ∷ [])
    ∙ ap (λ (o : Option N). option_and_then (λ n. led_along next n (step ∷ [])) o) to_node
    ∙ along-one next node step
    ∙ to_end

-- a list with a last element
record Pushed (all : List ℕ) : Type 0 where
  front : List ℕ
  last : ℕ
  is : all ≡ front ++ last ∷ []

pushed : (x : ℕ) (xs : List ℕ) → Pushed (x ∷ xs)
pushed x [] = record { front = []; last = x; is = refl }
pushed x (y ∷ ys) = let rest = pushed y ys in record { front = x ∷ rest.front; last = rest.last; is = ap (λ zs. x ∷ zs) rest.is }

-- a path into a set from outside: a path into the set before it, and a last step
record Parted {N : Type 0} (next : N → ℕ → Option N) (ends before : N → Bool) (from : N) (path : List ℕ) (there : N) : Type 0 where
  front : List ℕ
  last : ℕ
  node : N
  is : path ≡ front ++ last ∷ []
  into : PathInto next before from front node
  leads : LeadsInto next ends node last there

parted : {N : Type 0} (next : N → ℕ → Option N) (ends before : N → Bool) (from there : N) (path : List ℕ) → AreBefore next ends before →
    ends from ≡ false → PathInto next ends from path there → Parted next ends before from path there
parted {N} next ends before from there [] are outside into =
    absurd (let here : from ≡ there = cc (into.leads) in let inside = ap ends here in let yes = into.inside in cc)
parted {N} next ends before from there (x ∷ xs) are outside into =
    let p = pushed x xs in
    let leads : led_along next from (p.front ++ p.last ∷ []) ≡ Some there = sym (ap (led_along next from) p.is) ∙ into.leads in
    option_and_then_some (λ end. led_along next end (p.last ∷ [])) (led_along next from p.front) there (sym (along-append next from p.front (p.last ∷ [])) ∙ leads)
    (λ node to_node to_there.
    let last : LeadsInto next ends node p.last there = record { leads = sym (along-one next node p.last) ∙ to_there; inside = into.inside } in
    record {
      front = p.front;
      last = p.last;
      node = node;
      is = p.is;
      into = record { leads = to_node; inside = are.all node (record { step = p.last; end = there; leads = last }) };
      leads = last;
    })

-- the length of a list with one element more
length_pushed : (xs : List ℕ) (x : ℕ) → length (xs ++ x ∷ []) ≡ length xs + 1
length_pushed xs x = length-append xs (x ∷ [])

-- the first path into a set is the first path into the set before it, followed by the first step that leads on
pub one_more : {N : Type 0} (next : N → ℕ → Option N) (ends before : N → Bool) (from node end : N) (path : List ℕ) (step : ℕ) → AreBefore next ends before →
    ends from ≡ false → IsFirstInto next before from path node → IsFirstStep next ends node step end → IsFirstInto next ends from (path ++ step ∷ []) end
one_more {N} next ends before from node end path step are outside first last = record {
  into = record { leads = along-push next from node end path step first.into.leads last.leads.leads; inside = last.leads.inside };
  shortest = λ other there into. shortest other there (parted next ends before from there other are outside into);
  least = λ other there into same. least other there (parted next ends before from there other are outside into) same;
}
  where
    shortest : (other : List ℕ) (there : N) → Parted next ends before from other there → length (path ++ step ∷ []) ≤ length other
    shortest other there p =
        omega (arith, first.shortest p.front p.node p.into, ap length p.is, length_pushed p.front p.last, length_pushed path step)

    -- the same beginning leads to the same node, and the step after it is the least
    same_front : (front : List ℕ) (last_step : ℕ) (there_node there : N) → PathInto next before from front there_node → LeadsInto next ends there_node last_step there →
        front ≡ path → is_before (front ++ last_step ∷ []) (path ++ step ∷ []) ≡ false
    same_front front last_step there_node there into leads e =
        let both = ap (led_along next from) e in
        let one = into.leads in
        let other = first.into.leads in
        let same : there_node ≡ node = cc in
        let least : step ≤ last_step =
        last.least last_step there (record { leads = subst (λ (n : N). next n last_step ≡ Some there) same leads.leads; inside = leads.inside }) in
        subst (λ (ws : List ℕ). is_before (ws ++ last_step ∷ []) (path ++ step ∷ []) ≡ false) (sym e)
        (before_after path (last_step ∷ []) (step ∷ []) ∙ higher_alone last_step step least)

    least : (other : List ℕ) (there : N) → Parted next ends before from other there → length other ≡ length (path ++ step ∷ []) → is_before other (path ++ step ∷ []) ≡ false
    least other there p same =
        let as_long : length p.front ≡ length path = omega (arith, ap length p.is, length_pushed p.front p.last, length_pushed path step, same) in
        subst (λ (o : List ℕ). is_before o (path ++ step ∷ []) ≡ false) (sym p.is)
        (elim (same_or_after p.front path as_long (first.least p.front p.node p.into as_long)) [
          | inl e ↦ same_front p.front p.last p.node there p.into p.leads e
          | inr following ↦ stays_before path p.front (p.last ∷ []) (step ∷ []) (sym as_long) following
        ])

-- if no path of at most n steps leads into the set before, none of at most n + 1 steps leads from outside into the set
pub none_more : {N : Type 0} (next : N → ℕ → Option N) (ends before : N → Bool) (from : N) (most : ℕ) → AreBefore next ends before → ends from ≡ false →
    ((path : List ℕ) (end : N) → length path ≤ most → ¬ PathInto next before from path end) → (path : List ℕ) (end : N) → length path ≤ most + 1 → ¬ PathInto next ends from path end
none_more next ends before from most are outside none path end short into =
    let p = parted next ends before from end path are outside into in
    none p.front p.node (omega (arith, short, ap length p.is, length_pushed p.front p.last)) p.into

-- from outside, no path without steps leads into a set
pub none_at_once : {N : Type 0} (next : N → ℕ → Option N) (ends : N → Bool) (from : N) → ends from ≡ false → (path : List ℕ) (end : N) → length path ≤ 0 →
    ¬ PathInto next ends from path end
none_at_once next ends from outside [] end short into = let here = into.leads in let inside = into.inside in let same : from ≡ end = cc in absurd (let e = ap ends same in cc)
none_at_once next ends from outside (x ∷ xs) end short into = absurd (omega (arith, short))

-- from within the set, the path without steps is the first
pub first_at_once : {N : Type 0} (next : N → ℕ → Option N) (ends : N → Bool) (from : N) → ends from ≡ true → IsFirstInto next ends from [] from
first_at_once next ends from inside = record {
  into = record { leads = refl; inside = inside };
  shortest = λ other there into. omega arith;
  least = λ other there into same. none_before other (omega (arith, same));
}
  where
    none_before : (other : List ℕ) → length other ≡ 0 → is_before other [] ≡ false
    none_before [] e = refl
    none_before (x ∷ xs) e = refl
