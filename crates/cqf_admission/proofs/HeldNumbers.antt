-- The numbers of the held streams.
use Rattle.std.proofs.Common.{◌≡◌, ◌≢◌, ◌∙◌, ◌+◌, ◌<◌, ◌==◌, ℕ, Bool, true, false, cond, List, [], ◌∷◌, ◌++◌, map, filter, get_or, set, length}
use Rattle.std.proofs.Common.{refl, ap, sym, subst, arith, inl, inr}
use Rattle.std.specs.Prelude.{AllPairs, Contains, if◌then◌else◌, not, remove, suc, zero}
use Rattle.std.proofs.lemmas.Bool.{cases_Bool, eq-eqb, ne_eqb}
use Rattle.std.proofs.lemmas.List.{get_or-map, get_or_default}
use Rattle.std.proofs.lemmas.List.Sums.{sum_by-cons}
use Rattle.cqf_lists.proofs.Members.{contains_cases, contains_here, contains_later, contains_none}
use Rattle.cqf_lists.proofs.Pairs.{pairs_cons, pairs_head, pairs_none, pairs_tail}
use Rattle.cqf_admission.specs.Holdings.{IsHeldAt, Standing, held_count, held_one, numbers_from, released}

-- a number before others, if its stream is held
abbrev in_front : Bool → ℕ → List ℕ → List ℕ
in_front b n ns = if b then n ∷ ns else ns

-- numbers without one of them
abbrev pub without : ℕ → List ℕ → List ℕ
without number numbers = filter (λ (other : ℕ). not (other == number)) numbers

front_pushed : (b : Bool) (n : ℕ) (ns more : List ℕ) → in_front b n (ns ++ more) ≡ in_front b n ns ++ more
front_pushed true n ns more = refl
front_pushed false n ns more = refl

same_index : (from k : ℕ) → from + 1 + k ≡ from + suc k
same_index from k = omega arith

first_index : (from : ℕ) → from ≡ from + zero
first_index from = omega arith

-- one more held stream adds its number after the others
pushed_from : (from : ℕ) (rows : List Standing) (s : Standing) → s.held ≡ true →
    numbers_from from (rows ++ s ∷ []) ≡ numbers_from from rows ++ (from + length rows) ∷ []
pushed_from from [] s e = ap (λ (b : Bool). in_front b from []) e ∙ ap (λ (n : ℕ). n ∷ []) (first_index from)
pushed_from from (x ∷ rows) s e =
    ap (in_front x.held from) (pushed_from (from + 1) rows s e ∙ ap (λ (n : ℕ). numbers_from (from + 1) rows ++ n ∷ []) (same_index from (length rows)))
    ∙ front_pushed x.held from (numbers_from (from + 1) rows) ((from + suc (length rows)) ∷ [])

pub numbers_pushed : (rows after : List Standing) (s : Standing) → s.held ≡ true → after ≡ rows ++ s ∷ [] →
    numbers_from 0 after ≡ numbers_from 0 rows ++ length rows ∷ []
numbers_pushed rows after s e grown =
    let same : 0 + length rows ≡ length rows = omega arith in
    ap (numbers_from 0) grown ∙ pushed_from 0 rows s e ∙ ap (λ (n : ℕ). numbers_from 0 rows ++ n ∷ []) same

-- if one stream replaces another that is held as it is, the numbers stay
pub numbers_stay : (from : ℕ) (rows : List Standing) (k : ℕ) (s : Standing) → k < length rows → s.held ≡ (get_or rows k s).held →
    numbers_from from (set rows k s) ≡ numbers_from from rows
numbers_stay from [] k s low e = absurd (omega (arith, low))
numbers_stay from (x ∷ rows) zero s low e = ap (λ (b : Bool). in_front b from (numbers_from (from + 1) rows)) e
numbers_stay from (x ∷ rows) (suc k) s low e = ap (in_front x.held from) (numbers_stay (from + 1) rows k s (omega (arith, low)) e)

front_without : (b : Bool) (n number : ℕ) (ns : List ℕ) → n ≢ number → without number (in_front b n ns) ≡ in_front b n (without number ns)
front_without true n number ns apart = ap (λ (b : Bool). cond (not b) (n ∷ without number ns) (without number ns)) (ne_eqb n number apart)
front_without false n number ns apart = refl

own_without : (b : Bool) (n number : ℕ) (ns : List ℕ) → n ≡ number → without number (in_front b n ns) ≡ without number ns
own_without true n number ns same = ap (λ (b : Bool). cond (not b) (n ∷ without number ns) (without number ns)) (eq-eqb n number same)
own_without false n number ns same = refl

-- a smaller number isn't among them
without_smaller : (from number : ℕ) (rows : List Standing) → number < from → without number (numbers_from from rows) ≡ numbers_from from rows
without_smaller from number [] less = refl
without_smaller from number (x ∷ rows) less =
    front_without x.held from number (numbers_from (from + 1) rows) (λ e. omega (arith, e, less))
    ∙ ap (in_front x.held from) (without_smaller (from + 1) number rows (omega (arith, less)))

-- if a stream is released, its number is missing
released_from : (from : ℕ) (rows : List Standing) (k number : ℕ) (s : Standing) → k < length rows → number ≡ from + k →
    numbers_from from (set rows k (released s)) ≡ without number (numbers_from from rows)
released_from from [] k number s low e = absurd (omega (arith, low))
released_from from (x ∷ rows) zero number s low e =
    let same : from ≡ number = omega (arith, e) in
    sym (own_without x.held from number (numbers_from (from + 1) rows) same ∙ without_smaller (from + 1) number rows (omega (arith, same)))
released_from from (x ∷ rows) (suc k) number s low e =
    ap (in_front x.held from) (released_from (from + 1) rows k number s (omega (arith, low)) (omega (arith, e)))
    ∙ sym (front_without x.held from number (numbers_from (from + 1) rows) (λ same. omega (arith, same, e)))

pub numbers_released : (rows : List Standing) (number : ℕ) (s : Standing) → number < length rows →
    numbers_from 0 (set rows number (released s)) ≡ without number (numbers_from 0 rows)
numbers_released rows number s low = released_from 0 rows number number s low (omega arith)

-- each number is that of a held stream
held_later : (from : ℕ) (x : Standing) (rows : List Standing) (number : ℕ) → (k : ℕ) × (number ≡ from + 1 + k) × IsHeldAt rows k →
    (k : ℕ) × (number ≡ from + k) × IsHeldAt (x ∷ rows) k
held_later from x rows number w = (suc w.0, omega (arith, w.1), record { inside = omega (arith, w.2.inside); held = λ d. w.2.held d })

held_from : (from : ℕ) (rows : List Standing) (number : ℕ) → Contains (numbers_from from rows) number →
    (k : ℕ) × (number ≡ from + k) × IsHeldAt rows k
held_from from [] number among = absurd (contains_none number among)
held_from from (x ∷ rows) number among = elim (cases_Bool x.held) [
  | inl t ↦ elim (contains_cases from (numbers_from (from + 1) rows) number
      (subst (λ (b : Bool). Contains (in_front b from (numbers_from (from + 1) rows)) number) t among)) [
        | inl here ↦ (zero, omega (arith, here), record { inside = omega arith; held = λ d. t })
        | inr later ↦ held_later from x rows number (held_from (from + 1) rows number later)
      ]
  | inr f ↦
      held_later from x rows number
      (held_from (from + 1) rows number (subst (λ (b : Bool). Contains (in_front b from (numbers_from (from + 1) rows)) number) f among))
]

pub held_of_number : (rows : List Standing) (number : ℕ) → Contains (numbers_from 0 rows) number → IsHeldAt rows number
held_of_number rows number among =
    let w = held_from 0 rows number among in
    let same : w.0 ≡ number = omega (arith, w.1) in
    subst (IsHeldAt rows) same w.2

-- each held stream has its number among them
front_later : (b : Bool) (n : ℕ) (ns : List ℕ) (number : ℕ) → Contains ns number → Contains (in_front b n ns) number
front_later true n ns number later = contains_later n ns number later
front_later false n ns number later = later

among_from : (from : ℕ) (rows : List Standing) (k number : ℕ) → number ≡ from + k → IsHeldAt rows k → Contains (numbers_from from rows) number
among_from from [] k number e held = absurd (omega (arith, held.inside))
among_from from (x ∷ rows) zero number e held =
    let same : from ≡ number = omega (arith, e) in
    let t : x.held ≡ true = held.held x in
    subst (λ (b : Bool). Contains (in_front b from (numbers_from (from + 1) rows)) number) (sym t)
    (subst (Contains (from ∷ numbers_from (from + 1) rows)) same (contains_here from (numbers_from (from + 1) rows)))
among_from from (x ∷ rows) (suc k) number e held =
    front_later x.held from (numbers_from (from + 1) rows) number
    (among_from (from + 1) rows k number (omega (arith, e)) (record { inside = omega (arith, held.inside); held = λ d. held.held d }))

pub number_of_held : (rows : List Standing) (number : ℕ) → IsHeldAt rows number → Contains (numbers_from 0 rows) number
number_of_held rows number held = among_from 0 rows number number (omega arith) held

-- the numbers ascend
front_ascends : (b : Bool) (n : ℕ) (ns : List ℕ) → ((number : ℕ) → Contains ns number → n < number) → AllPairs (λ (a b : ℕ). a < b) ns →
    AllPairs (λ (a b : ℕ). a < b) (in_front b n ns)
front_ascends true n ns below pairs = pairs_cons (λ (a b : ℕ). a < b) n ns below pairs
front_ascends false n ns below pairs = pairs

pub numbers_ascend : (from : ℕ) (rows : List Standing) → AllPairs (λ (a b : ℕ). a < b) (numbers_from from rows)
numbers_ascend from [] = pairs_none (λ (a b : ℕ). a < b)
numbers_ascend from (x ∷ rows) =
    front_ascends x.held from (numbers_from (from + 1) rows) (λ number among. omega (arith, (held_from (from + 1) rows number among).1))
    (numbers_ascend (from + 1) rows)

-- there are as many numbers as held streams
front_longer : (b : Bool) (n : ℕ) (ns : List ℕ) → length (in_front b n ns) ≡ (if b then 1 else 0) + length ns
front_longer true n ns = omega arith
front_longer false n ns = omega arith

pub numbers_count : (from : ℕ) (rows : List Standing) → length (numbers_from from rows) ≡ held_count rows
numbers_count from [] = refl
numbers_count from (x ∷ rows) =
    front_longer x.held from (numbers_from (from + 1) rows) ∙ ap (λ (n : ℕ). held_one x + n) (numbers_count (from + 1) rows)
    ∙ sym (sum_by-cons held_one x rows)

-- the streams with these numbers are the held ones
front_mapped : {X : Type 0} (f : ℕ → X) (b : Bool) (n : ℕ) (ns : List ℕ) (x : X) (xs : List X) → f n ≡ x → map f ns ≡ xs →
    map f (in_front b n ns) ≡ cond b (x ∷ xs) xs
front_mapped f true n ns x xs first rest = λ i. first i ∷ rest i
front_mapped f false n ns x xs first rest = rest

stands_from : (all : List Standing) (from : ℕ) (rows : List Standing) (d : Standing) →
    ((k : ℕ) → k < length rows → get_or all (from + k) d ≡ get_or rows k d) →
    map (λ (n : ℕ). get_or all n d) (numbers_from from rows) ≡ filter (λ (s : Standing). s.held) rows
stands_from all from [] d each = refl
stands_from all from (x ∷ rows) d each =
    front_mapped (λ (n : ℕ). get_or all n d) x.held from (numbers_from (from + 1) rows) x (filter (λ (s : Standing). s.held) rows)
    (ap (λ (n : ℕ). get_or all n d) (first_index from) ∙ each zero (omega arith))
    (stands_from all (from + 1) rows d (λ k low. ap (λ (n : ℕ). get_or all n d) (same_index from k) ∙ each (suc k) (omega (arith, low))))

-- so the stream at such a number is the one at this index among the held ones
pub held_in_place : (rows : List Standing) (index number : ℕ) (s : Standing) → index < length (numbers_from 0 rows) →
    number ≡ get_or (numbers_from 0 rows) index number → s ≡ get_or rows number s → s ≡ get_or (filter (λ (t : Standing). t.held) rows) index s
held_in_place rows index number s low is there =
    let plain : (k : ℕ) → 0 + k ≡ k = λ k. omega arith in
    there ∙ ap (λ (n : ℕ). get_or rows n s) is
    ∙ sym (get_or-map (λ (n : ℕ). get_or rows n s) (numbers_from 0 rows) index number s low)
    ∙ ap (λ (xs : List Standing). get_or xs index s) (stands_from rows 0 rows s (λ k inside. ap (λ (n : ℕ). get_or rows n s) (plain k)))

-- there are equally many
front_many : {X : Type 0} (b : Bool) (n : ℕ) (ns : List ℕ) (x : X) (xs : List X) → length xs ≡ length ns → length (cond b (x ∷ xs) xs) ≡ length (in_front b n ns)
front_many true n ns x xs e = ap suc e
front_many false n ns x xs e = e

pub held_many : (from : ℕ) (rows : List Standing) → length (filter (λ (s : Standing). s.held) rows) ≡ length (numbers_from from rows)
held_many from [] = refl
held_many from (x ∷ rows) =
    front_many x.held from (numbers_from (from + 1) rows) x (filter (λ (s : Standing). s.held) rows) (held_many (from + 1) rows)

-- removing a number that isn't there changes nothing
without_absent : (numbers : List ℕ) (number : ℕ) → ((other : ℕ) → Contains numbers other → other ≢ number) → without number numbers ≡ numbers
without_absent [] number absent = refl
without_absent (x ∷ numbers) number absent =
    ap (λ (b : Bool). cond (not b) (x ∷ without number numbers) (without number numbers)) (ne_eqb x number (absent x (contains_here x numbers)))
    ∙ ap (λ (ns : List ℕ). x ∷ ns) (without_absent numbers number (λ other among. absent other (contains_later x numbers other among)))

-- removing one of some ascending numbers leaves those without it
pub removed_is_without : (numbers : List ℕ) (index number : ℕ) → AllPairs (λ (a b : ℕ). a < b) numbers → index < length numbers →
    get_or numbers index 0 ≡ number → remove numbers index ≡ without number numbers
removed_is_without [] index number pairs low is = absurd (omega (arith, low))
removed_is_without (x ∷ numbers) zero number pairs low is =
    sym (ap (λ (b : Bool). cond (not b) (x ∷ without number numbers) (without number numbers)) (eq-eqb x number is)
    ∙ without_absent numbers number (λ other among same. omega (arith, is, same, pairs_head (λ (a b : ℕ). a < b) x numbers other pairs among)))
removed_is_without (x ∷ numbers) (suc index) number pairs low is =
    let there : Contains numbers number = (index, omega (arith, low), at) in
    ap (λ (ns : List ℕ). x ∷ ns) (removed_is_without numbers index number (pairs_tail (λ (a b : ℕ). a < b) x numbers pairs) (omega (arith, low)) is)
    ∙ sym (ap (λ (b : Bool). cond (not b) (x ∷ without number numbers) (without number numbers))
    (ne_eqb x number (λ same. omega (arith, same, pairs_head (λ (a b : ℕ). a < b) x numbers number pairs there))))
  where
    at : get_or numbers index number ≡ number
    at = get_or_default numbers index number 0 (omega (arith, low)) ∙ is
