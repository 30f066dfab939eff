-- Shares of budgets, the loads of a tree, and the first phase in which these are the least.
use Rattle.std.proofs.Common.{◌≡◌, ◌≢◌, ◌∙◌, ◌+◌, ◌*◌, ◌<◌, ◌≤◌, ◌++◌, ◌⊎◌, ◌&&◌, ◌||◌, ℕ, zero, suc, Bool, List, [], ◌∷◌, Contains, ap, append_assoc, arith, drop, false, fold, get_or, inl, inr, length, nat_lt, not, refl, subst, sym, take, true, mul-le-mul_right}
use Rattle.std.specs.Prelude.{if◌then◌else◌, insert, ⊤}
use Rattle.std.proofs.Math.Nat.{le_of_mul-le-mul_right, lt_of_mul-lt-mul_right, mul-lt-mul_of_pos_right}
use Rattle.std.proofs.lemmas.Bool.{and_right, cases_Bool, cases_lt, cond-false, cond-true, le-ltb, lt-ltb, ltb-false, ltb-true}
use Rattle.std.proofs.lemmas.List.{append-nil, drop_all, drop_more, take_all, take_more}
use Rattle.std.proofs.lemmas.List.Elements.{Contains-append_cases, Contains-append_left, Contains-append_right}
use Rattle.std.proofs.lemmas.List.Sums.{fold-append}
use Rattle.cqf_lists.proofs.Members.{contains_here, contains_none, contains_one}
use Rattle.cqf_model.specs.declared.topology.Hop.{Hop}
use Rattle.cqf_program_placing.specs.declared.phases.BudgetShare.{BudgetShare}
use Rattle.cqf_program_placing.specs.ActiveCycles.{IsLeastLoaded, are_less, is_less_full, loads_down, put_down}

-- ---- fractions a/b, c/d and e/f, none of them 0/0

-- if a first is no more than a second, and the second no more than a third, the first is no more than the third
trans : (a b c d e f : ℕ) → 0 < c + d → a * d ≤ c * b → c * f ≤ e * d → a * f ≤ e * b
trans a b c zero e zero some one two = omega arith
trans a b c zero e (suc f) some one two =
    let more : 1 * suc f ≤ c * suc f = mul-le-mul_right (suc f) (omega (arith, some)) in absurd (omega (arith, more, two))
trans a b c (suc d) e f some one two =
    let first : a * suc d * f ≤ c * b * f = mul-le-mul_right f one in
    let second : c * f * b ≤ e * suc d * b = mul-le-mul_right b two in
    let all : a * f * suc d ≤ e * b * suc d = omega (arith, first, second) in
    le_of_mul-le-mul_right all (omega arith)

-- if a first is less than a second, and the second no more than a third, the first is less than the third
less_trans : (a b c d e f : ℕ) → 0 < e + f → a * d < c * b → c * f ≤ e * d → a * f < e * b
less_trans a zero c d e f some one two = absurd (omega (arith, one))
less_trans a (suc b) zero d e f some one two = absurd (omega (arith, one))
less_trans a (suc b) (suc c) d e zero some one two =
    let more : 1 * suc b ≤ e * suc b = mul-le-mul_right (suc b) (omega (arith, some)) in omega (arith, more)
less_trans a (suc b) (suc c) d e (suc f) some one two =
    let first : a * d * suc f < suc c * suc b * suc f = mul-lt-mul_of_pos_right one (omega arith) in
    let second : suc c * suc f * suc b ≤ e * d * suc b = mul-le-mul_right (suc b) two in
    let all : a * suc f * d < e * suc b * d = omega (arith, first, second) in
    lt_of_mul-lt-mul_right d all

-- if a first is no more than a second, and the second less than a third, the first is less than the third
trans_less : (a b c d e f : ℕ) → 0 < a + b → a * d ≤ c * b → c * f < e * d → a * f < e * b
trans_less a b c zero e f some one two = absurd (omega (arith, two))
trans_less a zero c (suc d) e f some one two =
    let more : 1 * suc d ≤ a * suc d = mul-le-mul_right (suc d) (omega (arith, some)) in absurd (omega (arith, more, one))
trans_less a (suc b) c (suc d) e f some one two =
    let first : a * suc d * f ≤ c * suc b * f = mul-le-mul_right f one in
    let second : c * f * suc b < e * suc d * suc b = mul-lt-mul_of_pos_right two (omega arith) in
    let all : a * f * suc d < e * suc b * suc d = omega (arith, first, second) in
    lt_of_mul-lt-mul_right (suc d) all

-- ---- two shares

-- one is no greater than the other, or it is less
abbrev pub IsNoFuller : BudgetShare → BudgetShare → Type 0
IsNoFuller share other = share.held * other.budget ≤ other.held * share.budget

abbrev pub IsLessFull : BudgetShare → BudgetShare → Type 0
IsLessFull share other = share.held * other.budget < other.held * share.budget

less_by : (x y : BudgetShare) → is_less_full x y ≡ true → IsLessFull x y
less_by x y t = ltb-true (x.held * y.budget) (y.held * x.budget) t

no_less_by : (x y : BudgetShare) → is_less_full y x ≡ false → IsNoFuller x y
no_less_by x y f = ltb-false (y.held * x.budget) (x.held * y.budget) f

by_less : (x y : BudgetShare) → IsLessFull x y → is_less_full x y ≡ true
by_less x y l = lt-ltb (x.held * y.budget) (y.held * x.budget) l

by_no_less : (x y : BudgetShare) → IsNoFuller x y → is_less_full y x ≡ false
by_no_less x y l = le-ltb (y.held * x.budget) (x.held * y.budget) l

-- ---- loads that are compared

-- something is held of each
abbrev pub AreHeld : List BudgetShare → Type 0
AreHeld [] = ⊤
AreHeld (share ∷ loads) = (1 ≤ share.held) × AreHeld loads

-- loads are less than others if the first share is less, or if it isn't more and the other shares are less
less_parts : (first back rest : Bool) → (first || (not back && rest)) ≡ true → (first ≡ true) ⊎ ((back ≡ false) × (rest ≡ true))
less_parts true back rest t = inl refl
less_parts false true rest t = absurd cc
less_parts false false rest t = inr (refl, t)

no_less_parts : (first back rest : Bool) → (first || (not back && rest)) ≡ false → (first ≡ false) × ((back ≡ true) ⊎ (rest ≡ false))
no_less_parts true back rest f = absurd cc
no_less_parts false true rest f = (refl, inl refl)
no_less_parts false false rest f = (refl, inr f)

less_at_once : (first back rest : Bool) → first ≡ true → (first || (not back && rest)) ≡ true
less_at_once true back rest t = refl
less_at_once false back rest t = absurd cc

less_later : (first back rest : Bool) → back ≡ false → rest ≡ true → (first || (not back && rest)) ≡ true
less_later true back rest f t = refl
less_later false true rest f t = absurd cc
less_later false false rest f t = t

more_at_once : (first back rest : Bool) → first ≡ false → back ≡ true → (first || (not back && rest)) ≡ false
more_at_once true back rest f t = absurd cc
more_at_once false true rest f t = refl
more_at_once false false rest f t = absurd cc

no_less_later : (first back rest : Bool) → first ≡ false → rest ≡ false → (first || (not back && rest)) ≡ false
no_less_later true back rest f t = absurd cc
no_less_later false true rest f t = refl
no_less_later false false rest f t = t

-- if loads are less than second ones, and third ones aren't less than these, the first are less than the third
pub less_all : (xs ys zs : List BudgetShare) → AreHeld xs → AreHeld ys → AreHeld zs → are_less xs ys ≡ true → are_less zs ys ≡ false →
    are_less xs zs ≡ true
less_all xs [] zs a b c less isnt = absurd cc
less_all [] (y ∷ ys) [] a b c less isnt = absurd cc
less_all [] (y ∷ ys) (z ∷ zs) a b c less isnt = refl
less_all (x ∷ xs) (y ∷ ys) [] a b c less isnt = absurd cc
less_all (x ∷ xs) (y ∷ ys) (z ∷ zs) a b c less isnt =
    let (no_first, no_rest) = no_less_parts (is_less_full z y) (is_less_full y z) (are_less zs ys) isnt in
    let up : IsNoFuller y z = no_less_by y z no_first in
    elim (less_parts (is_less_full x y) (is_less_full y x) (are_less xs ys) less) [
      | inl at_once ↦
          less_at_once (is_less_full x z) (is_less_full z x) (are_less xs zs)
          (by_less x z (less_trans x.held x.budget y.held y.budget z.held z.budget (omega (arith, c.0)) (less_by x y at_once) up))
      | inr later ↦
          let to : IsNoFuller x y = no_less_by x y later.0 in
          elim no_rest [
            | inl more ↦
                less_at_once (is_less_full x z) (is_less_full z x) (are_less xs zs)
                (by_less x z (trans_less x.held x.budget y.held y.budget z.held z.budget (omega (arith, a.0)) to (less_by y z more)))
            | inr not_more ↦
                less_later (is_less_full x z) (is_less_full z x) (are_less xs zs)
                (by_no_less x z (trans x.held x.budget y.held y.budget z.held z.budget (omega (arith, b.0)) to up))
                (less_all xs ys zs a.1 b.1 c.1 later.1 not_more)
          ]
    ]

-- of two loads at most one is less than the other
pub never_both : (xs ys : List BudgetShare) → are_less xs ys ≡ true → are_less ys xs ≡ false
never_both xs [] less = absurd cc
never_both [] (y ∷ ys) less = refl
never_both (x ∷ xs) (y ∷ ys) less = elim (less_parts (is_less_full x y) (is_less_full y x) (are_less xs ys) less) [
  | inl at_once ↦
      let below : IsLessFull x y = less_by x y at_once in
      more_at_once (is_less_full y x) (is_less_full x y) (are_less ys xs) (by_no_less x y (omega (arith, below))) at_once
  | inr later ↦ no_less_later (is_less_full y x) (is_less_full x y) (are_less ys xs) later.0 (never_both xs ys later.1)
]

pub not_itself : (xs : List BudgetShare) → are_less xs xs ≡ false
not_itself xs = elim (cases_Bool (are_less xs xs)) [ inl less ↦ never_both xs xs less | inr isnt ↦ isnt ]

-- ---- the loads of a tree

-- the greatest share of the hops of a tree
pub record IsFullest (shares : Hop → BudgetShare) (tree : List Hop) (fullest : BudgetShare) : Type 0 where
  pub each : (hop : Hop) → Contains tree hop → IsNoFuller (shares hop) fullest
  pub there : Hop
  pub among : Contains tree there
  pub of_hop : fullest ≡ shares there

-- it is the first of the loads
abbrev pub StandsFirst : (Hop → BudgetShare) → List Hop → List BudgetShare → Type 0
StandsFirst shares tree [] = (hop : Hop) → Contains tree hop → ⊥
StandsFirst shares tree (most ∷ loads) = IsFullest shares tree most

module _ (shares : Hop → BudgetShare) (held : (hop : Hop) → 1 ≤ (shares hop).held) where
  -- something is held of it
  held_first : (tree : List Hop) (most : BudgetShare) → IsFullest shares tree most → 0 < most.held + most.budget
  held_first tree most is =
      let some : 1 ≤ most.held = subst (λ (s : BudgetShare). 1 ≤ s.held) (sym is.of_hop) (held is.there) in omega (arith, some)

  -- one more hop, which is fuller
  fullest_more : (tree : List Hop) (hop : Hop) (most : BudgetShare) → IsFullest shares tree most → IsLessFull most (shares hop) →
      IsFullest shares (tree ++ hop ∷ []) (shares hop)
  fullest_more tree hop most so_far less = record {
    each = λ other c. elim (Contains-append_cases tree (hop ∷ []) other c) [
      | inl before ↦
          let x = shares other in
          trans x.held x.budget most.held most.budget (shares hop).held (shares hop).budget (held_first tree most so_far) (so_far.each other before)
          (omega (arith, less))
      | inr here ↦ subst (λ (h : Hop). IsNoFuller (shares h) (shares hop)) (contains_one hop other here) (omega arith)
    ];
    there = hop;
    among = Contains-append_right tree (hop ∷ []) hop (contains_here hop []);
    of_hop = refl;
  }

  -- one more hop, which isn't fuller
  fullest_same : (tree : List Hop) (hop : Hop) (most : BudgetShare) → IsFullest shares tree most → IsNoFuller (shares hop) most →
      IsFullest shares (tree ++ hop ∷ []) most
  fullest_same tree hop most so_far no_more = record {
    each = λ other c. elim (Contains-append_cases tree (hop ∷ []) other c) [
      | inl before ↦ so_far.each other before
      | inr here ↦ subst (λ (h : Hop). IsNoFuller (shares h) most) (contains_one hop other here) no_more
    ];
    there = so_far.there;
    among = Contains-append_left tree (hop ∷ []) so_far.there so_far.among;
    of_hop = so_far.of_hop;
  }

  -- a first hop
  fullest_one : (tree : List Hop) (hop : Hop) → ((other : Hop) → Contains tree other → ⊥) → IsFullest shares (tree ++ hop ∷ []) (shares hop)
  fullest_one tree hop none = record {
    each = λ other c. elim (Contains-append_cases tree (hop ∷ []) other c) [
      | inl before ↦ absurd (none other before)
      | inr here ↦ subst (λ (h : Hop). IsNoFuller (shares h) (shares hop)) (contains_one hop other here) (omega arith)
    ];
    there = hop;
    among = Contains-append_right tree (hop ∷ []) hop (contains_here hop []);
    of_hop = refl;
  }

  first_more : (tree : List Hop) (hop : Hop) (loads : List BudgetShare) → StandsFirst shares tree loads →
      StandsFirst shares (tree ++ hop ∷ []) (put_down (shares hop) loads)
  first_more tree hop [] first = fullest_one tree hop first
  first_more tree hop (most ∷ loads) first = by (is_less_full most (shares hop)) refl
    where
      by : (b : Bool) → is_less_full most (shares hop) ≡ b →
          StandsFirst shares (tree ++ hop ∷ []) (if b then shares hop ∷ (most ∷ loads) else most ∷ put_down (shares hop) loads)
      by true t = fullest_more tree hop most first (less_by most (shares hop) t)
      by false f = fullest_same tree hop most first (no_less_by (shares hop) most f)

  held_by : (b : Bool) (share first : BudgetShare) (loads put : List BudgetShare) → 1 ≤ share.held → AreHeld (first ∷ loads) → AreHeld put →
      AreHeld (if b then share ∷ (first ∷ loads) else first ∷ put)
  held_by true share first loads put some all also = (some, all)
  held_by false share first loads put some all also = (all.0, also)

  held_more : (share : BudgetShare) (loads : List BudgetShare) → 1 ≤ share.held → AreHeld loads → AreHeld (put_down share loads)
  held_more share [] some all = (some, tt)
  held_more share (first ∷ loads) some all = held_by (is_less_full first share) share first loads (put_down share loads) some all (held_more share loads some all.1)

  -- so of all hops
  first_after : (front tree : List Hop) (loads : List BudgetShare) → StandsFirst shares front loads →
      StandsFirst shares (front ++ tree) (fold (λ (done : List BudgetShare) (hop : Hop). put_down (shares hop) done) loads tree)
  first_after front [] loads first = subst (λ (hops : List Hop). StandsFirst shares hops loads) (sym (append-nil front)) first
  first_after front (hop ∷ tree) loads first =
      subst (λ (hops : List Hop). StandsFirst shares hops (fold (λ (done : List BudgetShare) (h : Hop). put_down (shares h) done) (put_down (shares hop) loads) tree))
      (append_assoc front (hop ∷ []) tree) (first_after (front ++ hop ∷ []) tree (put_down (shares hop) loads) (first_more front hop loads first))

  held_after : (tree : List Hop) (loads : List BudgetShare) → AreHeld loads →
      AreHeld (fold (λ (done : List BudgetShare) (hop : Hop). put_down (shares hop) done) loads tree)
  held_after [] loads all = all
  held_after (hop ∷ tree) loads all = held_after tree (put_down (shares hop) loads) (held_more (shares hop) loads (held hop) all)

  pub stands_first : (tree : List Hop) → StandsFirst shares tree (loads_down shares tree)
  stands_first tree = first_after [] tree [] (λ hop c. contains_none hop c)

  pub loads_held : (tree : List Hop) → AreHeld (loads_down shares tree)
  loads_held tree = held_after tree [] tt

-- if loads aren't less than those of a tree, none of the tree's hops is fuller than some hop of theirs
pub some_as_full : (shares others : Hop → BudgetShare) (tree : List Hop) → ((hop : Hop) → 1 ≤ (shares hop).held) → ((hop : Hop) → 1 ≤ (others hop).held) →
    are_less (loads_down others tree) (loads_down shares tree) ≡ false → (hop : Hop) → Contains tree hop →
    (there : Hop) × Contains tree there × IsNoFuller (shares hop) (others there)
some_as_full shares others tree held also isnt hop c =
    by (loads_down others tree) (loads_down shares tree) (stands_first others also tree) (stands_first shares held tree) isnt
  where
    by : (theirs ours : List BudgetShare) → StandsFirst others tree theirs → StandsFirst shares tree ours → are_less theirs ours ≡ false →
        (there : Hop) × Contains tree there × IsNoFuller (shares hop) (others there)
    by theirs [] first own is = absurd (own hop c)
    by [] (most ∷ ours) first own is = absurd (first hop c)
    by (greatest ∷ theirs) (most ∷ ours) first own is =
        let no_less = (no_less_parts (is_less_full greatest most) (is_less_full most greatest) (are_less theirs ours) is).0 in
        let x = shares hop in
        let to : IsNoFuller x greatest =
        trans x.held x.budget most.held most.budget greatest.held greatest.budget (held_first shares held tree most own) (own.each hop c)
        (no_less_by most greatest no_less) in
        (first.there, first.among, subst (λ (s : BudgetShare). IsNoFuller x s) first.of_hop to)

-- ---- put in their places

module _ (share : BudgetShare) (loads : List BudgetShare) where
  -- those before an index are no less
  abbrev pub AreNoLess : ℕ → Type 0
  AreNoLess index = put_down share loads ≡ take index loads ++ put_down share (drop index loads)

  -- one more is no less
  pub no_less_next : (index : ℕ) (none : BudgetShare) → index < length loads → AreNoLess index → is_less_full (get_or loads index none) share ≡ false →
      AreNoLess (index + 1)
  no_less_next index none inside so_far isnt =
      let first : BudgetShare = get_or loads index none in
      let rest : List BudgetShare = drop (index + 1) loads in
      let following : put_down share (first ∷ rest) ≡ first ∷ put_down share rest =
      cond-false (is_less_full first share) (share ∷ (first ∷ rest)) (first ∷ put_down share rest) isnt in
      so_far ∙ ap (λ (xs : List BudgetShare). take index loads ++ put_down share xs) (drop_more loads index none inside)
      ∙ ap (λ (xs : List BudgetShare). take index loads ++ xs) following
      ∙ sym (append_assoc (take index loads) (first ∷ []) (put_down share rest))
      ∙ ap (λ (xs : List BudgetShare). xs ++ put_down share rest) (sym (take_more loads index none inside))

  -- the first that is less
  pub put_before : (index : ℕ) (none : BudgetShare) → index < length loads → AreNoLess index → is_less_full (get_or loads index none) share ≡ true →
      insert loads index share ≡ put_down share loads
  put_before index none inside so_far less =
      let first : BudgetShare = get_or loads index none in
      let rest : List BudgetShare = drop (index + 1) loads in
      let before : put_down share (first ∷ rest) ≡ share ∷ (first ∷ rest) =
      cond-true (is_less_full first share) (share ∷ (first ∷ rest)) (first ∷ put_down share rest) less in
      let next : drop index loads ≡ first ∷ rest = drop_more loads index none inside in
      ap (λ (xs : List BudgetShare). take index loads ++ share ∷ xs) next
      ∙ ap (λ (xs : List BudgetShare). take index loads ++ xs) (sym before)
      ∙ ap (λ (xs : List BudgetShare). take index loads ++ put_down share xs) (sym next)
      ∙ sym so_far

  -- none is
  pub put_last : (index count : ℕ) → length loads ≤ index → count ≡ index → AreNoLess index → insert loads count share ≡ put_down share loads
  put_last index count past same so_far =
      ap (λ n. insert loads n share) same
      ∙ ap (λ (xs : List BudgetShare). take index loads ++ share ∷ xs) (drop_all index loads past)
      ∙ ap (λ (xs : List BudgetShare). take index loads ++ put_down share xs) (sym (drop_all index loads past))
      ∙ sym so_far

-- one hop more
pub loads_more : (shares : Hop → BudgetShare) (tree : List Hop) (k : ℕ) (none : Hop) (loads after : List BudgetShare) (share : BudgetShare) →
    k < length tree → loads ≡ loads_down shares (take k tree) → share ≡ shares (get_or tree k none) → after ≡ put_down share loads →
    after ≡ loads_down shares (take (k + 1) tree)
loads_more shares tree k none loads after share inside so_far is more =
    let step = λ (done : List BudgetShare) (hop : Hop). put_down (shares hop) done in
    more ∙ (λ i. put_down (is i) (so_far i))
    ∙ sym (fold-append step [] (take k tree) (get_or tree k none ∷ []))
    ∙ ap (fold step []) (sym (take_more tree k none inside))

-- ---- loads that are compared index by index

module _ (loads others : List BudgetShare) where
  -- what follows an index decides
  pub record AreAlikeSoFar (index : ℕ) : Type 0 where
    pub few : index ≤ length loads
    pub rest : are_less loads others ≡ are_less (drop index loads) (drop index others)

  module _ (index : ℕ) (none : BudgetShare) (inside : index < length others) (so_far : AreAlikeSoFar index) where
    -- there are fewer
    pub fewer_there : index ≡ length loads → true ≡ are_less loads others
    fewer_there same =
        sym (so_far.rest ∙ (λ i. are_less (drop_all index loads (omega (arith, same)) i) (drop_more others index none inside i)))

    module _ (within : index < length loads) where
      abbrev x : BudgetShare
      x = get_or loads index none

      abbrev y : BudgetShare
      y = get_or others index none

      opened : are_less loads others
          ≡ (is_less_full x y || (not (is_less_full y x) && are_less (drop (index + 1) loads) (drop (index + 1) others)))
      opened = so_far.rest ∙ (λ i. are_less (drop_more loads index none within i) (drop_more others index none inside i))

      -- the first that differ decide
      pub less_there : is_less_full x y ≡ true → true ≡ are_less loads others
      less_there less = sym (opened ∙ less_at_once (is_less_full x y) (is_less_full y x) (are_less (drop (index + 1) loads) (drop (index + 1) others)) less)

      pub more_there : is_less_full x y ≡ false → is_less_full y x ≡ true → false ≡ are_less loads others
      more_there isnt more =
          sym (opened ∙ more_at_once (is_less_full x y) (is_less_full y x) (are_less (drop (index + 1) loads) (drop (index + 1) others)) isnt more)

      -- and if these don't differ, those after them decide
      pub alike_there : is_less_full x y ≡ false → is_less_full y x ≡ false → AreAlikeSoFar (index + 1)
      alike_there isnt also = record {
        few = omega (arith, within);
        rest = opened ∙ (λ i. isnt i || (not (also i) && are_less (drop (index + 1) loads) (drop (index + 1) others)));
      }

  pub none_less : (index : ℕ) → length others ≤ index → AreAlikeSoFar index → false ≡ are_less loads others
  none_less index past so_far = sym (so_far.rest ∙ ap (are_less (drop index loads)) (drop_all index others past))

-- ---- phases

-- the last of some, or one before it
cases_last : (k n : ℕ) → k < n + 1 → (k ≡ n) ⊎ (k < n)
cases_last k n low = elim (cases_lt k n) [ inl before ↦ inr before | inr beyond ↦ inl (omega (arith, low, beyond)) ]

-- the first of `count` phases whose loads are the least
pub record IsLeastSoFar (loads : ℕ → List BudgetShare) (count first : ℕ) (least : List BudgetShare) : Type 0 where
  pub within : first < count
  pub is : least ≡ loads first
  pub no_less : (other : ℕ) → other < count → are_less (loads other) (loads first) ≡ false
  pub less : (other : ℕ) → other < first → are_less (loads first) (loads other) ≡ true

module _ (loads : ℕ → List BudgetShare) (held : (phase : ℕ) → AreHeld (loads phase)) where
  pub least_first : (least : List BudgetShare) → least ≡ loads 0 → IsLeastSoFar loads 1 0 least
  least_first least is = record {
    within = omega arith;
    is = is;
    no_less = λ other low. subst (λ k. are_less (loads k) (loads 0) ≡ false) (omega (arith, low)) (not_itself (loads 0));
    less = λ other low. absurd (omega (arith, low));
  }

  -- one more phase, with less loads
  pub least_less : (count first next : ℕ) (least new after : List BudgetShare) → IsLeastSoFar loads count first least → new ≡ loads count →
      are_less new least ≡ true → next ≡ count → after ≡ new → IsLeastSoFar loads (count + 1) next after
  least_less count first next least new after so_far is less next_is after_is =
      subst (λ n. IsLeastSoFar loads (count + 1) n after) (sym next_is) (record {
        within = omega arith;
        is = after_is ∙ is;
        no_less = λ other low. elim (cases_last other count low) [
          | inl last ↦ subst (λ k. are_less (loads k) (loads count) ≡ false) (sym last) (not_itself (loads count))
          | inr before ↦ never_both (loads count) (loads other) (below other before)
        ];
        less = λ other low. below other low;
      })
    where
      here : are_less (loads count) (loads first) ≡ true
      here = (λ i. are_less (sym is i) (sym so_far.is i)) ∙ less

      below : (other : ℕ) → other < count → are_less (loads count) (loads other) ≡ true
      below other low = less_all (loads count) (loads first) (loads other) (held count) (held first) (held other) here (so_far.no_less other low)

  -- one more phase, whose loads aren't less
  pub least_same : (count first next : ℕ) (least new after : List BudgetShare) → IsLeastSoFar loads count first least → new ≡ loads count →
      are_less new least ≡ false → next ≡ first → after ≡ least → IsLeastSoFar loads (count + 1) next after
  least_same count first next least new after so_far is isnt next_is after_is =
      subst (λ n. IsLeastSoFar loads (count + 1) n after) (sym next_is) (record {
        within = omega (arith, so_far.within);
        is = after_is ∙ so_far.is;
        no_less = λ other low. elim (cases_last other count low) [
          | inl last ↦ subst (λ k. are_less (loads k) (loads first) ≡ false) (sym last) ((λ i. are_less (sym is i) (sym so_far.is i)) ∙ isnt)
          | inr before ↦ so_far.no_less other before
        ];
        less = so_far.less;
      })

  -- all of them
  pub least_all : (count every first : ℕ) (least : List BudgetShare) → count ≡ every → IsLeastSoFar loads count first least → IsLeastLoaded loads every first
  least_all count every first least all so_far =
      subst (λ n. IsLeastLoaded loads n first) all (record { within = so_far.within; least = so_far.no_less; first = so_far.less })
