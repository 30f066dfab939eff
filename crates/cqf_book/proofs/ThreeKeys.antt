-- A stable sort by three keys gives the elements of each triple of keys in turn, in their order.
use Rattle.std.proofs.Common.{ℕ, ◌≡◌, ◌<◌, ◌≤◌, ◌==◌, ◌∙◌, ◌&&◌, Bool, true, false, not, List, filter, get_or, refl, sym, ap, subst, inl, inr, arith}
use Rattle.std.specs.Cmp.{IsStrictWeakOrder}
use Rattle.std.specs.List.{All}
use Rattle.std.specs.List.Sorted.{IsPermutation, IsSortedBy, IsStableBy, IsNonDecreasingBy, ties}
use Rattle.std.specs.Ordering.{is_lt, nat_cmp, ordering_then}
use Rattle.std.specs.declared.cmp.Ordering.{Ordering}
use Rattle.std.specs.declared.cmp.Ordering.TheVariants.{Less, Equal, Greater}
use Rattle.std.proofs.lemmas.Bool.{and_parts, cases_lt, cases_order, eq-eqb, eqb-true, le-ltb, lt-ltb, ne_eqb, true≢false}
use Rattle.std.proofs.lemmas.Cmp.{nat_cmp_total, on_total, then_total}
use Rattle.std.proofs.lemmas.List.Elements.{All-filter, All-weaker, filter_agree, filter_passes}
use Rattle.std.proofs.lemmas.List.Kept.{IsSortedBy-filter}
use Rattle.std.proofs.lemmas.List.Sorted.{All-permutation, ranks_by, sorted_far}
use Rattle.cqf_lists.specs.Lists.{each_below}
use Rattle.cqf_lists.proofs.EachBelow.{filter_twice, same_below}
use Rattle.cqf_lists.proofs.Keys.{by_key}

-- if `Less` passes a test and the comparison of two numbers fails it, the first isn't below the second
not_below : (a b : ℕ) (test : Ordering → Bool) → test Less ≡ true → test (nat_cmp a b) ≡ false → b ≤ a
not_below a b test passes fails =
    elim (cases_lt a b) [
      | inl lt ↦ absurd (true≢false (sym passes ∙ subst (λ (o : Ordering). test o ≡ false) (is_less lt) fails))
      | inr le ↦ le
    ]
  where
    is_less : a < b → nat_cmp a b ≡ Less
    is_less lt = rw (lt-ltb a b lt) refl

-- equal numbers compare as equal
same_compare : (a b : ℕ) → a ≡ b → nat_cmp a b ≡ Equal
same_compare a b same = rw (le-ltb a b (omega (arith, same)), eq-eqb a b same) refl

-- of three comparisons, the last two may be combined first
then-assoc : (o p q : Ordering) → ordering_then (ordering_then o p) q ≡ ordering_then o (ordering_then p q)
then-assoc Less p q = refl
then-assoc Equal p q = refl
then-assoc Greater p q = refl

-- a comparison followed by `Equal` is the comparison
then-equal : (o : Ordering) → ordering_then o Equal ≡ o
then-equal Less = refl
then-equal Equal = refl
then-equal Greater = refl

-- neither answer is `Less`
abbrev are_tied : Ordering → Ordering → Bool
are_tied there back = not (is_lt there) && not (is_lt back)

-- two elements tie if and only if their first numbers are equal and they tie by the rest
ties_then : (a b : ℕ) (there back : Ordering) →
    are_tied (ordering_then (nat_cmp a b) there) (ordering_then (nat_cmp b a) back) ≡ ((b == a) && are_tied there back)
ties_then a b there back = elim (cases_order a b) [
  | inl same ↦ rw (same_compare a b same, same_compare b a (sym same), eq-eqb b a (sym same)) refl
  | inr other ↦ elim other [
    | inl lt ↦ rw (lt-ltb a b lt, ne_eqb b a (λ e. omega (arith, e, lt))) refl
    | inr gt ↦
        let ab : nat_cmp a b ≡ Greater = rw (le-ltb a b (omega arith), ne_eqb a b (λ e. omega (arith, e, gt))) refl in
        rw (ab, lt-ltb b a gt, ne_eqb b a (λ e. omega (arith, e, gt))) refl
  ]
]

-- a test and true
and-true : (a : Bool) → (a && true) ≡ a
and-true true = refl
and-true false = refl

-- three tests, in either order
and-turned : (a b c : Bool) → (c && (b && a)) ≡ (a && (b && c))
and-turned true true true = refl
and-turned true true false = refl
and-turned true false true = refl
and-turned true false false = refl
and-turned false true true = refl
and-turned false true false = refl
and-turned false false true = refl
and-turned false false false = refl

-- three numbers against three
abbrev compared : ℕ → ℕ → ℕ → ℕ → ℕ → ℕ → Ordering
compared a b c d e f = ordering_then (ordering_then (nat_cmp a d) (nat_cmp b e)) (nat_cmp c f)

-- the same, one after the other
compared_in_turn : (a b c d e f : ℕ) → compared a b c d e f ≡ ordering_then (nat_cmp a d) (ordering_then (nat_cmp b e) (ordering_then (nat_cmp c f) Equal))
compared_in_turn a b c d e f =
    then-assoc (nat_cmp a d) (nat_cmp b e) (nat_cmp c f)
    ∙ ap (λ o. ordering_then (nat_cmp a d) (ordering_then (nat_cmp b e) o)) (sym (then-equal (nat_cmp c f)))

-- two triples of numbers tie if and only if they are equal one by one
three_tie : (a b c d e f : ℕ) → are_tied (compared a b c d e f) (compared d e f a b c) ≡ ((d == a) && ((e == b) && (f == c)))
three_tie a b c d e f =
    ap (λ o. are_tied o (compared d e f a b c)) (compared_in_turn a b c d e f)
    ∙ ap (are_tied (ordering_then (nat_cmp a d) (ordering_then (nat_cmp b e) (ordering_then (nat_cmp c f) Equal)))) (compared_in_turn d e f a b c)
    ∙ ties_then a d (ordering_then (nat_cmp b e) (ordering_then (nat_cmp c f) Equal)) (ordering_then (nat_cmp e b) (ordering_then (nat_cmp f c) Equal))
    ∙ ap (λ t. (d == a) && t) (ties_then b e (ordering_then (nat_cmp c f) Equal) (ordering_then (nat_cmp f c) Equal))
    ∙ ap (λ t. (d == a) && ((e == b) && t)) (ties_then c f Equal Equal ∙ and-true (f == c))

-- of a sorted list, the elements that pass a test are, key by key, those with that key, if keys don't decrease among them
kept_by_key : {X : Type 0} (lt : X → X → Bool) → IsStrictWeakOrder lt → (key : X → ℕ) (p : X → Bool)
    → ((x y : X) → p x ≡ true → p y ≡ true → lt y x ≡ false → key x ≤ key y)
    → (n : ℕ) (xs : List X) → IsSortedBy lt xs → All (λ x. key x < n) xs
    → filter p xs ≡ each_below (λ t. filter (λ x. (key x == t) && p x) xs) n
kept_by_key {X} lt order key p rises n xs sorted below =
    let kept = filter p xs in
    let in_order : IsSortedBy lt kept = IsSortedBy-filter lt order p xs sorted in
    let passes = filter_passes p xs in
    let ascends : IsNonDecreasingBy key kept = λ i j d le within.
    rises (get_or kept i d) (get_or kept j d) (passes i d (omega (arith, le, within))) (passes j d within)
    (sorted_far lt order kept in_order i j d le within) in
    let early = All-filter p (λ x. key x < n) xs below in
    by_key key n kept ascends (λ x held. subst (λ (y : X). key y < n) held.2 (early held.0 x held.1))
    ∙ same_below (λ t. filter (λ x. key x == t) kept) (λ t. filter (λ x. (key x == t) && p x) xs) n
    (λ t soon. filter_twice (λ x. key x == t) p xs)

module _ {X : Type 0} (first second third : X → ℕ) where
  -- the element has these three keys
  abbrev pub has_keys : ℕ → ℕ → ℕ → X → Bool
  has_keys a b c x = (first x == a) && ((second x == b) && (third x == c))

  -- its keys are below these
  pub record IsBelow (firsts seconds thirds : ℕ) (x : X) : Type 0 where
    pub of_first : first x < firsts
    pub of_second : second x < seconds
    pub of_third : third x < thirds

  -- its keys come before the other's
  abbrev pub goes_before : X → X → Bool
  goes_before x y = is_lt (compared (first x) (second x) (third x) (first y) (second y) (third y))

  -- the properties of a stable sort by three keys
  pub record SortsByThree (before after : List X) : Type 0 where
    pub moved : IsPermutation before after
    pub sorted : IsSortedBy goes_before after
    pub stable : IsStableBy goes_before before after

  -- the order by three keys is a strict weak order
  goes_before_orders : IsStrictWeakOrder goes_before
  goes_before_orders =
      ranks_by (then_total (then_total (on_total first nat_cmp_total) (on_total second nat_cmp_total)) (on_total third nat_cmp_total)) (λ x. x)

  -- the first key doesn't decrease
  first_rises : (x y : X) → goes_before y x ≡ false → first x ≤ first y
  first_rises x y up =
      not_below (first y) (first x) (λ o. is_lt (ordering_then (ordering_then o (nat_cmp (second y) (second x))) (nat_cmp (third y) (third x)))) refl up

  -- the second doesn't, if the first is the same
  second_rises : (x y : X) → first y ≡ first x → goes_before y x ≡ false → second x ≤ second y
  second_rises x y same up =
      not_below (second y) (second x) (λ o. is_lt (ordering_then o (nat_cmp (third y) (third x)))) refl
      (subst (λ (o : Ordering). is_lt (ordering_then (ordering_then o (nat_cmp (second y) (second x))) (nat_cmp (third y) (third x))) ≡ false)
      (same_compare (first y) (first x) same) up)

  -- the third doesn't, if the first two are the same
  third_rises : (x y : X) → first y ≡ first x → second y ≡ second x → goes_before y x ≡ false → third x ≤ third y
  third_rises x y same alike up =
      not_below (third y) (third x) is_lt refl
      (subst (λ (o : Ordering). is_lt (ordering_then o (nat_cmp (third y) (third x))) ≡ false) (same_compare (second y) (second x) alike)
      (subst (λ (o : Ordering). is_lt (ordering_then (ordering_then o (nat_cmp (second y) (second x))) (nat_cmp (third y) (third x))) ≡ false)
      (same_compare (first y) (first x) same) up))

module _ {X : Type 0} (first second third : X → ℕ) (probe : ℕ → ℕ → ℕ → X)
    (is_first : (a b c : ℕ) → first (probe a b c) ≡ a) (is_second : (a b c : ℕ) → second (probe a b c) ≡ b)
    (is_third : (a b c : ℕ) → third (probe a b c) ≡ c) where
  -- a stable sort keeps the elements of each triple of keys in their order
  kept_keys : (before after : List X) → IsStableBy (goes_before first second third) before after → (a b c : ℕ)
      → filter (has_keys first second third a b c) after ≡ filter (has_keys first second third a b c) before
  kept_keys before after stable a b c =
      let tied = ties (goes_before first second third) (probe a b c) in
      let keys = has_keys first second third a b c in
      let same : (x : X) → tied x ≡ keys x = λ x.
      three_tie (first (probe a b c)) (second (probe a b c)) (third (probe a b c)) (first x) (second x) (third x)
      ∙ ap (λ n. (first x == n) && ((second x == second (probe a b c)) && (third x == third (probe a b c)))) (is_first a b c)
      ∙ ap (λ n. (first x == a) && ((second x == n) && (third x == third (probe a b c)))) (is_second a b c)
      ∙ ap (λ n. (first x == a) && ((second x == b) && (third x == n))) (is_third a b c) in
      sym (filter_agree tied keys same after) ∙ stable (probe a b c) ∙ filter_agree tied keys same before

  -- sorted by three keys
  pub sorted_by_three : (before after : List X) → SortsByThree first second third before after →
      (firsts seconds thirds : ℕ) → All (IsBelow first second third firsts seconds thirds) before
      → after ≡ each_below (λ a. each_below (λ b. each_below (λ c. filter (has_keys first second third a b c) before) thirds) seconds) firsts
  sorted_by_three before after sorts firsts seconds thirds below =
      let Below = IsBelow first second third firsts seconds thirds in
      let keys = has_keys first second third in
      let lt = goes_before first second third in
      let orders = goes_before_orders first second third in
      let held : All Below after = All-permutation Below before after sorts.moved below in
      let of_first : after ≡ each_below (λ a. filter (λ x. first x == a) after) firsts =
      by_key first firsts after (λ i j d le within. first_rises first second third (get_or after i d) (get_or after j d)
      (sorted_far lt orders after sorts.sorted i j d le within))
      (λ x inside. (subst (λ (y : X). Below y) inside.2 (held inside.0 x inside.1)).of_first) in
      let of_second : (a : ℕ) → filter (λ x. first x == a) after ≡ each_below (λ b. filter (λ x. (second x == b) && (first x == a)) after) seconds =
      λ a. kept_by_key lt orders second (λ x. first x == a)
      (λ x y one two up. second_rises first second third x y (eqb-true (first y) a two ∙ sym (eqb-true (first x) a one)) up)
      seconds after sorts.sorted (All-weaker Below (λ x. second x < seconds) (λ x b. b.of_second) after held) in
      let of_third : (a b : ℕ) → filter (λ x. (second x == b) && (first x == a)) after
      ≡ each_below (λ c. filter (λ x. (third x == c) && ((second x == b) && (first x == a))) after) thirds =
      λ a b. kept_by_key lt orders third (λ x. (second x == b) && (first x == a))
      (λ x y one two up. third_rises first second third x y
      (eqb-true (first y) a (and_parts (second y == b) (first y == a) two).1 ∙ sym (eqb-true (first x) a (and_parts (second x == b) (first x == a) one).1))
      (eqb-true (second y) b (and_parts (second y == b) (first y == a) two).0 ∙ sym (eqb-true (second x) b (and_parts (second x == b) (first x == a) one).0))
      up)
      thirds after sorts.sorted (All-weaker Below (λ x. third x < thirds) (λ x b. b.of_third) after held) in
      let as_they_were : (a b c : ℕ) → filter (λ x. (third x == c) && ((second x == b) && (first x == a))) after ≡ filter (keys a b c) before =
      λ a b c. filter_agree (λ x. (third x == c) && ((second x == b) && (first x == a))) (keys a b c)
      (λ x. and-turned (first x == a) (second x == b) (third x == c)) after
      ∙ kept_keys before after sorts.stable a b c in
      of_first
      ∙ same_below (λ a. filter (λ x. first x == a) after)
      (λ a. each_below (λ b. each_below (λ c. filter (keys a b c) before) thirds) seconds) firsts
      (λ a inside. of_second a
      ∙ same_below (λ b. filter (λ x. (second x == b) && (first x == a)) after)
      (λ b. each_below (λ c. filter (keys a b c) before) thirds) seconds
      (λ b within. of_third a b
      ∙ same_below (λ c. filter (λ x. (third x == c) && ((second x == b) && (first x == a))) after) (λ c. filter (keys a b c) before) thirds
      (λ c there. as_they_were a b c)))
