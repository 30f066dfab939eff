-- A stream's active cycles among 80, and the sums of a link in these cycles.
use Rattle.std.proofs.Common.{◌≡◌, ◌≢◌, ℕ, ◌+◌, ◌-◌, ◌*◌, ◌%◌, ◌<◌, ◌≤◌, ◌^◌, ◌∙◌, ◌==◌, ◌||◌, ◌&&◌, Bool, true, false, zero, suc, List, [], ◌∷◌, ◌++◌, length, get_or, set, take, drop, fold, map, max, replicate}
use Rattle.std.proofs.Common.{ap, ap₂, arith, refl, subst, sym, inl, inr, eq-eqb, eqb-true, mod-lt, append-nil, add-zero}
use Rattle.std.specs.Prelude.{All, AllPairs, Contains, nat_lt, if◌then◌else◌, slice_index_or}
use Rattle.std.proofs.Math.Nat.{add-mod_right, mod-add-mod, mod-eq-sub-mod, mod-eq_of_lt, mod-mod, mod-mod_of_dvd, mod-one}
use Rattle.std.proofs.lemmas.Bool.{cases_Bool, cases_eq, cases_lt, cases_order, cond-true, cond-false, and_from, and_left, and_parts, and_right, ltb-true, ne_eqb}
use Rattle.std.proofs.lemmas.List.{get_or-append_right, get_or_append_left, length-append, length-drop, get_or-drop, get_or-set_other, get_or-set_same, get_or-take, get_or_default, get_or_past, get_or-map, length-map, length-set, length-take-le, take_all, take_more}
use Rattle.std.proofs.lemmas.List.Folds.{list_any_at, list_any_more, list_any_none}
use Rattle.std.proofs.lemmas.List.Sums.{fold-append, fold_push}
use Rattle.std.proofs.lemmas.Nat.Gcd.{dvd_of_mod-eq-zero}
use Rattle.cqf_lists.specs.Lists.{each_below}
use Rattle.cqf_lists.proofs.EachBelow.{below_plus, first_below, none_below, same_below}
use Rattle.cqf_model.specs.declared.topology.Hop.{Hop}
use Rattle.cqf_model.specs.declared.topology.Pace.{Pace}
use Rattle.cqf_model.specs.History.{Asked, is_pace, pace_of}
use Rattle.cqf_model.specs.Limits.{most_every}
use Rattle.cqf_model.specs.Paces.{is_active}
use Rattle.cqf_model.specs.Table.{links_in, uses}
use Rattle.cqf_admission.specs.ActiveCycles.{AreKept, AreLessWhere, AreMoreWhere, HasIn, HasRoomFor, IsGoodPace, SumsByCycle, most_at, most_of, most_where, part_in, sum_on, sums_at}

-- the pace of a request that isn't refused is good
pub asked_is_good : (asked : Asked) → is_pace asked.every asked.phase ≡ true → IsGoodPace (pace_of asked)
asked_is_good asked t =
    let parts = and_parts (most_every % asked.every == 0) (nat_lt asked.phase asked.every) t in
    let below : asked.phase < asked.every = ltb-true asked.phase asked.every parts.1 in
    let same : asked.every - 1 + 1 ≡ asked.every = omega (arith, below) in
    record {
      divides = ap (λ z. most_every % z) same ∙ eqb-true (most_every % asked.every) 0 parts.0;
      within = omega (arith, below);
    }

module _ (first every : ℕ) (low : first < every) where
  -- an active cycle is followed by another `every` cycles later
  next_on : (active_cycle : ℕ) → active_cycle % every ≡ first → (active_cycle + every) % every ≡ first
  next_on active_cycle on = add-mod_right active_cycle every ∙ on

  -- no active cycle is between them
  between : (active_cycle j : ℕ) → active_cycle % every ≡ first → 0 < j → j < every → first ≢ (active_cycle + j) % every
  between active_cycle j on some below same =
      let e : (active_cycle + j) % every ≡ (first + j) % every = sym (mod-add-mod active_cycle every j) ∙ ap (λ z. (z + j) % every) on in
      elim (cases_lt (first + j) every) [
        | inl l ↦ absurd (omega (arith, same, e, mod-eq_of_lt l, some))
        | inr g ↦
            let over : first + j - every < every = omega (arith, low, below) in
            absurd (omega (arith, same, e, mod-eq-sub-mod g, mod-eq_of_lt over, g, below))
      ]

  -- no active cycle is before the first
  before_first : (k : ℕ) → k < first → first ≢ k % every
  before_first k less same = let short : k < every = omega (arith, less, low) in absurd (omega (arith, same, mod-eq_of_lt short, less))

-- sums, those of active cycles below an index changed by a number, and the others unchanged
pub record AreSoFar (op : ℕ → ℕ → ℕ) (first every active_cycle : ℕ) (before : List ℕ) (number : ℕ) (now : List ℕ) : Type 0 where
  pub on : active_cycle % every ≡ first
  pub as_many : length now ≡ length before
  pub done : (k : ℕ) → k < active_cycle → k < length before → get_or now k 0 ≡ op (get_or before k 0) (if first == k % every then number else 0)
  pub rest : (k : ℕ) → active_cycle ≤ k → get_or now k 0 ≡ get_or before k 0

module _ (op : ℕ → ℕ → ℕ) (nothing : (x : ℕ) → op x 0 ≡ x) (first every : ℕ) (low : first < every) (before : List ℕ) (number : ℕ) where
  -- a sum that isn't in an active cycle is unchanged
  unchanged : (k : ℕ) → first ≢ k % every → get_or before k 0 ≡ op (get_or before k 0) (if first == k % every then number else 0)
  unchanged k other =
      sym (nothing (get_or before k 0)) ∙ ap (op (get_or before k 0)) (sym (cond-false (first == k % every) number 0 (ne_eqb first (k % every) other)))

  -- none is changed so far
  pub none_so_far : AreSoFar op first every first before number before
  none_so_far = record {
    on = mod-eq_of_lt low;
    as_many = refl;
    done = λ k less within. unchanged k (before_first first every low k less);
    rest = λ k more. refl;
  }

  -- one more active cycle
  pub one_more : (active_cycle : ℕ) (now : List ℕ) → active_cycle < length before → AreSoFar op first every active_cycle before number now →
      AreSoFar op first every (active_cycle + every) before number (set now active_cycle (op (get_or now active_cycle 0) number))
  one_more active_cycle now inside so_far = record {
    on = next_on first every low active_cycle so_far.on;
    as_many = length-set now active_cycle (op here number) ∙ so_far.as_many;
    done = λ k less within. elim (cases_order k active_cycle) [
      | inl same ↦ subst (λ p. get_or (set now active_cycle (op here number)) p 0 ≡ op (get_or before p 0) (if first == p % every then number else 0)) (sym same) at_active_cycle
      | inr o ↦ elim o [
        | inl earlier ↦
            let off : k ≢ active_cycle = omega (arith, earlier) in
            get_or-set_other now active_cycle k (op here number) 0 off ∙ so_far.done k earlier within
        | inr later ↦
            let off : k ≢ active_cycle = omega (arith, later) in
            let from : active_cycle + (k - active_cycle) ≡ k = omega (arith, later) in
            let no_active_cycle : first ≢ k % every =
            subst (λ p. first ≢ p % every) from (between first every low active_cycle (k - active_cycle) so_far.on (omega (arith, later)) (omega (arith, less, later))) in
            get_or-set_other now active_cycle k (op here number) 0 off ∙ so_far.rest k (omega (arith, later)) ∙ unchanged k no_active_cycle
      ]
    ];
    rest = λ k more.
        let off : k ≢ active_cycle = omega (arith, more, low) in
        get_or-set_other now active_cycle k (op here number) 0 off ∙ so_far.rest k (omega (arith, more));
  } where
    here : ℕ
    here = get_or now active_cycle 0

    -- in this active cycle
    at_active_cycle : get_or (set now active_cycle (op here number)) active_cycle 0 ≡ op (get_or before active_cycle 0) (if first == active_cycle % every then number else 0)
    at_active_cycle =
        let within : active_cycle < length now = omega (arith, inside, so_far.as_many) in
        let value : here ≡ get_or before active_cycle 0 = so_far.rest active_cycle (omega arith) in
        get_or-set_same now active_cycle (op here number) 0 within
        ∙ ap (λ x. op x number) value
        ∙ ap (op (get_or before active_cycle 0)) (sym (cond-true (first == active_cycle % every) number 0 (eq-eqb first (active_cycle % every) (sym so_far.on))))

-- all active cycles of a list
pub all_more : (first every active_cycle : ℕ) (before : List ℕ) (number : ℕ) (now : List ℕ) → length before ≤ active_cycle →
    AreSoFar (λ x y. x + y) first every active_cycle before number now → AreMoreWhere (λ k. first == k % every) before number now
all_more first every active_cycle before number now end so_far = record {
  as_many = so_far.as_many;
  each = λ k within. so_far.done k (omega (arith, within, end)) within;
}

pub all_less : (first every active_cycle : ℕ) (before : List ℕ) (number : ℕ) (now : List ℕ) → length before ≤ active_cycle →
    AreSoFar (λ x y. x - y) first every active_cycle before number now → AreLessWhere (λ k. first == k % every) before number now
all_less first every active_cycle before number now end so_far = record {
  as_many = so_far.as_many;
  each = λ k within. so_far.done k (omega (arith, within, end)) within;
}

-- lists end to end, if only the first of them is non-empty
jump : (f : ℕ → List ℕ) (active_cycle n : ℕ) → ((j : ℕ) → 0 < j → j < suc n → f (active_cycle + j) ≡ []) → each_below f (active_cycle + suc n) ≡ each_below f active_cycle ++ f active_cycle
jump f active_cycle n none =
    below_plus f active_cycle (suc n)
    ∙ ap (λ z. each_below f active_cycle ++ z)
    (first_below (λ k. f (active_cycle + k)) n
    ∙ ap₂ (λ a b. a ++ b) (ap f (add-zero active_cycle)) (none_below (λ k. f (active_cycle + (k + 1))) n (λ k l. none (k + 1) (omega arith) (omega (arith, l))))
    ∙ append-nil (f active_cycle))

-- lists that each leave a maximum unchanged do so end to end
idle_below : (f : ℕ → List ℕ) (n most : ℕ) → ((k m : ℕ) → fold max m (f k) ≡ m) → fold max most (each_below f n) ≡ most
idle_below f zero most idle = refl
idle_below f (suc n) most idle = fold-append max most (each_below f n) (f n) ∙ ap (λ z. fold max z (f n)) (idle_below f n most idle) ∙ idle n most

-- the element in an active cycle, and nothing elsewhere
abbrev pub kept_in : ℕ → ℕ → List ℕ → ℕ → List ℕ
kept_in first every cycle_sums k = if first == k % every then get_or cycle_sums k 0 ∷ [] else []

-- the greatest sum of the active cycles below an index
pub record IsMostSoFar (first every active_cycle : ℕ) (cycle_sums : List ℕ) (most : ℕ) : Type 0 where
  pub on : active_cycle % every ≡ first
  pub greatest : most ≡ fold max 0 (each_below (kept_in first every cycle_sums) active_cycle)

module _ (first every : ℕ) (low : first < every) (cycle_sums : List ℕ) where
  abbrev in_turn : ℕ → List ℕ
  in_turn = kept_in first every cycle_sums

  nothing_at : (k : ℕ) → first ≢ k % every → in_turn k ≡ []
  nothing_at k other = cond-false (first == k % every) (get_or cycle_sums k 0 ∷ []) [] (ne_eqb first (k % every) other)

  -- no active cycle is before the first
  pub most_none : IsMostSoFar first every first cycle_sums 0
  most_none = record {
    on = mod-eq_of_lt low;
    greatest = ap (fold max 0) (sym (none_below in_turn first (λ k less. nothing_at k (before_first first every low k less))));
  }

  -- the next active cycle
  pub most_next : (active_cycle most : ℕ) → IsMostSoFar first every active_cycle cycle_sums most → IsMostSoFar first every (active_cycle + every) cycle_sums (max most (get_or cycle_sums active_cycle 0))
  most_next active_cycle most so_far = record {
    on = next_on first every low active_cycle so_far.on;
    greatest =
        ap (λ m. max m (get_or cycle_sums active_cycle 0)) so_far.greatest
        ∙ sym (fold_push max 0 (each_below in_turn active_cycle) (get_or cycle_sums active_cycle 0))
        ∙ ap (λ z. fold max 0 (each_below in_turn active_cycle ++ z)) (sym (cond-true (first == active_cycle % every) (get_or cycle_sums active_cycle 0 ∷ []) [] (eq-eqb first (active_cycle % every) (sym so_far.on))))
        ∙ ap (fold max 0) (sym (jump in_turn active_cycle (every - 1) (λ j some below. nothing_at (active_cycle + j) (between first every low active_cycle j so_far.on some (omega (arith, below, low))))))
        ∙ ap (λ n. fold max 0 (each_below in_turn (active_cycle + n))) whole;
  } where
    -- the next of one less
    whole : suc (every - 1) ≡ every
    whole = omega (arith, low)

  -- after the last sum there is nothing
  beyond : (k m : ℕ) → length cycle_sums ≤ k → fold max m (in_turn k) ≡ m
  beyond k m past = elim (cases_Bool (first == k % every)) [
    | inl t ↦
        ap (fold max m) (cond-true (first == k % every) (get_or cycle_sums k 0 ∷ []) [] t) ∙ ap (max m) (get_or_past cycle_sums k 0 past) ∙ no_less m
    | inr f ↦ ap (fold max m) (cond-false (first == k % every) (get_or cycle_sums k 0 ∷ []) [] f)
  ] where
    -- the maximum with 0
    no_less : (n : ℕ) → max n 0 ≡ n
    no_less n = omega arith

  -- all active cycles
  pub most_end : (active_cycle most : ℕ) → length cycle_sums ≡ most_every → length cycle_sums ≤ active_cycle → IsMostSoFar first every active_cycle cycle_sums most →
      most ≡ most_where (λ k. first == k % every) cycle_sums
  most_end active_cycle most long end so_far =
      let from : most_every + (active_cycle - most_every) ≡ active_cycle = omega (arith, long, end) in
      so_far.greatest
      ∙ ap (λ n. fold max 0 (each_below in_turn n)) (sym from)
      ∙ ap (fold max 0) (below_plus in_turn most_every (active_cycle - most_every))
      ∙ fold-append max 0 (each_below in_turn most_every) (each_below (λ k. in_turn (most_every + k)) (active_cycle - most_every))
      ∙ idle_below (λ k. in_turn (most_every + k)) (active_cycle - most_every) (fold max 0 (each_below in_turn most_every))
      (λ k m. beyond (most_every + k) m (omega (arith, long)))

-- each cycle is an active cycle of a stream without pauses
pub always_active_cycle : (pace : Pace) (hop_number cycle : ℕ) → pace.pause ≡ 0 → is_active pace hop_number cycle ≡ true
always_active_cycle pace hop_number cycle none =
    eq-eqb ((pace.phase + hop_number) % (pace.pause + 1)) (cycle % (pace.pause + 1))
    (ap (λ z. (pace.phase + hop_number) % (z + 1)) none ∙ mod-one (pace.phase + hop_number) ∙ sym (ap (λ z. cycle % (z + 1)) none ∙ mod-one cycle))

-- a cycle is an active cycle if and only if it is one modulo `most_every`
pub active_cycle_again : (pace : Pace) (hop_number cycle : ℕ) → most_every % (pace.pause + 1) ≡ 0 → is_active pace hop_number (cycle % most_every) ≡ is_active pace hop_number cycle
active_cycle_again pace hop_number cycle good =
    ap (λ z. (pace.phase + hop_number) % (pace.pause + 1) == z) (mod-mod_of_dvd (pace.pause + 1) cycle (dvd_of_mod-eq-zero (pace.pause + 1) good))

-- the links of a tree's hops have the same indexes
link_at : (tree : List Hop) (k : ℕ) (none : Hop) → k < length tree → (k < length (links_in tree)) × ((get_or tree k none).link ≡ get_or (links_in tree) k 0)
link_at tree k none inside =
    (omega (arith, inside, length-map tree (λ (hop : Hop). hop.link)), sym (get_or-map (λ (hop : Hop). hop.link) tree k none 0 inside))

-- or with `false`
or_none : (b : Bool) → (b || false) ≡ b
or_none true = refl
or_none false = refl

module _ (tree : List Hop) (i : ℕ) (none : Hop) (inside : i < length tree) (apart : AllPairs (λ (a b : ℕ). a ≢ b) (links_in tree)) (pace : Pace) where
  abbrev hop : Hop
  hop = get_or tree i none

  abbrev passes : ℕ → ℕ → Hop → Bool
  passes l cycle h = (h.link == l) && is_active pace h.hop_number cycle

  -- no other hop uses its link
  off_link : (k : ℕ) (d : Hop) → k < length tree → k ≢ i → (get_or tree k d).link ≢ hop.link
  off_link k d within other same =
      let one = link_at tree k d within in
      let two = link_at tree i none inside in
      elim (cases_order k i) [
        | inl e ↦ other e
        | inr o ↦ elim o [
          | inl less ↦ apart k i 0 less two.0 (sym one.1 ∙ same ∙ two.1)
          | inr more ↦ apart i k 0 more one.0 (sym two.1 ∙ sym same ∙ one.1)
        ]
      ]

  -- the hops before it don't use its link
  not_before : (cycle : ℕ) → uses (take i tree) pace hop.link cycle ≡ false
  not_before cycle =
      let long : length (take i tree) ≡ i = length-take-le i tree (omega (arith, inside)) in
      list_any_none (passes hop.link cycle) (take i tree) (λ k d within.
      let before : k < i = omega (arith, within, long) in
      let other : k ≢ i = omega (arith, before) in
      and_left ((get_or (take i tree) k d).link == hop.link) (is_active pace (get_or (take i tree) k d).hop_number cycle)
      (ap (λ (h : Hop). h.link == hop.link) (get_or-take i tree k d before)
      ∙ ne_eqb (get_or tree k d).link hop.link (off_link k d (omega (arith, before, inside)) other)))

  next_uses : (l cycle : ℕ) → uses (take (i + 1) tree) pace l cycle ≡ (uses (take i tree) pace l cycle || passes l cycle hop)
  next_uses l cycle = list_any_more (passes l cycle) tree i none inside

  -- with it they use the link in its active cycles
  pub here_uses : (cycle : ℕ) → uses (take (i + 1) tree) pace hop.link cycle ≡ is_active pace hop.hop_number cycle
  here_uses cycle =
      next_uses hop.link cycle
      ∙ ap₂ (λ (a b : Bool). a || (b && is_active pace hop.hop_number cycle)) (not_before cycle) (eq-eqb hop.link hop.link refl)

  -- other links are used as before
  pub there_uses : (l cycle : ℕ) → hop.link ≢ l → uses (take (i + 1) tree) pace l cycle ≡ uses (take i tree) pace l cycle
  there_uses l cycle other =
      next_uses l cycle
      ∙ ap (λ (b : Bool). uses (take i tree) pace l cycle || (b && is_active pace hop.hop_number cycle)) (ne_eqb hop.link l other)
      ∙ or_none (uses (take i tree) pace l cycle)

  -- the same for the whole tree
  pub whole_uses : (cycle : ℕ) → uses tree pace hop.link cycle ≡ is_active pace hop.hop_number cycle
  whole_uses cycle = elim (cases_Bool (is_active pace hop.hop_number cycle)) [
    | inl t ↦
        list_any_at (passes hop.link cycle) tree i none inside
        (and_from (hop.link == hop.link) (is_active pace hop.hop_number cycle) (eq-eqb hop.link hop.link refl) t)
        ∙ sym t
    | inr f ↦
        list_any_none (passes hop.link cycle) tree (λ k d within. elim (cases_eq k i) [
          | inl same ↦
              let it : get_or tree k d ≡ hop = ap (λ j. get_or tree j d) same ∙ get_or_default tree i d none inside in
              and_right ((get_or tree k d).link == hop.link) (is_active pace (get_or tree k d).hop_number cycle)
              (ap (λ (h : Hop). is_active pace h.hop_number cycle) it ∙ f)
          | inr other ↦
              and_left ((get_or tree k d).link == hop.link) (is_active pace (get_or tree k d).hop_number cycle)
              (ne_eqb (get_or tree k d).link hop.link (off_link k d within other))
        ])
        ∙ sym f
  ]

-- if no two hops of a tree use the same link, the link of a hop is used in the hop's active cycles
pub uses_of_hop : (tree : List Hop) (pace : Pace) (hop : Hop) (cycle : ℕ) → AllPairs (λ (a b : ℕ). a ≢ b) (links_in tree) → Contains tree hop →
    uses tree pace hop.link cycle ≡ is_active pace hop.hop_number cycle
uses_of_hop tree pace hop cycle apart there =
    subst (λ (h : Hop). uses tree pace h.link cycle ≡ is_active pace h.hop_number cycle) there.2 (whole_uses tree there.0 hop there.1 apart pace cycle)

-- a sum in a cycle is that in one of the first 80 cycles
pub sum_again : (by_cycle : SumsByCycle) (l cycle : ℕ) → sum_on by_cycle l (cycle % most_every) ≡ sum_on by_cycle l cycle
sum_again by_cycle l cycle = ap (λ z. slice_index_or by_cycle.sums (l * most_every + z) 0) (mod-mod cycle most_every)

-- the greatest sum of a hop's link in the cycles of a pace is the greatest over the cycles in which a stream with it uses the link
pub most_of_uses : (by_cycle : SumsByCycle) (tree : List Hop) (pace : Pace) (hop : Hop) (costs : ℕ → ℕ) → AllPairs (λ (a b : ℕ). a ≢ b) (links_in tree) →
    Contains tree hop → ((cycle : ℕ) → cycle < most_every → sum_on by_cycle hop.link cycle ≡ costs cycle) →
    most_at by_cycle hop.link pace hop.hop_number ≡ fold max 0 (each_below (λ cycle. if uses tree pace hop.link cycle then costs cycle ∷ [] else []) most_every)
most_of_uses by_cycle tree pace hop costs apart there each =
    ap (fold max 0) (same_below (λ cycle. if is_active pace hop.hop_number cycle then sum_on by_cycle hop.link cycle ∷ [] else [])
    (λ cycle. if uses tree pace hop.link cycle then costs cycle ∷ [] else []) most_every
    (λ cycle below. ap₂ (λ (b : Bool) (n : ℕ). if b then n ∷ [] else []) (sym (uses_of_hop tree pace hop cycle apart there)) (each cycle below)))

-- the same for the greatest sum of a link in all cycles
pub most_of_costs : (by_cycle : SumsByCycle) (l : ℕ) (costs : ℕ → ℕ) → ((cycle : ℕ) → cycle < most_every → sum_on by_cycle l cycle ≡ costs cycle) →
    most_of by_cycle l ≡ fold max 0 (each_below (λ cycle. costs cycle ∷ []) most_every)
most_of_costs by_cycle l costs each =
    ap (fold max 0) (same_below (λ cycle. sum_on by_cycle l cycle ∷ []) (λ cycle. costs cycle ∷ []) most_every
    (λ cycle below. ap (λ (n : ℕ). n ∷ []) (each cycle below)))

-- a part of a list that was overwritten: the elements in it, before it and after it
module _ (sums ys : List ℕ) (a n : ℕ) (fits : a + n ≤ length sums) (long : length ys ≡ n) where
  abbrev pub written : List ℕ
  written = take a sums ++ (ys ++ drop n (drop a sums))

  pub written_length : length written ≡ length sums
  written_length =
      let e : a + (n + (length sums - a - n)) ≡ length sums = omega (arith, fits) in
      length-append (take a sums) (ys ++ drop n (drop a sums))
      ∙ ap₂ (λ (x y : ℕ). x + y) (length-take-le a sums (omega (arith, fits)))
      (length-append ys (drop n (drop a sums)) ∙ ap₂ (λ (x y : ℕ). x + y) long (length-drop n (drop a sums) ∙ ap (λ x. x - n) (length-drop a sums)))
      ∙ e

  front_length : length (take a sums) ≡ a
  front_length = length-take-le a sums (omega (arith, fits))

  inside_written : (c : ℕ) → c < n → get_or written (a + c) 0 ≡ get_or ys c 0
  inside_written c below =
      let back : a + c - a ≡ c = omega arith in
      get_or-append_right (take a sums) (ys ++ drop n (drop a sums)) a (a + c) 0 front_length (omega arith)
      ∙ ap (λ k. get_or (ys ++ drop n (drop a sums)) k 0) back
      ∙ get_or_append_left ys (drop n (drop a sums)) 0 c (omega (arith, below, long))

  before_written : (k : ℕ) → k < a → get_or written k 0 ≡ get_or sums k 0
  before_written k less =
      get_or_append_left (take a sums) (ys ++ drop n (drop a sums)) 0 k (omega (arith, less, front_length)) ∙ get_or-take a sums k 0 less

  after_written : (k : ℕ) → a + n ≤ k → get_or written k 0 ≡ get_or sums k 0
  after_written k more =
      let back : a + (n + (k - a - n)) ≡ k = omega (arith, more) in
      get_or-append_right (take a sums) (ys ++ drop n (drop a sums)) a k 0 front_length (omega (arith, more))
      ∙ get_or-append_right ys (drop n (drop a sums)) n (k - a) 0 long (omega (arith, more))
      ∙ get_or-drop n (drop a sums) (k - a - n) 0
      ∙ get_or-drop a sums (n + (k - a - n)) 0
      ∙ ap (λ j. get_or sums j 0) back

-- the part as a write has it
pub written_part : (sums given ys : List ℕ) (index l : ℕ) → index ≡ l → given ≡ sums →
    take (index * 80) given ++ (ys ++ drop (index * 80 + 80 - index * 80) (drop (index * 80) given))
    ≡ take (l * most_every) sums ++ (ys ++ drop most_every (drop (l * most_every) sums))
written_part sums given ys index l here same =
    let e : index * 80 + 80 - index * 80 ≡ 80 = omega arith in
    ap (λ n. take (index * 80) given ++ (ys ++ drop n (drop (index * 80) given))) e
    ∙ ap₂ (λ (p : ℕ) (xs : List ℕ). take (p * 80) xs ++ (ys ++ drop 80 (drop (p * 80) xs))) here same

-- a write doesn't change the length
pub wrote_long : (given ys : List ℕ) (index : ℕ) → index * 80 + 80 ≤ length given → length ys ≡ 80 →
    length (take (index * 80) given ++ (ys ++ drop (index * 80 + 80 - index * 80) (drop (index * 80) given))) ≡ length given
wrote_long given ys index fits long =
    let e : index * 80 + 80 - index * 80 ≡ 80 = omega arith in
    ap (λ n. length (take (index * 80) given ++ (ys ++ drop n (drop (index * 80) given)))) e ∙ written_length given ys (index * 80) 80 fits long

-- the part as a read has it
pub read_part : (by_cycle : SumsByCycle) (given : List ℕ) (index l : ℕ) → index ≡ l → given ≡ by_cycle.sums →
    take (index * 80 + 80 - index * 80) (drop (index * 80) given) ≡ sums_at by_cycle l
read_part by_cycle given index l here same =
    let e : index * 80 + 80 - index * 80 ≡ 80 = omega arith in
    ap (λ n. take n (drop (index * 80) given)) e ∙ ap₂ (λ (p : ℕ) (xs : List ℕ). take 80 (drop (p * 80) xs)) here same

-- a link has a sum for each of 80 cycles
pub sums_long : (by_cycle : SumsByCycle) (l : ℕ) → l < by_cycle.links → length by_cycle.sums ≡ by_cycle.links * most_every → length (sums_at by_cycle l) ≡ most_every
sums_long by_cycle l low whole =
    length-take-le most_every (drop (l * most_every) by_cycle.sums) (omega (arith, low, whole, length-drop (l * most_every) by_cycle.sums))

-- the link of a hop has sums
pub low_at : (tree : List Hop) (i : ℕ) (none : Hop) (n : ℕ) → i < length tree → All (λ (l : ℕ). l < n) (links_in tree) → (get_or tree i none).link < n
low_at tree i none n inside all =
    let at = link_at tree i none inside in
    subst (λ (l : ℕ). l < n) (sym at.1) (all i 0 at.0)

-- the sums of a link by cycle
sum_of_link : (by_cycle : SumsByCycle) (l c : ℕ) → c < most_every → get_or (sums_at by_cycle l) c 0 ≡ sum_on by_cycle l c
sum_of_link by_cycle l c below =
    get_or-take most_every (drop (l * most_every) by_cycle.sums) c 0 below
    ∙ get_or-drop (l * most_every) by_cycle.sums c 0
    ∙ ap (λ z. get_or by_cycle.sums (l * most_every + z) 0) (sym (mod-eq_of_lt below))

-- the numbers of a list, one by one
each_number : (xs : List ℕ) (n : ℕ) → n ≤ length xs → each_below (λ k. get_or xs k 0 ∷ []) n ≡ take n xs
each_number xs zero few = refl
each_number xs (suc n) few =
    ap (λ (ys : List ℕ). ys ++ get_or xs n 0 ∷ []) (each_number xs n (omega (arith, few))) ∙ sym (take_more xs n 0 (omega (arith, few)))
    ∙ ap (λ (k : ℕ). take k xs) next
  where
    -- one more is the next
    next : n + 1 ≡ suc n
    next = omega arith

-- the greatest of all sums of a link
pub most_of_link : (by_cycle : SumsByCycle) (l : ℕ) → length (sums_at by_cycle l) ≡ most_every → fold max 0 (sums_at by_cycle l) ≡ most_of by_cycle l
most_of_link by_cycle l long =
    ap (fold max 0)
    (sym (take_all most_every (sums_at by_cycle l) (omega (arith, long)))
    ∙ sym (each_number (sums_at by_cycle l) most_every (omega (arith, long)))
    ∙ same_below (λ k. get_or (sums_at by_cycle l) k 0 ∷ []) (λ cycle. sum_on by_cycle l cycle ∷ []) most_every
    (λ c below. ap (λ (n : ℕ). n ∷ []) (sum_of_link by_cycle l c below)))

-- the sums of one link were written
module _ (now : SumsByCycle) (here : ℕ) (low : here < now.links) (whole : length now.sums ≡ now.links * most_every) (ys : List ℕ) (long : length ys ≡ most_every) where
  abbrev from : ℕ
  from = here * most_every

  -- they are within the list
  fits : from + most_every ≤ length now.sums
  fits = omega (arith, low, whole)

  abbrev pub wrote : List ℕ
  wrote = take from now.sums ++ (ys ++ drop most_every (drop from now.sums))

  abbrev pub rewritten : SumsByCycle
  rewritten = record { links = now.links; sums = wrote }

  pub wrote_length : length wrote ≡ now.links * most_every
  wrote_length = written_length now.sums ys from most_every fits long ∙ whole

  -- they are what was written
  pub sum_here : (c : ℕ) → c < most_every → sum_on rewritten here c ≡ get_or ys c 0
  sum_here c below = ap (λ z. get_or wrote (from + z) 0) (mod-eq_of_lt below) ∙ inside_written now.sums ys from most_every fits long c below

  -- the sums of other links are unchanged
  pub sum_there : (l cycle : ℕ) → here ≢ l → sum_on rewritten l cycle ≡ sum_on now l cycle
  sum_there l cycle other =
      let c = cycle % most_every in
      let below : c < most_every = mod-lt cycle (omega arith) in
      elim (cases_lt l here) [
        | inl less ↦ before_written now.sums ys from most_every fits long (l * most_every + c) (omega (arith, less, below))
        | inr more ↦ after_written now.sums ys from most_every fits long (l * most_every + c) (omega (arith, more, other, below))
      ]

  -- so is the greatest of each
  pub kept_on : (greatest : List ℕ) (most : ℕ) → AreKept now greatest → most ≡ fold max 0 ys → AreKept rewritten (set greatest here most)
  kept_on greatest most kept is = record {
    whole = wrote_length;
    as_many = length-set greatest here most ∙ kept.as_many;
    each = λ l within. elim (cases_eq here l) [
      | inl same ↦ subst (λ k. get_or (set greatest here most) k 0 ≡ most_of rewritten k) same of_here
      | inr other ↦
          let off : l ≢ here = omega (arith, other) in
          get_or-set_other greatest here l most 0 off ∙ kept.each l within
          ∙ ap (fold max 0) (same_below (λ cycle. sum_on now l cycle ∷ []) (λ cycle. sum_on rewritten l cycle ∷ []) most_every
          (λ cycle below. ap (λ (n : ℕ). n ∷ []) (sym (sum_there l cycle other))))
    ];
  } where
    of_here : get_or (set greatest here most) here 0 ≡ most_of rewritten here
    of_here =
        get_or-set_same greatest here most 0 (omega (arith, low, kept.as_many))
        ∙ is
        ∙ ap (fold max 0) (sym (take_all most_every ys (omega (arith, long)))
        ∙ sym (each_number ys most_every (omega (arith, long)))
        ∙ same_below (λ k. get_or ys k 0 ∷ []) (λ cycle. sum_on rewritten here cycle ∷ []) most_every
        (λ c below. ap (λ (n : ℕ). n ∷ []) (sym (sum_here c below))))

-- the stored greatest sum of a link is its greatest sum
pub greatest_is : (by_cycle : SumsByCycle) (greatest : List ℕ) → AreKept by_cycle greatest → (index l default : ℕ) → l < by_cycle.links → index ≡ l →
    get_or greatest index default ≡ most_of by_cycle l
greatest_is by_cycle greatest kept index l default low is =
    ap (λ k. get_or greatest k default) is ∙ get_or_default greatest l default 0 (omega (arith, low, kept.as_many)) ∙ kept.each l low

pub most_kept : (by_cycle : SumsByCycle) (greatest : List ℕ) → AreKept by_cycle greatest → (index l default : ℕ) → l < by_cycle.links → index ≡ l →
    get_or greatest index default ≡ fold max 0 (sums_at by_cycle l)
most_kept by_cycle greatest kept index l default low is =
    greatest_is by_cycle greatest kept index l default low is ∙ sym (most_of_link by_cycle l (sums_long by_cycle l low kept.whole))

-- each element of a list of zeros is 0
pub none_of_each : (n : ℕ) (xs : List ℕ) → xs ≡ replicate {A = ℕ} n 0 → (k : ℕ) → get_or xs k 0 ≡ 0
none_of_each n xs are k = ap (λ (ys : List ℕ). get_or ys k 0) are ∙ nothing n k
  where
    nothing : (m k : ℕ) → get_or (replicate {A = ℕ} m 0) k 0 ≡ 0
    nothing zero k = refl
    nothing (suc m) zero = refl
    nothing (suc m) (suc k) = nothing m k

-- the greatest of zeros is 0
pub kept_none : (by_cycle : SumsByCycle) (greatest : List ℕ) → length by_cycle.sums ≡ by_cycle.links * most_every → length greatest ≡ by_cycle.links →
    ((k : ℕ) → get_or by_cycle.sums k 0 ≡ 0) → ((k : ℕ) → get_or greatest k 0 ≡ 0) → AreKept by_cycle greatest
kept_none by_cycle greatest whole as_many none no_greatest = record {
  whole = whole;
  as_many = as_many;
  each = λ l within. no_greatest l ∙ sym (idle_below (λ cycle. sum_on by_cycle l cycle ∷ []) most_every 0 (λ k m. idle m (sum_on by_cycle l k) (none (l * most_every + k % most_every))));
} where
  -- the maximum with 0
  idle : (m n : ℕ) → n ≡ 0 → max m n ≡ m
  idle m n e = omega (arith, e)

-- the greatest of the sums is one of them, and changes with them
module _ (n : ℕ) where
  pub most_more : (xs : List ℕ) (most : ℕ) → fold max (most + n) (map (λ x. x + n) xs) ≡ fold max most xs + n
  most_more [] most = refl
  most_more (x ∷ xs) most = ap (λ m. fold max m (map (λ y. y + n) xs)) (step most x) ∙ most_more xs (max most x)
    where
      step : (a b : ℕ) → max (a + n) (b + n) ≡ max a b + n
      step a b = omega arith

  pub most_less : (xs : List ℕ) (most : ℕ) → fold max (most - n) (map (λ x. x - n) xs) ≡ fold max most xs - n
  most_less [] most = refl
  most_less (x ∷ xs) most = ap (λ m. fold max m (map (λ y. y - n) xs)) (step most x) ∙ most_less xs (max most x)
    where
      step : (a b : ℕ) → max (a - n) (b - n) ≡ max a b - n
      step a b = omega arith

  -- starting from 0, if there are any
  pub more_of_all : (xs : List ℕ) → 0 < length xs → fold max 0 (map (λ x. x + n) xs) ≡ fold max 0 xs + n
  more_of_all [] some = absurd (omega (arith, some))
  more_of_all (x ∷ xs) some = ap (λ m. fold max m (map (λ y. y + n) xs)) (first (x + n)) ∙ most_more xs x ∙ ap (λ m. fold max m xs + n) (sym (first x))
    where
      first : (a : ℕ) → max 0 a ≡ a
      first a = omega arith

  pub less_of_all : (xs : List ℕ) → fold max 0 (map (λ x. x - n) xs) ≡ fold max 0 xs - n
  less_of_all xs = ap (λ m. fold max m (map (λ y. y - n) xs)) nothing ∙ most_less xs 0
    where
      nothing : 0 ≡ 0 - n
      nothing = omega arith

  -- it is at most any bound of all of them
  pub most_within : (xs : List ℕ) (most : ℕ) → most + n < 2 ^ 64 → ((k : ℕ) → k < length xs → get_or xs k 0 + n < 2 ^ 64) → fold max most xs + n < 2 ^ 64
  most_within [] most low each = low
  most_within (x ∷ xs) most low each =
      let here : x + n < 2 ^ 64 = each 0 (omega arith) in
      most_within xs (max most x) (omega (arith, low, here)) (λ k below. each (suc k) (omega (arith, below)))

  -- it is at least each of them
  pub most_holds : (xs : List ℕ) (most : ℕ) → n ≤ most → n ≤ fold max most xs
  most_holds [] most e = e
  most_holds (x ∷ xs) most e = most_holds xs (max most x) (omega (arith, e))

  pub most_of_some_holds : (xs : List ℕ) → 0 < length xs → ((k : ℕ) → k < length xs → n ≤ get_or xs k 0) → n ≤ fold max 0 xs
  most_of_some_holds [] some each = absurd (omega (arith, some))
  most_of_some_holds (x ∷ xs) some each = let here : n ≤ x = each 0 (omega arith) in most_holds xs (max 0 x) (omega (arith, here))

-- sums to which a number was added for some hops, or from which it was subtracted
pub record AreFor (op : ℕ → ℕ → ℕ) (before : SumsByCycle) (hops : List Hop) (pace : Pace) (number : ℕ) (after : SumsByCycle) : Type 0 where
  pub links : after.links ≡ before.links
  pub each : (l cycle : ℕ) → l < before.links → sum_on after l cycle ≡ op (sum_on before l cycle) (part_in hops pace number l cycle)

-- for no hops
pub for_none : (op : ℕ → ℕ → ℕ) → ((x : ℕ) → op x 0 ≡ x) → (before : SumsByCycle) (tree : List Hop) (pace : Pace) (number : ℕ) →
    AreFor op before (take 0 tree) pace number before
for_none op nothing before tree pace number = record {
  links = refl;
  each = λ l cycle within. sym (nothing (sum_on before l cycle));
}

module _ (op : ℕ → ℕ → ℕ) (nothing : (x : ℕ) → op x 0 ≡ x) (tree : List Hop) (i : ℕ) (none : Hop) (inside : i < length tree)
    (apart : AllPairs (λ (a b : ℕ). a ≢ b) (links_in tree)) (pace : Pace) (good : most_every % (pace.pause + 1) ≡ 0) (number : ℕ) (before now : SumsByCycle)
    (low : (get_or tree i none).link < before.links) (whole : length now.sums ≡ now.links * most_every)
    (so_far : AreFor op before (take i tree) pace number now) where
  abbrev this : Hop
  this = get_or tree i none

  -- the sums of its link are unchanged
  as_before : (c : ℕ) → sum_on now this.link c ≡ sum_on before this.link c
  as_before c =
      so_far.each this.link c low
      ∙ ap (λ (b : Bool). op (sum_on before this.link c) (if b then number else 0)) (not_before tree i none inside apart pace c)
      ∙ nothing (sum_on before this.link c)

  within : this.link < now.links
  within = omega (arith, low, so_far.links)

  -- one more hop
  for_next : (ys : List ℕ) (long : length ys ≡ most_every) →
      ((c : ℕ) → c < most_every → get_or ys c 0 ≡ op (get_or (sums_at now this.link) c 0) (if is_active pace this.hop_number c then number else 0)) →
      AreFor op before (take (i + 1) tree) pace number (rewritten now this.link within whole ys long)
  for_next ys long done = record {
    links = so_far.links;
    each = λ l cycle low_l. elim (cases_eq this.link l) [
      | inl same ↦ subst (λ k. sum_on after k cycle ≡ op (sum_on before k cycle) (part_in (take (i + 1) tree) pace number k cycle)) same (at_link cycle)
      | inr other ↦
          sum_there now this.link within whole ys long l cycle other
          ∙ so_far.each l cycle low_l
          ∙ ap (λ (b : Bool). op (sum_on before l cycle) (if b then number else 0)) (sym (there_uses tree i none inside apart pace l cycle other))
    ];
  } where
    after : SumsByCycle
    after = rewritten now this.link within whole ys long

    -- the sums of its link
    at_link : (cycle : ℕ) → sum_on after this.link cycle ≡ op (sum_on before this.link cycle) (part_in (take (i + 1) tree) pace number this.link cycle)
    at_link cycle =
        let c = cycle % most_every in
        let below : c < most_every = mod-lt cycle (omega arith) in
        sym (sum_again after this.link cycle)
        ∙ sum_here now this.link within whole ys long c below
        ∙ done c below
        ∙ ap₂ (λ (x : ℕ) (b : Bool). op x (if b then number else 0))
        (sum_of_link now this.link c below ∙ sum_again now this.link cycle ∙ as_before cycle)
        (active_cycle_again pace this.hop_number cycle good ∙ sym (here_uses tree i none inside apart pace cycle))

  -- the same as a loop has it, with the greatest sum
  pub hop_done : (ys : List ℕ) (index : ℕ) (given later greatest : List ℕ) (most : ℕ) → index ≡ this.link → given ≡ now.sums →
      later ≡ take (index * 80) given ++ (ys ++ drop (index * 80 + 80 - index * 80) (drop (index * 80) given)) → length ys ≡ most_every →
      ((c : ℕ) → c < most_every → get_or ys c 0 ≡ op (get_or (sums_at now this.link) c 0) (if is_active pace this.hop_number c then number else 0)) →
      AreKept now greatest → most ≡ fold max 0 ys →
      AreKept (record { links = now.links; sums = later }) (set greatest this.link most)
      × AreFor op before (take (i + 1) tree) pace number (record { links = now.links; sums = later })
  hop_done ys index given later greatest most here same is long done kept greatest_is =
      let there : later ≡ wrote now this.link within whole ys long = is ∙ written_part now.sums given ys index this.link here same in (
        subst (λ (xs : List ℕ). AreKept (record { links = now.links; sums = xs }) (set greatest this.link most)) (sym there)
            (kept_on now this.link within whole ys long greatest most kept greatest_is),
        subst (λ (xs : List ℕ). AreFor op before (take (i + 1) tree) pace number (record { links = now.links; sums = xs })) (sym there) (for_next ys long done),
      )

-- there is still room at the next hop, as there was
pub room_at : (tree : List Hop) (i : ℕ) (none : Hop) → i < length tree → AllPairs (λ (a b : ℕ). a ≢ b) (links_in tree) → (pace : Pace) (number : ℕ)
    (before now : SumsByCycle) → (get_or tree i none).link < before.links → HasRoomFor before tree pace number →
    AreFor (λ x y. x + y) before (take i tree) pace number now →
    (active_cycle : ℕ) → active_cycle < most_every → is_active pace (get_or tree i none).hop_number active_cycle ≡ true → get_or (sums_at now (get_or tree i none).link) active_cycle 0 + number < 2 ^ 64
room_at tree i none inside apart pace number before now low room so_far active_cycle below t =
    let l = (get_or tree i none).link in
    let here : get_or (sums_at now l) active_cycle 0 ≡ sum_on before l active_cycle + 0 =
    sum_of_link now l active_cycle below
    ∙ so_far.each l active_cycle low
    ∙ ap (λ (b : Bool). sum_on before l active_cycle + (if b then number else 0)) (not_before tree i none inside apart pace active_cycle) in
    let part : part_in tree pace number l active_cycle ≡ number = ap (λ (b : Bool). if b then number else 0) (whole_uses tree i none inside apart pace active_cycle ∙ t) in
    omega (arith, here, part, room l active_cycle low)

-- the number is still in the sums, as it was
pub held_at : (tree : List Hop) (i : ℕ) (none : Hop) → i < length tree → AllPairs (λ (a b : ℕ). a ≢ b) (links_in tree) → (pace : Pace) (number : ℕ)
    (before now : SumsByCycle) → (get_or tree i none).link < before.links → HasIn before tree pace number →
    AreFor (λ x y. x - y) before (take i tree) pace number now →
    (active_cycle : ℕ) → active_cycle < most_every → is_active pace (get_or tree i none).hop_number active_cycle ≡ true → number ≤ get_or (sums_at now (get_or tree i none).link) active_cycle 0
held_at tree i none inside apart pace number before now low held so_far active_cycle below t =
    let l = (get_or tree i none).link in
    let here : get_or (sums_at now l) active_cycle 0 ≡ sum_on before l active_cycle - 0 =
    sum_of_link now l active_cycle below
    ∙ so_far.each l active_cycle low
    ∙ ap (λ (b : Bool). sum_on before l active_cycle - (if b then number else 0)) (not_before tree i none inside apart pace active_cycle) in
    let part : part_in tree pace number l active_cycle ≡ number = ap (λ (b : Bool). if b then number else 0) (whole_uses tree i none inside apart pace active_cycle ∙ t) in
    omega (arith, here, part, held l active_cycle low)

-- the greatest sum of a link in the cycles of a pace, from its sums by cycle
pub most_of_sums : (by_cycle : SumsByCycle) (l : ℕ) (pace : Pace) (hop_number : ℕ) →
    most_where (λ active_cycle. is_active pace hop_number active_cycle) (sums_at by_cycle l) ≡ most_at by_cycle l pace hop_number
most_of_sums by_cycle l pace hop_number =
    ap (fold max 0) (same_below (λ active_cycle. if is_active pace hop_number active_cycle then get_or (sums_at by_cycle l) active_cycle 0 ∷ [] else [])
    (λ cycle. if is_active pace hop_number cycle then sum_on by_cycle l cycle ∷ [] else []) most_every
    (λ c below. ap (λ (n : ℕ). if is_active pace hop_number c then n ∷ [] else []) (sum_of_link by_cycle l c below)))

-- it is that in the cycles of a stream without pauses
pub most_of_each : (by_cycle : SumsByCycle) (l : ℕ) (pace : Pace) (hop_number : ℕ) → pace.pause ≡ 0 → most_of by_cycle l ≡ most_at by_cycle l pace hop_number
most_of_each by_cycle l pace hop_number none =
    ap (fold max 0) (same_below (λ cycle. sum_on by_cycle l cycle ∷ []) (λ cycle. if is_active pace hop_number cycle then sum_on by_cycle l cycle ∷ [] else []) most_every
    (λ c below. ap (λ (b : Bool). if b then sum_on by_cycle l c ∷ [] else []) (sym (always_active_cycle pace hop_number c none))))

-- the greatest sum in the active cycles of a pace, from its parts
pub most_in_active_cycles : (pace : Pace) (hop_number p d q : ℕ) (xs ys : List ℕ) → p ≡ pace.phase → d ≡ hop_number → q ≡ pace.pause → xs ≡ ys →
    most_where (λ active_cycle. (p + d) % (q + 1) == active_cycle % (q + 1)) xs ≡ most_where (λ active_cycle. is_active pace hop_number active_cycle) ys
most_in_active_cycles pace hop_number p d q xs ys e f g h =
    ap (λ z. most_where (λ active_cycle. (z + d) % (q + 1) == active_cycle % (q + 1)) xs) e
    ∙ ap (λ z. most_where (λ active_cycle. (pace.phase + z) % (q + 1) == active_cycle % (q + 1)) xs) f
    ∙ ap (λ z. most_where (λ active_cycle. (pace.phase + hop_number) % (z + 1) == active_cycle % (z + 1)) xs) g
    ∙ ap (λ (zs : List ℕ). most_where (λ active_cycle. is_active pace hop_number active_cycle) zs) h
