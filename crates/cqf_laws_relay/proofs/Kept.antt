-- The offers of a cycle at a bridge, judged one after the other by what is used of their rows, are judged as the run judges them.
use Rattle.std.proofs.Common.{◌≡◌, ℕ, suc, zero, ◌+◌, ◌-◌, ◌*◌, ◌<◌, ◌≤◌, [], ◌∷◌, ◌++◌, ◌==◌, ◌&&◌, List, Bool, true, false, not, Option, Some, None}
use Rattle.std.proofs.Common.{inl, inr, refl, sym, ap, ap₂, ◌∙◌, subst, arith, AllPairs, Contains, filter, sum_by}
use Rattle.std.proofs.Common.{eqb-true, eq-eqb, ne_eqb, nat_le, if◌then◌else◌, append_assoc}
use Rattle.std.specs.List.{flat_map}
use Rattle.std.specs.List.Sorted.{IsPermutation}
use Rattle.std.proofs.lemmas.Bool.{and_from, and_parts, and_right, cases_Bool, cases_lt, cond-false, cond-true}
use Rattle.std.proofs.lemmas.List.{flat_map_more}
use Rattle.std.proofs.lemmas.List.Concat.{flat_map-append}
use Rattle.std.proofs.lemmas.List.Elements.{Contains-append_right, filter-append}
use Rattle.std.proofs.lemmas.List.Kept.{AllPairs-filter}
use Rattle.std.proofs.lemmas.List.Sorted.{IsPermutation-append_comm, IsPermutation-append_left, IsPermutation-append_right, IsPermutation-refl}
use Rattle.std.proofs.lemmas.List.Sorted.{IsPermutation-trans}
use Rattle.cqf_lists.specs.Lists.{each_below}
use Rattle.cqf_lists.proofs.EachBelow.{below_plus, contains_below, contains_from_below, filter_below, filter_none, filter_twice, fold_same, none_below}
use Rattle.cqf_lists.proofs.EachBelow.{parted_below, same_below}
use Rattle.cqf_lists.proofs.Filters.{filter_alike}
use Rattle.cqf_lists.proofs.Made.{flat_map_same}
use Rattle.cqf_lists.proofs.Members.{contains_filter, contains_from_filter, contains_here, contains_later, find_member, parted_at}
use Rattle.cqf_lists.proofs.Pairs.{one_of_pairs, one_parting, pairs_below, pairs_weaker}
use Rattle.cqf_lists.proofs.Sums.{sum_filter, sum_flat}
use Rattle.cqf_units.proofs.Cycles.{cycle_from, cycle_is, cycle_upto}
use Rattle.std.proofs.Common.{zero-add}
use Rattle.cqf_units.specs.Timing.{counted_of}
use Rattle.cqf_model.specs.declared.frames.Dropped.{Dropped}
use Rattle.cqf_model.specs.declared.frames.Offer.{Offer}
use Rattle.cqf_model.specs.declared.frames.Offered.{Offered}
use Rattle.cqf_model.specs.declared.frames.Reason.TheVariants.{Octets, OtherBridge, Withdrawn}
use Rattle.cqf_model.specs.declared.topology.Row.{Row}
use Rattle.cqf_model.specs.Book.{drop_by}
use Rattle.cqf_model.specs.Domain.{Domain, cycle_of, is_text}
use Rattle.cqf_model.specs.Promise.{IsDecided}
use Rattle.cqf_model.specs.Run.{Run}
use Rattle.cqf_model.specs.Shift.{IsCovered, offer_cycle, offers_at, offers_before, taken_by}
use Rattle.cqf_model.specs.Table.{AreOrderly, begins_at, is_live, reserved_in, row_named, table_of}
use Rattle.cqf_model.specs.Policing.{DroppedFor, ExceedsGate, LacksRow, Queued, Verdict, edge_verdict, is_offered_at, numbered, offer_received}
use Rattle.cqf_laws_cycle.specs.Gathered.{is_offered_in, offered_for}
use Rattle.cqf_laws_cycle.proofs.Gathering.{picked_then}
use Rattle.cqf_laws_shift.specs.Edge.{IsCoveredIn, TakenIsCovered}
use Rattle.cqf_laws_shift.proofs.Came.{numbers_ascend, one_number}
use Rattle.cqf_laws_shift.proofs.Decided.{covered_judged, is_decided, judged, judged_queued, smaller_before, uncovered_judged}
use Rattle.cqf_laws_shift.proofs.Trees.{one_beginning}
use Rattle.cqf_laws_instants.specs.QueueLaws.{CoveringCovers, covering}
use Rattle.cqf_relay.specs.Offering.{Going, covered_after, dropped_after, going_by, octets_of, verdict_with}
use Rattle.cqf_laws_relay.specs.Following.{KeptAreCovered, covered_of, going_with}

-- lists that equal two permuted lists are permuted
pub permuted_as : {Y : Type 0} (xs ys us vs : List Y) → us ≡ xs → vs ≡ ys → IsPermutation xs ys → IsPermutation us vs
permuted_as xs ys us vs left right moved = subst (λ z. IsPermutation z vs) (sym left) (subst (λ z. IsPermutation xs z) (sym right) moved)

-- the second of three lists may be moved to the front
second_first : {Y : Type 0} (a b c : List Y) → IsPermutation (a ++ (b ++ c)) (b ++ (a ++ c))
second_first a b c =
    permuted_as ((a ++ b) ++ c) ((b ++ a) ++ c) (a ++ (b ++ c)) (b ++ (a ++ c)) (sym (append_assoc a b c)) (sym (append_assoc b a c))
    (IsPermutation-append_left c (a ++ b) (b ++ a) (IsPermutation-append_comm a b))

-- if one of the lists below a number has one more element at its front, its image may come before all others
made_with_one : {X Y : Type 0} (f : X → List Y) (x : X) (few more : ℕ → List X) (n k : ℕ) → k < n → more k ≡ x ∷ few k →
    ((j : ℕ) → j < n → (j ≡ k → ⊥) → more j ≡ few j) →
    IsPermutation (flat_map f (each_below more n)) (f x ++ flat_map f (each_below few n))
made_with_one f x few more zero k inside here others = absurd (omega (arith, inside))
made_with_one {X} {Y} f x few more (suc n) k inside here others = elim (cases_lt k n) [
  | inl less ↦
      permuted_as (flat_map f (each_below more n) ++ flat_map f (few n)) ((f x ++ flat_map f (each_below few n)) ++ flat_map f (few n))
      (flat_map f (each_below more n ++ more n)) (f x ++ flat_map f (each_below few n ++ few n))
      (flat_map-append f (each_below more n) (more n)
      ∙ ap (λ (xs : List X). flat_map f (each_below more n) ++ flat_map f xs) (others n (omega arith) (λ e. omega (arith, e, less))))
      (ap (λ (ys : List Y). f x ++ ys) (flat_map-append f (each_below few n) (few n))
      ∙ sym (append_assoc (f x) (flat_map f (each_below few n)) (flat_map f (few n))))
      (IsPermutation-append_left (flat_map f (few n)) (flat_map f (each_below more n)) (f x ++ flat_map f (each_below few n))
      (made_with_one f x few more n k less here (λ j l apart. others j (omega (arith, l)) apart)))
  | inr over ↦
      let last : n ≡ k = omega (arith, over, inside) in
      let own : more n ≡ x ∷ few n = subst (λ m. more m ≡ x ∷ few m) (sym last) here in
      permuted_as (flat_map f (each_below few n) ++ (f x ++ flat_map f (few n))) (f x ++ (flat_map f (each_below few n) ++ flat_map f (few n)))
      (flat_map f (each_below more n ++ more n)) (f x ++ flat_map f (each_below few n ++ few n))
      (flat_map-append f (each_below more n) (more n)
      ∙ ap₂ (λ (us vs : List X). flat_map f us ++ flat_map f vs)
      (same_below more few n (λ j l. others j (omega (arith, l)) (λ e. omega (arith, e, l, last)))) own)
      (ap (λ (ys : List Y). f x ++ ys) (flat_map-append f (each_below few n) (few n)))
      (second_first (flat_map f (each_below few n)) (f x) (flat_map f (few n)))
]

-- an element passes exactly one of `n` tests
pub record PassesOne {X : Type 0} (test : ℕ → X → Bool) (n : ℕ) (x : X) : Type 0 where
  pub k : ℕ
  pub below : k < n
  pub passes : test k x ≡ true
  pub others : (j : ℕ) → (j ≡ k → ⊥) → test j x ≡ false

-- mapping elements test by test is mapping them, if each passes exactly one test
pub made_by_tests : {X Y : Type 0} (f : X → List Y) (test : ℕ → X → Bool) (n : ℕ) (xs : List X) → ((x : X) → Contains xs x → PassesOne test n x) →
    IsPermutation (flat_map f (each_below (λ k. filter (test k) xs) n)) (flat_map f xs)
made_by_tests {X} {Y} f test n [] each =
    permuted_as [] [] (flat_map f (each_below (λ k. filter (test k) []) n)) []
    (ap (flat_map f) (none_below (λ (k : ℕ). filter (test k) []) n (λ k l. refl))) refl (IsPermutation-refl [])
made_by_tests {X} {Y} f test n (x ∷ xs) each =
    let one = each x (contains_here x xs) in
    let few : ℕ → List X = λ k. filter (test k) xs in
    let more : ℕ → List X = λ k. filter (test k) (x ∷ xs) in
    IsPermutation-trans (flat_map f (each_below more n)) (f x ++ flat_map f (each_below few n)) (f x ++ flat_map f xs)
    (made_with_one f x few more n one.k one.below (cond-true (test one.k x) (x ∷ few one.k) (few one.k) one.passes)
    (λ j l apart. cond-false (test j x) (x ∷ few j) (few j) (one.others j apart)))
    (IsPermutation-append_right (f x) (flat_map f (each_below few n)) (flat_map f xs)
    (made_by_tests f test n xs (λ z c. each z (contains_later x xs z c))))

-- an offer of a cycle at a bridge
pub record IsOfferOf (d : Domain) (offers : List Offer) (bridge cycle : ℕ) (x : Offered) : Type 0 where
  pub inside : Contains (numbered offers) x
  pub here : x.offer.bridge ≡ bridge
  pub when : offer_cycle d x ≡ cycle
  pub from : cycle * d.cycle_time ≤ x.offer.at.0
  pub upto : x.offer.at.0 < cycle * d.cycle_time + d.cycle_time

-- two offers have two numbers
abbrev pub NumbersDiffer : Offered → Offered → Type 0
NumbersDiffer a b = a.frame ≡ b.frame → ⊥

-- in order of instant, then index, an offer follows the offers before it
stands_after : (offers : List Offer) (x : Offered) (n : ℕ) → Contains (numbered offers) x → x.offer.at.0 < n → (after : List Offered) ×
    (each_below (offers_at offers) n ≡ offers_before offers x ++ (x ∷ after))
stands_after offers x n inside early =
    let t = x.offer.at.0 in
    let here : Offered → Bool = λ y. y.offer.at.0 == t in
    let rest = parted_below (offers_at offers) t n early in
    let split = parted_at (numbered offers) x inside in
    let at_once : offers_at offers t ≡ filter here split.0 ++ (x ∷ filter here split.1) =
    ap (filter here) split.2 ∙ filter-append here split.0 (x ∷ split.1)
    ∙ ap (λ w. filter here split.0 ++ w) (cond-true (here x) (x ∷ filter here split.1) (filter here split.1) (eq-eqb t t refl)) in (
      filter here split.1 ++ rest.0,
      rest.1 ∙ ap (λ w. each_below (offers_at offers) t ++ (w ++ rest.0)) at_once
          ∙ joined (each_below (offers_at offers) t) (filter here split.0) x (filter here split.1) rest.0
          ∙ ap (λ w. (each_below (offers_at offers) t ++ w) ++ (x ∷ (filter here split.1 ++ rest.0))) (sym (smaller_before offers x split.0 split.1 split.2)),
    )
  where
    -- joining lists in any way keeps what is before an element and after it
    joined : (a b : List Offered) (y : Offered) (c r : List Offered) → a ++ ((b ++ (y ∷ c)) ++ r) ≡ (a ++ b) ++ (y ∷ (c ++ r))
    joined a b y c r = simp append_assoc

-- a test that a third one implies is needless beside it
needless : (a b c : Bool) → (c ≡ true → b ≡ true) → ((a && b) && c) ≡ (a && c)
needless false b c follows = refl
needless true true c follows = refl
needless true false false follows = refl
needless true false true follows = follows refl

module _ (d : Domain) (offers : List Offer) (bridge cycle : ℕ) where
  -- the offers of an instant that are the bridge's in the cycle
  abbrev mine : ℕ → List Offered
  mine t = filter (is_offered_in d bridge cycle) (offers_at offers t)

  -- before the cycle there are none
  none_sooner : (t : ℕ) → t < cycle * d.cycle_time → mine t ≡ []
  none_sooner t less = filter_none (is_offered_in d bridge cycle) (offers_at offers t) sooner
    where
      -- an offer of an earlier instant isn't of the cycle
      sooner : (x : Offered) → Contains (offers_at offers t) x → is_offered_in d bridge cycle x ≡ false
      sooner x c =
          let at : x.offer.at.0 ≡ t = eqb-true x.offer.at.0 t (contains_from_filter (λ (y : Offered). y.offer.at.0 == t) (numbered offers) x c).1 in
          and_right (x.offer.bridge == bridge) (cycle_of d x.offer.at.0 == cycle) (ne_eqb (cycle_of d x.offer.at.0) cycle
          (λ e. omega (arith, less, at, cycle_from d.cycle_time x.offer.at.0, ap (λ (n : ℕ). n * d.cycle_time) e)))

  -- at an instant of the cycle they are the offers there at that instant
  mine_then : (offset : ℕ) → offset < d.cycle_time →
      mine (cycle * d.cycle_time + offset) ≡ filter (is_offered_at bridge (cycle * d.cycle_time + offset)) (numbered offers)
  mine_then offset less =
      let t = cycle * d.cycle_time + offset in
      filter_twice (is_offered_in d bridge cycle) (λ (y : Offered). y.offer.at.0 == t) (numbered offers)
      ∙ filter_alike (λ (y : Offered). is_offered_in d bridge cycle y && (y.offer.at.0 == t)) (is_offered_at bridge t) (numbered offers)
      (λ y c. needless (y.offer.bridge == bridge) (cycle_of d y.offer.at.0 == cycle) (y.offer.at.0 == t)
      (λ e. eq-eqb (cycle_of d y.offer.at.0) cycle
      (ap (cycle_of d) (eqb-true y.offer.at.0 t e) ∙ cycle_is d.cycle_time cycle t (omega arith) (omega (arith, less)))))

  -- so the offers of the cycle at the bridge are those of all offers up to its end
  offered_of_all : offered_for d offers bridge cycle ≡ filter (is_offered_in d bridge cycle)
      (each_below (offers_at offers) (cycle * d.cycle_time + d.cycle_time))
  offered_of_all =
      let first = cycle * d.cycle_time in
      sym (
      filter_below (is_offered_in d bridge cycle) (offers_at offers) (first + d.cycle_time)
      ∙ below_plus mine first d.cycle_time
      ∙ ap (λ (xs : List Offered). xs ++ each_below (λ offset. mine (first + offset)) d.cycle_time) (none_below mine first none_sooner)
      ∙ same_below (λ offset. mine (first + offset)) (λ offset. filter (is_offered_at bridge (first + offset)) (numbered offers)) d.cycle_time mine_then
      )

  -- each of them is one
  pub offer_of : (x : Offered) → Contains (offered_for d offers bridge cycle) x → IsOfferOf d offers bridge cycle x
  offer_of x c =
      let first = cycle * d.cycle_time in
      let w = contains_from_below (λ offset. filter (is_offered_at bridge (first + offset)) (numbered offers)) d.cycle_time x c in
      let f = contains_from_filter (is_offered_at bridge (first + w.0)) (numbered offers) x w.2 in
      let both = and_parts (x.offer.bridge == bridge) (x.offer.at.0 == first + w.0) f.1 in
      let at : x.offer.at.0 ≡ first + w.0 = eqb-true x.offer.at.0 (first + w.0) both.1 in
      record {
        inside = f.0;
        here = eqb-true x.offer.bridge bridge both.0;
        when = cycle_is d.cycle_time cycle x.offer.at.0 (omega (arith, at)) (omega (arith, at, w.1));
        from = omega (arith, at);
        upto = omega (arith, at, w.1);
      }

  -- and passes the test
  passes : (x : Offered) → x.offer.bridge ≡ bridge → offer_cycle d x ≡ cycle → is_offered_in d bridge cycle x ≡ true
  passes x here when =
      and_from (x.offer.bridge == bridge) (cycle_of d x.offer.at.0 == cycle) (eq-eqb x.offer.bridge bridge here) (eq-eqb (cycle_of d x.offer.at.0) cycle when)

  -- what is offered there in the cycle is one of them
  pub offer_there : (x : Offered) → 0 < d.cycle_time → Contains (numbered offers) x → x.offer.bridge ≡ bridge → offer_cycle d x ≡ cycle →
      Contains (offered_for d offers bridge cycle) x
  offer_there x some inside here when =
      let n = cycle * d.cycle_time + d.cycle_time in
      let t = x.offer.at.0 in
      let early : t < n = omega (arith, cycle_upto d.cycle_time t some, ap (λ (k : ℕ). k * d.cycle_time) when) in
      subst (λ (xs : List Offered). Contains xs x) (sym offered_of_all)
      (contains_filter (is_offered_in d bridge cycle) (each_below (offers_at offers) n) x
      (contains_below (offers_at offers) n t x early (contains_filter (λ (y : Offered). y.offer.at.0 == t) (numbered offers) x inside (eq-eqb t t refl)))
      (passes x here when))

  -- none is there twice
  pub offers_differ : AllPairs NumbersDiffer (offered_for d offers bridge cycle)
  offers_differ =
      pairs_below NumbersDiffer (λ offset. filter (is_offered_at bridge (cycle * d.cycle_time + offset)) (numbered offers)) d.cycle_time
      (λ offset l. within (cycle * d.cycle_time + offset)) across
    where
      -- at an instant numbers ascend
      within : (t : ℕ) → AllPairs NumbersDiffer (filter (is_offered_at bridge t) (numbered offers))
      within t =
          pairs_weaker (λ (a b : Offered). a.frame < b.frame) NumbersDiffer (filter (is_offered_at bridge t) (numbered offers))
          (λ a b ca cb less same. omega (arith, less, same))
          (AllPairs-filter (λ (a b : Offered). a.frame < b.frame) (is_offered_at bridge t) (numbered offers) (numbers_ascend offers))

      -- what is at an instant is offered then
      at_instant : (t : ℕ) (x : Offered) → Contains (filter (is_offered_at bridge t) (numbered offers)) x → Contains (numbered offers) x × (x.offer.at.0 ≡ t)
      at_instant t x c =
          let f = contains_from_filter (is_offered_at bridge t) (numbered offers) x c in
          (f.0, eqb-true x.offer.at.0 t (and_parts (x.offer.bridge == bridge) (x.offer.at.0 == t) f.1).1)

      -- so an offer is at one instant only
      across : (i j : ℕ) (a b : Offered) → i < j → j < d.cycle_time →
          Contains (filter (is_offered_at bridge (cycle * d.cycle_time + i)) (numbered offers)) a →
          Contains (filter (is_offered_at bridge (cycle * d.cycle_time + j)) (numbered offers)) b → NumbersDiffer a b
      across i j a b less inside ca cb same =
          let first = at_instant (cycle * d.cycle_time + i) a ca in
          let second = at_instant (cycle * d.cycle_time + j) b cb in
          let one = one_number offers a b first.0 second.0 same in
          omega (arith, less, first.1, second.1, ap (λ (x : Offered). x.offer.at.0) one)

  -- those before one of them are those of the offers before it
  before_is : (before : List Offered) (x : Offered) (after : List Offered) → offered_for d offers bridge cycle ≡ before ++ (x ∷ after) →
      before ≡ filter (is_offered_in d bridge cycle) (offers_before offers x)
  before_is before x after parts =
      let test = is_offered_in d bridge cycle in
      let o = offer_of x (subst (λ (xs : List Offered). Contains xs x) (sym parts) (Contains-append_right before (x ∷ after) x (contains_here x after))) in
      let following = stands_after offers x (cycle * d.cycle_time + d.cycle_time) o.inside o.upto in
      let kept : filter test (offers_before offers x ++ (x ∷ following.0)) ≡ filter test (offers_before offers x) ++ (x ∷ filter test following.0) =
      filter-append test (offers_before offers x) (x ∷ following.0)
      ∙ ap (λ (xs : List Offered). filter test (offers_before offers x) ++ xs)
      (cond-true (test x) (x ∷ filter test following.0) (filter test following.0) (passes x o.here o.when)) in
      one_parting NumbersDiffer x before (filter test (offers_before offers x)) after (filter test following.0)
      (subst (λ (xs : List Offered). AllPairs NumbersDiffer xs) parts offers_differ) (λ differ. differ refl)
      (sym parts ∙ offered_of_all ∙ ap (filter test) following.1 ∙ kept)

-- the octets that an offer uses of a row by its verdict
abbrev takes : ℕ → ℕ → Verdict → ℕ
takes number octets (Queued row) = if row.no == number then octets else 0
takes number octets (DroppedFor reason) = 0
takes number octets LacksRow = 0
takes number octets ExceedsGate = 0

-- an offer that goes on uses them
takes_going : (overhead number : ℕ) (x : Offered) (v : Verdict) →
    sum_by (λ (g : Going). if g.row.no == number then counted_of overhead g.received.octets else 0) (going_by x v)
    ≡ takes number (counted_of overhead x.offer.octets) v
takes_going overhead number x (Queued row) = zero-add (if row.no == number then counted_of overhead x.offer.octets else 0)
takes_going overhead number x (DroppedFor reason) = refl
takes_going overhead number x LacksRow = refl
takes_going overhead number x ExceedsGate = refl

-- the verdict by a row, from whether it is live, begins here and has the octets left
abbrev edge_by : Row → Bool → Bool → Bool → Verdict
edge_by row live here fits =
    if not live then DroppedFor Withdrawn else (if not here then DroppedFor OtherBridge else (if not fits then DroppedFor Octets else Queued row))

-- two tests that agree on a row that is live and begins here give the same verdict
same_verdict : (d : Domain) (bridge cycle : ℕ) (one two : Row → Bool) (found : Option Row) →
    ((row : Row) → found ≡ Some row → is_live row cycle ≡ true → begins_at d row bridge ≡ true → one row ≡ two row) →
    edge_verdict d bridge cycle one found ≡ edge_verdict d bridge cycle two found
same_verdict d bridge cycle one two None same = refl
same_verdict d bridge cycle one two (Some row) same = by_tests (is_live row cycle) (begins_at d row bridge) (one row) (two row) (same row refl)
  where
    -- so they do for any row
    by_tests : (live here a b : Bool) → (live ≡ true → here ≡ true → a ≡ b) → edge_by row live here a ≡ edge_by row live here b
    by_tests true true a b e = ap (edge_by row true true) (e refl refl)
    by_tests true false a b e = refl
    by_tests false here a b e = refl

module _ (counted : TakenIsCovered) (run : Run) (orderly : AreOrderly run.domain run.tables) (bridge cycle : ℕ) where
  -- the table of the cycle
  abbrev table : List Row
  table = table_of run.tables cycle

  -- the offers of the cycle at the bridge
  abbrev pub offered : List Offered
  offered = offered_for run.domain run.offers bridge cycle

  -- an offer with the row by which it goes on by the run's verdict
  abbrev pub goes : Offered → List Going
  goes x = going_by x (judged run x)

  -- and its drop
  abbrev pub drops : Offered → List Dropped
  drops x = drop_by cycle bridge (offer_received x) (judged run x)

  module _ (row : Row) (inside : Contains table row) (live : is_live row cycle ≡ true) (begins : begins_at run.domain row bridge ≡ true) where
    -- the octets that an offer uses of the row
    abbrev each_takes : Offered → ℕ
    each_takes y = takes row.no (counted_of run.domain.overhead y.offer.octets) (judged run y)

    -- if it is one of the cycle here
    abbrev counts : Offered → ℕ
    counts y = if is_offered_in run.domain bridge cycle y then each_takes y else 0

    -- an offer that the row covers in the cycle uses its octets
    covered_counts : (y : Offered) → IsCoveredIn run row cycle y → counts y ≡ counted_of run.domain.overhead y.offer.octets
    covered_counts y c =
        cond-true (is_offered_in run.domain bridge cycle y) (each_takes y) 0
        (passes run.domain run.offers bridge cycle y
        (one_beginning run.domain row (orderly.trees cycle row inside) y.offer.bridge bridge c.covered.first_bridge begins) c.in_cycle)
        ∙ ap (takes row.no (counted_of run.domain.overhead y.offer.octets)) (covered_judged run y row c.covered)
        ∙ cond-true (row.no == row.no) (counted_of run.domain.overhead y.offer.octets) 0 (eq-eqb row.no row.no refl)

    -- each other offer uses nothing
    other_counts : (y : Offered) → Contains (numbered run.offers) y → ¬ IsCoveredIn run row cycle y → counts y ≡ 0
    other_counts y member never = elim (cases_Bool (is_offered_in run.domain bridge cycle y)) [
      | inr f ↦ cond-false (is_offered_in run.domain bridge cycle y) (each_takes y) 0 f
      | inl t ↦
          cond-true (is_offered_in run.domain bridge cycle y) (each_takes y) 0 t
          ∙ by_verdict (judged run y) refl
          (eqb-true (cycle_of run.domain y.offer.at.0) cycle (and_parts (y.offer.bridge == bridge) (cycle_of run.domain y.offer.at.0 == cycle) t).1)
    ]
      where
        -- a row of that number would be the row
        by_number : (q : Row) → judged run y ≡ Queued q → offer_cycle run.domain y ≡ cycle → (b : Bool) → (q.no == row.no) ≡ b →
            (if b then counted_of run.domain.overhead y.offer.octets else 0) ≡ 0
        by_number q e when false is = refl
        by_number q e when true is =
            let covered = judged_queued run y q member e in
            let found = find_member (λ (r : Row). is_text r.name y.offer.stream) (table_of run.tables (offer_cycle run.domain y)) q covered.named in
            let there : Contains table q = subst (λ c. Contains (table_of run.tables c) q) when found.0 in
            let number : q.no ≡ row.no = eqb-true q.no row.no is in
            let same : q ≡ row =
            one_of_pairs (λ (a b : Row). a.no ≡ b.no → ⊥) table q row (orderly.numbers cycle) there inside (λ apart. apart number)
            (λ apart. apart (sym number)) in
            absurd (never (record { covered = subst (IsCovered run y) same covered; in_cycle = when }))

        -- so no verdict uses any of it
        by_verdict : (v : Verdict) → judged run y ≡ v → offer_cycle run.domain y ≡ cycle → takes row.no (counted_of run.domain.overhead y.offer.octets) v ≡ 0
        by_verdict (Queued q) e when = by_number q e when (q.no == row.no) refl
        by_verdict (DroppedFor reason) e when = refl
        by_verdict LacksRow e when = refl
        by_verdict ExceedsGate e when = refl

    -- so the octets of the row that went on before an offer are what is used of it
    octets_taken : (before : List Offered) (x : Offered) (after : List Offered) → offered ≡ before ++ (x ∷ after) → Contains (numbered run.offers) x →
        octets_of run.domain.overhead (flat_map goes before) row.no ≡ taken_by run.domain row cycle (offers_before run.offers x)
    octets_taken before x after parts member =
        let of_row : Going → ℕ = λ g. if g.row.no == row.no then counted_of run.domain.overhead g.received.octets else 0 in
        sum_filter (λ (g : Going). counted_of run.domain.overhead g.received.octets) (λ (g : Going). g.row.no == row.no) (flat_map goes before)
        ∙ sum_flat of_row goes before
        ∙ fold_same (λ so_far (y : Offered). so_far + sum_by of_row (goes y)) (λ so_far (y : Offered). so_far + each_takes y) 0 before
        (λ so_far y c. ap (λ n. so_far + n) (takes_going run.domain.overhead row.no y (judged run y)))
        ∙ ap (sum_by each_takes) (before_is run.domain run.offers bridge cycle before x after parts)
        ∙ sum_filter each_takes (is_offered_in run.domain bridge cycle) (offers_before run.offers x)
        ∙ sym (counted run row cycle x counts orderly inside live member (record { covered = covered_counts; others = other_counts }))

  -- so after the covered ones before it an offer gets the run's verdict
  verdict_is : (before : List Offered) (x : Offered) (after : List Offered) → offered ≡ before ++ (x ∷ after) →
      verdict_with run.domain bridge cycle table (octets_of run.domain.overhead (flat_map goes before)) x ≡ judged run x
  verdict_is before x after parts =
      let o =
      offer_of run.domain run.offers bridge cycle x
      (subst (λ (xs : List Offered). Contains xs x) (sym parts) (Contains-append_right before (x ∷ after) x (contains_here x after))) in
      let left : ℕ → Row → Bool =
      λ c row. nat_le (taken_by run.domain row c (offers_before run.offers x) + counted_of run.domain.overhead x.offer.octets) (reserved_in row 0 c) in
      same_verdict run.domain bridge cycle (λ (row : Row). nat_le (octets_of run.domain.overhead (flat_map goes before) row.no + counted_of run.domain.overhead x.offer.octets) (reserved_in row 0 cycle))
      (left cycle) (row_named table x.offer.stream)
      (λ row named live begins. ap (λ n. nat_le (n + counted_of run.domain.overhead x.offer.octets) (reserved_in row 0 cycle))
      (octets_taken row (find_member (λ (r : Row). is_text r.name x.offer.stream) table row named).0 live begins before x after parts o.inside))
      ∙ ap₂ (λ b c. edge_verdict run.domain b c (left c) (row_named (table_of run.tables c) x.offer.stream)) (sym o.here) (sym o.when)

  -- those that are kept are those that go on by the run's verdicts
  pub kept_by_verdicts : (before after : List Offered) → offered ≡ before ++ after →
      covered_after run.domain bridge cycle table (flat_map goes before) after ≡ flat_map goes after
  kept_by_verdicts before [] parts = refl
  kept_by_verdicts before (x ∷ after) parts =
      let earlier = flat_map goes before in
      ap (λ (v : Verdict). going_by x v ++ covered_after run.domain bridge cycle table (earlier ++ going_by x v) after) (verdict_is before x after parts)
      ∙ ap (λ (gs : List Going). goes x ++ covered_after run.domain bridge cycle table gs after) (flat_map_more goes [] before x)
      ∙ ap (λ (gs : List Going). goes x ++ gs) (kept_by_verdicts (before ++ x ∷ []) after (parts ∙ sym (append_assoc before (x ∷ []) after)))

  -- and those that are dropped are the drops of the run's verdicts
  pub dropped_by_verdicts : (before after : List Offered) → offered ≡ before ++ after →
      dropped_after run.domain bridge cycle table (flat_map goes before) after ≡ flat_map drops after
  dropped_by_verdicts before [] parts = refl
  dropped_by_verdicts before (x ∷ after) parts =
      let earlier = flat_map goes before in
      ap (λ (v : Verdict). drop_by cycle bridge (offer_received x) v ++ dropped_after run.domain bridge cycle table (earlier ++ going_by x v) after)
      (verdict_is before x after parts)
      ∙ ap (λ (gs : List Going). drops x ++ dropped_after run.domain bridge cycle table gs after) (flat_map_more goes [] before x)
      ∙ ap (λ (xs : List Dropped). drops x ++ xs) (dropped_by_verdicts (before ++ x ∷ []) after (parts ∙ sym (append_assoc before (x ∷ []) after)))

-- what goes on by a decided verdict goes on by the row that covers it
going_covered : CoveringCovers → (run : Run) (x : Offered) (v : Verdict) → IsDecided run x v → going_by x v ≡ going_with (offer_received x) (covering run x)
going_covered covers run x (Queued row) covered = sym (ap (going_with (offer_received x)) ((covers run x row covered.offered).1 covered))
going_covered covers run x (DroppedFor reason) uncovered = by_row (covering run x) refl
  where
    -- no row covers it
    by_row : (found : Option Row) → covering run x ≡ found → [] ≡ going_with (offer_received x) found
    by_row None is = refl
    by_row (Some row) is =
        let both : Queued row ≡ DroppedFor reason =
        sym (covered_judged run x row ((covers run x row uncovered.offered).0 is)) ∙ uncovered_judged run x reason uncovered in
        absurd (cc)
going_covered covers run x LacksRow never = absurd never
going_covered covers run x ExceedsGate never = absurd never

-- so those that are kept are those that the run's rows cover
pub kept_are_covered : TakenIsCovered → CoveringCovers → KeptAreCovered
kept_are_covered counted covers run net bridge cycle legal within =
    permuted_as (flat_map row_with (each_below (λ offset. filter (at offset) mine) d.cycle_time)) (covered_of run bridge cycle)
    (covered_after d bridge cycle (table_of run.tables cycle) [] list) (covered_of run bridge cycle)
    (kept_by_verdicts counted run legal.orderly bridge cycle [] list refl
    ∙ flat_map_same (λ (x : Offered). going_by x (judged run x)) row_with list
    (λ x c. going_covered covers run x (judged run x) (is_decided run x (offer_of d run.offers bridge cycle x c).inside))
    ∙ ap (flat_map row_with) by_instants) refl (made_by_tests row_with at d.cycle_time mine one_instant)
  where
    -- the run's domain
    d : Domain
    d = run.domain

    -- the offers of the cycle here, by instant
    list : List Offered
    list = offered_for run.domain run.offers bridge cycle

    -- and by index
    mine : List Offered
    mine = filter (is_offered_in run.domain bridge cycle) (numbered run.offers)

    -- an offer with the row that covers it
    row_with : Offered → List Going
    row_with x = going_with (offer_received x) (covering run x)

    -- whether it is of an instant of the cycle
    at : ℕ → Offered → Bool
    at offset x = x.offer.at.0 == cycle * run.domain.cycle_time + offset

    -- those by instant are, instant by instant, those by index
    by_instants : offered_for run.domain run.offers bridge cycle ≡ each_below (λ offset. filter (at offset) mine) run.domain.cycle_time
    by_instants =
        same_below (λ offset. filter (is_offered_at bridge (cycle * run.domain.cycle_time + offset)) (numbered run.offers))
        (λ offset. filter (at offset) mine) run.domain.cycle_time
        (λ offset l. sym (picked_then (λ (x : Offered). x.offer.bridge == bridge) (λ (x : Offered). x.offer.at.0) run.domain.cycle_time cycle
        (cycle * run.domain.cycle_time + offset) (numbered run.offers)
        (cycle_is run.domain.cycle_time cycle (cycle * run.domain.cycle_time + offset) (omega arith) (omega (arith, l)))))

    -- each is of one instant
    one_instant : (x : Offered) → Contains mine x → PassesOne at run.domain.cycle_time x
    one_instant x c =
        let t = x.offer.at.0 in
        let first = cycle * run.domain.cycle_time in
        let f = contains_from_filter (is_offered_in run.domain bridge cycle) (numbered run.offers) x c in
        let when : cycle_of run.domain t ≡ cycle =
        eqb-true (cycle_of run.domain t) cycle (and_parts (x.offer.bridge == bridge) (cycle_of run.domain t == cycle) f.1).1 in
        let same : cycle_of run.domain t * run.domain.cycle_time ≡ first = ap (λ (k : ℕ). k * run.domain.cycle_time) when in
        let from : first ≤ t = omega (arith, cycle_from run.domain.cycle_time t, same) in
        let upto : t < first + run.domain.cycle_time =
        omega (arith, cycle_upto run.domain.cycle_time t (omega (arith, legal.accepted.cycle_least)), same) in
        record {
          k = t - first;
          below = omega (arith, from, upto);
          passes = eq-eqb t (first + (t - first)) (omega (arith, from));
          others = λ j differ. ne_eqb t (first + j) (λ e. differ (omega (arith, from, e)));
        }
