-- Orders of placing: their indices are those of streams, and what is found in one.
use Rattle.std.proofs.Common.{◌≡◌, ◌∙◌, ◌<◌, ◌≤◌, ◌+◌, ◌++◌, ℕ, zero, suc, All, Bool, true, false, List, [], ◌∷◌, Option, Some, None, ap, arith, if◌then◌else◌, length, refl, subst, sym}
use Rattle.std.specs.Prelude.{◌==◌, option_and_then, slice_get}
use Rattle.std.proofs.lemmas.List.{length_push}
use Rattle.std.proofs.lemmas.List.Elements.{All-cons, All-head, All-nil, All-push, All-tail}
use Rattle.std.proofs.lemmas.Option.{same_Some}
use Rattle.cqf_lists.specs.Lists.{each_below}
use Rattle.cqf_program_placing.specs.Placing.{PlacedOr, Placed, PlacedStreams, Unplaced}
use Rattle.cqf_program_placing.specs.Settled.{SettledStream}
use Rattle.cqf_network.specs.NetworkDomain.{NetworkDomain, domain_at}
use Rattle.cqf_program_planning.specs.Judging.{first_unplaced}
use Rattle.cqf_program_planning.specs.Orders.{AreRunIn, IsFoundOr, IsSearched, carried_by, first_order, first_without, good_in, is_first_open, is_open_at, may_all_be_helped, moved, moved_from, next_order, order_after, order_by, step_of}

-- the indices of an order are those of streams
abbrev pub AreInside : ℕ → List ℕ → Type 0
AreInside count order = All (λ index. index < count) order

more_inside : (count index : ℕ) (order : List ℕ) → index < count → AreInside count order → AreInside count (index ∷ order)
more_inside count index order here rest = All-cons (λ k. k < count) index order here rest

wider : (count : ℕ) (order : List ℕ) → AreInside count order → AreInside (suc count) order
wider count [] inside = All-nil (λ k. k < suc count)
wider count (index ∷ order) inside =
    let here : index < count = All-head (λ k. k < count) index order inside in
    more_inside (suc count) index order (omega (arith, here)) (wider count order (All-tail (λ k. k < count) index order inside))

-- those of the order of the network file
pub first_inside : (count : ℕ) → AreInside count (first_order count)
first_inside zero = All-nil (λ k. k < zero)
first_inside (suc count) = All-push (λ k. k < suc count) (first_order count) count (wider count (first_order count) (first_inside count)) (omega arith)

pub length_first : (count : ℕ) → length (first_order count) ≡ count
length_first zero = refl
length_first (suc count) = omega (arith, length_push (first_order count) count, length_first count)

-- a step of a move
step_inside : (count first index : ℕ) (movable : Bool) (carried : ℕ) → carried < count → index < count →
    ((step_of movable first (Some carried) index).0 < count) × ((other : ℕ) → (step_of movable first (Some carried) index).1 ≡ Some other → other < count)
step_inside count first index movable carried there here = by (index == first) movable
  where
    by : (same movable : Bool) → ((if same then (carried, None) else carried_by movable carried index).0 < count)
        × ((other : ℕ) → (if same then (carried, None) else carried_by movable carried index).1 ≡ Some other → other < count)
    by true movable = (there, λ other is. absurd (cc))
    by false true = (there, λ other is. subst (λ n. n < count) (same_Some index other is) here)
    by false false = (here, λ other is. subst (λ n. n < count) (same_Some carried other is) there)

-- and of the order after one
moved_inside : (streams : List SettledStream) (count first : ℕ) (carried : Option ℕ) (order : List ℕ) → ((other : ℕ) → carried ≡ Some other → other < count) →
    AreInside count order → AreInside count (moved_from streams first carried order)
moved_inside streams count first carried [] there inside = All-nil (λ k. k < count)
moved_inside streams count first None (index ∷ order) there inside =
    more_inside count index (moved_from streams first None order) (All-head (λ k. k < count) index order inside)
    (moved_inside streams count first None order (λ other is. absurd (cc)) (All-tail (λ k. k < count) index order inside))
moved_inside streams count first (Some carried) (index ∷ order) there inside =
    let one = step_inside count first index (is_open_at streams index) carried (there carried refl) (All-head (λ k. k < count) index order inside) in
    let step = step_of (is_open_at streams index) first (Some carried) index in
    more_inside count step.0 (moved_from streams first step.1 order) one.0
    (moved_inside streams count first step.1 order one.1 (All-tail (λ k. k < count) index order inside))

without_inside : (count first : ℕ) (order : List ℕ) (outcomes : List PlacedOr) → AreInside count order → first_without order outcomes ≡ Some first → first < count
without_inside count first [] outcomes inside is = absurd (cc)
without_inside count first (index ∷ order) [] inside is = absurd (cc)
without_inside count first (index ∷ order) (Placed asked ∷ more) inside is =
    without_inside count first order more (All-tail (λ k. k < count) index order inside) is
without_inside count first (index ∷ order) (Unplaced found ∷ more) inside is =
    subst (λ n. n < count) (same_Some index first is) (All-head (λ k. k < count) index order inside)

pub next_inside : (streams : List SettledStream) (count : ℕ) (order next : List ℕ) (outcomes : List PlacedOr) → AreInside count order →
    next_order streams order outcomes ≡ Some next → AreInside count next
next_inside streams count order next outcomes inside is =
    by (may_all_be_helped streams order outcomes) (first_without order outcomes) refl is
  where
    moves : (first : ℕ) (same : Bool) → first < count → (if same then None else Some (moved streams first order)) ≡ Some next → AreInside count next
    moves first true low there = absurd (cc)
    moves first false low there =
        subst (AreInside count) (same_Some (moved streams first order) next there)
        (moved_inside streams count first (Some first) order (λ other at. subst (λ n. n < count) (same_Some first other at) low) inside)

    by : (helped : Bool) (first : Option ℕ) → first_without order outcomes ≡ first →
        (if helped then option_and_then (order_by streams order) first else None) ≡ Some next → AreInside count next
    by false first same there = absurd (cc)
    by true None same there = absurd (cc)
    by true (Some first) same there =
        moves first (is_first_open streams order first) (without_inside count first order outcomes inside same) there

-- as many as before
length_moved : (streams : List SettledStream) (first : ℕ) (carried : Option ℕ) (order : List ℕ) → length (moved_from streams first carried order) ≡ length order
length_moved streams first carried [] = refl
length_moved streams first carried (index ∷ order) =
    ap (λ n. suc n) (length_moved streams first (step_of (is_open_at streams index) first carried index).1 order)

pub length_next : (streams : List SettledStream) (order next : List ℕ) (outcomes : List PlacedOr) → next_order streams order outcomes ≡ Some next →
    length next ≡ length order
length_next streams order next outcomes is = by (may_all_be_helped streams order outcomes) (first_without order outcomes) is
  where
    moves : (first : ℕ) (same : Bool) → (if same then None else Some (moved streams first order)) ≡ Some next → length next ≡ length order
    moves first true there = absurd (cc)
    moves first false there = ap length (sym (same_Some (moved streams first order) next there)) ∙ length_moved streams first (Some first) order

    by : (helped : Bool) (first : Option ℕ) → (if helped then option_and_then (order_by streams order) first else None) ≡ Some next → length next ≡ length order
    by false first there = absurd (cc)
    by true None there = absurd (cc)
    by true (Some first) there = moves first (is_first_open streams order first) there

-- and of the order after that of the network file
pub after_inside : (streams : List SettledStream) (outcomes : List PlacedOr) (order : List ℕ) → order_after streams outcomes ≡ Some order → AreInside (length streams) order
after_inside streams outcomes order is =
    next_inside streams (length streams) (first_order (length streams)) order outcomes (first_inside (length streams)) is

pub length_after : (streams : List SettledStream) (outcomes : List PlacedOr) (order : List ℕ) → order_after streams outcomes ≡ Some order → length order ≡ length streams
length_after streams outcomes order is = length_next streams (first_order (length streams)) order outcomes is ∙ length_first (length streams)

-- there is none after one in which all are placed
pub none_without : (streams : List SettledStream) (order : List ℕ) (outcomes : List PlacedOr) → length outcomes ≡ length streams →
    first_unplaced streams outcomes ≡ None → first_without order outcomes ≡ None
none_without streams [] outcomes each placed = refl
none_without streams (index ∷ order) [] each placed = refl
none_without [] (index ∷ order) (become ∷ more) each placed = absurd (omega arith)
none_without (stream ∷ streams) (index ∷ order) (Placed asked ∷ more) each placed = none_without streams order more (omega (arith, each)) placed
none_without (stream ∷ streams) (index ∷ order) (Unplaced found ∷ more) each placed = absurd (cc)

pub none_after : (streams : List SettledStream) (outcomes : List PlacedOr) → length outcomes ≡ length streams → first_unplaced streams outcomes ≡ None →
    order_after streams outcomes ≡ None
none_after streams outcomes each placed =
    by (may_all_be_helped streams (first_order (length streams)) outcomes) (first_without (first_order (length streams)) outcomes)
    (none_without streams (first_order (length streams)) outcomes each placed)
  where
    by : (helped : Bool) (first : Option ℕ) → first ≡ None →
        (if helped then option_and_then (order_by streams (first_order (length streams))) first else None) ≡ None
    by true None is = refl
    by true (Some first) is = absurd (cc)
    by false first is = refl

pub none_searched : (network : NetworkDomain) (streams : List SettledStream) (cycle_time tries : ℕ) (next : Option (List ℕ)) (found : Option PlacedStreams) →
    next ≡ None → IsSearched network streams cycle_time tries next found → found ≡ None
none_searched network streams cycle_time zero next found none is = is
none_searched network streams cycle_time (suc tries) None found none is = is
none_searched network streams cycle_time (suc tries) (Some order) found none is = absurd (cc)

-- an order in which streams are placed well
pub record IsGoodOrder (network : NetworkDomain) (streams : List SettledStream) (cycle_time : ℕ) (placed : PlacedStreams) : Type 0 where
  pub order : List ℕ
  pub inside : AreInside (length streams) order
  pub run : PlacedStreams
  pub run_is : AreRunIn network streams cycle_time order run
  pub good : good_in (domain_at network cycle_time) streams order run.outcomes ≡ Some placed

-- what is found by a run is of its order, or of a later one
good_or_later : (network : NetworkDomain) (streams : List SettledStream) (cycle_time tries : ℕ) (order : List ℕ) (placed run : PlacedStreams) →
    AreInside (length streams) order → AreRunIn network streams cycle_time order run → (good : Option PlacedStreams) →
    good_in (domain_at network cycle_time) streams order run.outcomes ≡ good →
    IsFoundOr (IsSearched network streams cycle_time tries (next_order streams order run.outcomes) (Some placed)) good (Some placed) →
    (IsSearched network streams cycle_time tries (next_order streams order run.outcomes) (Some placed) → IsGoodOrder network streams cycle_time placed) →
    IsGoodOrder network streams cycle_time placed
good_or_later network streams cycle_time tries order placed run inside run_is (Some there) is same rest =
    let found : Some placed ≡ Some there = same in
    record { order = order; inside = inside; run = run; run_is = run_is; good = is ∙ sym found }
good_or_later network streams cycle_time tries order placed run inside run_is None is later rest = rest later

-- what is found in some order is of a good one
pub searched_order : (network : NetworkDomain) (streams : List SettledStream) (cycle_time tries : ℕ) (next : Option (List ℕ)) (placed : PlacedStreams) →
    ((order : List ℕ) → next ≡ Some order → AreInside (length streams) order) → IsSearched network streams cycle_time tries next (Some placed) →
    IsGoodOrder network streams cycle_time placed
searched_order network streams cycle_time zero next placed inside found = let none : Some placed ≡ None = found in absurd (cc)
searched_order network streams cycle_time (suc tries) None placed inside found = let none : Some placed ≡ None = found in absurd (cc)
searched_order network streams cycle_time (suc tries) (Some order) placed inside found =
    good_or_later network streams cycle_time tries order placed found.0 (inside order refl) found.1
    (good_in (domain_at network cycle_time) streams order found.0.outcomes) refl found.2
    (λ later. searched_order network streams cycle_time tries (next_order streams order found.0.outcomes) placed
    (λ other at. next_inside streams (length streams) order other found.0.outcomes (inside order refl) at) later)

-- ---- one try more

module _ (network : NetworkDomain) (streams : List SettledStream) (cycle_time tries : ℕ) (order : List ℕ) (run : PlacedStreams)
    (is : AreRunIn network streams cycle_time order run) where
  -- what is found in this order
  pub found_here : (placed : PlacedStreams) → good_in (domain_at network cycle_time) streams order run.outcomes ≡ Some placed →
      IsSearched network streams cycle_time (suc tries) (Some order) (Some placed)
  found_here placed good = (
    run,
    is,
    subst (λ (g : Option PlacedStreams).
        IsFoundOr (IsSearched network streams cycle_time tries (next_order streams order run.outcomes) (Some placed)) g (Some placed)) (sym good) refl,
  )

  -- or what is found later
  pub found_later : (found : Option PlacedStreams) → good_in (domain_at network cycle_time) streams order run.outcomes ≡ None →
      IsSearched network streams cycle_time tries (next_order streams order run.outcomes) found →
      IsSearched network streams cycle_time (suc tries) (Some order) found
  found_later found none later = (
    run,
    is,
    subst (λ (g : Option PlacedStreams).
        IsFoundOr (IsSearched network streams cycle_time tries (next_order streams order run.outcomes) found) g found) (sym none) later,
  )
