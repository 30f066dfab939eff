-- In a list ordered by a number, the elements with one number are consecutive.
use Rattle.std.proofs.Common.{◌≡◌, ℕ, zero, suc, ◌<◌, ◌≤◌, ◌+◌, ◌-◌, ◌*◌, ◌∷◌, [], AllPairs, List, Bool, true, false, filter, take, drop, length, get_or, sym}
use Rattle.std.proofs.Common.{ap, ◌∙◌, arith}
use Rattle.std.proofs.Common.{eq-eqb, inl, inr, ne_eqb, refl, subst}
use Rattle.std.specs.Prelude.{◌==◌, Some, slice_get}
use Rattle.std.proofs.lemmas.Bool.{cases_lt, cond-false, cond-true}
use Rattle.std.proofs.lemmas.List.{drop_all, take_all}
use Rattle.std.proofs.lemmas.Nat.{div_below, le-div}
use Rattle.std.proofs.lemmas.Option.{get_or_from_slice_get, same_Some, slice_get-get_or, slice_get_within}
use Rattle.cqf_model.specs.declared.frames.Dropped.{Dropped}
use Rattle.cqf_model.specs.Domain.{Domain, IsAccepted, cycle_of}
use Rattle.cqf_trace.specs.declared.trace.Mark.{Mark}
use Rattle.cqf_trace.specs.Traces.{AreDropsByCycle, IsDropsEndBefore, IsEndBefore, IsInOrder, is_drop_in, is_in}

-- no elements have an empty segment
segment_of_none : {X : Type 0} (xs : List X) (from n : ℕ) → length xs ≡ 0 → [] ≡ take n (drop from xs)
segment_of_none xs from n none = sym (ap (take n) (drop_all from xs (omega (arith, none))) ∙ take_all n [] (omega arith))

-- if exactly the elements from one index up to another pass the filter, the filter keeps these
pub kept_segment : {X : Type 0} (p : X → Bool) (xs : List X) (from end : ℕ) → from ≤ end →
    ((k : ℕ) (x : X) → slice_get xs k ≡ Some x → k < from → p x ≡ false) →
    ((k : ℕ) (x : X) → slice_get xs k ≡ Some x → from ≤ k → k < end → p x ≡ true) →
    ((k : ℕ) (x : X) → slice_get xs k ≡ Some x → end ≤ k → p x ≡ false) → filter p xs ≡ take (end - from) (drop from xs)
kept_segment {X} p [] from end forward before own following = segment_of_none {X = X} [] from (end - from) refl
kept_segment p (x ∷ xs) zero zero forward before own following =
    cond-false (p x) (x ∷ filter p xs) (filter p xs) (following zero x refl (omega arith))
    ∙ kept_segment p xs zero zero forward (λ k y at less. absurd (omega (arith, less))) (λ k y at least less. absurd (omega (arith, less)))
    (λ k y at least. following (suc k) y at (omega arith))
kept_segment {X} p (x ∷ xs) zero (suc end) forward before own following =
    let shorter : end - 0 ≡ end = omega arith in
    let whole : suc end - 0 ≡ suc end = omega arith in
    cond-true (p x) (x ∷ filter p xs) (filter p xs) (own zero x refl (omega arith) (omega arith))
    ∙ ap (λ (ys : List X). x ∷ ys) (kept_segment p xs zero end (omega arith) (λ k y at less. absurd (omega (arith, less)))
    (λ k y at least less. own (suc k) y at (omega arith) (omega (arith, less))) (λ k y at least. following (suc k) y at (omega (arith, least))))
    ∙ ap (λ (n : ℕ). x ∷ take n xs) shorter
    ∙ sym (ap (λ (n : ℕ). take n (x ∷ xs)) whole)
kept_segment p (x ∷ xs) (suc from) zero forward before own following = absurd (omega (arith, forward))
kept_segment {X} p (x ∷ xs) (suc from) (suc end) forward before own following =
    let same : suc end - suc from ≡ end - from = omega arith in
    cond-false (p x) (x ∷ filter p xs) (filter p xs) (before zero x refl (omega arith))
    ∙ kept_segment p xs from end (omega (arith, forward)) (λ k y at less. before (suc k) y at (omega (arith, less)))
    (λ k y at least less. own (suc k) y at (omega (arith, least)) (omega (arith, less))) (λ k y at least. following (suc k) y at (omega (arith, least)))
    ∙ ap (λ (n : ℕ). take n (drop from xs)) (sym same)

-- so for the elements with a number: from the index where the smaller numbers end to the index where this number ends
kept_of_number : {X : Type 0} (key : X → ℕ) (number : ℕ) (xs : List X) (from end : ℕ) → from ≤ end →
    ((k : ℕ) (x : X) → slice_get xs k ≡ Some x → k < from → key x < number) →
    ((k : ℕ) (x : X) → slice_get xs k ≡ Some x → from ≤ k → number ≤ key x) →
    ((k : ℕ) (x : X) → slice_get xs k ≡ Some x → k < end → key x < number + 1) →
    ((k : ℕ) (x : X) → slice_get xs k ≡ Some x → end ≤ k → number + 1 ≤ key x) →
    filter (λ (x : X). key x == number) xs ≡ take (end - from) (drop from xs)
kept_of_number {X} key number xs from end forward before following own_before own_after =
    kept_segment (λ (x : X). key x == number) xs from end forward
    (λ k x at less. ne_eqb (key x) number (λ same. omega (arith, same, before k x at less)))
    (λ k x at least less. eq-eqb (key x) number (omega (arith, following k x at least, own_before k x at less)))
    (λ k x at least. ne_eqb (key x) number (λ same. omega (arith, same, own_after k x at least)))

-- the same for the marks of a cycle, and for its drops
pub kept_in_cycle : (d : Domain) (cycle : ℕ) (marks : List Mark) (from end : ℕ) → IsEndBefore d cycle marks from → IsEndBefore d (cycle + 1) marks end →
    from ≤ end → filter (is_in d cycle) marks ≡ take (end - from) (drop from marks)
kept_in_cycle d cycle marks from end before after forward =
    kept_of_number (λ (m : Mark). cycle_of d m.start.0) cycle marks from end forward before.before before.following after.before after.following

pub kept_drops : (cycle : ℕ) (drops : List Dropped) (from end : ℕ) → IsDropsEndBefore cycle drops from → IsDropsEndBefore (cycle + 1) drops end →
    from ≤ end → filter (is_drop_in cycle) drops ≡ take (end - from) (drop from drops)
kept_drops cycle drops from end before after forward =
    kept_of_number (λ (x : Dropped). x.cycle.0) cycle drops from end forward before.before before.following after.before after.following

-- what holds of the elements below an index and of the element at it, holds of those below the next index
pub next_before : {X : Type 0} (P : X → Type 0) (xs : List X) (index : ℕ) (here : X) → slice_get xs index ≡ Some here → P here →
    ((k : ℕ) (x : X) → slice_get xs k ≡ Some x → k < index → P x) → (k : ℕ) (x : X) → slice_get xs k ≡ Some x → k < index + 1 → P x
next_before {X} P xs index here stands holds so_far k x at less = elim (cases_lt k index) [
  | inl l ↦ so_far k x at l
  | inr g ↦
      let same : k ≡ index = omega (arith, less, g) in
      subst P (same_Some here x (sym stands ∙ ap (slice_get xs) (sym same) ∙ at)) holds
]

-- in order, an element from an index on is not less than the element at that index
pub from_index_on : {X : Type 0} (key : X → ℕ) (xs : List X) (index k : ℕ) (here x : X) → AllPairs (λ (a b : X). key a ≤ key b) xs →
    slice_get xs index ≡ Some here → slice_get xs k ≡ Some x → index ≤ k → key here ≤ key x
from_index_on {X} key xs index k here x order stands at least = elim (cases_lt index k) [
  | inl l ↦
      let pair = order index k here l (slice_get_within xs k x at) in
      subst (λ (y : X). key here ≤ key y) (get_or_from_slice_get xs k x here at)
      (subst (λ (y : X). key y ≤ key (get_or xs k here)) (get_or_from_slice_get xs index here here stands) pair)
  | inr g ↦
      let same : k ≡ index = omega (arith, least, g) in
      let one : here ≡ x = same_Some here x (sym stands ∙ ap (slice_get xs) (sym same) ∙ at) in
      let keys : key here ≡ key x = ap key one in
      omega (arith, keys)
]

-- an instant before a cycle's end is in that cycle or an earlier one; another instant is in a later cycle
pub early_instant : (d : Domain) (cycle t time end : ℕ) → 0 < d.cycle_time → time ≡ d.cycle_time → end ≡ (cycle + 1) * time → t < end → cycle_of d t < cycle + 1
early_instant d cycle t time end some is at less =
    let bound : end ≡ (cycle + 1) * d.cycle_time = at ∙ ap (λ (n : ℕ). (cycle + 1) * n) is in
    div_below t d.cycle_time (cycle + 1) some (omega (arith, bound, less))

pub late_instant : (d : Domain) (cycle t time end : ℕ) → 0 < d.cycle_time → time ≡ d.cycle_time → end ≡ (cycle + 1) * time → end ≤ t → cycle + 1 ≤ cycle_of d t
late_instant d cycle t time end some is at least =
    let bound : end ≡ (cycle + 1) * d.cycle_time = at ∙ ap (λ (n : ℕ). (cycle + 1) * n) is in
    le-div (cycle + 1) t d.cycle_time some (omega (arith, bound, least))

-- ---- where a cycle's marks end, counted on from where those of the earlier cycles end

-- no mark before the index is of a later cycle
abbrev pub NoneLater : Domain → ℕ → List Mark → ℕ → Type 0
NoneLater d cycle marks index = (k : ℕ) (m : Mark) → slice_get marks k ≡ Some m → k < index → cycle_of d m.start.0 < cycle + 1

pub none_later_at_first : (d : Domain) (cycle : ℕ) (marks : List Mark) (from : ℕ) → IsEndBefore d cycle marks from → NoneLater d cycle marks from
none_later_at_first d cycle marks from before k m at less = omega (arith, before.before k m at less)

pub none_later_yet : (d : Domain) (cycle : ℕ) (marks : List Mark) (index time end : ℕ) (none : Mark) → IsAccepted d → time ≡ d.cycle_time →
    end ≡ (cycle + 1) * time → index < length marks → (get_or marks index none).start.0 < end → NoneLater d cycle marks index →
    NoneLater d cycle marks (index + 1)
none_later_yet d cycle marks index time end none accepted is at inside early so_far =
    next_before (λ (m : Mark). cycle_of d m.start.0 < cycle + 1) marks index (get_or marks index none) (slice_get-get_or marks index none inside)
    (early_instant d cycle (get_or marks index none).start.0 time end (omega (arith, accepted.cycle_least)) is at early) so_far

pub ends_here : (d : Domain) (cycle : ℕ) (marks : List Mark) (index time end : ℕ) (none : Mark) → IsInOrder marks → IsAccepted d → time ≡ d.cycle_time →
    end ≡ (cycle + 1) * time → index < length marks → end ≤ (get_or marks index none).start.0 → NoneLater d cycle marks index →
    IsEndBefore d (cycle + 1) marks index
ends_here d cycle marks index time end none order accepted is at inside late so_far = record {
  within = omega (arith, inside);
  before = so_far;
  following = λ k m there least. late_instant d cycle m.start.0 time end (omega (arith, accepted.cycle_least)) is at
      (omega (
        arith,
        late,
        from_index_on (λ (mark : Mark). mark.start.0) marks index k (get_or marks index none) m order
            (slice_get-get_or marks index none inside) there least,
      ));
}

pub all_end : (d : Domain) (cycle : ℕ) (marks : List Mark) (index count : ℕ) → count ≡ length marks → length marks ≤ index → NoneLater d cycle marks index →
    IsEndBefore d (cycle + 1) marks count
all_end d cycle marks index count is all so_far = record {
  within = omega (arith, is);
  before = λ k m at less. so_far k m at (omega (arith, is, all, less));
  following = λ k m at least. absurd (omega (arith, is, least, slice_get_within marks k m at));
}

-- the same for drops
abbrev pub NoDropLater : ℕ → List Dropped → ℕ → Type 0
NoDropLater cycle drops index = (k : ℕ) (x : Dropped) → slice_get drops k ≡ Some x → k < index → x.cycle.0 < cycle + 1

pub no_drop_later_at_first : (cycle : ℕ) (drops : List Dropped) (from : ℕ) → IsDropsEndBefore cycle drops from → NoDropLater cycle drops from
no_drop_later_at_first cycle drops from before k x at less = omega (arith, before.before k x at less)

pub no_drop_later_yet : (cycle : ℕ) (drops : List Dropped) (index : ℕ) (none : Dropped) → index < length drops →
    (get_or drops index none).cycle.0 ≤ cycle → NoDropLater cycle drops index → NoDropLater cycle drops (index + 1)
no_drop_later_yet cycle drops index none inside early so_far =
    next_before (λ (x : Dropped). x.cycle.0 < cycle + 1) drops index (get_or drops index none) (slice_get-get_or drops index none inside)
    (omega (arith, early)) so_far

pub drops_end_here : (cycle : ℕ) (drops : List Dropped) (index : ℕ) (none : Dropped) → AreDropsByCycle drops → index < length drops →
    cycle < (get_or drops index none).cycle.0 → NoDropLater cycle drops index → IsDropsEndBefore (cycle + 1) drops index
drops_end_here cycle drops index none order inside late so_far = record {
  within = omega (arith, inside);
  before = so_far;
  following = λ k x there least. omega (
    arith,
    late,
    from_index_on (λ (drop : Dropped). drop.cycle.0) drops index k (get_or drops index none) x order
        (slice_get-get_or drops index none inside) there least,
  );
}

pub all_drops_end : (cycle : ℕ) (drops : List Dropped) (index count : ℕ) → count ≡ length drops → length drops ≤ index → NoDropLater cycle drops index →
    IsDropsEndBefore (cycle + 1) drops count
all_drops_end cycle drops index count is all so_far = record {
  within = omega (arith, is);
  before = λ k x at less. so_far k x at (omega (arith, is, all, less));
  following = λ k x at least. absurd (omega (arith, is, least, slice_get_within drops k x at));
}
