-- A sort by three keys puts legs in order if no two tie.
use Rattle.std.proofs.Common.{ℕ, ◌≡◌, ◌≢◌, ◌∙◌, ◌+◌, ◌<◌, ◌≤◌, ◌⊎◌, ◌==◌, ◌&&◌, Bool, true, false, List, AllPairs, ap, arith, get_or, if◌then◌else◌, inl, inr, length, refl, sum_by, sym, eq-eqb, eqb-true}
use Rattle.std.specs.List.Sorted.{IsNonDecreasingBy, IsPermutation, IsSortedBy}
use Rattle.std.specs.Cmp.{IsStrictWeakOrder}
use Rattle.std.specs.Ordering.{is_lt, nat_cmp, ordering_then}
use Rattle.std.specs.declared.cmp.Ordering.{Ordering}
use Rattle.std.specs.declared.cmp.Ordering.TheVariants.{Less, Equal, Greater}
use Rattle.std.proofs.lemmas.Bool.{and_parts, cases_lt, cases_order, le-ltb, lt-ltb, true≢false}
use Rattle.std.proofs.lemmas.Cmp.{nat_cmp_total, on_total, then_total}
use Rattle.std.proofs.lemmas.List.Sorted.{ranks_by, sorted_far, sum_by-IsPermutation}
use Rattle.cqf_lists.proofs.Pairs.{pairs_weaker}
use Rattle.cqf_lists.proofs.Sums.{sum_at_most_one, sum_two}
use Rattle.cqf_book.proofs.ThreeKeys.{goes_before}
use Rattle.cqf_model.specs.declared.frames.Dropped.{Dropped}
use Rattle.cqf_program_summary.specs.declared.hops.legs.Leg.{Leg}
use Rattle.cqf_program_summary.specs.Hops.Legs.{AreApart, AreByFrame, IsBefore, frame_of, instant_of, link_of}

-- if at most one element passes a test, that is so in any order
pub once_after : {X : Type 0} (p : X → Bool) (xs ys : List X) → AllPairs (λ (a b : X). p a ≡ true → p b ≡ true → ⊥) xs → IsPermutation xs ys →
    (i j : ℕ) (d : X) → i < j → j < length ys → p (get_or ys i d) ≡ true → p (get_or ys j d) ≡ true → ⊥
once_after {X} p xs ys once moved i j d less within first second =
    let counts : X → ℕ = λ x. if p x then 1 else 0 in
    let most : sum_by counts xs ≤ 1 = sum_at_most_one p 1 xs once in
    let same : sum_by counts ys ≡ sum_by counts xs = sum_by-IsPermutation counts xs ys moved in
    let two : counts (get_or ys i d) + counts (get_or ys j d) ≤ sum_by counts ys = sum_two counts ys i j d less within in
    let one : counts (get_or ys i d) ≡ 1 = ap {B = ℕ} (λ (b : Bool). if b then 1 else 0) first in
    let other : counts (get_or ys j d) ≡ 1 = ap {B = ℕ} (λ (b : Bool). if b then 1 else 0) second in
    omega (arith, most, same, two, one, other)

less_cmp : (a b : ℕ) → a < b → nat_cmp a b ≡ Less
less_cmp a b lt = rw (lt-ltb a b lt) refl

same_cmp : (a b : ℕ) → a ≡ b → nat_cmp a b ≡ Equal
same_cmp a b same = rw (le-ltb a b (omega (arith, same)), eq-eqb a b same) refl

abbrev later : Ordering → Ordering → Ordering → Bool
later o p q = is_lt (ordering_then (ordering_then o p) q)

-- a triple that isn't after another is before it, or equals it in all but the last
not_after : (a b c d e f : ℕ) → later (nat_cmp d a) (nat_cmp e b) (nat_cmp f c) ≡ false →
    (a < d) ⊎ ((a ≡ d) × ((b < e) ⊎ ((b ≡ e) × (c ≤ f))))
not_after a b c d e f up = elim (cases_order a d) [
  | inl same ↦ inr (same, second same (cases_order b e))
  | inr other ↦ elim other [
    | inl lt ↦ inl lt
    | inr gt ↦ absurd (true≢false (sym (ap (λ (o : Ordering). later o (nat_cmp e b) (nat_cmp f c)) (less_cmp d a gt)) ∙ up))
  ]
]
  where
    third : a ≡ d → b ≡ e → (f < c) ⊎ (c ≤ f) → c ≤ f
    third same alike (inr le) = le
    third same alike (inl lt) = absurd (true≢false (sym (ap (λ (o : Ordering). later o (nat_cmp e b) (nat_cmp f c)) (same_cmp d a (sym same))
        ∙ ap (λ (o : Ordering). later Equal o (nat_cmp f c)) (same_cmp e b (sym alike))
        ∙ ap (λ (o : Ordering). later Equal Equal o) (less_cmp f c lt)) ∙ up))

    second : a ≡ d → (b ≡ e) ⊎ ((b < e) ⊎ (e < b)) → (b < e) ⊎ ((b ≡ e) × (c ≤ f))
    second same (inl alike) = inr (alike, third same alike (cases_lt f c))
    second same (inr (inl lt)) = inl lt
    second same (inr (inr gt)) = absurd (true≢false (sym (ap (λ (o : Ordering). later o (nat_cmp e b) (nat_cmp f c)) (same_cmp d a (sym same))
        ∙ ap (λ (o : Ordering). later Equal o (nat_cmp f c)) (less_cmp e b gt)) ∙ up))

orders : IsStrictWeakOrder (goes_before frame_of instant_of link_of)
orders = ranks_by (then_total (then_total (on_total frame_of nat_cmp_total) (on_total instant_of nat_cmp_total)) (on_total link_of nat_cmp_total)) (λ x. x)

-- a leg with these three keys
abbrev is_keyed : ℕ → ℕ → ℕ → Leg → Bool
is_keyed frame instant link x = (frame_of x == frame) && ((instant_of x == instant) && (link_of x == link))

keyed : (x y : Leg) → is_keyed (frame_of y) (instant_of y) (link_of y) x ≡ true →
    (frame_of x ≡ frame_of y) × (instant_of x ≡ instant_of y) × (link_of x ≡ link_of y)
keyed x y passes =
    let first = and_parts (frame_of x == frame_of y) ((instant_of x == instant_of y) && (link_of x == link_of y)) passes in
    let second = and_parts (instant_of x == instant_of y) (link_of x == link_of y) first.1 in
    (eqb-true (frame_of x) (frame_of y) first.0, eqb-true (instant_of x) (instant_of y) second.0, eqb-true (link_of x) (link_of y) second.1)

has_keys : (x y : Leg) → frame_of x ≡ frame_of y → instant_of x ≡ instant_of y → link_of x ≡ link_of y →
    is_keyed (frame_of y) (instant_of y) (link_of y) x ≡ true
has_keys x y a b c = rw (eq-eqb (frame_of x) (frame_of y) a, eq-eqb (instant_of x) (instant_of y) b, eq-eqb (link_of x) (link_of y) c) refl

strict_pair : (x y : Leg) → goes_before frame_of instant_of link_of y x ≡ false →
    (frame_of x ≡ frame_of y → instant_of x ≡ instant_of y → link_of x ≡ link_of y → ⊥) → IsBefore x y
strict_pair x y up differ = by (not_after (frame_of x) (instant_of x) (link_of x) (frame_of y) (instant_of y) (link_of y) up)
  where
    last : frame_of x ≡ frame_of y → instant_of x ≡ instant_of y → link_of x ≤ link_of y → (link_of x < link_of y) ⊎ (link_of y ≤ link_of x) →
        link_of x < link_of y
    last a b le (inl lt) = lt
    last a b le (inr ge) = absurd (differ a b (omega (arith, le, ge)))

    by : (frame_of x < frame_of y)
        ⊎ ((frame_of x ≡ frame_of y) × ((instant_of x < instant_of y) ⊎ ((instant_of x ≡ instant_of y) × (link_of x ≤ link_of y)))) → IsBefore x y
    by (inl lt) = inl lt
    by (inr (a, inl lt)) = inr (a, inl lt)
    by (inr (a, inr (b, le))) = inr (a, inr (b, last a b le (cases_lt (link_of x) (link_of y))))

-- no two tie
no_tie : (before after : List Leg) → AllPairs AreApart before → IsPermutation before after → (i j : ℕ) (d : Leg) → i < j → j < length after →
    (x y : Leg) → get_or after i d ≡ x → get_or after j d ≡ y → frame_of x ≡ frame_of y → instant_of x ≡ instant_of y → link_of x ≡ link_of y → ⊥
no_tie before after apart moved i j d less within x y is_x is_y a b c =
    let p : Leg → Bool = is_keyed (frame_of x) (instant_of x) (link_of x) in
    once_after p before after
    (pairs_weaker AreApart (λ (u v : Leg). p u ≡ true → p v ≡ true → ⊥) before
    (λ u v cu cv apart_ones first second.
    let one = keyed u x first in
    let two = keyed v x second in
    apart_ones (one.0 ∙ sym two.0) (one.1 ∙ sym two.1) (one.2 ∙ sym two.2)) apart)
    moved i j d less within (ap p is_x ∙ has_keys x x refl refl refl) (ap p is_y ∙ has_keys y x (sym a) (sym b) (sym c))

pub sorted_strictly : (before after : List Leg) → AllPairs AreApart before → IsPermutation before after →
    IsSortedBy (goes_before frame_of instant_of link_of) after → AllPairs IsBefore after
sorted_strictly before after apart moved sorted i j d less within =
    strict_pair (get_or after i d) (get_or after j d)
    (sorted_far (goes_before frame_of instant_of link_of) orders after sorted i j d (omega (arith, less)) within)
    (no_tie before after apart moved i j d less within (get_or after i d) (get_or after j d) refl refl)

-- drops of different frames, sorted by frame
pub rising : (before after : List Dropped) → AllPairs (λ (a b : Dropped). a.frame ≢ b.frame) before → IsPermutation before after →
    IsNonDecreasingBy (λ (x : Dropped). x.frame) after → AllPairs (λ (a b : Dropped). a.frame < b.frame) after
rising before after differ moved up i j d less within =
    below (get_or after i d).frame (get_or after j d).frame (up i j d (omega (arith, less)) within) (no_twin (get_or after i d) (get_or after j d) refl refl)
  where
    below : (m n : ℕ) → m ≤ n → (m ≡ n → ⊥) → m < n
    below m n le apart = elim (cases_lt m n) [ inl lt ↦ lt | inr ge ↦ absurd (apart (omega (arith, le, ge))) ]

    no_twin : (x y : Dropped) → get_or after i d ≡ x → get_or after j d ≡ y → x.frame ≡ y.frame → ⊥
    no_twin x y is_x is_y same =
        let p : Dropped → Bool = λ z. z.frame == x.frame in
        once_after p before after
        (pairs_weaker (λ (a b : Dropped). a.frame ≢ b.frame) (λ (a b : Dropped). p a ≡ true → p b ≡ true → ⊥) before
        (λ a b ca cb apart first second. apart (eqb-true a.frame x.frame first ∙ sym (eqb-true b.frame x.frame second))) differ)
        moved i j d less within (ap p is_x ∙ eq-eqb x.frame x.frame refl) (ap p is_y ∙ eq-eqb y.frame x.frame (sym same))
