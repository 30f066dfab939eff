-- Some of the frames of a conforming talker conform too, and so a cycle holds no more than is needed.
use Rattle.std.proofs.Common.{◌≡◌, ℕ, zero, suc, ◌+◌, ◌-◌, ◌*◌, ◌/◌, ◌<◌, ◌≤◌, ◌∷◌, [], List, Bool, Some}
use Rattle.std.proofs.Common.{inl, inr, refl, sym, ap, ◌∙◌, arith, filter, length, get_or}
use Rattle.std.proofs.Common.{Contains, slice_get, sum_by, eq-eqb, eqb-true, ◌==◌, mul-le-mul_right, zero-add}
use Rattle.std.proofs.lemmas.Bool.{cases_Bool, cond-false, cond-true}
use Rattle.std.proofs.lemmas.List.Elements.{All-contains, All-filter}
use Rattle.std.proofs.lemmas.List.Sums.{sum_by-le}
use Rattle.std.proofs.lemmas.Nat.{le-div}
use Rattle.std.proofs.lemmas.Option.{get_or_from_slice_get, slice_get-get_or, slice_get_within}
use Rattle.cqf_lists.proofs.Members.{all_from_members, contains_at, contains_from_filter, contains_here, contains_one}
use Rattle.cqf_lists.proofs.EachBelow.{contains_from_below, filter_each, get_or-singles, length-singles}
use Rattle.cqf_lists.proofs.Sums.{sum_below}
use Rattle.cqf_lists.specs.Lists.{each_below}
use Rattle.cqf_units.specs.Timing.{counted_of, cycle_at}
use Rattle.cqf_units.proofs.Cycles.{cycle_below, cycle_from, cycle_is, cycle_upto, cycles_ordered}
use Rattle.cqf_model.specs.declared.frames.Offer.{Offer}
use Rattle.cqf_laws_timing.specs.Traffic.{BlocksConform, Conforms, ConformingOffersFitACycle, FillsACycle, IsTraffic}
use Rattle.cqf_laws_timing.specs.Traffic.{NeededIsReached, SkippingConforms, Traffic, intervals_in, most_frames, sent_in}

-- ---- what a filter keeps

-- an element that a filter keeps was at no lower index before
kept_at : {X : Type 0} (p : X → Bool) (xs : List X) (k : ℕ) (b : X) → slice_get (filter p xs) k ≡ Some b → (l : ℕ) × (k ≤ l) × (slice_get xs l ≡ Some b)
kept_at p [] k b e = absurd cc
kept_at p (x ∷ xs) zero b e = elim (cases_Bool (p x)) [
  | inl t ↦ (0, omega arith, ap (λ ys. slice_get ys 0) (sym (cond-true (p x) (x ∷ filter p xs) (filter p xs) t)) ∙ e)
  | inr f ↦
      let r = kept_at p xs zero b (ap (λ ys. slice_get ys 0) (sym (cond-false (p x) (x ∷ filter p xs) (filter p xs) f)) ∙ e) in
      (suc r.0, omega arith, r.2)
]
kept_at p (x ∷ xs) (suc k) b e = elim (cases_Bool (p x)) [
  | inl t ↦
      let r = kept_at p xs k b (ap (λ ys. slice_get ys (suc k)) (sym (cond-true (p x) (x ∷ filter p xs) (filter p xs) t)) ∙ e) in
      (suc r.0, omega (arith, r.1), r.2)
  | inr f ↦
      let r = kept_at p xs (suc k) b (ap (λ ys. slice_get ys (suc k)) (sym (cond-false (p x) (x ∷ filter p xs) (filter p xs) f)) ∙ e) in
      (suc r.0, omega (arith, r.1), r.2)
]

-- two elements are in a list in order, at least this many positions apart
record StandApart {X : Type 0} (xs : List X) (a b : X) (gap : ℕ) : Type 0 where
  pub early : ℕ
  pub late : ℕ
  pub ordered : early ≤ late
  pub far : gap ≤ late - early
  pub first : slice_get xs early ≡ Some a
  pub second : slice_get xs late ≡ Some b

-- the same with one more element before them
after_one : {X : Type 0} (x : X) (xs : List X) (a b : X) (gap : ℕ) → StandApart xs a b gap → StandApart (x ∷ xs) a b gap
after_one x xs a b gap r = record {
  early = suc r.early;
  late = suc r.late;
  ordered = omega (arith, r.ordered);
  far = omega (arith, r.far);
  first = r.first;
  second = r.second;
}

-- two elements that a filter keeps were at least as far apart before
kept_apart : {X : Type 0} (p : X → Bool) (xs : List X) (i k : ℕ) (a b : X) → i ≤ k → slice_get (filter p xs) i ≡ Some a →
    slice_get (filter p xs) k ≡ Some b → StandApart xs a b (k - i)
kept_apart p [] i k a b order e f = absurd cc
kept_apart p (x ∷ xs) zero k a b order e f = elim (cases_Bool (p x)) [
  | inl t ↦
      let r = kept_at p (x ∷ xs) k b f in
      record {
        early = 0;
        late = r.0;
        ordered = omega arith;
        far = omega (arith, r.1);
        first = ap (λ ys. slice_get ys 0) (sym (cond-true (p x) (x ∷ filter p xs) (filter p xs) t)) ∙ e;
        second = r.2;
      }
  | inr u ↦
      let same = sym (cond-false (p x) (x ∷ filter p xs) (filter p xs) u) in
      after_one x xs a b (k - zero) (kept_apart p xs zero k a b order (ap (λ ys. slice_get ys 0) same ∙ e) (ap (λ ys. slice_get ys k) same ∙ f))
]
kept_apart p (x ∷ xs) (suc i) zero a b order e f = absurd (omega (arith, order))
kept_apart p (x ∷ xs) (suc i) (suc k) a b order e f = elim (cases_Bool (p x)) [
  | inl t ↦
      let same = sym (cond-true (p x) (x ∷ filter p xs) (filter p xs) t) in
      let r = kept_apart p xs i k a b (omega (arith, order)) (ap (λ ys. slice_get ys (suc i)) same ∙ e) (ap (λ ys. slice_get ys (suc k)) same ∙ f) in
      record {
        early = suc r.early;
        late = suc r.late;
        ordered = omega (arith, r.ordered);
        far = omega (arith, r.far);
        first = r.first;
        second = r.second;
      }
  | inr u ↦
      let same = sym (cond-false (p x) (x ∷ filter p xs) (filter p xs) u) in
      after_one x xs a b (suc k - suc i)
      (kept_apart p xs (suc i) (suc k) a b order (ap (λ ys. slice_get ys (suc i)) same ∙ e) (ap (λ ys. slice_get ys (suc k)) same ∙ f))
]

-- so what it keeps conforms
pub skipping_conforms : SkippingConforms
skipping_conforms t sent keeps is c = record {
  sizes = All-filter keeps (λ (x : Offer). x.octets ≤ t.size) sent c.sizes;
  spaced = spaced;
}
  where
    -- the kept frames come no sooner
    spaced : (i k : ℕ) (a b : Offer) → i ≤ k → slice_get (filter keeps sent) i ≡ Some a → slice_get (filter keeps sent) k ≡ Some b →
        a.at.0 + (k - i) / t.frames * t.interval ≤ b.at.0 + t.jitter
    spaced i k a b order e f =
        let r = kept_apart keeps sent i k a b order e f in
        let fewer = cycles_ordered t.frames (k - i) (r.late - r.early) is.some_frames r.far in
        omega (arith, c.spaced r.early r.late a b r.ordered r.first r.second, mul-le-mul_right t.interval fewer)

-- ---- blocks

-- a distance of k - i frames spans at most the blocks between
fills : (f i k : ℕ) → 0 < f → i ≤ k → (k - i) / f ≤ k / f - i / f
fills f i k some order = omega (arith, le-div ((k - i) / f + i / f) k f some (omega (arith, cycle_from f (k - i), cycle_from f i, order)))

pub blocks_conform : BlocksConform
blocks_conform t sent is c = record {
  sizes = c.sizes;
  spaced = λ i k a b order e f. omega (arith, c.spaced i k a b order e f, mul-le-mul_right t.interval (fills t.frames i k is.some_frames order));
}

-- ---- a cycle

-- frames that come in one cycle, this many positions apart, are less than the cycle's most frames apart
few_between : (n jitter interval frames apart first last cycle : ℕ) → 0 < n → 0 < interval → 0 < frames → first / n ≡ cycle → last / n ≡ cycle →
    first + apart / frames * interval ≤ last + jitter → apart < (n + jitter + interval - 1) / interval * frames
few_between n jitter interval frames apart first last cycle some takes fills one two spaced =
    let from = cycle_from n first in
    let upto = cycle_upto n last some in
    let a = ap (λ c. c * n) one in
    let b = ap (λ c. c * n) two in
    let q = apart / frames in
    let few : q + 1 ≤ (n + jitter + interval - 1) / interval =
    le-div (q + 1) (n + jitter + interval - 1) interval takes (omega (arith, from, upto, a, b, spaced)) in
    omega (arith, cycle_upto frames apart fills, mul-le-mul_right frames few)

-- so no more frames come in one cycle than it can hold
few_of_one : (n : ℕ) (t : Traffic) (cycle : ℕ) (ys : List Offer) → 0 < n → IsTraffic t → Conforms t ys →
    ((y : Offer) → Contains ys y → cycle_at n y.at.0 ≡ cycle) → length ys ≤ most_frames n t
few_of_one n t cycle [] some is c inside = omega arith
few_of_one n t cycle (x ∷ xs) some is c inside =
    let last = get_or (x ∷ xs) (length xs) x in
    let there : slice_get (x ∷ xs) (length xs) ≡ Some last = slice_get-get_or (x ∷ xs) (length xs) x (omega arith) in
    let spaced = c.spaced 0 (length xs) x last (omega arith) refl there in
    let few = few_between n t.jitter t.interval t.frames (length xs - 0) x.at.0 last.at.0 cycle some is.some_interval is.some_frames
    (inside x (contains_here x xs)) (inside last (contains_at (x ∷ xs) (length xs) last there)) spaced in
    omega (arith, few)

pub conforming_offers_fit_a_cycle : ConformingOffersFitACycle
conforming_offers_fit_a_cycle overhead n t sent cycle some is c =
    let here = λ (x : Offer). cycle_at n x.at.0 == cycle in
    let part = skipping_conforms t sent here is c in
    let few = few_of_one n t cycle (sent_in n cycle sent) some is part
    (λ y k. eqb-true (cycle_at n y.at.0) cycle (contains_from_filter here sent y k).1) in
    let counts = λ (x : Offer). counted_of overhead x.octets in
    let sizes = all_from_members (λ (x : Offer). counts x ≤ counted_of overhead t.size) (sent_in n cycle sent)
    (λ x k. let size = All-contains (λ (y : Offer). y.octets ≤ t.size) (sent_in n cycle sent) x part.sizes k in omega (arith, size)) in
    let within = sum_by-le counts (counted_of overhead t.size) (sent_in n cycle sent) sizes in
    record { frames = few; octets = omega (arith, within, mul-le-mul_right (counted_of overhead t.size) few) }

-- ---- a full cycle

module _ (overhead n : ℕ) (t : Traffic) (cycle bridge : ℕ) (name : List ℕ) (some : 0 < n) (is : IsTraffic t) where
  -- blocks of largest frames, each as early as the jitter allows, but not before the cycle begins
  full_at : ℕ → ℕ
  full_at k = cycle * n + (k / t.frames * t.interval - t.jitter)

  full : ℕ → Offer
  full k = record { at = record { 0 = full_at k }; bridge = bridge; stream = name; octets = t.size }

  abbrev all : List Offer
  all = each_below (λ k. full k ∷ []) (most_frames n t)

  -- each frame of the list is one of them
  full_there : (k : ℕ) (a : Offer) → slice_get all k ≡ Some a → (k < most_frames n t) × (a ≡ full k)
  full_there k a e =
      let less : k < most_frames n t = omega (arith, slice_get_within all k a e, length-singles full (most_frames n t)) in
      (less, sym (get_or_from_slice_get all k a a e) ∙ get_or-singles full (most_frames n t) k a less)

  -- each member is one of them
  full_member : (a : Offer) → Contains all a → (k : ℕ) × (k < most_frames n t) × (a ≡ full k)
  full_member a c =
      let w = contains_from_below (λ k. full k ∷ []) (most_frames n t) a c in
      (w.0, w.1, sym (contains_one (full w.0) a w.2))

  -- they come in the cycle
  in_cycle : (k : ℕ) → k < most_frames n t → cycle_at n (full k).at.0 ≡ cycle
  unfolding full full_at
  in_cycle k less = cycle_is n cycle (cycle * n + (k / t.frames * t.interval - t.jitter)) (omega arith)
      (early (k / t.frames) (intervals_in n t) (cycle_below t.frames k (intervals_in n t) less) (cycle_from t.interval (n + t.jitter + t.interval - 1)))
    where
      -- the last of the intervals is early enough
      early : (b m : ℕ) → b < m → m * t.interval ≤ n + t.jitter + t.interval - 1 → cycle * n + (b * t.interval - t.jitter) < cycle * n + n
      early b m l within = let more : b + 1 ≤ m = omega (arith, l) in omega (arith, mul-le-mul_right t.interval more, within, is.some_interval, some)

  -- they are spaced far enough
  full_spaced : (i k : ℕ) → i ≤ k → full_at i + (k / t.frames - i / t.frames) * t.interval ≤ full_at k + t.jitter
  unfolding full_at
  full_spaced i k order =
      let blocks = cycles_ordered t.frames i k is.some_frames order in
      let parts : k / t.frames ≡ (k / t.frames - i / t.frames) + i / t.frames = omega (arith, blocks) in
      omega (arith, ap (λ b. b * t.interval) parts)

  -- each has the largest size
  of_size : (m : ℕ) → sum_by (λ (x : Offer). counted_of overhead x.octets) (each_below (λ k. full k ∷ []) m) ≡ m * counted_of overhead t.size
  unfolding full
  of_size zero = omega arith
  of_size (suc m) = omega (arith, sum_below (λ (x : Offer). counted_of overhead x.octets) (λ k. full k ∷ []) m, of_size m, one)
    where
      -- with one more frame
      one : sum_by (λ (x : Offer). counted_of overhead x.octets) (full m ∷ []) ≡ counted_of overhead t.size
      one = zero-add (counted_of overhead t.size)

  pub full_cycle : FillsACycle overhead n t cycle bridge name
  unfolding full
  full_cycle = record {
    sent = all;
    by_name = all_from_members (λ (x : Offer). (x.stream ≡ name) × (x.bridge ≡ bridge)) all
        (λ a c. let w = full_member a c in (ap (λ (x : Offer). x.stream) w.2, ap (λ (x : Offer). x.bridge) w.2));
    conforms = record {
      sizes = all_from_members (λ (x : Offer). x.octets ≤ t.size) all
          (λ a c. let w = full_member a c in omega (arith, ap (λ (x : Offer). x.octets) w.2));
      spaced = λ i k a b order e f.
          omega (
            arith,
            full_spaced i k order,
            ap (λ (x : Offer). x.at.0) (full_there i a e).1,
            ap (λ (x : Offer). x.at.0) (full_there k b f).1,
          );
    };
    fills =
        ap (sum_by (λ (x : Offer). counted_of overhead x.octets)) (filter_each (λ (x : Offer). cycle_at n x.at.0 == cycle) all
        (λ a c. let w = full_member a c in
        eq-eqb (cycle_at n a.at.0) cycle (ap (λ (x : Offer). cycle_at n x.at.0) w.2 ∙ in_cycle w.0 w.1)))
        ∙ of_size (most_frames n t);
  }

pub needed_is_reached : NeededIsReached
needed_is_reached overhead n t cycle bridge name some is = full_cycle overhead n t cycle bridge name some is
