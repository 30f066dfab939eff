-- How many frames a talker hands over within a time, and for how many instants of a span a frame is under way.
use Rattle.std.proofs.Common.{◌≡◌, ℕ, zero, suc, ◌+◌, ◌-◌, ◌*◌, ◌/◌, ◌<◌, ◌≤◌, ◌∷◌, [], ◌&&◌, List, Bool, true, false, Some, inl, inr, refl, sym, ap, ◌∙◌, subst}
use Rattle.std.proofs.Common.{arith, filter, length, get_or, Contains, slice_get, sum_by, nat_le, nat_lt, mul-le-mul_right, if◌then◌else◌, zero-add}
use Rattle.std.proofs.lemmas.Bool.{and_parts, cases_Bool, cond-false, cond-true, leb-true, ltb-true, lt-ltb, le-leb}
use Rattle.std.proofs.lemmas.List.{length-map}
use Rattle.std.proofs.lemmas.List.Sums.{sum_by-cons}
use Rattle.std.proofs.lemmas.Nat.{le-div}
use Rattle.std.proofs.lemmas.Option.{slice_get-get_or}
use Rattle.cqf_lists.specs.Lists.{each_below}
use Rattle.cqf_lists.proofs.Filters.{filter-map, filter_weaker}
use Rattle.cqf_lists.proofs.Members.{contains_at, contains_cases, contains_from_filter, contains_here, contains_later, contains_none}
use Rattle.cqf_lists.proofs.Sums.{sum_below, sum_filter, sum_le_members}
use Rattle.cqf_units.proofs.Cycles.{cycle_upto}
use Rattle.cqf_model.specs.declared.frames.Offer.{Offer}
use Rattle.cqf_laws_timing.specs.Traffic.{Conforms, IsTraffic, SkippingConforms, Traffic, most_frames}
use Rattle.cqf_access.specs.Access.{AccessStream, Crossing, handed}

-- ---- sums in which one term has more room

pub gained : {X : Type 0} (f h : X → ℕ) (g : ℕ) (xs : List X) (x : X) → ((y : X) → Contains xs y → f y ≤ h y) → Contains xs x → f x + g ≤ h x →
    sum_by f xs + g ≤ sum_by h xs
gained f h g [] x each k l = absurd (contains_none x k)
gained {X} f h g (y ∷ ys) x each k l = elim (contains_cases y ys x k) [
  | inl e ↦
      let here : f y + g ≤ h y = subst (λ (z : X). f z + g ≤ h z) (sym e) l in
      let rest = sum_le_members f h ys (λ z c. each z (contains_later y ys z c)) in
      omega (arith, sum_by-cons f y ys, sum_by-cons h y ys, here, rest)
  | inr m ↦
      let r = gained f h g ys x (λ z c. each z (contains_later y ys z c)) m l in
      omega (arith, sum_by-cons f y ys, sum_by-cons h y ys, r, each y (contains_here y ys))
]

-- ---- frames of a window

-- the indexes of two frames that come within n ns differ by less than the number of frames of the intervals that n ns can touch
few_between : (n jitter interval frames apart first last a : ℕ) → 0 < interval → 0 < frames → a ≤ first → last < a + n →
    first + apart / frames * interval ≤ last + jitter → apart < (n + jitter + interval - 1) / interval * frames
few_between n jitter interval frames apart first last a takes fills one two spaced =
    let q = apart / frames in
    let few : q + 1 ≤ (n + jitter + interval - 1) / interval =
    le-div (q + 1) (n + jitter + interval - 1) interval takes (omega (arith, one, two, spaced)) in
    omega (arith, cycle_upto frames apart fills, mul-le-mul_right frames few)

-- so there are at most that many frames within n ns
few_of_window : (a n : ℕ) (t : Traffic) (ys : List Offer) → IsTraffic t → Conforms t ys → ((y : Offer) → Contains ys y → (a ≤ y.at.0) × (y.at.0 < a + n)) →
    length ys ≤ most_frames n t
few_of_window a n t [] is c inside = omega arith
few_of_window a n t (x ∷ xs) is c inside =
    let last = get_or (x ∷ xs) (length xs) x in
    let there : slice_get (x ∷ xs) (length xs) ≡ Some last = slice_get-get_or (x ∷ xs) (length xs) x (omega arith) in
    let spaced = c.spaced 0 (length xs) x last (omega arith) refl there in
    let few = few_between n t.jitter t.interval t.frames (length xs - 0) x.at.0 last.at.0 a is.some_interval is.some_frames
    (inside x (contains_here x xs)).0 (inside last (contains_at (x ∷ xs) (length xs) last there)).1 spaced in
    omega (arith, few)

-- an instant is of the window
abbrev pub is_of : ℕ → ℕ → ℕ → Bool
is_of a n at = nat_le a at && nat_lt at (a + n)

-- the frames of a stream that are handed over in the window
abbrev pub handed_in : ℕ → ℕ → AccessStream → List Crossing
handed_in a n s = filter (λ (x : Crossing). is_of a n x.frame.at.0) s.crossings

-- of these, those that start before an instant
abbrev pub is_ahead : ℕ → ℕ → ℕ → Crossing → Bool
is_ahead a n start x = is_of a n x.frame.at.0 && nat_lt x.start start

abbrev pub ahead_in : ℕ → ℕ → ℕ → AccessStream → List Crossing
ahead_in a n start s = filter (is_ahead a n start) s.crossings

pub ahead_handed : (a n start : ℕ) (s : AccessStream) → ahead_in a n start s ≡ filter (is_ahead a n start) (handed_in a n s)
ahead_handed a n start s = filter_weaker (is_ahead a n start) (λ (x : Crossing). is_of a n x.frame.at.0) s.crossings
    (λ x k t. (and_parts (is_of a n x.frame.at.0) (nat_lt x.start start) t).0)

-- a filter that omits an element keeps fewer
fewer : {X : Type 0} (p : X → Bool) (xs : List X) (x : X) → Contains xs x → p x ≡ false → length (filter p xs) + 1 ≤ length xs
fewer {X} p xs x k out =
    let counts = gained (λ (y : X). if p y then 1 else 0) (λ (y : X). 1) 1 xs x (λ y c. at_most_one (p y)) k
    (omega (arith, cond-false {A = ℕ} (p x) 1 0 out)) in
    omega (arith, counts, sum_filter (λ (y : X). 1) p xs, ones_of (filter p xs), ones_of xs)
  where
    at_most_one : (b : Bool) → (if b then 1 else 0) ≤ 1
    at_most_one true = omega arith
    at_most_one false = omega arith

    ones_of : (ys : List X) → sum_by (λ (y : X). 1) ys ≡ length ys
    ones_of [] = refl
    ones_of (y ∷ ys) = omega (arith, sum_by-cons (λ (z : X). 1) y ys, ones_of ys)

-- so fewer frames start before one of them
pub ahead_few : (a n : ℕ) (s : AccessStream) (x : Crossing) → Contains (handed_in a n s) x → length (ahead_in a n x.start s) + 1 ≤ length (handed_in a n s)
ahead_few a n s x k =
    let less = fewer (is_ahead a n x.start) (handed_in a n s) x k (not_itself (is_of a n x.frame.at.0)) in
    omega (arith, less, ap length (ahead_handed a n x.start s))
  where
    not_itself : (b : Bool) → (b && nat_lt x.start x.start) ≡ false
    not_itself b = elim (cases_Bool (b && nat_lt x.start x.start)) [
      | inl t ↦ absurd (omega (arith, ltb-true x.start x.start (and_parts b (nat_lt x.start x.start) t).1))
      | inr f ↦ f
    ]

pub few_handed : SkippingConforms → (a n : ℕ) (s : AccessStream) → IsTraffic s.promise → Conforms s.promise (handed s) →
    length (handed_in a n s) ≤ most_frames n s.promise
few_handed skips a n s is c =
    let here = λ (y : Offer). is_of a n y.at.0 in
    let few = few_of_window a n s.promise (filter here (handed s)) is (skips s.promise (handed s) here is c)
    (λ y k. let p = and_parts (nat_le a y.at.0) (nat_lt y.at.0 (a + n)) (contains_from_filter here (handed s) y k).1 in
    (leb-true a y.at.0 p.0, ltb-true y.at.0 (a + n) p.1)) in
    let long : length (filter here (handed s)) ≡ length (handed_in a n s) =
    ap length (filter-map (λ (x : Crossing). x.frame) here s.crossings) ∙ length-map (handed_in a n s) (λ (x : Crossing). x.frame) in
    omega (arith, few, long)

-- ---- instants of a span

-- the numbers of instants, from 0
abbrev pub ups : ℕ → List ℕ
ups n = each_below (λ k. k ∷ []) n

-- whether something with this start and stop is under way, as a number
abbrev pub on : ℕ → ℕ → ℕ → ℕ
on start stop at = if nat_le start at && nat_lt at stop then 1 else 0

-- at how many of the n instants from a on it is under way
abbrev pub seen : ℕ → ℕ → ℕ → ℕ → ℕ
seen a n start stop = sum_by (λ k. on start stop (a + k)) (ups n)

-- at most as many as there are up to the span's end, and at most as many as it takes
pub seen_few : (a n start stop : ℕ) → (seen a n start stop ≤ a + n - start) × (seen a n start stop ≤ stop - start)
seen_few a zero start stop = (omega arith, omega arith)
seen_few a (suc n) start stop =
    let f : ℕ → ℕ = λ k. on start stop (a + k) in
    let r = seen_few a n start stop in
    let test = nat_le start (a + n) && nat_lt (a + n) stop in
    let more : seen a (suc n) start stop ≡ seen a n start stop + sum_by f (n ∷ []) = sum_below f (λ k. k ∷ []) n in
    let one : sum_by f (n ∷ []) ≡ f n = zero-add (f n) in
    elim (cases_Bool test) [
      | inl t ↦
          let p = and_parts (nat_le start (a + n)) (nat_lt (a + n) stop) t in
          let is : f n ≡ 1 = cond-true {A = ℕ} test 1 0 t in
          let from = leb-true start (a + n) p.0 in
          let upto = ltb-true (a + n) stop p.1 in
          (omega (arith, r.0, more, one, is, from, upto), omega (arith, r.0, more, one, is, from, upto))
      | inr u ↦
          let is : f n ≡ 0 = cond-false {A = ℕ} test 1 0 u in
          (omega (arith, r.0, more, one, is), omega (arith, r.1, more, one, is))
    ]

-- whether an instant is at or after a given one, as a number
abbrev pub past : ℕ → ℕ → ℕ
past m k = if nat_lt k m then 0 else 1

pub past_many : (m n : ℕ) → n ≤ m + sum_by (past m) (ups n)
past_many m zero = omega arith
past_many m (suc n) =
    let more : sum_by (past m) (ups (suc n)) ≡ sum_by (past m) (ups n) + sum_by (past m) (n ∷ []) = sum_below (past m) (λ k. k ∷ []) n in
    let one : sum_by (past m) (n ∷ []) ≡ past m n = zero-add (past m n) in
    let r = past_many m n in
    elim (cases_Bool (nat_lt n m)) [
      | inl t ↦ omega (arith, ltb-true n m t)
      | inr u ↦ let is : past m n ≡ 1 = cond-false {A = ℕ} (nat_lt n m) 0 1 u in omega (arith, r, more, one, is)
    ]

-- an instant counts at most once, and so does one at which something is under way
pub past_few : (m k : ℕ) → past m k ≤ 1
past_few m k = elim (cases_Bool (nat_lt k m)) [
  | inl t ↦ omega (arith, cond-true {A = ℕ} (nat_lt k m) 0 1 t)
  | inr f ↦ omega (arith, cond-false {A = ℕ} (nat_lt k m) 0 1 f)
]

pub on_one : (start stop at : ℕ) → start ≤ at → at < stop → on start stop at ≡ 1
on_one start stop at from upto =
    cond-true {A = ℕ} (nat_le start at && nat_lt at stop) 1 0 (ap (λ (b : Bool). b && nat_lt at stop) (le-leb start at from) ∙ lt-ltb at stop upto)
