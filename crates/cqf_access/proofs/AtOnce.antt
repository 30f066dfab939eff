-- A link on which all frames of an interval are handed over at once, just after a frame of no stream has started. It sends stream by
-- stream.
use Rattle.std.proofs.Common.{◌≡◌, ℕ, ◌+◌, ◌-◌, ◌*◌, ◌/◌, ◌<◌, ◌≤◌, ◌++◌, ◌∷◌, [], List, Option, Some, None, inl, inr, refl, sym, ap, ◌∙◌, subst, arith}
use Rattle.std.proofs.Common.{Contains, length, mul-le-mul_right, sum_by, zero-add}
use Rattle.std.proofs.lemmas.Bool.{cases_lt}
use Rattle.std.proofs.lemmas.List.{length-map}
use Rattle.std.proofs.lemmas.List.Elements.{Contains-append_right}
use Rattle.std.proofs.lemmas.List.Sums.{sum_by-append, sum_by-cons}
use Rattle.std.proofs.lemmas.Option.{slice_get_within}
use Rattle.cqf_lists.specs.Lists.{each_below}
use Rattle.cqf_lists.proofs.EachBelow.{contains_below, contains_from_below, length-singles}
use Rattle.cqf_lists.proofs.Members.{all_from_members, contains_at, contains_cases, contains_from_map, contains_here, contains_later, contains_none, contains_one}
use Rattle.cqf_lists.proofs.Sums.{sum_le_members}
use Rattle.cqf_units.proofs.Cycles.{cycle_below, cycle_from, cycle_is, cycle_upto}
use Rattle.cqf_units.proofs.Times.{slot_some}
use Rattle.cqf_model.specs.declared.frames.Offer.{Offer}
use Rattle.cqf_laws_timing.specs.Traffic.{Conforms, IsTraffic, Traffic}
use Rattle.cqf_access.specs.Access.{AccessLink, AccessStream, Crossing, IsBound, IsSent, Other, OtherIsUnderWay, StreamIsUnderWay, demand, handed}
use Rattle.cqf_access.specs.Access.{promises_of, taken_beside, taken_by_other, taken_of, taken_within}
use Rattle.cqf_access.specs.Bounding.{IsLeastBound}
use Rattle.cqf_access.specs.Reached.{IsWithinInterval, LeastBoundIsReached}

-- a largest frame, handed over at once
abbrev frame_of : Traffic → Offer
frame_of t = record { at = record { 0 = 0 }; bridge = 0; stream = []; octets = t.size }

-- the frames of a stream, sent one after the other from an instant on
abbrev crossing_of : AccessLink → ℕ → Traffic → ℕ → Crossing
crossing_of link from t k = record { frame = frame_of t; start = from + k * taken_of link t.size }

abbrev one_laid : AccessLink → ℕ → Traffic → AccessStream
one_laid link from t = record { promise = t; crossings = each_below (λ k. crossing_of link from t k ∷ []) t.frames }

-- the time that they take
abbrev all_of : AccessLink → Traffic → ℕ
all_of link t = t.frames * taken_of link t.size

abbrev total : AccessLink → List Traffic → ℕ
total link ts = sum_by (λ (t : Traffic). all_of link t) ts

-- the streams, one after the other
abbrev laid : AccessLink → ℕ → List Traffic → List AccessStream
laid link from [] = []
laid link from (t ∷ ts) = one_laid link from t ∷ laid link (from + all_of link t) ts

laid_promises : (link : AccessLink) (from : ℕ) (ts : List Traffic) → promises_of (laid link from ts) ≡ ts
laid_promises link from [] = refl
laid_promises link from (t ∷ ts) = ap (λ (us : List Traffic). t ∷ us) (laid_promises link (from + all_of link t) ts)

-- one of the streams
record IsLaid (link : AccessLink) (from : ℕ) (ts : List Traffic) (s : AccessStream) : Type 0 where
  index : ℕ
  is : s ≡ one_laid link index s.promise
  from_then : from ≤ index
  upto_then : index + all_of link s.promise ≤ from + total link ts
  member : Contains ts s.promise

is_laid : (link : AccessLink) (from : ℕ) (ts : List Traffic) (s : AccessStream) → Contains (laid link from ts) s → IsLaid link from ts s
is_laid link from [] s c = absurd (contains_none s c)
is_laid link from (t ∷ ts) s c = elim (contains_cases (one_laid link from t) (laid link (from + all_of link t) ts) s c) [
  | inl e ↦ subst (λ (r : AccessStream). IsLaid link from (t ∷ ts) r) e here
  | inr m ↦ later (is_laid link (from + all_of link t) ts s m)
]
  where
    sum : total link (t ∷ ts) ≡ all_of link t + total link ts
    sum = sum_by-cons (λ (u : Traffic). all_of link u) t ts

    here : IsLaid link from (t ∷ ts) (one_laid link from t)
    here = record { index = from; is = refl; from_then = omega arith; upto_then = omega (arith, sum); member = contains_here t ts }

    later : IsLaid link (from + all_of link t) ts s → IsLaid link from (t ∷ ts) s
    later r = record {
      index = r.index;
      is = r.is;
      from_then = omega (arith, r.from_then);
      upto_then = omega (arith, sum, r.upto_then);
      member = contains_later t ts s.promise r.member;
    }

-- the last stream is one of them
last_laid : (link : AccessLink) (from : ℕ) (before : List Traffic) (t : Traffic) →
    Contains (laid link from (before ++ t ∷ [])) (one_laid link (from + total link before) t)
last_laid link from [] t = subst (λ n. Contains (laid link from (t ∷ [])) (one_laid link n t)) (omega arith) (contains_here (one_laid link from t) [])
last_laid link from (u ∷ before) t =
    let sum : total link (u ∷ before) ≡ all_of link u + total link before = sum_by-cons (λ (v : Traffic). all_of link v) u before in
    let next : from + all_of link u + total link before ≡ from + total link (u ∷ before) = omega (arith, sum) in
    contains_later (one_laid link from u) (laid link (from + all_of link u) (before ++ t ∷ [])) (one_laid link (from + total link (u ∷ before)) t)
    (subst (λ n. Contains (laid link (from + all_of link u) (before ++ t ∷ [])) (one_laid link n t)) next (last_laid link (from + all_of link u) before t))

-- a frame of such a stream
record IsOfLaid (link : AccessLink) (from : ℕ) (t : Traffic) (x : Crossing) : Type 0 where
  index : ℕ
  few : index < t.frames
  frame : x.frame ≡ frame_of t
  start : x.start ≡ from + index * taken_of link t.size

of_laid : (link : AccessLink) (from : ℕ) (t : Traffic) (x : Crossing) → Contains (one_laid link from t).crossings x → IsOfLaid link from t x
of_laid link from t x c =
    let w = contains_from_below (λ k. crossing_of link from t k ∷ []) t.frames x c in
    let e : crossing_of link from t w.0 ≡ x = contains_one (crossing_of link from t w.0) x w.2 in
    record { index = w.0; few = w.1; frame = ap (λ (y : Crossing). y.frame) (sym e); start = ap (λ (y : Crossing). y.start) (sym e) }

-- its talker keeps its promise
one_conforms : (link : AccessLink) (from : ℕ) (t : Traffic) → Conforms t (handed (one_laid link from t))
one_conforms link from t = record {
  sizes = all_from_members (λ (a : Offer). a.octets ≤ t.size) frames (λ a c. omega (arith, ap (λ (b : Offer). b.octets) (is_frame a c)));
  spaced = λ i k a b order e f. near i k a b order (contains_at frames i a e) (slice_get_within frames k b f);
}
  where
    frames : List Offer
    frames = handed (one_laid link from t)

    is_frame : (a : Offer) → Contains frames a → a ≡ frame_of t
    is_frame a c =
        let w = contains_from_map (λ (x : Crossing). x.frame) (one_laid link from t).crossings a c in sym w.2 ∙ (of_laid link from t w.0 w.1).frame

    long : length frames ≡ t.frames
    long = length-map (one_laid link from t).crossings (λ (x : Crossing). x.frame) ∙ length-singles (λ k. crossing_of link from t k) t.frames

    near : (i k : ℕ) (a b : Offer) → i ≤ k → Contains frames a → k < length frames → a.at.0 + (k - i) / t.frames * t.interval ≤ b.at.0 + t.jitter
    near i k a b order c inside =
        let none : (k - i) / t.frames ≡ 0 = cycle_is t.frames 0 (k - i) (omega arith) (omega (arith, inside, long)) in
        let zero_long : (k - i) / t.frames * t.interval ≡ 0 * t.interval = ap (λ n. n * t.interval) none in
        let at_once : a.at.0 ≡ 0 = ap (λ (x : Offer). x.at.0) (is_frame a c) in
        omega (arith, zero_long, at_once)

-- from the first stream's beginning on a frame is under way until all are sent
covered : (link : AccessLink) (from : ℕ) (ts : List Traffic) (at : ℕ) → 0 < link.octet_time → from ≤ at → at < from + total link ts →
    StreamIsUnderWay link (laid link from ts) at
covered link from [] at some early late = absurd (omega (arith, early, late))
covered link from (t ∷ ts) at some early late = elim (cases_lt at (from + all_of link t)) [
  | inl before ↦ here before
  | inr following ↦ widened (covered link (from + all_of link t) ts at some following (omega (arith, late, sum_by-cons (λ (u : Traffic). all_of link u) t ts)))
]
  where
    here : at < from + all_of link t → StreamIsUnderWay link (laid link from (t ∷ ts)) at
    here before =
        let c = taken_of link t.size in
        let takes : 0 < c = slot_some t.size link.octet_time some in
        let k = (at - from) / c in
        let less : k < t.frames = cycle_below c (at - from) t.frames (omega (arith, before, early)) in
        let x = crossing_of link from t k in
        record {
          stream = one_laid link from t;
          crossing = x;
          is_stream = contains_here (one_laid link from t) (laid link (from + all_of link t) ts);
          is_crossing = contains_below (λ j. crossing_of link from t j ∷ []) t.frames k x less (contains_here x []);
          under_way = (omega (arith, cycle_from c (at - from), early), omega (arith, cycle_upto c (at - from) takes, early));
        }

    widened : StreamIsUnderWay link (laid link (from + all_of link t) ts) at → StreamIsUnderWay link (laid link from (t ∷ ts)) at
    widened r = record {
      stream = r.stream;
      crossing = r.crossing;
      is_stream = contains_later (one_laid link from t) (laid link (from + all_of link t) ts) r.stream r.is_stream;
      is_crossing = r.is_crossing;
      under_way = r.under_way;
    }

-- the frame of no stream, if there may be one
abbrev others_of : Option ℕ → List Other
others_of None = []
others_of (Some octets) = record { start = 0; octets = octets } ∷ []

other_is : (link : AccessLink) (other : Option ℕ) (o : Other) → Contains (others_of other) o → (o.start ≡ 0) × (taken_of link o.octets ≡ taken_beside link other)
other_is link None o c = absurd (contains_none o c)
other_is link (Some octets) o c =
    let e : record { start = 0; octets = octets } ≡ o = contains_one (record { start = 0; octets = octets }) o c in
    (ap (λ (p : Other). p.start) (sym e), ap (λ (p : Other). taken_of link p.octets) (sym e))

other_first : (link : AccessLink) (other : Option ℕ) (at : ℕ) → at < taken_beside link other → OtherIsUnderWay link (others_of other) at
other_first link None at early = absurd (omega (arith, early))
other_first link (Some octets) at early = record {
  one = record { start = 0; octets = octets };
  is_one = contains_here (record { start = 0; octets = octets }) [];
  under_way = (omega arith, omega (arith, early));
}

module _ (link : AccessLink) (ts : List Traffic) (some : 0 < link.octet_time) (are : (t : Traffic) → Contains ts t → IsTraffic t) where
  -- the link sends as required
  abbrev streams : List AccessStream
  streams = laid link (taken_by_other link) ts

  frame_is : (s : AccessStream) (x : Crossing) → Contains streams s → Contains s.crossings x →
      (x.frame.at.0 ≡ 0) × (taken_by_other link ≤ x.start) × (x.start ≤ taken_by_other link + total link ts)
  frame_is s x c k =
      let r = is_laid link (taken_by_other link) ts s c in
      let f = of_laid link r.index s.promise x (subst (λ (q : AccessStream). Contains q.crossings x) r.is k) in
      let less : f.index * taken_of link s.promise.size ≤ all_of link s.promise = mul-le-mul_right (taken_of link s.promise.size) (omega (arith, f.few)) in (
        ap (λ (a : Offer). a.at.0) f.frame,
        omega (arith, f.start, r.from_then),
        omega (arith, f.start, less, r.upto_then),
      )

  sends : IsSent link streams (others_of link.other)
  sends = record {
    takes_time = some;
    promised = λ s c. are s.promise (is_laid link (taken_by_other link) ts s c).member;
    kept = λ s c.
        let r = is_laid link (taken_by_other link) ts s c in
        subst (λ (q : AccessStream). Conforms s.promise (handed q)) (sym r.is) (one_conforms link r.index s.promise);
    following = λ s x c k. omega (arith, (frame_is s x c k).0);
    works = λ s x at c k early before. elim (cases_lt at (taken_by_other link)) [
      | inl first ↦ inr (other_first link link.other at first)
      | inr later ↦ inl (covered link (taken_by_other link) ts at some later (omega (arith, before, (frame_is s x c k).2)))
    ];
    small = λ o c. omega (arith, (other_is link link.other o c).1);
    apart = λ s x o c k d. inl (omega (arith, (other_is link link.other o d).0, (other_is link link.other o d).1, (frame_is s x c k).1));
    yields = λ s x o c k d later. absurd (omega (arith, later, (other_is link link.other o d).0));
  }

-- ---- the least bound is exactly this long

-- a stream has one interval within a short time
one_interval : (link : AccessLink) (time : ℕ) (t : Traffic) → 0 < time → IsWithinInterval time t → taken_within link time t ≡ all_of link t
one_interval link time t positive is =
    let one : (time + t.jitter + t.interval - 1) / t.interval ≡ 1 =
    cycle_is t.interval 1 (time + t.jitter + t.interval - 1) (omega (arith, positive)) (omega (arith, is.short, is.is_traffic.some_interval)) in
    ap (λ n. n * t.frames * taken_of link t.size) one ∙ ap (λ n. n * taken_of link t.size) (omega arith)

demand_short : (link : AccessLink) (ts : List Traffic) (time : ℕ) → 0 < time → ((t : Traffic) → Contains ts t → IsWithinInterval time t) →
    demand link ts time ≡ taken_by_other link + total link ts
demand_short link ts time positive short =
    let same : (t : Traffic) → Contains ts t → taken_within link time t ≡ all_of link t = λ t c. one_interval link time t positive (short t c) in
    let few = sum_le_members (λ (t : Traffic). taken_within link time t) (λ (t : Traffic). all_of link t) ts (λ t c. omega (arith, same t c)) in
    let many = sum_le_members (λ (t : Traffic). all_of link t) (λ (t : Traffic). taken_within link time t) ts (λ t c. omega (arith, same t c)) in
    omega (arith, few, many)

shorter : (few many : ℕ) (t : Traffic) → few ≤ many → IsWithinInterval many t → IsWithinInterval few t
shorter few many t less is = record { is_traffic = is.is_traffic; short = omega (arith, less, is.short) }

is_total : (link : AccessLink) (ts : List Traffic) (time : ℕ) → 0 < total link ts → ((t : Traffic) → Contains ts t → IsWithinInterval time t) →
    IsLeastBound link ts time → time ≡ taken_by_other link + total link ts
is_total link ts time positive short bound =
    let all : ℕ = taken_by_other link + total link ts in
    let some : 0 < all = omega (arith, positive) in
    let within : all ≤ time = omega (arith, demand_short link ts time bound.bound.positive short, bound.bound.enough) in
    let enough = demand_short link ts all some (λ t c. shorter all time t within (short t c)) in
    let is : IsBound link ts all = record { positive = some; enough = omega (arith, enough) } in
    omega (arith, within, bound.least all is)

pub least_bound_is_reached : LeastBoundIsReached
least_bound_is_reached link before t time some short bound = record {
  streams = streams link ts some are;
  others = others_of link.other;
  sent = sends link ts some are;
  promised = laid_promises link (taken_by_other link) ts;
  stream = one_laid link from t;
  crossing = last;
  is_stream = last_laid link (taken_by_other link) before t;
  is_promise = refl;
  is_crossing = contains_below (λ k. crossing_of link from t k ∷ []) t.frames (t.frames - 1) last (omega (arith, is.some_frames)) (contains_here last []);
  late = omega (arith, long, sum, last_one);
}
  where
    ts : List Traffic
    ts = before ++ t ∷ []

    are : (u : Traffic) → Contains ts u → IsTraffic u
    are u c = (short u c).is_traffic

    is : IsTraffic t
    is = are t (Contains-append_right before (t ∷ []) t (contains_here t []))

    from : ℕ
    from = taken_by_other link + total link before

    last : Crossing
    last = crossing_of link from t (t.frames - 1)

    sum : total link ts ≡ total link before + all_of link t
    sum = sum_by-append (λ (u : Traffic). all_of link u) before (t ∷ []) ∙ ap (λ n. total link before + n) (zero-add (all_of link t))

    -- the last frame and those before it
    last_one : (t.frames - 1) * taken_of link t.size + taken_of link t.size ≡ all_of link t
    last_one = let n : t.frames - 1 + 1 ≡ t.frames = omega (arith, is.some_frames) in omega (arith, ap (λ k. k * taken_of link t.size) n)

    positive : 0 < total link ts
    positive = omega (arith, sum, last_one, slot_some t.size link.octet_time some)

    long : time ≡ taken_by_other link + total link ts
    long = is_total link ts time positive short bound
