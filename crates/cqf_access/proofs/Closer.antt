-- A tighter promise at the edge bridge. Of several consecutive arrivals, the first to start waits for what other streams take, and for
-- those frames of its own stream that start before it. The same number of intervals later, as many frames of its own stream come before the
-- last of the arrivals, one after the other. None of these is shorter than the shortest.
use Rattle.std.proofs.Common.{◌≡◌, ℕ, suc, ◌+◌, ◌-◌, ◌*◌, ◌/◌, ◌<◌, ◌≤◌, ◌⊎◌, List, Some, inl, inr, sym, ap, ◌∙◌, arith, refl}
use Rattle.std.proofs.Common.{Contains, get_or, length, mul-le-mul_right, nat_le, nat_lt, option_map, slice_get, zero-add}
use Rattle.std.proofs.lemmas.Bool.{and_parts, cases_lt, leb-true, ltb-true}
use Rattle.std.proofs.lemmas.Nat.{le-div}
use Rattle.std.proofs.lemmas.Option.{get_or_from_slice_get, slice_get-get_or, slice_get-map, slice_get_within}
use Rattle.cqf_lists.proofs.Members.{contains_at}
use Rattle.cqf_lists.proofs.Ranks.{rank, ranked}
use Rattle.cqf_units.proofs.Cycles.{cycle_from}
use Rattle.cqf_units.proofs.Times.{slot_some, time_grows}
use Rattle.cqf_model.specs.declared.frames.Offer.{Offer}
use Rattle.cqf_laws_timing.specs.Traffic.{SkippingConforms, most_frames}
use Rattle.cqf_access.specs.declared.edge.Delays.{Delays}
use Rattle.cqf_access.specs.Access.{AccessLink, AccessLinkBoundsQueueing, AccessStream, Crossing, IsBound, IsSent, Other, handed, promises_of, taken_of}
use Rattle.cqf_access.specs.Arriving.{AreArrivals, Arrives, spread_of, travel_time}
use Rattle.cqf_access.specs.Closer.{AreInTurn, EdgeConformsCloser, EdgeConformsCloserByClocks, closer_at_edge, closer_wait}
use Rattle.cqf_access.proofs.Arrivals.{at_index, edge_conforms_by_clocks, longer_travel, one_clock}
use Rattle.cqf_access.proofs.Busy.{IsLastIdle, last_idle, over_when_idle, stops_later}
use Rattle.cqf_access.proofs.Chosen.{chosen, too_many}
use Rattle.cqf_access.proofs.Queueing.{IsAfterOwn, frame_is_after_own, no_larger}
use Rattle.cqf_access.proofs.Spread.{Ends, ends}
use Rattle.cqf_access.proofs.Windows.{ahead_in, is_ahead, is_of}

module _ (skips : SkippingConforms) (link : AccessLink) (streams : List AccessStream) (others : List Other) (delays : Delays) (time shortest : ℕ)
    (s : AccessStream) (sent : IsSent link streams others) (active_cycles : AreInTurn link s.crossings) (bound : IsBound link (promises_of streams) time)
    (c : Contains streams s) (least : (x : Crossing) → Contains s.crossings x → shortest ≤ x.frame.octets) (sync : ℕ) (arrived : List Offer)
    (are : AreArrivals link delays sync s.crossings arrived) where
  handed_at : (k : ℕ) (x : Crossing) → slice_get s.crossings k ≡ Some x → slice_get (handed s) k ≡ Some x.frame
  handed_at k x e = slice_get-map (λ (y : Crossing). y.frame) s.crossings k ∙ ap (option_map (λ (y : Crossing). y.frame)) e

  -- arrivals i to i + many are no later than an offer b by the clock there; y is a frame that starts no later than any of them
  module _ (i many : ℕ) (b : Offer) (inside : i + many < length arrived)
      (latest : (j : ℕ) (a : Offer) → j ≤ i + many → slice_get arrived j ≡ Some a → a.at.0 ≤ b.at.0)
      (y : Crossing) (y_there : Contains s.crossings y)
      (first : (j : ℕ) (x : Crossing) → i ≤ j → j ≤ i + many → slice_get s.crossings (are.index j) ≡ Some x → y.start ≤ x.start)
      (y_sooner : y.start + travel_time link delays.least.0 shortest ≤ b.at.0 + sync)
      (last : IsLastIdle link streams y.frame.at.0) where
    -- how many of the stream's frames start before it, since the link was idle
    abbrev ahead : ℕ
    ahead = length (ahead_in last.at time y.start s)

    -- one of the frames that start before it, or of the arrivals
    record IsOne (r p : ℕ) : Type 0 where
      crossing : Crossing
      there : slice_get s.crossings p ≡ Some crossing
      from : last.at ≤ crossing.frame.at.0
      sooner : crossing.start + travel_time link delays.least.0 shortest ≤ b.at.0 + sync
      which : ((crossing.start < y.start) × (rank (is_ahead last.at time y.start) s.crossings p ≡ r))
          ⊎ ((ahead ≤ r) × (y.start ≤ crossing.start) × (p ≡ are.index (i + (r - ahead))))

    one_ahead : (r : ℕ) → r < ahead → (p : ℕ) × IsOne r p
    one_ahead r l =
        let k = ranked (is_ahead last.at time y.start) s.crossings r y l in
        let x = get_or s.crossings k.0 y in
        let t = and_parts (is_of last.at time x.frame.at.0) (nat_lt x.start y.start) k.2 in
        let u = and_parts (nat_le last.at x.frame.at.0) (nat_lt x.frame.at.0 (last.at + time)) t.0 in
        let early = ltb-true x.start y.start t.1 in (
          k.0,
          record {
            crossing = x;
            there = slice_get-get_or s.crossings k.0 y k.1;
            from = leb-true last.at x.frame.at.0 u.0;
            sooner = omega (arith, early, y_sooner);
            which = inl (early, k.3);
          },
        )

    -- a frame that doesn't start earlier was handed over no earlier than when the link was last idle
    from_idle : (x : Crossing) → Contains s.crossings x → y.start ≤ x.start → last.at ≤ x.frame.at.0
    from_idle x k later = elim (cases_lt x.frame.at.0 last.at) [
      | inl before ↦ absurd (omega (
        arith,
        over_when_idle link streams last.at s x last.idle c k before,
        stops_later link streams others sent x,
        later,
        sent.following s y c y_there,
        last.early,
      ))
      | inr e ↦ e
    ]

    one_arrived : (r : ℕ) → ahead ≤ r → r < suc (many + ahead) → (p : ℕ) × IsOne r p
    one_arrived r m l =
        let j : ℕ = i + (r - ahead) in
        let in_row : j ≤ i + many = omega (arith, l, m) in
        let a = at_index arrived j b (omega (arith, in_row, inside)) in
        let x = are.each j a.0 a.1 in
        let k = contains_at s.crossings (are.index j) x.crossing x.there in
        let later = first j x.crossing (omega arith) in_row x.there in
        let travel = longer_travel link delays.least.0 shortest x.crossing.frame.octets (least x.crossing k) in (
          are.index j,
          record {
            crossing = x.crossing;
            there = x.there;
            from = from_idle x.crossing k later;
            sooner = omega (arith, travel, x.whole.least, x.clocks.no_later, latest j a.0 in_row a.1);
            which = inr (m, later, refl);
          },
        )

    one : (r : ℕ) → r < suc (many + ahead) → (p : ℕ) × IsOne r p
    one r l = elim (cases_lt r (ahead)) [
      | inl less ↦ one_ahead r less
      | inr more ↦ one_arrived r more l
    ]

    -- at an index there is one frame
    same_crossing : (x z : Crossing) (p q : ℕ) → p ≡ q → slice_get s.crossings p ≡ Some x → slice_get s.crossings q ≡ Some z → x ≡ z
    same_crossing x z p q e f g =
        sym (get_or_from_slice_get s.crossings p x y f) ∙ ap (λ n. get_or s.crossings n y) e ∙ get_or_from_slice_get s.crossings q z y g

    -- no two of them are the same
    apart : (j k p q : ℕ) → IsOne j p → IsOne k q → j < k → k < suc (many + ahead) → p ≡ q → ⊥
    apart j k p q u v less l e =
        let same = ap (λ (x : Crossing). x.start) (same_crossing u.crossing v.crossing p q e u.there v.there) in
        elim u.which [
          | inl f ↦ elim v.which [
            | inl g ↦ omega (arith, less, f.1, g.1, ap (λ n. rank (is_ahead last.at time y.start) s.crossings n) e)
            | inr g ↦ omega (arith, same, f.0, g.1)
          ]
          | inr f ↦ elim v.which [
            | inl g ↦ omega (arith, same, f.1, g.0)
            | inr g ↦ are.once (i + (j - ahead)) (i + (k - ahead))
                (omega (arith, less, f.0)) (omega (arith, l, inside, g.0)) (sym f.2 ∙ e ∙ g.2)
          ]
        ]

    -- of two frames at different indexes, one starts at least a shortest frame after the other
    after_each : (x z : Crossing) (p q : ℕ) → slice_get s.crossings p ≡ Some x → slice_get s.crossings q ≡ Some z → (p ≡ q → ⊥) →
        (x.start + taken_of link shortest ≤ z.start) ⊎ (z.start + taken_of link shortest ≤ x.start)
    after_each x z p q e f other =
        let long_x = time_grows (shortest + 20) (x.frame.octets + 20) link.octet_time (omega (arith, least x (contains_at s.crossings p x e))) in
        let long_z = time_grows (shortest + 20) (z.frame.octets + 20) link.octet_time (omega (arith, least z (contains_at s.crossings q z f))) in
        elim (cases_lt p q) [
          | inl less ↦ either x.start z.start (taken_of link shortest) (taken_of link x.frame.octets) (taken_of link z.frame.octets) long_x long_z (active_cycles p q x z less e f)
          | inr more ↦ elim (cases_lt q p) [
            | inl less ↦ swapped (either z.start x.start (taken_of link shortest) (taken_of link z.frame.octets) (taken_of link x.frame.octets) long_z long_x (active_cycles q p z x less f e))
            | inr m ↦ absurd (other (omega (arith, more, m)))
          ]
        ]
      where
        either : (first second short long other : ℕ) → short ≤ long → short ≤ other → (first + long ≤ second) ⊎ (second + other ≤ first) →
            (first + short ≤ second) ⊎ (second + short ≤ first)
        either first second short long other a b (inl t) = inl (omega (arith, a, t))
        either first second short long other a b (inr t) = inr (omega (arith, b, t))

        swapped : {A B : Type 0} → A ⊎ B → B ⊎ A
        swapped (inl t) = inr t
        swapped (inr t) = inl t

    -- so there is room for no more of them than there are intervals and frames ahead
    crowd : (blocks : ℕ) → 0 < s.promise.frames → many ≡ blocks * s.promise.frames →
        ((x h : Crossing) → last.at ≤ h.frame.at.0 → x.start + travel_time link delays.least.0 shortest ≤ b.at.0 + sync →
        x.start < (h.frame.at.0 + blocks * s.promise.interval - s.promise.jitter)
        + ahead * taken_of link shortest) → ⊥
    crowd blocks fills long early =
        too_many low.0 many ahead from room at.0 start (slot_some shortest link.octet_time sent.takes_time) lowest later sooner
        (λ j k less l e. apart j k (at.0 j) (at.0 k) (at.1 j (omega (arith, less, l))) (at.1 k l) less l e) turned
      where
        room : ℕ
        room = taken_of link shortest

        at : (f : ℕ → ℕ) × ((r : ℕ) → r < suc (many + ahead) → IsOne r (f r))
        at = chosen (suc (many + ahead)) IsOne one

        start : ℕ → ℕ
        start r = (get_or s.crossings (at.0 r) y).start

        start_is : (r : ℕ) (l : r < suc (many + ahead)) → start r ≡ (at.1 r l).crossing.start
        start_is r l = ap (λ (x : Crossing). x.start) (get_or_from_slice_get s.crossings (at.0 r) (at.1 r l).crossing y (at.1 r l).there)

        low : (p : ℕ) × ((r : ℕ) → r < suc (many + ahead) → p ≤ at.0 r) × ((q : ℕ) × IsOne q p)
        low =
            let e = ends at.0 0 (many + ahead) in
            (at.0 e.low, (λ r l. omega (arith, e.least r (omega (arith, l)), ap at.0 (zero-add r))), (e.low, at.1 e.low (omega (arith, e.low_upto))))

        h : Crossing
        h = low.2.1.crossing

        from : ℕ
        from = h.frame.at.0 + blocks * s.promise.interval - s.promise.jitter

        lowest : (r : ℕ) → r < suc (many + ahead) → low.0 ≤ at.0 r
        lowest = low.1

        later : (r : ℕ) → r < suc (many + ahead) → low.0 + many ≤ at.0 r → from ≤ start r
        later r l far =
            let x = (at.1 r l).crossing in
            let spaced = (sent.kept s c).spaced low.0 (at.0 r) h.frame x.frame (low.1 r l) (handed_at low.0 h low.2.1.there) (handed_at (at.0 r) x (at.1 r l).there) in
            let more : blocks ≤ (at.0 r - low.0) / s.promise.frames = le-div blocks (at.0 r - low.0) s.promise.frames fills (omega (arith, far, long)) in
            let blocks_more = mul-le-mul_right s.promise.interval more in
            let following = sent.following s x c (contains_at s.crossings (at.0 r) x (at.1 r l).there) in
            omega (arith, spaced, blocks_more, following, start_is r l)

        sooner : (r : ℕ) → r < suc (many + ahead) → start r < from + ahead * room
        sooner r l = omega (arith, early (at.1 r l).crossing h low.2.1.from (at.1 r l).sooner, start_is r l)

        turned : (j k : ℕ) → j < k → k < suc (many + ahead) →
            (start j + room ≤ start k) ⊎ (start k + room ≤ start j)
        turned j k less l =
            let m : j < suc (many + ahead) = omega (arith, less, l) in
            elim (after_each (at.1 j m).crossing (at.1 k l).crossing (at.0 j) (at.0 k) (at.1 j m).there (at.1 k l).there
            (apart j k (at.0 j) (at.0 k) (at.1 j m) (at.1 k l) less l)) [
              | inl t ↦ inl (omega (arith, t, start_is j m, start_is k l))
              | inr t ↦ inr (omega (arith, t, start_is j m, start_is k l))
            ]

  spaced : (i k : ℕ) (a b : Offer) → i ≤ k → slice_get arrived i ≡ Some a → slice_get arrived k ≡ Some b →
      a.at.0 + (k - i) / s.promise.frames * s.promise.interval
      ≤ b.at.0 + (s.promise.jitter + (closer_wait link time shortest s.promise + spread_of link delays shortest s.promise.size) + 2 * sync)
  spaced i k a b order e f = elim (cases_lt (b.at.0 + jitter) (a.at.0 + blocks * s.promise.interval)) [
    | inl late ↦ absurd (crowd i many b (omega (arith, inside, in_row)) latest y y_there first y_sooner last blocks
        (sent.promised s c).some_frames refl (early late))
    | inr fits ↦ fits
  ]
    where
      jitter : ℕ
      jitter = s.promise.jitter + (closer_wait link time shortest s.promise + spread_of link delays shortest s.promise.size) + 2 * sync

      blocks : ℕ
      blocks = (k - i) / s.promise.frames

      many : ℕ
      many = blocks * s.promise.frames

      inside : k < length arrived
      inside = slice_get_within arrived k b f

      in_row : i + many ≤ k
      in_row = omega (arith, cycle_from s.promise.frames (k - i), order)

      latest : (j : ℕ) (x : Offer) → j ≤ i + many → slice_get arrived j ≡ Some x → x.at.0 ≤ b.at.0
      latest j x upto g = are.ordered j k x b (omega (arith, upto, in_row)) g f

      d : Crossing
      d = (are.each i a e).crossing

      r : Ends (λ j. (get_or s.crossings (are.index j) d).start) i many
      r = ends (λ j. (get_or s.crossings (are.index j) d).start) i many

      u : (x : Offer) × (slice_get arrived r.low ≡ Some x)
      u = at_index arrived r.low a (omega (arith, r.low_upto, in_row, inside))

      arrives : Arrives link delays sync s.crossings (are.index r.low) u.0
      arrives = are.each r.low u.0 u.1

      y : Crossing
      y = arrives.crossing

      y_there : Contains s.crossings y
      y_there = contains_at s.crossings (are.index r.low) y arrives.there

      first : (j : ℕ) (x : Crossing) → i ≤ j → j ≤ i + many → slice_get s.crossings (are.index j) ≡ Some x → y.start ≤ x.start
      first j x from upto g =
          let n : ℕ = j - i in
          let at : i + n ≡ j = omega (arith, from) in
          let x_is = ap (λ (z : Crossing). z.start) (get_or_from_slice_get s.crossings (are.index j) x d g) in
          let y_is = ap (λ (z : Crossing). z.start) (get_or_from_slice_get s.crossings (are.index r.low) y d arrives.there) in
          omega (arith, r.least n (omega (arith, at, upto)), ap (λ l. (get_or s.crossings (are.index l) d).start) at, x_is, y_is)

      y_sooner : y.start + travel_time link delays.least.0 shortest ≤ b.at.0 + sync
      y_sooner =
          let travel = longer_travel link delays.least.0 shortest y.frame.octets (least y y_there) in
          omega (arith, travel, arrives.whole.least, arrives.clocks.no_later, latest r.low u.0 r.low_upto u.1)

      last : IsLastIdle link streams y.frame.at.0
      last = last_idle link streams y.frame.at.0

      own : IsAfterOwn link time last.at s y
      own = frame_is_after_own skips link streams others time s y sent bound c y_there last

      y_late : a.at.0 ≤ y.start + travel_time link delays.most.0 s.promise.size + sync
      y_late =
          let travel = longer_travel link delays.most.0 y.frame.octets s.promise.size (no_larger skips link streams others sent s y c y_there) in
          omega (arith, travel, arrives.whole.most, arrives.clocks.no_sooner, are.ordered i r.low a u.0 r.low_from e u.1)

      numbers : (a b y x h at blocks jitter sync time ahead most size short longest least : ℕ) → short ≤ size → ahead + 1 ≤ most →
          y + most * size ≤ at + time + ahead * size → a ≤ y + longest + sync →
          b + (jitter + (time - size - (most - 1) * short + (longest - least)) + 2 * sync) < a + blocks → at ≤ h → x + least ≤ b + sync →
          x < (h + blocks - jitter) + ahead * short
      numbers a b y x h at blocks jitter sync time ahead most size short longest least shorter few starts y_late late from sooner =
          let rest : ℕ = most - 1 - ahead in
          let parts : most ≡ ahead + 1 + rest = omega (arith, few) in
          let taken : most * size ≡ ahead * size + size + rest * size = omega (arith, ap (λ n. n * size) parts) in
          let fewer : most - 1 ≡ ahead + rest = omega (arith, few) in
          let own : (most - 1) * short ≡ ahead * short + rest * short = omega (arith, ap (λ n. n * short) fewer) in
          let more : rest * short ≤ rest * size = omega (arith, mul-le-mul_right rest shorter) in
          omega (arith, taken, own, more, starts, y_late, late, from, sooner)

      early : b.at.0 + jitter < a.at.0 + blocks * s.promise.interval → (x h : Crossing) → last.at ≤ h.frame.at.0 →
          x.start + travel_time link delays.least.0 shortest ≤ b.at.0 + sync →
          x.start < (h.frame.at.0 + blocks * s.promise.interval - s.promise.jitter) + length (ahead_in last.at time y.start s) * taken_of link shortest
      early late x h from sooner =
          numbers a.at.0 b.at.0 y.start x.start h.frame.at.0 last.at (blocks * s.promise.interval) s.promise.jitter sync time
          (length (ahead_in last.at time y.start s)) (most_frames time s.promise) (taken_of link s.promise.size) (taken_of link shortest)
          (travel_time link delays.most.0 s.promise.size) (travel_time link delays.least.0 shortest) shorter own.few own.starts y_late late from sooner
        where
          shorter : taken_of link shortest ≤ taken_of link s.promise.size
          shorter = time_grows (shortest + 20) (s.promise.size + 20) link.octet_time
              (omega (arith, least y y_there, no_larger skips link streams others sent s y c y_there))

pub edge_conforms_closer_by_clocks : SkippingConforms → AccessLinkBoundsQueueing → EdgeConformsCloserByClocks
edge_conforms_closer_by_clocks skips waits link streams others delays time shortest sync s arrived sent active_cycles bound c least are = record {
  sizes = (edge_conforms_by_clocks waits link streams others delays time shortest sync s arrived sent bound c least are).sizes;
  spaced = spaced skips link streams others delays time shortest s sent active_cycles bound c least sync arrived are;
}

pub edge_conforms_closer : SkippingConforms → AccessLinkBoundsQueueing → EdgeConformsCloser
edge_conforms_closer skips waits link streams others delays time shortest s arrived sent active_cycles bound c least are =
    one_clock (closer_at_edge link delays time shortest s.promise) arrived
    (edge_conforms_closer_by_clocks skips waits link streams others delays time shortest 0 s arrived sent active_cycles bound c least are)
