-- When frames are whole at the edge bridge, and the promise that their stream keeps there.
use Rattle.std.proofs.Common.{◌≡◌, ℕ, ◌+◌, ◌-◌, ◌*◌, ◌/◌, ◌<◌, ◌≤◌, List, Some, ap, ◌∙◌, arith, All, Contains, length, refl, slice_get, get_or, option_map}
use Rattle.std.proofs.Common.{mul-le-mul_right}
use Rattle.std.proofs.lemmas.List.Elements.{All-contains}
use Rattle.std.proofs.lemmas.Nat.{le-div}
use Rattle.std.proofs.lemmas.Option.{slice_get-get_or, slice_get-map, slice_get_within}
use Rattle.cqf_lists.proofs.Members.{all_from_members, contains_at, contains_map, index_of_member}
use Rattle.cqf_units.proofs.Cycles.{cycle_from, cycles_ordered}
use Rattle.cqf_units.proofs.Times.{time_grows}
use Rattle.cqf_model.specs.declared.frames.Offer.{Offer}
use Rattle.cqf_laws_timing.specs.Traffic.{Conforms, Traffic}
use Rattle.cqf_access.specs.declared.edge.Delays.{Delays}
use Rattle.cqf_access.specs.Access.{AccessLink, AccessLinkBoundsQueueing, AccessStream, Crossing, IsBound, IsSent, Other, handed, promises_of}
use Rattle.cqf_access.specs.Arriving.{AreArrivals, EdgeConforms, EdgeConformsByClocks, FramesAreWholeWithin, GridIsShifted, GridsAreKept, GridsConform}
use Rattle.cqf_access.specs.Arriving.{IsWholeAt, IsWholeWithin, at_edge, by_clock, edge_offset, longest_wait, spread_of, travel_time}
use Rattle.cqf_access.proofs.Spread.{apart_by, ends}

pub frames_are_whole_within : AccessLinkBoundsQueueing → FramesAreWholeWithin
frames_are_whole_within waits link streams others delays time s x at sent bound c k whole =
    let late = waits link streams others time s x sent bound c k in
    let following = sent.following s x c k in
    record { least = omega (arith, whole.least, following); most = omega (arith, whole.most, late, following) }

-- the transit time of a frame with more octets isn't shorter
pub longer_travel : (link : AccessLink) (delay p q : ℕ) → p ≤ q → travel_time link delay p ≤ travel_time link delay q
longer_travel link delay p q more = omega (arith, time_grows (p + 8) (q + 8) link.octet_time (omega (arith, more)))

-- the longest transit time of one frame exceeds the shortest of another by at most the spread, if their sizes are within the limits
spread_travel : (link : AccessLink) (delays : Delays) (shortest size p q : ℕ) → p ≤ size → shortest ≤ q →
    travel_time link delays.most.0 p ≤ travel_time link delays.least.0 q + spread_of link delays shortest size
spread_travel link delays shortest size p q small large =
    numbers (travel_time link delays.most.0 p) (travel_time link delays.most.0 size) (travel_time link delays.least.0 q) (travel_time link delays.least.0 shortest)
    (longer_travel link delays.most.0 p size small) (longer_travel link delays.least.0 shortest q large)
  where
    numbers : (first most second least : ℕ) → first ≤ most → least ≤ second → first ≤ second + (most - least)
    numbers first most second least a b = omega (arith, a, b)

-- there is an element at each index of a list
pub at_index : {X : Type 0} (xs : List X) (k : ℕ) (d : X) → k < length xs → (x : X) × (slice_get xs k ≡ Some x)
at_index xs k d l = (get_or xs k d, slice_get-get_or xs k d l)

module _ (waits : AccessLinkBoundsQueueing) (link : AccessLink) (streams : List AccessStream) (others : List Other) (delays : Delays) (time shortest : ℕ)
    (s : AccessStream) (sent : IsSent link streams others) (bound : IsBound link (promises_of streams) time) (c : Contains streams s) where
  within : (x : Crossing) (at : ℕ) → Contains s.crossings x → IsWholeAt link delays x at → IsWholeWithin link delays time s.promise x at
  within x at k whole = frames_are_whole_within waits link streams others delays time s x at sent bound c k whole

  no_larger : (x : Crossing) → Contains s.crossings x → x.frame.octets ≤ s.promise.size
  no_larger x k = All-contains (λ (y : Offer). y.octets ≤ s.promise.size) (handed s) x.frame (sent.kept s c).sizes
      (contains_map (λ (y : Crossing). y.frame) s.crossings x k)

  module _ (least : (x : Crossing) → Contains s.crossings x → shortest ≤ x.frame.octets) (sync : ℕ) (arrived : List Offer)
      (are : AreArrivals link delays sync s.crossings arrived) where
    sizes : All (λ (a : Offer). a.octets ≤ s.promise.size) arrived
    sizes = all_from_members (λ (a : Offer). a.octets ≤ s.promise.size) arrived (λ a k.
        let p = index_of_member arrived a k in
        let r = are.each p.0 a p.1 in
        omega (arith, r.octets, no_larger r.crossing (contains_at s.crossings (are.index p.0) r.crossing r.there)))

    -- the frame that is handed over at an index
    handed_at : (k : ℕ) (x : Crossing) → slice_get s.crossings k ≡ Some x → slice_get (handed s) k ≡ Some x.frame
    handed_at k x e = slice_get-map (λ (y : Crossing). y.frame) s.crossings k ∙ ap (option_map (λ (y : Crossing). y.frame)) e

    -- two frames whose hand-overs are `gap` indexes apart, and which are whole within their bounds
    two : (x y : Crossing) (first last i k gap : ℕ) → IsWholeAt link delays x first → IsWholeAt link delays y last → slice_get s.crossings i ≡ Some x →
        slice_get s.crossings k ≡ Some y → i + gap ≤ k →
        first + gap / s.promise.frames * s.promise.interval ≤ last + (at_edge link delays time shortest s.promise).jitter
    two x y first last i k gap one other e f far =
        let kx = contains_at s.crossings i x e in
        let ky = contains_at s.crossings k y f in
        let spaced = (sent.kept s c).spaced i k x.frame y.frame (omega (arith, far)) (handed_at i x e) (handed_at k y f) in
        let more : gap / s.promise.frames ≤ (k - i) / s.promise.frames =
        cycles_ordered s.promise.frames gap (k - i) (sent.promised s c).some_frames (omega (arith, far)) in
        let blocks = mul-le-mul_right s.promise.interval more in
        let travel = spread_travel link delays shortest s.promise.size x.frame.octets y.frame.octets (no_larger x kx) (least y ky) in
        put_together first last x.frame.at.0 y.frame.at.0 (travel_time link delays.most.0 x.frame.octets) (travel_time link delays.least.0 y.frame.octets)
        (longest_wait link time s.promise) (spread_of link delays shortest s.promise.size) s.promise.jitter (gap / s.promise.frames * s.promise.interval)
        ((k - i) / s.promise.frames * s.promise.interval) (within x first kx one).most (within y last ky other).least travel spaced blocks
      where
        put_together : (wx wy rx ry ox oy wait more jitter few all : ℕ) → wx ≤ rx + ox + wait → ry + oy ≤ wy → ox ≤ oy + more → rx + all ≤ ry + jitter →
            few ≤ all → wx + few ≤ wy + (jitter + (wait + more))
        put_together wx wy rx ry ox oy wait more jitter few all a b d e f = omega (arith, a, b, d, e, f)

    spaced : (i k : ℕ) (a b : Offer) → i ≤ k → slice_get arrived i ≡ Some a → slice_get arrived k ≡ Some b →
        a.at.0 + (k - i) / s.promise.frames * s.promise.interval ≤ b.at.0 + (by_clock sync (at_edge link delays time shortest s.promise)).jitter
    spaced i k a b order e f =
        let inside : k < length arrived = slice_get_within arrived k b f in
        let upto : i + (k - i) ≡ k = omega (arith, order) in
        let r = ends are.index i (k - i) in
        let far = apart_by are.index i (k - i) r (λ j l from less last. are.once j l less (omega (arith, last, upto, inside))) in
        let u = at_index arrived r.low a (omega (arith, r.low_upto, upto, inside)) in
        let v = at_index arrived r.high a (omega (arith, r.high_upto, upto, inside)) in
        let x = are.each r.low u.0 u.1 in
        let y = are.each r.high v.0 v.1 in
        let both = two x.crossing y.crossing x.at y.at (are.index r.low) (are.index r.high) (k - i) x.whole y.whole x.there y.there far in
        let first = are.ordered i r.low a u.0 r.low_from e u.1 in
        let last = are.ordered r.high k v.0 b (omega (arith, r.high_upto, upto)) v.1 f in
        omega (arith, both, first, last, x.clocks.no_sooner, y.clocks.no_later)

    conforms : Conforms (by_clock sync (at_edge link delays time shortest s.promise)) arrived
    conforms = record { sizes = sizes; spaced = spaced }

pub edge_conforms_by_clocks : AccessLinkBoundsQueueing → EdgeConformsByClocks
edge_conforms_by_clocks waits link streams others delays time shortest sync s arrived sent bound c least are =
    conforms waits link streams others delays time shortest s sent bound c least sync arrived are

-- a clock that doesn't differ changes no promise
pub one_clock : (t : Traffic) (arrived : List Offer) → Conforms (by_clock 0 t) arrived → Conforms t arrived
one_clock t arrived c = record { sizes = c.sizes; spaced = λ i k a b order e f. omega (arith, c.spaced i k a b order e f) }

pub edge_conforms : AccessLinkBoundsQueueing → EdgeConforms
edge_conforms waits link streams others delays time shortest s arrived sent bound c least are =
    one_clock (at_edge link delays time shortest s.promise) arrived
    (edge_conforms_by_clocks waits link streams others delays time shortest 0 s arrived sent bound c least are)

-- a frame that is handed over in a block's interval is whole in the same interval on the grid of the edge bridge
pub shifted : AccessLinkBoundsQueueing → (link : AccessLink) (streams : List AccessStream) (others : List Other) (delays : Delays)
    (time shortest offset block : ℕ) (s : AccessStream) (x : Crossing) (at : ℕ) → IsSent link streams others →
    IsBound link (promises_of streams) time → Contains streams s → Contains s.crossings x → shortest ≤ x.frame.octets →
    offset + block * s.promise.interval ≤ x.frame.at.0 → x.frame.at.0 ≤ offset + block * s.promise.interval + s.promise.jitter → IsWholeAt link delays x at →
    (edge_offset link delays shortest offset + block * s.promise.interval ≤ at)
    × (at ≤ edge_offset link delays shortest offset + block * s.promise.interval + (at_edge link delays time shortest s.promise).jitter)
shifted waits link streams others delays time shortest offset block s x at sent bound c k least from upto whole =
    let within = frames_are_whole_within waits link streams others delays time s x at sent bound c k whole in
    let size = no_larger waits link streams others delays time shortest s sent bound c x k in
    let up = spread_travel link delays shortest s.promise.size x.frame.octets shortest size (omega arith) in
    let down = longer_travel link delays.least.0 shortest x.frame.octets least in
    (omega (arith, within.least, down, from), omega (arith, within.most, up, upto))

pub grid_is_shifted : AccessLinkBoundsQueueing → GridIsShifted
grid_is_shifted waits link streams others delays time shortest offset s x at sent bound c k least grid whole =
    let edge = shifted waits link streams others delays time shortest offset grid.block s x at sent bound c k least grid.least grid.most whole in
    (record { block = grid.block; least = edge.0; most = edge.1 }, refl)

-- ---- a talker that keeps to a grid

pub grids_conform : GridsConform
grids_conform offset t sent is g = record { sizes = g.sizes; spaced = spaced_by_grid }
  where
    -- the greatest place of those between is far from the least
    spaced_by_grid : (i k : ℕ) (a b : Offer) → i ≤ k → slice_get sent i ≡ Some a → slice_get sent k ≡ Some b →
        a.at.0 + (k - i) / t.frames * t.interval ≤ b.at.0 + t.jitter
    spaced_by_grid i k a b order e f =
        let inside : k < length sent = slice_get_within sent k b f in
        let upto : i + (k - i) ≡ k = omega (arith, order) in
        let r = ends g.index i (k - i) in
        let far = apart_by g.index i (k - i) r (λ j l from less last. g.once j l less (omega (arith, last, upto, inside))) in
        let u = at_index sent r.low a (omega (arith, r.low_upto, upto, inside)) in
        let v = at_index sent r.high a (omega (arith, r.high_upto, upto, inside)) in
        let first = g.ordered i r.low a u.0 r.low_from e u.1 in
        let last = g.ordered r.high k v.0 b (omega (arith, r.high_upto, upto)) v.1 f in
        let blocks : g.index r.low / t.frames + (k - i) / t.frames ≤ g.index r.high / t.frames =
        le-div (g.index r.low / t.frames + (k - i) / t.frames) (g.index r.high) t.frames is.some_frames
        (omega (arith, cycle_from t.frames (g.index r.low), cycle_from t.frames (k - i), far)) in
        let more = mul-le-mul_right t.interval blocks in
        omega (arith, first, last, g.most r.low u.0 u.1, g.least r.high v.0 v.1, more)

pub grids_are_kept : GridsAreKept
grids_are_kept offset t sent a g k =
    let at = index_of_member sent a k in
    record { block = g.index at.0 / t.frames; least = g.least at.0 a at.1; most = g.most at.0 a at.1 }
