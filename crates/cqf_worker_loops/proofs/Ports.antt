-- Ports through which segments go, by link.
use Rattle.std.proofs.Common.{◌≡◌, ◌∙◌, ℕ, zero, suc, ◌<◌, Bool, true, false, List, [], ◌∷◌, ◌++◌, Some, None, Option, All, AllPairs, Contains}
use Rattle.std.proofs.Common.{length, map, set, option_map, refl, sym, ap, subst, arith, inl, inr, append-nil, eq-eqb, ne_eqb}
use Rattle.std.specs.Prelude.{◌==◌, ◌⊎◌, if◌then◌else◌, slice_get}
use Rattle.std.proofs.lemmas.Bool.{cond-false, cond-true}
use Rattle.std.proofs.lemmas.Grind.{flat_map-append}
use Rattle.std.proofs.lemmas.List.{length-map}
use Rattle.std.proofs.lemmas.List.Kept.{AllPairs-filter}
use Rattle.std.proofs.lemmas.Option.{same_Some, slice_get-map}
use Rattle.cqf_lists.proofs.Members.{contains_at, contains_cases, contains_later, contains_none, index_of_member}
use Rattle.cqf_lists.proofs.Numbers.{numbers_ascend}
use Rattle.cqf_lists.proofs.Pairs.{one_of_pairs, pairs_from_map, pairs_head, pairs_tail}
use Rattle.cqf_model.specs.Domain.{Domain, enters, leaves}
use Rattle.cqf_relay.specs.declared.log.ArrivedFrame.{ArrivedFrame}
use Rattle.cqf_relay.specs.declared.moving.Segment.{Segment}
use Rattle.cqf_relay.specs.Segments.{AreNextSegments, IsNextSegment, all_frames, end_of_segments, frames_of}
use Rattle.cqf_agenda.specs.Links.{links_from, links_into}
use Rattle.cqf_relay.specs.Standing.{is_onward}
use Rattle.cqf_worker_loops.specs.declared.carried.Carried.{Carried}
use Rattle.cqf_worker_loops.specs.declared.carried.Carried.TheVariants.{Item}
use Rattle.cqf_worker_loops.specs.Rows.{wire_at, wires_of, with_item_at}
use Rattle.cqf_worker_loops.specs.Workers.{IsUnused, SegmentPort, item_in, items_in, link_of, links_onward, segments_at, segments_in}

-- ---- lists from which two functions make the same

-- a member is made of some member of the other list
pub made_of_some : {Y Z : Type 0} (g : Y → Z) (o : Option Y) (z : Z) → option_map g o ≡ Some z → (y : Y) × (o ≡ Some y) × (g y ≡ z)
made_of_some g None z is = cc
made_of_some g (Some y) z is = (y, refl, same_Some (g y) z is)

-- the elements of two such lists at an index
pub record IsPartner {X Y Z : Type 0} (f : X → Z) (g : Y → Z) (ys : List Y) (k : ℕ) (x : X) : Type 0 where
  pub other : Y
  pub there : slice_get ys k ≡ Some other
  pub alike : g other ≡ f x

-- if the same list is made of two lists, each element of the one has its counterpart in the other
pub partner : {X Y Z : Type 0} (f : X → Z) (g : Y → Z) (xs : List X) (ys : List Y) (k : ℕ) (x : X) → map f xs ≡ map g ys → slice_get xs k ≡ Some x →
    IsPartner f g ys k x
partner {X} {Y} {Z} f g xs ys k x same there =
    let made : option_map g (slice_get ys k) ≡ Some (f x) =
    sym (slice_get-map g ys k) ∙ ap (λ (zs : List Z). slice_get zs k) (sym same) ∙ slice_get-map f xs k ∙ ap (option_map f) there in
    let some = made_of_some g (slice_get ys k) (f x) made in
    record { other = some.0; there = some.1; alike = some.2 }

-- the elements at one index of both are made alike
pub alike_at : {X Y Z : Type 0} (f : X → Z) (g : Y → Z) (xs : List X) (ys : List Y) (k : ℕ) (x : X) (y : Y) → map f xs ≡ map g ys →
    slice_get xs k ≡ Some x → slice_get ys k ≡ Some y → f x ≡ g y
alike_at f g xs ys k x y same here there =
    let p = partner f g xs ys k x same here in
    sym (ap g (same_Some y p.other (sym there ∙ p.there)) ∙ p.alike)

-- both have the same length
pub as_long : {X Y Z : Type 0} (f : X → Z) (g : Y → Z) (xs : List X) (ys : List Y) → map f xs ≡ map g ys → length xs ≡ length ys
as_long f g xs ys same = sym (length-map xs f) ∙ ap length same ∙ length-map ys g

-- a member of a list with one element replaced is the new element, or was a member before
pub member_of_set : {X : Type 0} (xs : List X) (k : ℕ) (y x : X) → Contains (set xs k y) x → (x ≡ y) ⊎ Contains xs x
member_of_set {X} xs k y x held =
    let at = index_of_member (set xs k y) x held in
    stands xs k at.0 at.1
  where
    -- the element at an index is the new one, or was there before
    stands : (xs : List X) (k j : ℕ) → slice_get (set xs k y) j ≡ Some x → (x ≡ y) ⊎ Contains xs x
    stands [] k j is = inr (contains_at [] j x is)
    stands (z ∷ xs) zero zero is = inl (sym (same_Some y x is))
    stands (z ∷ xs) zero (suc j) is = inr (contains_at (z ∷ xs) (suc j) x is)
    stands (z ∷ xs) (suc k) zero is = inr (contains_at (z ∷ xs) 0 x is)
    stands (z ∷ xs) (suc k) (suc j) is = elim (stands xs k j is) [
      | inl same ↦ inl same
      | inr held ↦ inr (contains_later z xs x held)
    ]

-- ---- links, each once

-- the numbers of the links that end in a bridge, that leave it, and that end in another bridge ascend
pub into_ascends : (d : Domain) (bridge : ℕ) → AllPairs (λ (a b : ℕ). a < b) (links_into d bridge)
into_ascends d bridge = numbers_ascend (λ l. enters d l bridge) (length d.links)

pub from_ascends : (d : Domain) (bridge : ℕ) → AllPairs (λ (a b : ℕ). a < b) (links_from d bridge)
from_ascends d bridge = numbers_ascend (λ l. leaves d l bridge) (length d.links)

pub onward_ascends : (d : Domain) (bridge : ℕ) → AllPairs (λ (a b : ℕ). a < b) (links_onward d bridge)
onward_ascends d bridge = AllPairs-filter (λ (a b : ℕ). a < b) (is_onward d) (links_from d bridge) (from_ascends d bridge)

module _ {X : Type 0} (key : X → ℕ) where
  -- elements with distinct keys
  abbrev pub Ascend : List X → Type 0
  Ascend xs = AllPairs (λ (a b : X). key a < key b) xs

  -- if the keys ascend, so do the elements
  pub ascend_by : (xs : List X) (keys : List ℕ) → map key xs ≡ keys → AllPairs (λ (a b : ℕ). a < b) keys → Ascend xs
  ascend_by xs keys same up = pairs_from_map (λ (a b : ℕ). a < b) key xs (subst (AllPairs (λ (a b : ℕ). a < b)) (sym same) up)

  -- there is one element of each key
  pub one_of_key : (xs : List X) (x y : X) → Ascend xs → Contains xs x → Contains xs y → key x ≡ key y → x ≡ y
  one_of_key xs x y up here there same =
      one_of_pairs (λ (a b : X). key a < key b) xs x y up here there (λ l. omega (arith, l, same)) (λ l. omega (arith, l, same))

-- ---- segments that went through ports

-- the items of a pipe with one more
pub items_in_more : {T : Type 0} (carried : List (Carried T)) (x : T) → items_in (carried ++ Item x ∷ []) ≡ items_in carried ++ x ∷ []
items_in_more carried x = flat_map-append item_in carried (Item x ∷ [])

-- if each port is of another link, what went through a port went through the port of its link
pub segments_at_port : (ports : List SegmentPort) (port : SegmentPort) → Ascend link_of ports → Contains ports port → segments_at ports port.link ≡ segments_in port
segments_at_port [] port up held = absurd (contains_none port held)
segments_at_port (p ∷ ports) port up held = elim (contains_cases p ports port held) [
  | inl same ↦
      cond-true (p.link == port.link) (segments_in p) (segments_at ports port.link) (eq-eqb p.link port.link (ap link_of same)) ∙ ap segments_in same
  | inr rest ↦
      let less : p.link < port.link = pairs_head (λ (a b : SegmentPort). a.link < b.link) p ports port up rest in
      cond-false (p.link == port.link) (segments_in p) (segments_at ports port.link) (ne_eqb p.link port.link (λ same. omega (arith, same, less)))
      ∙ segments_at_port ports port (pairs_tail (λ (a b : SegmentPort). a.link < b.link) p ports up) rest
]

-- one more segment at the port of a link is one more at that link
pub segments_at_own : (ports : List SegmentPort) (k : ℕ) (port : SegmentPort) (segment : Segment) → Ascend link_of ports → slice_get ports k ≡ Some port →
    segments_at (set ports k (with_item_at port (Item segment))) port.link ≡ segments_at ports port.link ++ segment ∷ []
segments_at_own [] k port segment up there = absurd (contains_none port (contains_at [] k port there))
segments_at_own (p ∷ ports) zero port segment up there =
    let same : p ≡ port = same_Some p port there in
    cond-true (port.link == port.link) (items_in (port.pipe.items ++ Item segment ∷ [])) (segments_at ports port.link) (eq-eqb port.link port.link refl)
    ∙ items_in_more port.pipe.items segment
    ∙ sym (ap (λ (segments : List Segment). segments ++ segment ∷ [])
    (cond-true (p.link == port.link) (segments_in p) (segments_at ports port.link) (eq-eqb p.link port.link (ap link_of same)) ∙ ap segments_in same))
segments_at_own (p ∷ ports) (suc k) port segment up there =
    let less : p.link < port.link = pairs_head (λ (a b : SegmentPort). a.link < b.link) p ports port up (contains_at ports k port there) in
    let apart : (p.link == port.link) ≡ false = ne_eqb p.link port.link (λ same. omega (arith, same, less)) in
    cond-false (p.link == port.link) (segments_in p) (segments_at (set ports k (with_item_at port (Item segment))) port.link) apart
    ∙ segments_at_own ports k port segment (pairs_tail (λ (a b : SegmentPort). a.link < b.link) p ports up) there
    ∙ sym (ap (λ (segments : List Segment). segments ++ segment ∷ []) (cond-false (p.link == port.link) (segments_in p) (segments_at ports port.link) apart))

-- and changes nothing at other links
pub segments_at_other : (ports : List SegmentPort) (k : ℕ) (port : SegmentPort) (segment : Segment) (l : ℕ) → slice_get ports k ≡ Some port → (port.link ≡ l → ⊥) →
    segments_at (set ports k (with_item_at port (Item segment))) l ≡ segments_at ports l
segments_at_other [] k port segment l there apart = refl
segments_at_other (p ∷ ports) zero port segment l there apart =
    let same : p ≡ port = same_Some p port there in
    cond-false (port.link == l) (items_in (port.pipe.items ++ Item segment ∷ [])) (segments_at ports l) (ne_eqb port.link l apart)
    ∙ sym (cond-false (p.link == l) (segments_in p) (segments_at ports l) (ne_eqb p.link l (λ e. apart (sym (ap link_of same) ∙ e))))
segments_at_other (p ∷ ports) (suc k) port segment l there apart =
    ap (λ (segments : List Segment). if p.link == l then segments_in p else segments) (segments_at_other ports k port segment l there apart)

-- no segments went through unused ports
pub none_at : (ports : List SegmentPort) (l : ℕ) → All IsUnused ports → segments_at ports l ≡ []
none_at [] l unused = refl
none_at (p ∷ ports) l unused = none (p.link == l) (none_at ports l (λ k d inside. unused (suc k) d (omega (arith, inside))))
  where
    -- neither at this port nor at the others
    none : (b : Bool) → segments_at ports l ≡ [] → (if b then segments_in p else segments_at ports l) ≡ []
    none true rest = ap items_in (unused 0 p (omega arith))
    none false rest = rest

-- ---- consecutive segments

-- one more that may come next
pub next_more : (begin : ℕ) (segments : List Segment) (segment : Segment) → AreNextSegments begin segments → IsNextSegment (end_of_segments begin segments) segment →
    AreNextSegments begin (segments ++ segment ∷ [])
next_more begin [] segment are next = (next, tt)
next_more begin (x ∷ segments) segment are next = (are.0, next_more x.upto segments segment are.1 next)

-- those before the last may come, and the last may come next
pub next_front : (begin : ℕ) (segments : List Segment) (segment : Segment) → AreNextSegments begin (segments ++ segment ∷ []) →
    AreNextSegments begin segments × IsNextSegment (end_of_segments begin segments) segment
next_front begin [] segment are = (tt, are.0)
next_front begin (x ∷ segments) segment are = let rest = next_front x.upto segments segment are.1 in ((are.0, rest.0), rest.1)

-- they end where the last one ends
pub end_more : (begin : ℕ) (segments : List Segment) (segment : Segment) → end_of_segments begin (segments ++ segment ∷ []) ≡ segment.upto
end_more begin [] segment = refl
end_more begin (x ∷ segments) segment = end_more x.upto segments segment

-- the frames of the last one follow those of the others
pub frames_more : (segments : List Segment) (segment : Segment) → all_frames (segments ++ segment ∷ []) ≡ all_frames segments ++ frames_of segment
frames_more segments segment =
    flat_map-append frames_of segments (segment ∷ []) ∙ ap (λ (xs : List ArrivedFrame). all_frames segments ++ xs) (append-nil (frames_of segment))

-- with one more item a port keeps its wire and its link, and still carries only items
pub wires_with : (ports : List SegmentPort) (k : ℕ) (port : SegmentPort) (segment : Segment) → slice_get ports k ≡ Some port →
    wires_of (set ports k (with_item_at port (Item segment))) ≡ wires_of ports
wires_with [] k port segment there = refl
wires_with (p ∷ ports) zero port segment there =
    ap (λ w. w ∷ wires_of ports) (ap wire_at (sym (same_Some p port there)))
wires_with (p ∷ ports) (suc k) port segment there = ap (λ ws. wire_at p ∷ ws) (wires_with ports k port segment there)
