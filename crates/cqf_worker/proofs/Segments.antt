-- Consecutive segments; a prefix of them was taken.
use Rattle.std.proofs.Common.{ℕ, ◌≡◌, ◌<◌, ◌≤◌, ◌==◌, ◌∷◌, ◌++◌, [], List, All, AllPairs, Contains, length, map, refl, sym, ap, ◌∙◌}
use Rattle.std.proofs.Common.{append-nil, arith, inl, inr, subst, eq-eqb, ne_eqb}
use Rattle.std.proofs.lemmas.Bool.{cases_Bool, cond-false, cond-true}
use Rattle.std.proofs.lemmas.List.{length-append, nil_from_length}
use Rattle.std.proofs.lemmas.List.Concat.{flat_map-append, flat_map-cons}
use Rattle.cqf_lists.proofs.Members.{contains_cases, contains_here, contains_later, contains_map, contains_none}
use Rattle.cqf_lists.proofs.Pairs.{pairs_head, pairs_tail}
use Rattle.cqf_relay.specs.declared.log.ArrivedFrame.{ArrivedFrame}
use Rattle.cqf_relay.specs.declared.moving.Segment.{Segment}
use Rattle.cqf_relay.specs.Segments.{AreNextSegments, all_frames, end_of_segments, frames_of}
use Rattle.cqf_worker_loops.specs.declared.carried.Carried.{Carried}
use Rattle.cqf_worker_loops.specs.declared.carried.Carried.TheVariants.{Item}
use Rattle.cqf_worker_loops.specs.Workers.{SegmentPort, item_in, items_in, link_of, segments_at, segments_in}
use Rattle.cqf_worker.specs.Wires.{IsBeginning}

-- what holds of all holds of a member
pub of_member : {X : Type 0} (P : X → Type 0) (xs : List X) (x : X) → All P xs → Contains xs x → P x
of_member P xs x all there = subst P there.2 (all there.0 x there.1)

-- items that were put one by one are these items
pub items_all : {T : Type 0} (xs : List T) → items_in (map Item xs) ≡ xs
items_all [] = refl
items_all {T} (x ∷ xs) = ap (λ (ys : List T). x ∷ ys) (items_all xs)

-- the items of a prefix are a prefix of the items
pub items_begin : {T : Type 0} (taken put : List (Carried T)) → IsBeginning taken put → IsBeginning (items_in taken) (items_in put)
items_begin taken put begin = (items_in begin.0, ap items_in begin.1 ∙ flat_map-append item_in taken begin.0)

-- a prefix of the same length is the whole
pub begins_whole : {X : Type 0} (whole begin rest : List X) → whole ≡ begin ++ rest → length begin ≡ length whole → begin ≡ whole
begins_whole {X} whole begin rest parts long =
    let none : rest ≡ [] = nil_from_length rest (omega (arith, ap length parts, length-append begin rest, long)) in
    sym (append-nil begin) ∙ ap (λ (xs : List X). begin ++ xs) (sym none) ∙ sym parts

-- the first of consecutive segments are consecutive
pub next_begin : (begin : ℕ) (some rest : List Segment) → AreNextSegments begin (some ++ rest) → AreNextSegments begin some
next_begin begin [] rest next = tt
next_begin begin (segment ∷ some) rest next = (next.0, next_begin segment.upto some rest next.1)

-- and the others follow them
next_after : (begin : ℕ) (some rest : List Segment) → AreNextSegments begin (some ++ rest) → AreNextSegments (end_of_segments begin some) rest
next_after begin [] rest next = next
next_after begin (segment ∷ some) rest next = next_after segment.upto some rest next.1

-- they end where the first ones end
end_after : (begin : ℕ) (some rest : List Segment) → end_of_segments begin (some ++ rest) ≡ end_of_segments (end_of_segments begin some) rest
end_after begin [] rest = refl
end_after begin (segment ∷ some) rest = end_after segment.upto some rest

-- segments don't end before they begin
end_least : (begin : ℕ) (segments : List Segment) → AreNextSegments begin segments → begin ≤ end_of_segments begin segments
end_least begin [] next = omega arith
end_least begin (segment ∷ segments) next = omega (arith, next.0.following, end_least segment.upto segments next.1)

-- segments that end where they begin have no frames
none_between : (begin : ℕ) (segments : List Segment) → AreNextSegments begin segments → end_of_segments begin segments ≤ begin → all_frames segments ≡ []
none_between begin [] next ends = refl
none_between begin (segment ∷ segments) next ends =
    let least : segment.upto ≤ end_of_segments segment.upto segments = end_least segment.upto segments next.1 in
    let first : frames_of segment ≡ [] = none_within (frames_of segment) next.0.within in
    flat_map-cons frames_of segment segments
    ∙ ap (λ (xs : List ArrivedFrame). xs ++ all_frames segments) first
    ∙ none_between segment.upto segments next.1 (omega (arith, ends, next.0.following))
  where
    -- no frame is of a cycle in between
    none_within : (frames : List ArrivedFrame) → All (λ (came : ArrivedFrame). (begin ≤ came.cycle) × (came.cycle < segment.upto)) frames → frames ≡ []
    none_within [] within = refl
    none_within (came ∷ frames) within =
        let first = of_member (λ (c : ArrivedFrame). (begin ≤ c.cycle) × (c.cycle < segment.upto)) (came ∷ frames) came within (contains_here came frames) in
        absurd (omega (arith, first.0, first.1, ends, end_least segment.upto segments next.1))

module _ (cycles : ℕ) (taken put : List Segment) (begin : IsBeginning taken put) (next : AreNextSegments 0 put) (ends : end_of_segments 0 put ≡ cycles) where
  -- what was taken of segments that end at a cycle ends at that cycle or before
  rest_next : AreNextSegments (end_of_segments 0 taken) begin.0
  rest_next = next_after 0 taken begin.0 (subst (AreNextSegments 0) begin.1 next)

  both_end : end_of_segments (end_of_segments 0 taken) begin.0 ≡ cycles
  both_end = sym (end_after 0 taken begin.0) ∙ ap (end_of_segments 0) (sym begin.1) ∙ ends

  pub ends_within : end_of_segments 0 taken ≤ cycles
  ends_within =
      let least : end_of_segments 0 taken ≤ end_of_segments (end_of_segments 0 taken) begin.0 = end_least (end_of_segments 0 taken) begin.0 rest_next in
      omega (arith, least, both_end)

  -- and if it ends there, it has all frames
  pub has_all_frames : cycles ≤ end_of_segments 0 taken → all_frames taken ≡ all_frames put
  has_all_frames far =
      let none : all_frames begin.0 ≡ [] = none_between (end_of_segments 0 taken) begin.0 rest_next (omega (arith, far, both_end)) in
      sym (append-nil (all_frames taken))
      ∙ ap (λ (xs : List ArrivedFrame). all_frames taken ++ xs) (sym none)
      ∙ sym (flat_map-append frames_of taken begin.0)
      ∙ ap all_frames (sym begin.1)

-- if each link occurs once, what went by a port's link went through the port
pub segments_there : (ports : List SegmentPort) (p : SegmentPort) → AllPairs (λ (a b : ℕ). a < b) (map link_of ports) → Contains ports p →
    segments_at ports p.link ≡ segments_in p
segments_there [] p ascend held = absurd (contains_none p held)
segments_there (port ∷ ports) p ascend held =
    elim (contains_cases port ports p held) [
      | inl is ↦
          cond-true (port.link == p.link) (segments_in port) (segments_at ports p.link) (eq-eqb port.link p.link (ap link_of is))
          ∙ ap segments_in is
      | inr later ↦
          cond-false (port.link == p.link) (segments_in port) (segments_at ports p.link) (ne_eqb port.link p.link (apart later))
          ∙ segments_there ports p (pairs_tail (λ (a b : ℕ). a < b) port.link (map link_of ports) ascend) later
    ]
  where
    -- a later port is of another link
    apart : Contains ports p → port.link ≡ p.link → ⊥
    apart later same =
        omega (arith, same, pairs_head (λ (a b : ℕ). a < b) port.link (map link_of ports) p.link ascend (contains_map link_of ports p later))

-- if the segments of each port are consecutive, so are those of each link
pub next_by_links : (ports : List SegmentPort) → ((p : SegmentPort) → Contains ports p → AreNextSegments 0 (segments_in p)) → (l : ℕ) →
    AreNextSegments 0 (segments_at ports l)
next_by_links [] each l = tt
next_by_links (port ∷ ports) each l = elim (cases_Bool (port.link == l)) [
  | inl here ↦
      subst (AreNextSegments 0) (sym (cond-true (port.link == l) (segments_in port) (segments_at ports l) here)) (each port (contains_here port ports))
  | inr other ↦
      subst (AreNextSegments 0) (sym (cond-false (port.link == l) (segments_in port) (segments_at ports l) other))
      (next_by_links ports (λ p later. each p (contains_later port ports p later)) l)
]
