-- What workers that are done keep of their initial state.
use Rattle.std.proofs.Common.{ℕ, zero, suc, ◌≡◌, ◌<◌, ◌≤◌, ◌⊎◌, ◌∷◌, [], List, Contains, length, map, refl, sym, ap, ◌∙◌, arith, inl, inr, subst, get_or}
use Rattle.std.specs.Prelude.{Some, None, option_map, slice_get}
use Rattle.std.specs.List.{AllZip}
use Rattle.std.proofs.lemmas.List.{length-map}
use Rattle.std.proofs.lemmas.List.Elements.{AllZip-get_or, length_all_zip}
use Rattle.std.proofs.lemmas.Option.{get_or_from_slice_get, same_Some, slice_get-get_or, slice_get-map, slice_get_cases, slice_get_within}
use Rattle.std.proofs.lemmas.Simd.{map-map}
use Rattle.cqf_lists.proofs.Members.{contains_at, contains_from_map, contains_map, index_of_member}
use Rattle.cqf_trace.specs.declared.bridge_trace.BridgeTrace.{BridgeTrace}
use Rattle.cqf_trace.specs.BridgeTraces.{AreBridgeTracesOf, links_leaving}
use Rattle.cqf_trace.specs.Traces.{links_of}
use Rattle.cqf_relay.specs.declared.moving.Segment.{Segment}
use Rattle.cqf_agenda.specs.Links.{links_into}
use Rattle.cqf_worker_loops.specs.declared.carried.Carried.{Carried}
use Rattle.cqf_worker_loops.specs.declared.worker.Worker.{Worker}
use Rattle.cqf_worker_loops.specs.Rows.{wire_at, wires_of}
use Rattle.cqf_worker_loops.specs.Workers.{HasGoneThrough, IsWorkerOf, Offering, SegmentPort, Works, link_of, links_onward}
use Rattle.cqf_worker_loops.specs.PipeEnds.{PipeId}
use Rattle.cqf_worker.specs.Closing.{bridge_trace_at}
use Rattle.cqf_worker.specs.Wires.{AreOn, AreWired, AreWorkersOf, Wiring, tables_pipe}

-- a value before those of later numbers
abbrev ahead : {Y : Type 0} → Y → (ℕ → Y) → ℕ → Y
ahead y f zero = y
ahead y f (suc k) = f k

-- a function of an element's index, with one more element at the front
chosen_more : {X Y : Type 0} (x : X) (xs : List X) (P : ℕ → X → Y → Type 0) → (y : Y) × P 0 x y →
    (f : ℕ → Y) × ((k : ℕ) (z : X) → slice_get xs k ≡ Some z → P (suc k) z (f k)) →
    (f : ℕ → Y) × ((k : ℕ) (z : X) → slice_get (x ∷ xs) k ≡ Some z → P k z (f k))
chosen_more {X} {Y} x xs P first later = (ahead first.0 later.0, at)
  where
    -- the first element has the first value, and the others have theirs
    at : (k : ℕ) (z : X) → slice_get (x ∷ xs) k ≡ Some z → P k z (ahead first.0 later.0 k)
    at zero z there = subst (λ (w : X). P 0 w first.0) (same_Some x z there) first.1
    at (suc k) z there = later.1 k z there

-- if there is a value for each element of a list, the values are those of one function of the index
pub chosen : {X Y : Type 0} (none : Y) (xs : List X) (P : ℕ → X → Y → Type 0) → ((k : ℕ) (x : X) → slice_get xs k ≡ Some x → (y : Y) × P k x y) →
    (f : ℕ → Y) × ((k : ℕ) (x : X) → slice_get xs k ≡ Some x → P k x (f k))
chosen {X} {Y} none [] P each = (λ k. none, λ k x there. absurd (nowhere k x there))
  where
    -- an empty list has no element
    nowhere : (k : ℕ) (x : X) → slice_get [] k ≡ Some x → ⊥
    nowhere k x e = cc
chosen none (x ∷ xs) P each = chosen_more x xs P (each 0 x refl) (chosen none xs (λ k. P (suc k)) (λ k z there. each (suc k) z there))

-- there is an element at each index of a list
pub element_at : {X : Type 0} (xs : List X) (k : ℕ) → k < length xs → (x : X) × (slice_get xs k ≡ Some x)
element_at xs k inside = elim (slice_get_cases xs k).1 [
  | inl w ↦ (w.0, w.2)
  | inr past ↦ absurd (omega (arith, inside, past.0))
]

-- ports that keep their wires keep their links
kept_links : (before after : List SegmentPort) → wires_of after ≡ wires_of before → map link_of after ≡ map link_of before
kept_links before after same =
    sym (map-map link wire_at after) ∙ ap (map link) same ∙ map-map link wire_at before
  where
    -- a wire's link
    link : ℕ × PipeId (Carried Segment) → ℕ
    link wire = wire.0

-- each worker that is done was the worker at its index
pub was_at : (cycles : ℕ) (workers dones : List Worker) (index : ℕ) (done : Worker) → AllZip (Works cycles) workers dones →
    slice_get dones index ≡ Some done → (w : Worker) × (slice_get workers index ≡ Some w) × Works cycles w done
was_at cycles workers dones index done worked there =
    let below : index < length workers = omega (arith, length_all_zip (Works cycles) workers dones worked, slice_get_within dones index done there) in (
      get_or workers index done,
      slice_get-get_or workers index done below,
      subst (Works cycles (get_or workers index done)) (get_or_from_slice_get dones index done done there)
          (AllZip-get_or (Works cycles) workers dones index done done worked below),
    )

module _ (t : Offering) (cycles : ℕ) (workers dones : List Worker) (of_bridges : AreWorkersOf t workers) (worked : AllZip (Works cycles) workers dones)
    (index : ℕ) (done : Worker) (there : slice_get dones index ≡ Some done) where
  -- what it was, of its bridge
  was : (w : Worker) × (slice_get workers index ≡ Some w) × Works cycles w done
  was = was_at cycles workers dones index done worked there

  was_of : IsWorkerOf t index was.0
  was_of = of_bridges index was.0 was.1

  -- it did its bridge's part
  pub kept_part : HasGoneThrough t index cycles done
  kept_part = was.2.part t index was_of

  -- it takes at ports of the links that end in its bridge
  pub kept_ins : map link_of done.ins.items ≡ links_into t.domain index
  kept_ins = kept_links was.0.ins.items done.ins.items was.2.ins ∙ was_of.links_in

  -- and puts at ports of those that leave it and end in another bridge
  pub kept_outs : map link_of done.outs.items ≡ links_onward t.domain index
  kept_outs = kept_links was.0.outs.items done.outs.items was.2.outs ∙ was_of.links_out

-- the bridge traces of workers that are done are of their bridges
pub still_bridge_traces : (t : Offering) (cycles : ℕ) (workers dones : List Worker) → AreWorkersOf t workers → length workers ≡ length t.domain.bridges →
    AllZip (Works cycles) workers dones → AreBridgeTracesOf t.domain (map bridge_trace_at dones)
still_bridge_traces t cycles workers dones of_bridges many worked = record {
  many = length-map dones bridge_trace_at ∙ sym (length_all_zip (Works cycles) workers dones worked) ∙ many;
  links = λ bridge bridge_trace there. links_at bridge bridge_trace there (slice_get_cases dones bridge).1;
}
  where
    -- those of the worker at the index of a bridge trace
    links_at : (bridge : ℕ) (bridge_trace : BridgeTrace) → slice_get (map bridge_trace_at dones) bridge ≡ Some bridge_trace →
        ((done : Worker) × (bridge < length dones) × (slice_get dones bridge ≡ Some done) × (get_or dones bridge done ≡ done))
        ⊎ ((length dones ≤ bridge) × (slice_get dones bridge ≡ None)) → links_of bridge_trace.traces.items ≡ links_leaving t.domain bridge
    links_at bridge bridge_trace there (inl w) =
        let same : bridge_trace_at w.0 ≡ bridge_trace =
        same_Some (bridge_trace_at w.0) bridge_trace (sym (slice_get-map bridge_trace_at dones bridge ∙ ap (option_map bridge_trace_at) w.2) ∙ there) in
        ap (λ (r : BridgeTrace). links_of r.traces.items) (sym same) ∙ (kept_part t cycles workers dones of_bridges worked bridge w.0 w.2).links
    links_at bridge bridge_trace there (inr past) =
        absurd (omega (arith, past.0, slice_get_within (map bridge_trace_at dones) bridge bridge_trace there, length-map dones bridge_trace_at))

-- ports that keep their wires are still of the pipes on their links
still_on : (wiring : Wiring) (before after : List SegmentPort) → wires_of after ≡ wires_of before → AreOn wiring before → AreOn wiring after
still_on wiring before after same on p there =
    let wire : Contains (wires_of before) (wire_at p) =
    subst (λ (ws : List (ℕ × PipeId (Carried Segment))). Contains ws (wire_at p)) same (contains_map wire_at after p there) in
    let was = contains_from_map wire_at before (wire_at p) wire in
    ap wiring (sym (ap link was.2)) ∙ on was.0 was.1 ∙ ap Some (ap pipe was.2)
  where
    -- a wire's link, and its pipe
    link : ℕ × PipeId (Carried Segment) → ℕ
    link w = w.0

    pipe : ℕ × PipeId (Carried Segment) → PipeId (Carried Segment)
    pipe w = w.1

-- so workers that are done are wired as they were
pub still_wired : (cycles : ℕ) (workers dones : List Worker) → AllZip (Works cycles) workers dones → (wiring : Wiring) × AreWired wiring workers →
    (wiring : Wiring) × AreWired wiring dones
still_wired cycles workers dones worked wired = (
  wired.0,
  record {
    at_ins = λ done there.
        (let index = index_of_member dones done there in
        let was = was_at cycles workers dones index.0 done worked index.1 in
        still_on wired.0 was.0.ins.items done.ins.items was.2.ins (wired.1.at_ins was.0 (contains_at workers index.0 was.0 was.1)));
    at_outs = λ done there.
        (let index = index_of_member dones done there in
        let was = was_at cycles workers dones index.0 done worked index.1 in
        still_on wired.0 was.0.outs.items done.outs.items was.2.outs (wired.1.at_outs was.0 (contains_at workers index.0 was.0 was.1)));
  },
)

-- and have the same pipes for tables
pub still_tables : (cycles : ℕ) (workers dones : List Worker) → AllZip (Works cycles) workers dones → map tables_pipe dones ≡ map tables_pipe workers
still_tables cycles [] [] worked = refl
still_tables cycles [] (d ∷ dones) worked = absurd worked
still_tables cycles (w ∷ workers) [] worked = absurd worked
still_tables cycles (w ∷ workers) (d ∷ dones) worked = λ i. worked.0.tables i ∷ still_tables cycles workers dones worked.1 i
