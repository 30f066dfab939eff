-- The traces of bridges whose links went on separately in a run have the streams' frames that the network sends; with the background frames
-- that it starts they are those of the run's book.
use Rattle.std.proofs.Common.{◌≡◌, ℕ, ◌+◌, ◌*◌, ◌<◌, ◌≤◌, ◌∷◌, ◌++◌, [], List, length, map, filter, add-one, inl, inr, refl, sym, ap, ◌∙◌, arith, subst}
use Rattle.std.proofs.Common.{All, AllPairs, Contains}
use Rattle.std.specs.Global.{Global}
use Rattle.std.specs.Prelude.{◌==◌, Option, Some, None, slice_get, slice_index_or}
use Rattle.std.specs.declared.vec.Vec.{Vec}
use Rattle.std.specs.List.{flat_map}
use Rattle.std.specs.Option.{option_map_or}
use Rattle.std.proofs.lemmas.Bool.{cond_both}
use Rattle.std.proofs.lemmas.List.Elements.{All-head, All-tail}
use Rattle.std.proofs.lemmas.Option.{slice_get_cases}
use Rattle.std.proofs.lemmas.Simd.{map-map}
use Rattle.cqf_lists.specs.Lists.{each_below}
use Rattle.cqf_lists.proofs.EachBelow.{first_below, map_below, same_below}
use Rattle.cqf_lists.proofs.Keys.{by_key}
use Rattle.cqf_lists.proofs.Made.{map_same, pairs_of_flat}
use Rattle.cqf_lists.proofs.Members.{contains_from_map}
use Rattle.cqf_lists.proofs.Pairs.{pairs_none, pairs_one}
use Rattle.cqf_lists.proofs.Sorted.{up_by_pairs}
use Rattle.cqf_units.proofs.Cycles.{cycle_below, cycles_ordered}
use Rattle.cqf_model.specs.declared.frames.Dropped.{Dropped}
use Rattle.cqf_model.specs.declared.frames.Sent.{Sent}
use Rattle.cqf_model.specs.declared.frames.Started.{Started}
use Rattle.cqf_model.specs.declared.ports.Arrival.{Arrival}
use Rattle.cqf_model.specs.declared.ports.Start.{Start}
use Rattle.cqf_model.specs.Book.{backed_batch, batch, drops_in, drops_of, started, started_backed}
use Rattle.cqf_model.specs.Domain.{bridge_of, cycle_of}
use Rattle.cqf_model.specs.Network.{Network, backed_by, backed_of, comes_before, compiled_lists, no_frame}
use Rattle.cqf_model.specs.Port.{Transmission}
use Rattle.cqf_model.specs.Run.{Run}
use Rattle.cqf_model.specs.Policing.{Policed, policed_before}
use Rattle.cqf_model.proofs.Drops.{dropped_at}
use Rattle.cqf_model.proofs.Links.{bridge_within, leaves_its_bridge}
use Rattle.cqf_model.proofs.Sending.{backed_in_run, backed_of_when}
use Rattle.cqf_laws_shift.specs.Run.{IsLegalRun}
use Rattle.cqf_trace.specs.declared.bridge_trace.BridgeTrace.{BridgeTrace}
use Rattle.cqf_trace.specs.declared.trace.Mark.{Mark}
use Rattle.cqf_trace.specs.declared.trace.Trace.{Trace}
use Rattle.cqf_trace.specs.declared.traces.Traces.{Traces}
use Rattle.cqf_trace.specs.BridgeTraces.{AreGatheredFrom}
use Rattle.cqf_trace.specs.Traces.{background_at, drops_at, is_at_bridge, mark_of, mark_of_sent, mark_of_start, marks_on, starts_at}
use Rattle.cqf_trace.proofs.ByTwo.{of_second}
use Rattle.cqf_laws_coverage.proofs.InTurn.{batches, run_in_turn}
use Rattle.cqf_relay.specs.Segments.{Sendings, batch_at}
use Rattle.cqf_relay.specs.Standing.{Come}
use Rattle.cqf_laws_relay.specs.Following.{DroppedAreTheRuns, HaveGone, RelaysFollowTheNetwork}
use Rattle.cqf_laws_relay.specs.Traced.{BackedTracesAreTheBooks, HaveTraced, HaveTheStreams, RelaysKeepTheTraces, book_of_run}

-- ---- a book's entries of a kind by cycle and link

module _ {A : Type 0} (by : ℕ → ℕ → A → Started) (mark : A → Mark) (bears_link : (cycle link : ℕ) (x : A) → (by cycle link x).link ≡ link)
    (has_mark : (cycle link : ℕ) (x : A) → mark_of (by cycle link x) ≡ mark x) (cycles links : ℕ) (sent : ℕ → ℕ → List A) where
  -- what is sent on a link in a cycle, in the book
  abbrev on_link : ℕ → ℕ → List Started
  on_link cycle link = map (by cycle link) (sent cycle link)

  -- the book's marks on a link are those of what is sent on it, cycle by cycle
  marks_by_cycle : (link : ℕ) → link < links →
      marks_on link (each_below (λ cycle. each_below (on_link cycle) links) cycles) ≡ map mark (each_below (λ cycle. sent cycle link) cycles)
  marks_by_cycle link inside =
      ap (map mark_of) (of_second (λ (x : Started). x.link) cycles links on_link bears link inside)
      ∙ map_below mark_of (λ cycle. on_link cycle link) cycles
      ∙ same_below (λ cycle. map mark_of (on_link cycle link)) (λ cycle. map mark (sent cycle link)) cycles (λ cycle in_cycles.
      map-map mark_of (by cycle link) (sent cycle link)
      ∙ map_same (λ (x : A). mark_of (by cycle link x)) mark (sent cycle link) (λ x h. has_mark cycle link x))
      ∙ sym (map_below mark (λ cycle. sent cycle link) cycles)
    where
      -- each bears its link
      bears : (cycle l : ℕ) (x : Started) → Contains (on_link cycle l) x → x.link ≡ l
      bears cycle l x h =
          let s = contains_from_map (by cycle l) (sent cycle l) x h in
          sym (ap (λ (y : Started). y.link) s.2) ∙ bears_link cycle l s.0

-- ---- what a link has sent, batch by batch

-- lists end to end are those at each index, end to end
lists_by_index : {X : Type 0} (lists : List (List X)) →
    flat_map (λ (xs : List X). xs) lists ≡ each_below (λ k. slice_index_or lists k []) (length lists)
lists_by_index [] = refl
lists_by_index {X} (xs ∷ lists) =
    let at = λ (k : ℕ). slice_index_or (xs ∷ lists) k [] in
    ap (λ (ys : List X). xs ++ ys)
    (lists_by_index lists
    ∙ same_below (λ k. slice_index_or lists k []) (λ k. at (k + 1)) (length lists) (λ k inside. sym (ap at (add-one k))))
    ∙ sym (first_below at (length lists))

-- ---- the background frames of a link

-- a transmission starts at most one background frame
backed_once : (R : Start → Start → Type 0) (t : ℕ) (x : Arrival) (stream : Option ℕ) → AllPairs R (backed_by t x stream)
backed_once R t x None = pairs_one R (record { start = record { 0 = t }; class = x.class; octets = x.octets; frame = x.frame })
backed_once R t x (Some stream) = pairs_none R

-- the background frames that a run's network starts on a link are those of its cycles, one cycle after the other
backed_by_cycle : (run : Run) (net : Network) (link : ℕ) → IsLegalRun run net → link < length run.domain.links →
    net.backed link ≡ each_below (λ cycle. backed_batch run.domain net.backed link cycle) (length run.tables)
backed_by_cycle run net link legal inside =
    let d = run.domain in
    let cycles = length run.tables in
    let key : Start → ℕ = λ start. cycle_of d start.start.0 in
    let R : Start → Start → Type 0 = λ a b. key a ≤ key b in
    let some : 0 < d.cycle_time = omega (arith, legal.accepted.cycle_least) in
    let queued = comes_before run net.carried link cycles in
    let s = legal.legal.sends link inside in
    by_key key cycles (net.backed link)
    (up_by_pairs key (net.backed link)
    (subst (AllPairs R) (sym s.are_backed)
    (pairs_of_flat (backed_of queued) (λ (a b : Transmission). a.1 < b.1) R s.starts
    (λ x c. let q = slice_index_or queued x.0 no_frame in backed_once R x.1 q.arrival q.stream)
    (λ x z u v c e before h k.
    cycles_ordered d.cycle_time u.start.0 v.start.0 some (omega (arith, before, backed_of_when queued x u h, backed_of_when queued z v k)))
    s.legal.in_order)))
    (λ x h. cycle_below d.cycle_time x.start.0 cycles (backed_in_run run (compiled_lists d) cycles net legal.legal link x h))

-- ---- traces with no background frames

-- no background frame is on a trace
abbrev HasNone : Trace → Type 0
HasNone trace = trace.background.items ≡ []

-- if none is on any of the traces, none is on that of a link
none_at : (traces : List Trace) (link : ℕ) → All HasNone traces → background_at traces link ≡ []
none_at [] link none = refl
none_at (trace ∷ traces) link none =
    cond_both (trace.link == link) trace.background.items (background_at traces link) (λ (marks : List Mark). marks ≡ [])
    (λ e. All-head HasNone trace traces none) (λ e. none_at traces link (All-tail HasNone trace traces none))

-- ---- a run's book

-- the streams' frames that a link carries in a run are its cycles' batches, one after the other
carried_by_cycle : (run : Run) (net : Network) (link : ℕ) → IsLegalRun run net → link < length run.domain.links →
    net.carried link ≡ each_below (λ cycle. batch run.domain net.carried link cycle) (length run.tables)
carried_by_cycle run net link legal inside =
    batches run.domain (length run.tables) net.carried (omega (arith, legal.accepted.cycle_least)) (run_in_turn run net legal) link inside

-- so the book has on a link what the link carries
book_has_carried : (run : Run) (net : Network) (link : ℕ) → IsLegalRun run net → link < length run.domain.links →
    marks_on link (book_of_run run net).starts ≡ map mark_of_sent (net.carried link)
book_has_carried run net link legal inside =
    marks_by_cycle started mark_of_sent (λ cycle l x. refl) (λ cycle l x. refl) (length run.tables) (length run.domain.links)
    (λ cycle l. batch run.domain net.carried l cycle) link inside
    ∙ ap (map mark_of_sent) (sym (carried_by_cycle run net link legal inside))

-- and the background frames that it starts
book_has_backed : (run : Run) (net : Network) (link : ℕ) → IsLegalRun run net → link < length run.domain.links →
    marks_on link (book_of_run run net).background ≡ map mark_of_start (net.backed link)
book_has_backed run net link legal inside =
    marks_by_cycle started_backed mark_of_start (λ cycle l x. refl) (λ cycle l x. refl) (length run.tables) (length run.domain.links)
    (λ cycle l. backed_batch run.domain net.backed l cycle) link inside
    ∙ ap (map mark_of_start) (sym (backed_by_cycle run net link legal inside))

-- ---- the traces

module _ (dropped : DroppedAreTheRuns) (follow : RelaysFollowTheNetwork) (run : Run) (net : Network) (sends : Sendings) (come : ℕ → Come)
    (bridge_traces : List BridgeTrace) (traces : Traces) (legal : IsLegalRun run net) (few : length run.offers < 16777216) (gone : HaveGone run sends come)
    (traced : HaveTraced run sends bridge_traces) (gathered : AreGatheredFrom run.domain bridge_traces traces) where
  -- how many cycles the run has
  abbrev cycles : ℕ
  cycles = length run.tables

  -- the verdicts on what arrives at each bridge
  abbrev policed : ℕ → List Policed
  policed b = policed_before run net.carried b (cycles * run.domain.cycle_time)

  -- a bridge has a bridge trace
  bridge_trace_of : (bridge : ℕ) → bridge < length run.domain.bridges → (bridge_trace : BridgeTrace) × (slice_get bridge_traces bridge ≡ Some bridge_trace)
  bridge_trace_of bridge inside = elim (slice_get_cases bridge_traces bridge).1 [
    | inl w ↦ (w.0, w.2)
    | inr past ↦ absurd (omega (arith, inside, past.0, traced.many))
  ]

  -- and so has the bridge that a link leaves
  bridge_trace_of_link : (link : ℕ) → link < length run.domain.links → (bridge_trace : BridgeTrace) × (slice_get bridge_traces (bridge_of run.domain link) ≡ Some bridge_trace)
  bridge_trace_of_link link inside = bridge_trace_of (bridge_of run.domain link) (bridge_within run.domain link legal.accepted inside)

  -- what a link has sent is what the network sends, cycle by cycle
  sent_by_cycle : (link : ℕ) → link < length run.domain.links →
      flat_map (λ (sents : List Sent). sents) (sends link) ≡ each_below (λ cycle. batch run.domain net.carried link cycle) cycles
  sent_by_cycle link inside =
      lists_by_index (sends link)
      ∙ ap (each_below (batch_at (sends link))) (gone.all link inside)
      ∙ same_below (batch_at (sends link)) (λ cycle. batch run.domain net.carried link cycle) cycles (λ cycle within.
      follow run net sends come link cycle legal few gone inside within)

  -- the streams' frames on a link's trace are what the link carries
  starts_are : (link : ℕ) → link < length run.domain.links → starts_at traces.links.items link ≡ map mark_of_sent (net.carried link)
  starts_are link inside =
      let r = bridge_trace_of_link link inside in
      gathered.starts link inside
      ∙ ap (λ (o : Option BridgeTrace). starts_at (option_map_or (λ (bridge_trace : BridgeTrace). bridge_trace.traces.items) o []) link) r.1
      ∙ (traced.each (bridge_of run.domain link) r.0 r.1).starts link (leaves_its_bridge run.domain link inside)
      ∙ ap (map mark_of_sent) (sent_by_cycle link inside ∙ sym (carried_by_cycle run net link legal inside))

  -- and no background frame is there
  none_are : (link : ℕ) → link < length run.domain.links → background_at traces.links.items link ≡ []
  none_are link inside =
      let r = bridge_trace_of_link link inside in
      gathered.background link inside
      ∙ ap (λ (o : Option BridgeTrace). background_at (option_map_or (λ (bridge_trace : BridgeTrace). bridge_trace.traces.items) o []) link) r.1
      ∙ none_at r.0.traces.items link (traced.each (bridge_of run.domain link) r.0 r.1).no_background

  -- the kept drops of a bridge are those in the book
  drops_are : (bridge : ℕ) → bridge < length run.domain.bridges →
      drops_at traces bridge ≡ filter (is_at_bridge bridge) (drops_of run.domain cycles (length run.offers) policed)
  drops_are bridge inside =
      let d = run.domain in
      let indices = length run.offers in
      let r = bridge_trace_of bridge inside in
      let t = traced.each bridge r.0 r.1 in
      gathered.drops bridge inside
      ∙ ap (λ (o : Option BridgeTrace). option_map_or (λ (bridge_trace : BridgeTrace). bridge_trace.drops.items) o []) r.1
      ∙ t.drops
      ∙ same_below t.fresh (λ cycle. drops_in d indices policed cycle bridge) cycles (λ cycle within.
      dropped run net bridge cycle (t.fresh cycle) legal within (t.are_drops cycle within) (t.by_frame cycle within))
      ∙ sym (of_second (λ (x : Dropped). x.bridge) cycles (length d.bridges) (drops_in d indices policed) (λ cycle b x h.
      sym (ap (λ (y : Dropped). y.bridge) (dropped_at d indices policed cycle b x h).is)) bridge inside)

  -- so the traces have what the network sends
  traces_of_streams : HaveTheStreams run net traces
  traces_of_streams = record {
    each_link = gathered.each_link;
    starts = starts_are;
    none = none_are;
    each_bridge = gathered.each_bridge;
    drops = drops_are;
  }

-- the law
pub relays_keep_the_traces : DroppedAreTheRuns → RelaysFollowTheNetwork → RelaysKeepTheTraces
relays_keep_the_traces dropped follow run net sends come bridge_traces traces legal few gone traced gathered =
    traces_of_streams dropped follow run net sends come bridge_traces traces legal few gone traced gathered

-- with the background frames that the network starts such traces are those of its book
pub backed_traces_are_the_books : BackedTracesAreTheBooks
backed_traces_are_the_books run net before after legal streams besides = record {
  each_link = besides.links ∙ streams.each_link;
  starts = λ link inside. besides.starts link ∙ streams.starts link inside ∙ sym (book_has_carried run net link legal inside);
  background = λ link inside.
      besides.background link inside
      ∙ ap (λ (marks : List Mark). marks ++ map mark_of_start (net.backed link)) (streams.none link inside)
      ∙ sym (book_has_backed run net link legal inside);
  each_bridge = ap (λ (drops : Vec (Vec Dropped Global) Global). length drops.items) besides.drops ∙ streams.each_bridge;
  drops = λ bridge inside.
      ap (λ (drops : Vec (Vec Dropped Global) Global). drops_at (record before { drops = drops }) bridge) besides.drops ∙ streams.drops bridge inside;
}
