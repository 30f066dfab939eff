-- The traces gathered from the bridge traces of a run's bridges, whose links went on separately.
use Rattle.std.specs.Prelude.{ℕ, ◌≡◌, ◌*◌, ◌<◌, ◌++◌, List, [], Some, true, All, filter, length, map, slice_get}
use Rattle.std.specs.List.{flat_map}
use Rattle.std.specs.List.Sorted.{IsNonDecreasingBy, IsPermutation}
use Rattle.cqf_lists.specs.Lists.{each_below}
use Rattle.cqf_model.specs.declared.frames.Dropped.{Dropped}
use Rattle.cqf_model.specs.declared.frames.Sent.{Sent}
use Rattle.cqf_model.specs.Book.{Contents, background_of, drops_of, starts_of}
use Rattle.cqf_model.specs.Domain.{Domain, leaves}
use Rattle.cqf_model.specs.Network.{Network}
use Rattle.cqf_model.specs.Run.{Run}
use Rattle.cqf_model.specs.Table.{table_of}
use Rattle.cqf_model.specs.Policing.{policed_before}
use Rattle.cqf_laws_shift.specs.Run.{IsLegalRun}
use Rattle.cqf_laws_cycle.specs.Gathered.{offered_for}
use Rattle.cqf_trace.specs.declared.bridge_trace.BridgeTrace.{BridgeTrace}
use Rattle.cqf_trace.specs.declared.trace.Trace.{Trace}
use Rattle.cqf_trace.specs.declared.traces.Traces.{Traces}
use Rattle.cqf_trace.specs.BridgeTraces.{AreGatheredFrom, links_leaving}
use Rattle.cqf_trace.specs.Traces.{AreTracesOf, background_at, drops_at, first_links, is_at_bridge, links_of, mark_of_sent, mark_of_start, starts_at}
use Rattle.cqf_relay.specs.Segments.{Sendings}
use Rattle.cqf_relay.specs.Offering.{dropped_after}
use Rattle.cqf_relay.specs.Standing.{Come}
use Rattle.cqf_laws_relay.specs.Following.{HaveGone}

-- a bridge's bridge trace has what its links have sent, and, cycle by cycle, the drops of the offers that weren't covered, by frame
pub record HasTraced (run : Run) (sends : Sendings) (bridge : ℕ) (bridge_trace : BridgeTrace) : Type 0 where
  pub links : links_of bridge_trace.traces.items ≡ links_leaving run.domain bridge
  pub starts : (l : ℕ) → leaves run.domain l bridge ≡ true →
      starts_at bridge_trace.traces.items l ≡ map mark_of_sent (flat_map (λ (batch : List Sent). batch) (sends l))
  pub no_background : All (λ (trace : Trace). trace.background.items ≡ []) bridge_trace.traces.items
  pub fresh : ℕ → List Dropped
  pub drops : bridge_trace.drops.items ≡ each_below fresh (length run.tables)
  pub are_drops : (cycle : ℕ) → cycle < length run.tables → IsPermutation
      (dropped_after run.domain bridge cycle (table_of run.tables cycle) [] (offered_for run.domain run.offers bridge cycle)) (fresh cycle)
  pub by_frame : (cycle : ℕ) → cycle < length run.tables → IsNonDecreasingBy (λ (x : Dropped). x.frame) (fresh cycle)

-- the same for the bridge traces of all bridges
pub record HaveTraced (run : Run) (sends : Sendings) (bridge_traces : List BridgeTrace) : Type 0 where
  pub many : length bridge_traces ≡ length run.domain.bridges
  pub each : (bridge : ℕ) (bridge_trace : BridgeTrace) → slice_get bridge_traces bridge ≡ Some bridge_trace → HasTraced run sends bridge bridge_trace

-- the book of a run's network, over all cycles
abbrev pub book_of_run : Run → Network → Contents
book_of_run run net = record {
  starts = starts_of run.domain (length run.tables) net.carried;
  background = background_of run.domain (length run.tables) net.backed;
  drops = drops_of run.domain (length run.tables) (length run.offers)
      (λ b. policed_before run net.carried b (length run.tables * run.domain.cycle_time));
}

-- the traces of a run's links have the streams' frames that the network sends, and the drops of its book, and no background frames yet
pub record HaveTheStreams (run : Run) (net : Network) (traces : Traces) : Type 0 where
  pub each_link : links_of traces.links.items ≡ first_links (length run.domain.links)
  pub starts : (link : ℕ) → link < length run.domain.links → starts_at traces.links.items link ≡ map mark_of_sent (net.carried link)
  pub none : (link : ℕ) → link < length run.domain.links → background_at traces.links.items link ≡ []
  pub each_bridge : length traces.drops.items ≡ length run.domain.bridges
  pub drops : (bridge : ℕ) → bridge < length run.domain.bridges → drops_at traces bridge ≡ filter (is_at_bridge bridge) (book_of_run run net).drops

-- the traces that are gathered from the bridge traces have the streams' frames and the drops
abbrev pub RelaysKeepTheTraces : Type 0
RelaysKeepTheTraces = (run : Run) (net : Network) (sends : Sendings) (come : ℕ → Come) (bridge_traces : List BridgeTrace) (traces : Traces) → IsLegalRun run net →
    length run.offers < 16777216 → HaveGone run sends come → HaveTraced run sends bridge_traces → AreGatheredFrom run.domain bridge_traces traces →
    HaveTheStreams run net traces

-- traces are extended by the background frames that the network starts; and the law that they are then those of the run's book
pub record HaveBesides (d : Domain) (net : Network) (before after : Traces) : Type 0 where
  pub links : links_of after.links.items ≡ links_of before.links.items
  pub starts : (link : ℕ) → starts_at after.links.items link ≡ starts_at before.links.items link
  pub background : (link : ℕ) → link < length d.links →
      background_at after.links.items link ≡ background_at before.links.items link ++ map mark_of_start (net.backed link)
  pub drops : after.drops ≡ before.drops

abbrev pub BackedTracesAreTheBooks : Type 0
BackedTracesAreTheBooks = (run : Run) (net : Network) (before after : Traces) → IsLegalRun run net → HaveTheStreams run net before →
    HaveBesides run.domain net before after → AreTracesOf run.domain after (book_of_run run net)
