-- A bridge on a thread of its own: its initial state, and what it promises.
use Rattle.std.specs.Prelude.{ℕ, ◌≡◌, ◌≤◌, ◌<◌, ◌==◌, List, [], ◌∷◌, true, if◌then◌else◌, All, filter, length, map}
use Rattle.std.specs.List.{flat_map}
use Rattle.std.specs.List.Sorted.{IsNonDecreasingBy, IsPermutation}
use Rattle.cqf_lists.specs.Lists.{each_below}
use Rattle.cqf_model.specs.declared.frames.Dropped.{Dropped}
use Rattle.cqf_model.specs.declared.frames.Offer.{Offer}
use Rattle.cqf_model.specs.declared.frames.Sent.{Sent}
use Rattle.cqf_model.specs.declared.topology.Row.{Row}
use Rattle.cqf_model.specs.Domain.{Domain, leaves}
use Rattle.cqf_model.specs.Run.{AreOffers}
use Rattle.cqf_model.specs.Table.{table_of}
use Rattle.cqf_laws_cycle.specs.Gathered.{offered_for}
use Rattle.cqf_admission.specs.Tables.{CycleTable}
use Rattle.cqf_agenda.specs.Agenda.{AgendaOf, offers_listed_at}
use Rattle.cqf_trace.specs.declared.trace.Trace.{Trace}
use Rattle.cqf_trace.specs.Traces.{links_of, mark_of_sent, starts_at}
use Rattle.cqf_relay.specs.declared.moving.Segment.{Segment}
use Rattle.cqf_relay.specs.Segments.{AreNextSegments, Sendings, all_frames, batch_at, came_in, end_of_segments}
use Rattle.cqf_relay.specs.Logs.{is_in}
use Rattle.cqf_relay.specs.Offering.{dropped_after}
use Rattle.cqf_agenda.specs.Links.{links_from, links_into}
use Rattle.cqf_relay.specs.Standing.{Come, HasGoneOnBy, MayBeTables, StandsSo, is_onward, nothing_yet, offers_in}
use Rattle.cqf_relay.specs.Sending.{IsTidy}
use Rattle.cqf_worker_loops.specs.declared.carried.Carried.{Carried}
use Rattle.cqf_worker_loops.specs.declared.carried.Carried.TheVariants.{Item, Stop}
use Rattle.cqf_worker_loops.specs.declared.link_ends.LinkEnd.{LinkEnd}
use Rattle.cqf_worker_loops.specs.declared.worker.Worker.{Worker}
use Rattle.cqf_worker_loops.specs.PipeEnds.{End}
use Rattle.cqf_worker_loops.specs.Rows.{wires_of}
use Rattle.cqf_worker_loops.specs.Stops.{AreItems}

-- the links that leave a bridge and end in another, by number
abbrev pub links_onward : Domain → ℕ → List ℕ
links_onward d bridge = filter (is_onward d) (links_from d bridge)

-- the items among what a pipe carried
abbrev pub item_in : {T : Type 0} → Carried T → List T
item_in (Item x) = x ∷ []
item_in Stop = []

abbrev pub items_in : {T : Type 0} → List (Carried T) → List T
items_in carried = flat_map item_in carried

-- an end of a pipe of segments, with the number of its link
abbrev pub SegmentPort : Type 0
SegmentPort = LinkEnd (End (Carried Segment))

-- the segments that went through a port, and through the port of a link
abbrev pub segments_in : SegmentPort → List Segment
segments_in port = items_in port.pipe.items

abbrev pub segments_at : List SegmentPort → ℕ → List Segment
segments_at [] l = []
segments_at (port ∷ ports) l = if port.link == l then segments_in port else segments_at ports l

-- the rows of a table
abbrev pub rows_in : CycleTable → List Row
rows_in table = table.rows

-- what arrived by these tables, with an agenda's offers of their cycles, and through these ports
abbrev pub come_by : List CycleTable → AgendaOf → List SegmentPort → Come
come_by tables agenda ins = record {
  tables = map rows_in tables;
  offers = each_below (λ cycle. offers_listed_at agenda cycle ∷ []) (length tables);
  upto = λ m. end_of_segments 0 (segments_at ins m);
  brought = λ m. all_frames (segments_at ins m);
}

-- a domain, and what is offered at its bridges
pub record Offering : Type 0 where
  pub domain : Domain
  pub offers : List Offer

-- an agenda lists, for each cycle, what a bridge is offered
abbrev pub HasItsOffers : Offering → ℕ → AgendaOf → Type 0
HasItsOffers t number agenda = (cycle : ℕ) → offers_listed_at agenda cycle ≡ offered_for t.domain t.offers number cycle

-- what has arrived at a worker
abbrev pub come_to : Worker → Come
come_to w = come_by (items_in w.tables.items) w.agenda w.ins.items

-- what may arrive at a worker: through each link consecutive segments, and tables that a history can have
pub record MayHaveComeTo (t : Offering) (w : Worker) : Type 0 where
  pub segments : (l : ℕ) → AreNextSegments 0 (segments_at w.ins.items l)
  pub tables : MayBeTables t.domain (come_to w).tables

-- the link number of a port; and a port at which nothing was put or taken
abbrev pub link_of : {T : Type 0} → LinkEnd (End T) → ℕ
link_of port = port.link

abbrev pub IsUnused : {T : Type 0} → LinkEnd (End T) → Type 0
IsUnused port = port.pipe.items ≡ []

-- a worker of this traffic's bridge that has done nothing. It has the bridge, what the bridge is offered, and the ports of the links that
-- end in the bridge and of those that leave it and end in another bridge
pub record IsWorkerOf (t : Offering) (number : ℕ) (w : Worker) : Type 0 where
  pub good_offers : AreOffers t.domain t.offers
  pub stands : StandsSo t.domain nothing_yet (λ l. []) w.relay
  pub tidy : All IsTidy w.relay.outlets.items
  pub number_is : w.relay.number ≡ number
  pub no_drops : w.relay.edge.drops.items ≡ []
  pub is_agenda : HasItsOffers t number w.agenda
  pub no_tables : w.tables.items ≡ []
  pub links_in : map link_of w.ins.items ≡ links_into t.domain number
  pub none_taken : All IsUnused w.ins.items
  pub links_out : map link_of w.outs.items ≡ links_onward t.domain number
  pub none_put : All IsUnused w.outs.items

-- a worker of some bridge that has done nothing, and has this number of cycles to go through
pub record MayWork (cycles : ℕ) (w : Worker) : Type 0 where
  pub traffic : Offering
  pub number : ℕ
  pub is : IsWorkerOf traffic number w
  pub has_cycles : w.relay.cycles ≡ cycles

-- through a port consecutive segments were put, from cycle 0 up to the given cycle, and nothing else
pub record HasPut (upto : ℕ) (port : SegmentPort) : Type 0 where
  pub items : AreItems port.pipe.items
  pub next : AreNextSegments 0 (segments_in port)
  pub ends : end_of_segments 0 (segments_in port) ≡ upto
  pub few : length port.pipe.items ≤ upto

-- the drops of the first cycles, cycle by cycle: in each cycle the offers that weren't covered, by frame number
pub record AreDropsOf (d : Domain) (number : ℕ) (come : Come) (cycles : ℕ) (drops : List Dropped) : Type 0 where
  pub fresh : ℕ → List Dropped
  pub are : drops ≡ each_below fresh cycles
  pub each : (cycle : ℕ) → cycle < cycles →
      IsPermutation (dropped_after d number cycle (table_of come.tables cycle) [] (offers_in come cycle)) (fresh cycle)
  pub by_frame : (cycle : ℕ) → cycle < cycles → IsNonDecreasingBy (λ (x : Dropped). x.frame) (fresh cycle)

-- what a bridge's links have sent in the first cycles, given what arrived. Each link sends what follows from what arrived; the same was put
-- through the link's port, and is on the bridge trace, with the drops
pub record HasSentAll (t : Offering) (number cycles : ℕ) (done : Worker) : Type 0 where
  pub sends : Sendings
  pub gone : (l : ℕ) → leaves t.domain l number ≡ true → HasGoneOnBy t.domain number (come_to done) l (sends l)
  pub all : (l : ℕ) → leaves t.domain l number ≡ true → length (sends l) ≡ cycles
  pub put : (l cycle : ℕ) → leaves t.domain l number ≡ true → is_onward t.domain l ≡ true →
      filter (is_in cycle) (all_frames (segments_at done.outs.items l)) ≡ map (came_in t.domain l cycle) (batch_at (sends l) cycle)
  pub starts : (l : ℕ) → leaves t.domain l number ≡ true →
      starts_at done.bridge_trace.traces.items l ≡ map mark_of_sent (flat_map (λ (batch : List Sent). batch) (sends l))
  pub no_background : All (λ (trace : Trace). trace.background.items ≡ []) done.bridge_trace.traces.items
  pub came : All (λ (port : SegmentPort). cycles ≤ end_of_segments 0 (segments_in port)) done.ins.items
  pub drops : AreDropsOf t.domain number (come_to done) cycles done.bridge_trace.drops.items

-- the bridge did its part: it took the tables of all cycles, its links put segments up to the last cycle, and its bridge trace has a trace of each
-- of its links. If what arrived may arrive, the links have sent everything
pub record HasGoneThrough (t : Offering) (number cycles : ℕ) (done : Worker) : Type 0 where
  pub is_agenda : HasItsOffers t number done.agenda
  pub tables : AreItems done.tables.items
  pub had_tables : length (items_in done.tables.items) ≡ cycles
  pub ins : All (λ (port : SegmentPort). AreItems port.pipe.items) done.ins.items
  pub outs : All (HasPut cycles) done.outs.items
  pub links : links_of done.bridge_trace.traces.items ≡ links_from t.domain number
  pub sent : MayHaveComeTo t done → HasSentAll t number cycles done

-- what a worker promises: it keeps its pipes, and its bridge did its part, for any traffic whose worker it is
pub record Works (cycles : ℕ) (worker done : Worker) : Type 0 where
  pub tables : done.tables.pipe ≡ worker.tables.pipe
  pub ins : wires_of done.ins.items ≡ wires_of worker.ins.items
  pub outs : wires_of done.outs.items ≡ wires_of worker.outs.items
  pub part : (t : Offering) (number : ℕ) → IsWorkerOf t number worker → HasGoneThrough t number cycles done
