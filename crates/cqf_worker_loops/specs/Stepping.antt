-- How far a bridge has got on its thread.
use Rattle.std.specs.Prelude.{ℕ, ◌≡◌, ◌+◌, ◌≤◌, ◌<◌, [], true, if◌then◌else◌, nat_lt, All, Contains, Some, filter, length, map, slice_get}
use Rattle.std.specs.Arc.{arc_value}
use Rattle.cqf_model.specs.Limits.{most_cycles}
use Rattle.cqf_model.specs.Run.{AreOffers}
use Rattle.cqf_admission.specs.Tables.{CycleTable}
use Rattle.cqf_relay.specs.declared.outlet.Outlet.{Outlet}
use Rattle.cqf_relay.specs.Segments.{Sendings, all_frames, batch_at, came_in}
use Rattle.cqf_relay.specs.Logs.{is_in}
use Rattle.cqf_relay.specs.Sending.{IsTidy}
use Rattle.cqf_agenda.specs.Links.{links_from, links_into}
use Rattle.cqf_relay.specs.Standing.{IsWithin, StandsSo, is_onward, link_in, link_out}
use Rattle.cqf_worker_loops.specs.declared.carried.Carried.TheVariants.{Item}
use Rattle.cqf_worker_loops.specs.declared.worker.Worker.{Worker}
use Rattle.cqf_worker_loops.specs.Rows.{with_item, wires_of}
use Rattle.cqf_worker_loops.specs.Stops.{AreItems}
use Rattle.cqf_worker_loops.specs.Workers.{AreDropsOf, HasGoneThrough, HasItsOffers, HasPut, MayHaveComeTo, Offering, SegmentPort}
use Rattle.cqf_worker_loops.specs.Workers.{come_to, items_in, link_of, links_onward, segments_at}
use Rattle.cqf_worker_loops.specs.PipeRule.{most_items}

-- what a link that ends in another bridge has put of each cycle: all frames that it sent in the cycle, as they arrive, if it has passed the
-- cycle on; else none
pub record HasHandedOn (t : Offering) (w : Worker) (sends : Sendings) (outlet : Outlet) : Type 0 where
  pub each : (cycle : ℕ) → is_onward t.domain outlet.trace.link ≡ true →
      filter (is_in cycle) (all_frames (segments_at w.outs.items outlet.trace.link))
      ≡ (if nat_lt cycle outlet.reported then map (came_in t.domain outlet.trace.link cycle) (batch_at (sends outlet.trace.link) cycle) else [])

-- the worker's bridge is in the state that follows from what has arrived: its links have sent these frames, each link has passed on the
-- cycles that it records as passed on, and the drops are those of the offers that weren't covered
pub record HasComeSoFar (t : Offering) (number : ℕ) (w : Worker) : Type 0 where
  pub sends : Sendings
  pub stands : StandsSo t.domain (come_to w) sends w.relay
  pub handed : All (HasHandedOn t w sends) w.relay.outlets.items
  pub drops : AreDropsOf t.domain number (come_to w) w.relay.tables w.relay.edge.drops.items

-- a worker under way. In any case the tables and segments that it took are items, its links are tidy and have sent no more than its
-- cycles, and through each port went the cycles that the port's link has passed on. If what has arrived may arrive (MayHaveComeTo), its
-- bridge is in the state that follows from it
pub record IsUnderWay (t : Offering) (number : ℕ) (w : Worker) : Type 0 where
  pub good_offers : AreOffers t.domain t.offers
  pub is_agenda : HasItsOffers t number w.agenda
  pub of_domain : arc_value w.relay.domain ≡ t.domain
  pub number_is : w.relay.number ≡ number
  pub few : w.relay.cycles ≤ most_cycles
  pub tables : AreItems w.tables.items
  pub tables_taken : w.relay.tables ≡ length (items_in w.tables.items)
  pub early : w.relay.tables ≤ w.relay.cycles
  pub links_in : map link_of w.ins.items ≡ links_into t.domain number
  pub inlets : map link_in w.relay.inlets.items ≡ links_into t.domain number
  pub ins : All (λ (port : SegmentPort). AreItems port.pipe.items) w.ins.items
  pub links_out : map link_of w.outs.items ≡ links_onward t.domain number
  pub outlets : map link_out w.relay.outlets.items ≡ links_from t.domain number
  pub wires : All (λ (outlet : Outlet). outlet.wire.onward ≡ is_onward t.domain outlet.trace.link) w.relay.outlets.items
  pub tidy : All IsTidy w.relay.outlets.items
  pub within : All (IsWithin w.relay.cycles) w.relay.outlets.items
  pub outs : (port : SegmentPort) (outlet : Outlet) → Contains w.outs.items port → Contains w.relay.outlets.items outlet →
      port.link ≡ outlet.trace.link → HasPut outlet.reported port
  pub come : MayHaveComeTo t w → HasComeSoFar t number w

-- a worker under way, for some traffic
pub record SomeUnderWay (w : Worker) : Type 0 where
  pub traffic : Offering
  pub number : ℕ
  pub is : IsUnderWay traffic number w

-- what never changes in a worker
pub record IsSameWorker (before after : Worker) : Type 0 where
  pub number : after.relay.number ≡ before.relay.number
  pub cycles : after.relay.cycles ≡ before.relay.cycles
  pub agenda : after.agenda ≡ before.agenda
  pub tables : after.tables.pipe ≡ before.tables.pipe
  pub ins : wires_of after.ins.items ≡ wires_of before.ins.items
  pub outs : wires_of after.outs.items ≡ wires_of before.outs.items

-- a worker goes on: it is still under way for all traffic for which it was under way before
pub record GoesFurther (before after : Worker) : Type 0 where
  pub same : IsSameWorker before after
  pub under_way : (t : Offering) (number : ℕ) → IsUnderWay t number before → IsUnderWay t number after

-- a worker that gives up has put only segments, and there is room for a Stop
pub record HasPutSegments (before after : Worker) : Type 0 where
  pub outs : wires_of after.outs.items ≡ wires_of before.outs.items
  pub items : All (λ (port : SegmentPort). AreItems port.pipe.items) after.outs.items
  pub room : All (λ (port : SegmentPort). length port.pipe.items < most_items) after.outs.items

-- a worker that has taken a table from its pipe, which its bridge hasn't taken yet
pub record HasTable (table : CycleTable) (w : Worker) : Type 0 where
  pub before : Worker
  pub was : SomeUnderWay before
  pub wants : before.relay.tables < before.relay.cycles
  pub is : w ≡ record before { tables = with_item before.tables (Item table) }

-- the bridge has taken the table: the worker is now under way for all traffic for which it was under way before it took the table from its
-- pipe
pub record EntersTable (table : CycleTable) (before after : Worker) : Type 0 where
  pub same : IsSameWorker before after
  pub tables : after.tables ≡ before.tables
  pub taken : after.relay.tables ≡ before.relay.tables + 1
  pub under_way : (t : Offering) (number : ℕ) (older : Worker) → IsUnderWay t number older → older.relay.tables < older.relay.cycles →
      before ≡ record older { tables = with_item older.tables (Item table) } → IsUnderWay t number after

-- the link at the index `index` has something to pass on, through the port at the index `port`
pub record HandsOnAt (index port : ℕ) (w : Worker) : Type 0 where
  pub outlet : Outlet
  pub there : slice_get w.relay.outlets.items index ≡ Some outlet
  pub onward : outlet.wire.onward ≡ true
  pub more : outlet.reported < outlet.sent
  pub at : SegmentPort
  pub its_port : slice_get w.outs.items port ≡ Some at
  pub same_link : at.link ≡ outlet.trace.link

-- what the bridge has sent and dropped is on the worker's bridge trace
pub record KeepsBridgeTrace (before after : Worker) : Type 0 where
  pub agenda : after.agenda ≡ before.agenda
  pub tables : after.tables ≡ before.tables
  pub ins : after.ins ≡ before.ins
  pub traces : after.bridge_trace.traces.items ≡ map (λ (outlet : Outlet). outlet.trace) before.relay.outlets.items
  pub drops : after.bridge_trace.drops ≡ before.relay.edge.drops

-- a worker has gone through all cycles: it keeps its pipes, has put only segments, and its bridge did its part for all traffic for which
-- it was under way
pub record EndsSo (before after : Worker) : Type 0 where
  pub tables : after.tables.pipe ≡ before.tables.pipe
  pub ins : wires_of after.ins.items ≡ wires_of before.ins.items
  pub outs : wires_of after.outs.items ≡ wires_of before.outs.items
  pub items : All (λ (port : SegmentPort). AreItems port.pipe.items) after.outs.items
  pub room : All (λ (port : SegmentPort). length port.pipe.items < most_items) after.outs.items
  pub part : (t : Offering) (number : ℕ) → IsUnderWay t number before → HasGoneThrough t number before.relay.cycles after
