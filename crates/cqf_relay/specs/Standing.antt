-- How far a bridge's links have gone on, by what has arrived at it.
use Rattle.std.specs.Prelude.{ℕ, ◌≡◌, ◌+◌, ◌-◌, ◌≤◌, ◌<◌, ◌⊎◌, ◌++◌, ◌==◌, ◌&&◌, Bool, true, false, if◌then◌else◌, nat_le, slice_index_or}
use Rattle.std.specs.Prelude.{List, [], ◌∷◌, Some, All, AllPairs, Contains, filter, length, map, slice_get, slice_set, take}
use Rattle.std.specs.Arc.{arc_value}
use Rattle.std.specs.List.{flat_map, list_any}
use Rattle.std.specs.List.Sorted.{IsNonDecreasingBy, IsPermutation}
use Rattle.std.specs.Option.{option_map_or}
use Rattle.cqf_lists.specs.Lists.{each_below}
use Rattle.cqf_model.specs.declared.frames.Dropped.{Dropped}
use Rattle.cqf_model.specs.declared.frames.Offered.{Offered}
use Rattle.cqf_model.specs.declared.frames.Sent.{Sent}
use Rattle.cqf_model.specs.declared.topology.Link.{Link}
use Rattle.cqf_model.specs.declared.topology.Node.{Node}
use Rattle.cqf_model.specs.declared.topology.Node.TheVariants.{Bridge, Station}
use Rattle.cqf_model.specs.declared.topology.Row.{Row}
use Rattle.cqf_model.specs.Domain.{Domain, delay_of, enters, octet_time_of}
use Rattle.cqf_model.specs.Table.{AreOrderly, row_of, table_of}
use Rattle.cqf_trace.specs.Traces.{mark_of_sent}
use Rattle.cqf_agenda.specs.Links.{links_from, links_into}
use Rattle.cqf_relay.specs.declared.edge.Edge.{Edge}
use Rattle.cqf_relay.specs.declared.inlet.Inlet.{Inlet}
use Rattle.cqf_relay.specs.declared.leads.By.{By}
use Rattle.cqf_relay.specs.declared.leads.By.TheVariants as ingress
use Rattle.cqf_relay.specs.declared.leads.Leads.{Leads}
use Rattle.cqf_relay.specs.declared.log.ArrivedFrame.{ArrivedFrame}
use Rattle.cqf_relay.specs.declared.moving.Segment.{Segment}
use Rattle.cqf_relay.specs.declared.outlet.Outlet.{Outlet}
use Rattle.cqf_relay.specs.declared.queue.Queued.{Queued}
use Rattle.cqf_relay.specs.declared.relay.Relay.{Relay}
use Rattle.cqf_relay.specs.declared.wire.Wire.{Wire}
use Rattle.cqf_relay.specs.Segments.{IsNextSegment, IsSegmentOf, Sendings, batch_at, frames_of, moving_between}
use Rattle.cqf_relay.specs.Leading.{by_at, by_row, leads, same_by}
use Rattle.cqf_relay.specs.Logs.{ByCycle, is_in}
use Rattle.cqf_relay.specs.Offering.{CountsUpto, Going, IsOfCycle, came_of_going, covered_after, dropped_after}
use Rattle.cqf_relay.specs.Queues.{AreLeads, key_of_queued, queued}
use Rattle.cqf_relay.specs.Sending.{IsNewOutlet, IsTidy, KeepsSegmentBack, LearnsOf, SendsCycles, TakesPending, came_of, most_of, sends_of}

-- what has arrived at a bridge: the tables of its first cycles, with the offers of each, by instant, then index; and for each link that
-- ends in it the frames that it brought, and the cycle up to which it has brought them
pub record Come : Type 0 where
  pub tables : List (List Row)
  pub offers : List (List Offered)
  pub upto : ℕ → ℕ
  pub brought : ℕ → List ArrivedFrame

-- the offers of a cycle, and the covered ones among them
abbrev pub offers_in : Come → ℕ → List Offered
offers_in come cycle = slice_index_or come.offers cycle []

abbrev pub covered_in : Domain → ℕ → Come → ℕ → List Going
covered_in d bridge come cycle = covered_after d bridge cycle (table_of come.tables cycle) [] (offers_in come cycle)

-- tables that may arrive: orderly ones, each with its new rows by number, after the rows of all earlier tables
pub record MayBeTables (d : Domain) (tables : List (List Row)) : Type 0 where
  pub orderly : AreOrderly d tables
  pub by_number : (cycle : ℕ) → AllPairs (λ (row other : Row). row.no < other.no) (table_of tables cycle)
  pub following : (cycle later : ℕ) (row other : Row) → cycle < later → Contains (table_of tables cycle) row → Contains (table_of tables later) other →
      ((before : ℕ) → before < later → list_any (λ (it : Row). it.no == other.no) (table_of tables before) ≡ false) → row.no < other.no

-- the rows of the first `count` tables, one table after the other; and those of all tables
abbrev pub rows_of : List (List Row) → ℕ → List Row
rows_of tables count = flat_map (λ (table : List Row). table) (take count tables)

abbrev pub all_rows : List (List Row) → List Row
all_rows tables = rows_of tables (length tables)

-- whether a node is a bridge, whether a link ends in one, and the wire of a link of the domain
abbrev pub is_bridge : Node → Bool
is_bridge (Bridge b) = true
is_bridge (Station s) = false

abbrev pub is_onward : Domain → ℕ → Bool
is_onward d l = option_map_or (λ (link : Link). is_bridge link.to) (slice_get d.links l) false

abbrev pub wire_on : Domain → ℕ → Wire
wire_on d l = record { octet_time = octet_time_of d l; delay = delay_of d l; cycle_time = d.cycle_time; onward = is_onward d l }

-- what a link may have brought: frames in order of cycle, of cycles below the one up to which it has brought them
pub record MayHaveCome (upto : ℕ) (brought : List ArrivedFrame) : Type 0 where
  pub by_cycle : ByCycle brought
  pub within : All (λ (came : ArrivedFrame). came.cycle < upto) brought

-- of some frames, those that go on by a link, by the known rows
abbrev pub that_go_on : List Row → ℕ → By → ℕ → List ArrivedFrame → List Queued
that_go_on rows l by source frames =
    map (queued source) (filter (λ (came : ArrivedFrame). same_by (by_row l (row_of rows came.row)) by) frames)

-- what arrived by a link in a cycle and goes on by another one, if a known row leads there
abbrev pub comes_by : Domain → ℕ → Come → List Row → ℕ → ℕ → ℕ → List Queued
comes_by d bridge come rows l cycle m =
    if enters d m bridge && leads rows m l then that_go_on rows l (ingress.Link m) m (filter (is_in cycle) (come.brought m)) else []

-- all that arrived in a cycle and goes on by a link
abbrev pub comes_to : Domain → ℕ → Come → List Row → ℕ → ℕ → List Queued
comes_to d bridge come rows l cycle = each_below (comes_by d bridge come rows l cycle) (length d.links)
    ++ that_go_on rows l ingress.Edge 4096 (map (came_of_going d cycle) (covered_in d bridge come cycle))

-- a link has gone on from a cycle to the next, when `count` tables had arrived: the links from which a row of these tables leads to it had
-- brought the cycle, and it sent what arrived in the cycle and goes on by it, in order, from the beginning of the next one on
pub record GoesOnBy (d : Domain) (bridge : ℕ) (come : Come) (l cycle : ℕ) (sent : List Sent) : Type 0 where
  pub count : ℕ
  pub had_table : cycle < count
  pub within : count ≤ length come.tables
  pub had : (m : ℕ) → enters d m bridge ≡ true → leads (rows_of come.tables count) m l ≡ true → cycle < come.upto m
  pub sorted : List Queued
  pub is_queue : IsPermutation (comes_to d bridge come (rows_of come.tables count) l cycle) sorted
  pub in_order : IsNonDecreasingBy key_of_queued sorted
  pub sends : sent ≡ sends_of (wire_on d l) (cycle + 1) 0 (map came_of sorted)

-- what a link sent in its first cycles, by what arrived at its bridge: nothing in the first cycle
pub record HasGoneOnBy (d : Domain) (bridge : ℕ) (come : Come) (l : ℕ) (sends : List (List Sent)) : Type 0 where
  pub first : batch_at sends 0 ≡ []
  pub next : (cycle : ℕ) → cycle + 1 < length sends → GoesOnBy d bridge come l cycle (batch_at sends (cycle + 1))

-- a link that ends in the bridge: what it brought from cycle `least` on is kept
pub record IsInletOf (come : Come) (least : ℕ) (inlet : Inlet) : Type 0 where
  pub upto : inlet.upto ≡ come.upto inlet.link
  pub may : MayHaveCome (come.upto inlet.link) (come.brought inlet.link)
  pub held : MayHaveCome inlet.upto inlet.log.frames.items
  pub holds : (cycle : ℕ) → least ≤ cycle →
      filter (is_in cycle) inlet.log.frames.items ≡ filter (is_in cycle) (come.brought inlet.link)

-- the edge: the covered offers from cycle `least` on are kept, and nothing is counted for the next cycle yet
pub record IsEdgeOf (d : Domain) (bridge : ℕ) (come : Come) (least : ℕ) (edge : Edge) : Type 0 where
  pub number : edge.number ≡ bridge
  pub held : MayHaveCome (length come.tables) edge.log.frames.items
  pub holds : (cycle : ℕ) → least ≤ cycle →
      filter (is_in cycle) edge.log.frames.items ≡ map (came_of_going d cycle) (covered_in d bridge come cycle)
  pub counted : CountsUpto (length come.tables) edge.used.items

-- a link knows the rows of these tables
pub record KnowsRows (l : ℕ) (tables : List (List Row)) (known : Leads) : Type 0 where
  pub rows : (number : ℕ) → by_at known.rows.items number ≡ by_row l (row_of (all_rows tables) number)
  pub needs : (m : ℕ) → list_any (λ it. it == m) known.needs.items ≡ leads (all_rows tables) m l
  pub fits : AreLeads known

-- a link that leaves the bridge and has sent this in its first cycles: what it hasn't handed on yet is pending, all within 256 cycles from
-- the first pending frame's
pub record IsOutletOf (d : Domain) (bridge : ℕ) (come : Come) (sends : List (List Sent)) (outlet : Outlet) : Type 0 where
  pub wire : outlet.wire ≡ wire_on d outlet.trace.link
  pub knows : KnowsRows outlet.trace.link come.tables outlet.leads
  pub as_far : outlet.sent ≡ length sends
  pub handed : outlet.reported ≤ outlet.sent
  pub pends : outlet.wire.onward ≡ true →
      outlet.pending.frames.items ≡ moving_between d outlet.trace.link sends outlet.pending.base outlet.reported outlet.sent
  pub counts : outlet.wire.onward ≡ true → (cycle : ℕ) → outlet.reported ≤ cycle → cycle < outlet.sent → (batch_at sends cycle ≡ [] → ⊥) →
      (outlet.pending.base ≤ cycle) × (cycle < outlet.pending.base + 256)
  pub marked : outlet.trace.starts.items ≡ map mark_of_sent (flat_map (λ (batch : List Sent). batch) sends)
  pub no_background : outlet.trace.background.items ≡ []
  pub gone : HasGoneOnBy d bridge come outlet.trace.link sends

-- the link of an inlet, the link of an outlet and its wire
abbrev pub link_in : Inlet → ℕ
link_in inlet = inlet.link

abbrev pub link_out : Outlet → ℕ
link_out outlet = outlet.trace.link

abbrev pub wire_out : Outlet → Wire
wire_out outlet = outlet.wire

-- all rows that have arrived have numbers below `known`, and one of them has the greatest such number, unless `known` is 0; no link has
-- learned more than `known` rows
pub record AreKnown (tables : List (List Row)) (known : ℕ) (outlets : List Outlet) : Type 0 where
  pub below : (row : Row) → Contains (all_rows tables) row → row.no < known
  pub last : (known ≡ 0) ⊎ ((row : Row) × Contains (all_rows tables) row × (row.no + 1 ≡ known))
  pub room : All (λ (outlet : Outlet). length outlet.leads.rows.items ≤ known) outlets

-- the state of a bridge at which this has arrived, and whose links have sent this
pub record StandsSo (d : Domain) (come : Come) (sends : Sendings) (relay : Relay) : Type 0 where
  pub of_domain : arc_value relay.domain ≡ d
  pub tables_taken : relay.tables ≡ length come.tables
  pub offers_taken : length come.offers ≡ length come.tables
  pub into : map link_in relay.inlets.items ≡ links_into d relay.number
  pub from : map link_out relay.outlets.items ≡ links_from d relay.number
  pub rows : AreKnown come.tables relay.known relay.outlets.items
  pub least : ℕ
  pub early : All (λ (outlet : Outlet). least ≤ outlet.sent - 1) relay.outlets.items
  pub inlets : All (IsInletOf come least) relay.inlets.items
  pub edge : IsEdgeOf d relay.number come least relay.edge
  pub outlets : All (λ (outlet : Outlet). IsOutletOf d relay.number come (sends outlet.trace.link) outlet) relay.outlets.items

-- nothing has arrived
abbrev pub nothing_yet : Come
nothing_yet = record { tables = []; offers = []; upto = λ m. 0; brought = λ m. [] }

-- one more table has arrived, with its offers; and what a link sent in more cycles has arrived
abbrev pub with_table : Come → List Row → List Offered → Come
with_table come table offers =
    record { tables = come.tables ++ table ∷ []; offers = come.offers ++ offers ∷ []; upto = come.upto; brought = come.brought }

abbrev pub more_from : (ℕ → List ArrivedFrame) → ℕ → List ArrivedFrame → ℕ → List ArrivedFrame
more_from brought m more k = if k == m then brought k ++ more else brought k

abbrev pub upto_from : (ℕ → ℕ) → ℕ → ℕ → ℕ → ℕ
upto_from upto m later k = if k == m then later else upto k

abbrev pub with_segment : Come → ℕ → Segment → Come
with_segment come m segment = record {
  tables = come.tables;
  offers = come.offers;
  upto = upto_from come.upto m segment.upto;
  brought = more_from come.brought m (frames_of segment);
}

-- all offers are of the cycle
abbrev pub AreOfCycle : Domain → ℕ → List Offered → Type 0
AreOfCycle d cycle offers = All (IsOfCycle d cycle) offers

-- the links of a bridge that has done nothing
pub record IsNewInlet (inlet : Inlet) : Type 0 where
  pub upto : inlet.upto ≡ 0
  pub log : inlet.log.frames.items ≡ []

pub record AreNewInlets (d : Domain) (bridge : ℕ) (inlets : List Inlet) : Type 0 where
  pub links : map link_in inlets ≡ links_into d bridge
  pub new : All IsNewInlet inlets

pub record IsNewOutletOf (d : Domain) (outlet : Outlet) : Type 0 where
  pub link : Link
  pub is_link : slice_get d.links outlet.trace.link ≡ Some link
  pub new : IsNewOutlet d.cycle_time outlet.trace.link link (is_onward d outlet.trace.link) outlet

pub record AreNewOutlets (d : Domain) (bridge : ℕ) (outlets : List Outlet) : Type 0 where
  pub links : map link_out outlets ≡ links_from d bridge
  pub new : All (IsNewOutletOf d) outlets

-- a link has sent at most `cycles` cycles
abbrev pub IsWithin : ℕ → Outlet → Type 0
IsWithin cycles outlet = outlet.sent ≤ cycles

-- what stays of a bridge no matter what it does
pub record StaysAs (before after : Relay) : Type 0 where
  pub domain : after.domain ≡ before.domain
  pub number : after.number ≡ before.number
  pub cycles : after.cycles ≡ before.cycles
  pub links_in : map link_in after.inlets.items ≡ map link_in before.inlets.items
  pub links_out : map link_out after.outlets.items ≡ map link_out before.outlets.items
  pub wires : map wire_out after.outlets.items ≡ map wire_out before.outlets.items
  pub tidy : All IsTidy before.outlets.items → All IsTidy after.outlets.items
  pub within : All (IsWithin before.cycles) before.outlets.items → All (IsWithin before.cycles) after.outlets.items

-- everything stays but what its links have sent
pub record IsSameButLinks (before after : Relay) : Type 0 where
  pub domain : after.domain ≡ before.domain
  pub number : after.number ≡ before.number
  pub cycles : after.cycles ≡ before.cycles
  pub tables : after.tables ≡ before.tables
  pub inlets : after.inlets ≡ before.inlets
  pub edge : after.edge ≡ before.edge
  pub known : after.known ≡ before.known

-- each link learns a row
pub record LearnOnEach (row : Row) (before after : List Outlet) : Type 0 where
  pub count : length after ≡ length before
  pub each : (index : ℕ) (outlet learned : Outlet) → slice_get before index ≡ Some outlet → slice_get after index ≡ Some learned →
      LearnsOf row outlet learned

-- each link learns rows, one after the other
abbrev pub LearnEach : List Row → List Outlet → List Outlet → Type 0
LearnEach [] before after = after ≡ before
LearnEach (row ∷ rows) before after = (between : List Outlet) × LearnOnEach row before between × LearnEach rows between after

-- one more than the number of the last known row, after these rows were learned
abbrev pub known_after : ℕ → List Row → ℕ
known_after known [] = known
known_after known (row ∷ rows) = known_after (row.no + 1) rows

-- the new ones among some rows
abbrev pub new_rows : ℕ → List Row → List Row
new_rows known rows = filter (λ (row : Row). nat_le known row.no) rows

-- a bridge learns the new ones of a table's rows
pub record LearnsRows (rows : List Row) (before after : Relay) : Type 0 where
  pub domain : after.domain ≡ before.domain
  pub number : after.number ≡ before.number
  pub cycles : after.cycles ≡ before.cycles
  pub tables : after.tables ≡ before.tables
  pub inlets : after.inlets ≡ before.inlets
  pub edge : after.edge ≡ before.edge
  pub known : after.known ≡ known_after before.known (new_rows before.known rows)
  pub learn : LearnEach (new_rows before.known rows) before.outlets.items after.outlets.items

-- the cycle up to which each link has handed on what it sent
abbrev pub reported_by : Relay → List ℕ
reported_by relay = map (λ (outlet : Outlet). outlet.reported) relay.outlets.items

-- a bridge has taken a table with the cycle's offers: any state of it before becomes the state with these, and the drops of the offers that
-- aren't covered are appended
pub record TakesTable (table : List Row) (offers : List Offered) (before after : Relay) : Type 0 where
  pub same : StaysAs before after
  pub taken : after.tables ≡ before.tables + 1
  pub reported_same : reported_by after ≡ reported_by before
  pub stands : (d : Domain) (come : Come) (sends : Sendings) → StandsSo d come sends before → MayBeTables d (come.tables ++ table ∷ []) →
      StandsSo d (with_table come table offers) sends after
  pub fresh : List Dropped
  pub following : after.edge.drops.items ≡ before.edge.drops.items ++ fresh
  pub are_drops : (d : Domain) (come : Come) (sends : Sendings) → StandsSo d come sends before → MayBeTables d (come.tables ++ table ∷ []) →
      IsPermutation (dropped_after d before.number before.tables table [] offers) fresh
  pub by_frame : IsNonDecreasingBy (λ (dropped : Dropped). dropped.frame) fresh

-- a bridge has taken what the inlet at an index brought: if that may come next, any state of the bridge before becomes the state with it
pub record TakesSegment (index : ℕ) (segment : Segment) (before after : Relay) : Type 0 where
  pub same : StaysAs before after
  pub tables_same : after.tables ≡ before.tables
  pub drops_same : after.edge.drops ≡ before.edge.drops
  pub outlets_same : after.outlets ≡ before.outlets
  pub stands : (d : Domain) (come : Come) (sends : Sendings) (inlet : Inlet) → StandsSo d come sends before →
      slice_get before.inlets.items index ≡ Some inlet → IsNextSegment inlet.upto segment → StandsSo d (with_segment come inlet.link segment) sends after

-- everything that a link needs has arrived up to a cycle
pub record NeedsHaveCome (index upto : ℕ) (relay : Relay) : Type 0 where
  pub needed : (outlet : Outlet) → slice_get relay.outlets.items index ≡ Some outlet →
      All (λ (inlet : Inlet). list_any (λ it. it == inlet.link) outlet.leads.needs.items ≡ true → upto ≤ inlet.upto) relay.inlets.items

-- a link may send up to a cycle
pub record MayReach (index until : ℕ) (relay : Relay) : Type 0 where
  pub tables : until ≤ relay.tables + 1
  pub cycles : until ≤ relay.cycles
  pub most : (outlet : Outlet) → slice_get relay.outlets.items index ≡ Some outlet → until ≤ most_of outlet
  pub needed : (outlet : Outlet) → slice_get relay.outlets.items index ≡ Some outlet →
      All (λ (inlet : Inlet). list_any (λ it. it == inlet.link) outlet.leads.needs.items ≡ true → until ≤ inlet.upto + 1) relay.inlets.items

-- a link has sent as far as it may
pub record SendsOn (index : ℕ) (before after : Relay) : Type 0 where
  pub same : IsSameButLinks before after
  pub until : ℕ
  pub might : MayReach index until before
  pub outlet : Outlet
  pub was : slice_get before.outlets.items index ≡ Some outlet
  pub gone : Outlet
  pub is : after.outlets.items ≡ slice_set before.outlets.items index gone
  pub sends : SendsCycles until before.inlets.items before.edge.log outlet gone

-- a bridge has removed what none of its links needs any more: any state that it had before still holds
pub record LetsGo (before after : Relay) : Type 0 where
  pub same : StaysAs before after
  pub tables_same : after.tables ≡ before.tables
  pub drops_same : after.edge.drops ≡ before.edge.drops
  pub outlets_same : after.outlets ≡ before.outlets
  pub stands : (d : Domain) (come : Come) (sends : Sendings) → StandsSo d come sends before → StandsSo d come sends after

-- each link has sent more, after what it had sent
abbrev pub HaveSentMore : Sendings → Sendings → Type 0
HaveSentMore sends more = (l : ℕ) → (rest : List (List Sent)) × (more l ≡ sends l ++ rest)

-- a bridge's links have gone on
pub record GoesOnAlone (before after : Relay) : Type 0 where
  pub same : StaysAs before after
  pub reported_same : reported_by after ≡ reported_by before
  pub tables_same : after.tables ≡ before.tables
  pub drops_same : after.edge.drops ≡ before.edge.drops
  pub stands : (d : Domain) (come : Come) (sends : Sendings) → StandsSo d come sends before → MayBeTables d come.tables →
      (more : Sendings) × StandsSo d come more after × HaveSentMore sends more

-- what a link sent since its last segment was taken, as a segment
pub record HandsOn (index : ℕ) (before after : Relay) (segment : Segment) : Type 0 where
  pub same : IsSameButLinks before after
  pub stays : StaysAs before after
  pub outlet : Outlet
  pub was : slice_get before.outlets.items index ≡ Some outlet
  pub handed : Outlet
  pub is : after.outlets.items ≡ slice_set before.outlets.items index handed
  pub takes : TakesPending outlet handed segment
  pub reported : reported_by after ≡ slice_set (reported_by before) index segment.upto
  pub stands : (d : Domain) (come : Come) (sends : Sendings) → StandsSo d come sends before → StandsSo d come sends after
  pub is_segment : (d : Domain) (come : Come) (sends : Sendings) (outlet : Outlet) → StandsSo d come sends before →
      slice_get before.outlets.items index ≡ Some outlet → outlet.wire.onward ≡ true →
      IsSegmentOf d outlet.trace.link (sends outlet.trace.link) outlet.reported segment × (segment.upto ≡ length (sends outlet.trace.link))
  pub is_next : IsTidy outlet → IsNextSegment outlet.reported segment

-- a segment that couldn't be handed on was given back: the bridge is as before the segment was taken
pub record KeepsBack (index reported : ℕ) (segment : Segment) (before after : Relay) : Type 0 where
  pub same : IsSameButLinks before after
  pub links : map link_out after.outlets.items ≡ map link_out before.outlets.items
  pub wires : map wire_out after.outlets.items ≡ map wire_out before.outlets.items
  pub outlet : Outlet
  pub was : slice_get before.outlets.items index ≡ Some outlet
  pub kept : Outlet
  pub is : after.outlets.items ≡ slice_set before.outlets.items index kept
  pub keeps : KeepsSegmentBack reported segment outlet kept
  pub reported_by_then : reported_by after ≡ slice_set (reported_by before) index reported
  pub again : (older : Relay) → HandsOn index older before segment → slice_get (reported_by older) index ≡ Some reported →
      (d : Domain) (come : Come) (sends : Sendings) → StandsSo d come sends older → StandsSo d come sends after
  pub tidy_again : (older : Relay) → HandsOn index older before segment → slice_get (reported_by older) index ≡ Some reported →
      All IsTidy older.outlets.items → All IsTidy after.outlets.items

-- all is over: each table and each segment was taken, and each link has sent all cycles, and handed them on if it ends in another bridge
pub record IsOver (relay : Relay) : Type 0 where
  pub tables : relay.cycles ≤ relay.tables
  pub sent : All (λ (outlet : Outlet). relay.cycles ≤ outlet.sent) relay.outlets.items
  pub reported : All (λ (outlet : Outlet). outlet.wire.onward ≡ true → relay.cycles ≤ outlet.reported) relay.outlets.items
  pub come : All (λ (inlet : Inlet). relay.cycles ≤ inlet.upto) relay.inlets.items
