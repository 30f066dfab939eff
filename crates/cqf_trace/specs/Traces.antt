-- The traces of a run's links: the transmissions of each link, in order, and the drops of each bridge.
use Rattle.std.specs.Prelude.{ℕ, ◌≡◌, ◌≤◌, ◌<◌, ◌==◌, List, [], ◌∷◌, AllPairs, Bool, filter, if◌then◌else◌, length, map, slice_get, slice_index_or, Some}
use Rattle.std.specs.Global.{Global}
use Rattle.std.specs.declared.vec.Vec.{Vec}
use Rattle.cqf_lists.specs.Lists.{each_below}
use Rattle.cqf_model.specs.declared.frames.Dropped.{Dropped}
use Rattle.cqf_model.specs.declared.frames.Sent.{Sent}
use Rattle.cqf_model.specs.declared.frames.Started.{Started}
use Rattle.cqf_model.specs.declared.ports.Start.{Start}
use Rattle.cqf_model.specs.Book.{Contents}
use Rattle.cqf_model.specs.Domain.{Domain, cycle_of}
use Rattle.cqf_laws_cycle.specs.PageLaws.{is_on_link}
use Rattle.cqf_trace.specs.declared.trace.Mark.{Mark}
use Rattle.cqf_trace.specs.declared.trace.Trace.{Trace}
use Rattle.cqf_trace.specs.declared.traces.TransmissionKind.{TransmissionKind}
use Rattle.cqf_trace.specs.declared.traces.TransmissionKind.TheVariants.{Stream, Background}
use Rattle.cqf_trace.specs.declared.traces.Traces.{Traces}

-- the trace's mark for a transmission of a book, for a frame that a link carries, and for a background frame that a link starts
abbrev pub mark_of : Started → Mark
mark_of s = record { start = s.start; frame = s.frame; octets = s.octets }

abbrev pub mark_of_sent : Sent → Mark
mark_of_sent s = record { start = s.start; frame = s.frame; octets = s.octets }

abbrev pub mark_of_start : Start → Mark
mark_of_start s = record { start = s.start; frame = s.frame; octets = s.octets }

-- the marks of the transmissions on one link
abbrev pub marks_on : ℕ → List Started → List Mark
marks_on link starts = map mark_of (filter (is_on_link link) starts)

-- the book's entry for a mark: in the given cycle, and in the cycle of its instant
abbrev pub started_in : ℕ → ℕ → Mark → Started
started_in cycle link m = record { cycle = record { 0 = cycle }; link = link; frame = m.frame; octets = m.octets; start = m.start }

abbrev pub started_by : Domain → ℕ → Mark → Started
started_by d link m = started_in (cycle_of d m.start.0) link m

-- the marks on the trace of a link: on the first such trace if there are several, and none if there is no such trace
abbrev pub starts_at : List Trace → ℕ → List Mark
starts_at [] link = []
starts_at (trace ∷ traces) link = if trace.link == link then trace.starts.items else starts_at traces link

abbrev pub background_at : List Trace → ℕ → List Mark
background_at [] link = []
background_at (trace ∷ traces) link = if trace.link == link then trace.background.items else background_at traces link

-- the link of each trace
abbrev pub link_of_trace : Trace → ℕ
link_of_trace trace = trace.link

abbrev pub links_of : List Trace → List ℕ
links_of traces = map link_of_trace traces

-- the numbers of the first `count` links: 0, 1, ..
abbrev pub first_links : ℕ → List ℕ
first_links count = each_below (λ link. link ∷ []) count

-- the trace at index k is the trace of link k
abbrev pub StandByNumber : Traces → Type 0
StandByNumber traces = links_of traces.links.items ≡ first_links (length traces.links.items)

-- the marks of one kind on a link's trace
abbrev pub marks_at : TransmissionKind → Traces → ℕ → List Mark
marks_at Stream traces link = starts_at traces.links.items link
marks_at Background traces link = background_at traces.links.items link

-- the kept drops of a bridge; empty if there is no such bridge
abbrev pub drops_at : Traces → ℕ → List Dropped
drops_at traces bridge = slice_index_or (map (λ (drops : Vec Dropped Global). drops.items) traces.drops.items) bridge []

-- the drop is at the bridge
abbrev pub is_at_bridge : ℕ → Dropped → Bool
is_at_bridge bridge drop = drop.bridge == bridge

-- the traces of a book: each link has its own trace, by number, with exactly the book's transmissions on that link; each bridge has exactly
-- the book's drops at that bridge. All are in the book's order
pub record AreTracesOf (d : Domain) (traces : Traces) (book : Contents) : Type 0 where
  pub each_link : links_of traces.links.items ≡ first_links (length d.links)
  pub starts : (link : ℕ) → link < length d.links → starts_at traces.links.items link ≡ marks_on link book.starts
  pub background : (link : ℕ) → link < length d.links → background_at traces.links.items link ≡ marks_on link book.background
  pub each_bridge : length traces.drops.items ≡ length d.bridges
  pub drops : (bridge : ℕ) → bridge < length d.bridges → drops_at traces bridge ≡ filter (is_at_bridge bridge) book.drops

-- the mark is of the cycle, and the drop is of the cycle
abbrev pub is_in : Domain → ℕ → Mark → Bool
is_in d cycle m = cycle_of d m.start.0 == cycle

abbrev pub is_drop_in : ℕ → Dropped → Bool
is_drop_in cycle drop = drop.cycle.0 == cycle

-- the book's entries for a link's marks in one cycle
abbrev pub reported_on : Domain → ℕ → ℕ → List Mark → List Started
reported_on d cycle link marks = map (started_by d link) (filter (is_in d cycle) marks)

-- the entries of one kind in one cycle, for the first `links` links in order, and those in the first `cycles` cycles for all links
abbrev pub reported_on_links : Domain → TransmissionKind → Traces → ℕ → ℕ → List Started
reported_on_links d kind traces cycle links = each_below (λ link. reported_on d cycle link (marks_at kind traces link)) links

abbrev pub reported_in_cycles : Domain → TransmissionKind → Traces → ℕ → List Started
reported_in_cycles d kind traces cycles = each_below (λ cycle. reported_on_links d kind traces cycle (length d.links)) cycles

-- the drops in one cycle, for the first `bridges` bridges in order, and those in the first `cycles` cycles for all bridges
abbrev pub drops_at_bridges : Traces → ℕ → ℕ → List Dropped
drops_at_bridges traces cycle bridges = each_below (λ bridge. filter (is_drop_in cycle) (drops_at traces bridge)) bridges

abbrev pub drops_in_cycles : Domain → Traces → ℕ → List Dropped
drops_in_cycles d traces cycles = each_below (λ cycle. drops_at_bridges traces cycle (length d.bridges)) cycles

-- the book that traces report over the first `cycles` cycles
abbrev pub reported_from : Domain → ℕ → Traces → Contents
reported_from d cycles traces = record {
  starts = reported_in_cycles d Stream traces cycles;
  background = reported_in_cycles d Background traces cycles;
  drops = drops_in_cycles d traces cycles;
}

-- the instants on a trace don't decrease, and the cycles of a bridge's drops don't decrease
abbrev pub IsInOrder : List Mark → Type 0
IsInOrder marks = AllPairs (λ (a b : Mark). a.start.0 ≤ b.start.0) marks

abbrev pub AreDropsByCycle : List Dropped → Type 0
AreDropsByCycle drops = AllPairs (λ (a b : Dropped). a.cycle.0 ≤ b.cycle.0) drops

-- what traces must satisfy so that their book can be written without sorting
pub record MayBeReported (d : Domain) (traces : Traces) : Type 0 where
  pub each_link : links_of traces.links.items ≡ first_links (length d.links)
  pub in_order : (kind : TransmissionKind) (link : ℕ) → link < length d.links → IsInOrder (marks_at kind traces link)
  pub each_bridge : length traces.drops.items ≡ length d.bridges
  pub drops : (bridge : ℕ) → bridge < length d.bridges → AreDropsByCycle (drops_at traces bridge)

-- the index is where the cycles before `cycle` end: each mark before the index is of an earlier cycle, and no mark from the index on is
pub record IsEndBefore (d : Domain) (cycle : ℕ) (marks : List Mark) (index : ℕ) : Type 0 where
  pub within : index ≤ length marks
  pub before : (k : ℕ) (m : Mark) → slice_get marks k ≡ Some m → k < index → cycle_of d m.start.0 < cycle
  pub following : (k : ℕ) (m : Mark) → slice_get marks k ≡ Some m → index ≤ k → cycle ≤ cycle_of d m.start.0

-- the same for drops
pub record IsDropsEndBefore (cycle : ℕ) (drops : List Dropped) (index : ℕ) : Type 0 where
  pub within : index ≤ length drops
  pub before : (k : ℕ) (x : Dropped) → slice_get drops k ≡ Some x → k < index → x.cycle.0 < cycle
  pub following : (k : ℕ) (x : Dropped) → slice_get drops k ≡ Some x → index ≤ k → cycle ≤ x.cycle.0
