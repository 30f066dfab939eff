-- The content of a world, and how it follows the network of the history so far.
use Rattle.std.specs.Prelude.{ℕ, ◌≡◌, ◌+◌, ◌-◌, ◌≤◌, ◌<◌, ◌++◌, ◌==◌, ◌∷◌, [], List}
use Rattle.std.specs.Prelude.{false, filter, length, map, nat_lt, slice_index_or, true}
use Rattle.std.specs.List.{flat_map, insert}
use Rattle.cqf_lists.specs.Lists.{each_below}
use Rattle.cqf_model.specs.declared.frames.Dropped.{Dropped}
use Rattle.cqf_model.specs.declared.frames.Page.{Page}
use Rattle.cqf_model.specs.Domain.{Domain, IsAccepted, bridge_of, enters}
use Rattle.cqf_model.specs.declared.history.Reply.TheVariants.{Sealed}
use Rattle.cqf_model.specs.History.{IsLegalHistory, Seals, seals, table_at}
use Rattle.cqf_laws_history.specs.StateLaws.{with_entry}
use Rattle.cqf_admission.specs.Admission.{Administration}
use Rattle.cqf_model.specs.Network.{Network}
use Rattle.cqf_model.specs.Run.{AreBackground, AreOffers, Run}
use Rattle.cqf_laws_cycle.specs.BridgeCycle.{IsCompiledNetwork}
use Rattle.cqf_admission.specs.Tables.{CycleTable}
use Rattle.cqf_book.specs.Pages.{ArePosted, Posted, page_count, with_page}
use Rattle.cqf_bridge.specs.declared.faults.BridgeFault.{BridgeFault}
use Rattle.cqf_bridge.specs.declared.faults.BridgeFault.TheVariants.{Memory}
use Rattle.cqf_bridge.specs.Batch.{LinkBatch}
use Rattle.cqf_bridge.specs.BridgeState.{BridgeState, SendsCycle}
use Rattle.cqf_agenda.specs.Links.{links_into}
use Rattle.cqf_bridge.specs.Receiving.{Handed, IsReceiveFault, IsRunOfBridge, ReceivesCycle}
use Rattle.cqf_bridge.specs.Cycles.{starts_of_batch}
use Rattle.cqf_bridge.specs.Follows.{FollowsTheNetwork, HasSentOfTheNetwork, batch_of, batches_from}
use Rattle.cqf_world.specs.declared.parts.Line.{Line}
use Rattle.cqf_world.specs.declared.parts.WorldBridge.{WorldBridge}
use Rattle.cqf_agenda.specs.Agenda.{IsAgendaOf, background_at, offers_listed_at}
use Rattle.cqf_world.specs.World.{ArePagesOfTheBook, WorldState, cycle_of_bridge, sealed_run, sent_by_driven, taken_from}
use Rattle.cqf_model.specs.Limits.{most_cycles}

-- the inputs of a world: an accepted domain, a legal history, offers and background frames of the domain, and pages of its bridges
pub record IsGivenWorld (w : WorldState) : Type 0 where
  pub accepted : IsAccepted w.domain
  pub legal : IsLegalHistory w.domain w.entries
  pub offers : AreOffers w.domain w.offers
  pub background : AreBackground w.domain w.background
  pub few_cycles : w.cycles ≤ most_cycles
  pub of_bridges : w.pages.bridges ≡ length w.domain.bridges
  pub of_cycles : w.pages.cycles ≡ w.cycles
  pub in_order : ArePosted w.pages

-- the links that end in a bridge and from which it has taken the batch of its cycle, by number
abbrev pub links_taken : WorldState → ℕ → List ℕ
links_taken w bridge = filter (λ l. nat_lt (cycle_of_bridge w bridge) (taken_from w l)) (links_into w.domain bridge)

-- a bridge with what it was given, in one of its cycles. It may have the cycle's table, and then may have sent the cycle. Before it sends
-- the cycle, it follows the network. Afterwards it has sent what the network sends, and keeps it for its page. The batches that it has
-- taken are the network's
pub record IsDriven (run : Run) (sealed : ℕ) (net : Network) (bridge cycle : ℕ) (links : List ℕ) (s : WorldBridge) : Type 0 where
  pub in_cycle : s.posted ≡ cycle
  pub not_after : s.posted ≤ s.sent
  pub with_table : s.sent ≤ s.given
  pub not_ahead : s.given ≤ s.posted + 1
  pub closed : s.given ≤ sealed
  pub number : s.bridge.number ≡ bridge
  pub received : s.bridge.received ≡ s.posted
  pub follows : s.sent ≡ s.posted → FollowsTheNetwork run net s.bridge
  pub has_sent : s.sent ≡ s.posted + 1 → HasSentOfTheNetwork run net s.bridge
  pub starts : s.sent ≡ s.posted + 1 → s.starts.items ≡ flat_map starts_of_batch (batches_from run.domain net.carried bridge s.posted)
  pub taken : s.taken.items ≡ map (batch_of run.domain net.carried s.posted) links
  pub incoming : s.incoming ≡ length (links_into run.domain bridge)
  pub agenda : IsAgendaOf run.domain run.offers run.background bridge s.agenda

-- the batches under way on a link: the network's batches of `count` cycles, beginning with the cycle `from`
abbrev pub under_way : Domain → Network → ℕ → ℕ → ℕ → List LinkBatch
under_way d net link from count = each_below (λ k. batch_of d net.carried (from + k) link ∷ []) count

-- a link that ends in a bridge; the bridge is in the cycle `cycle` and has sent `sent` cycles. It has taken the batches of the cycles
-- before its own, and perhaps that of its own cycle. Under ingress are the batches that the bridge at the link's start has sent and that
-- weren't taken
pub record IsLine (d : Domain) (net : Network) (link cycle sent sent_from : ℕ) (x : Line) : Type 0 where
  pub at_least : cycle ≤ x.taken
  pub at_most : x.taken ≤ sent
  pub not_more : x.taken ≤ sent_from
  pub waiting : x.waiting.items ≡ under_way d net link x.taken (sent_from - x.taken)

-- the counts of a bridge and of a link
abbrev pub given_of : WorldBridge → ℕ
given_of s = s.given

abbrev pub sent_of_driven : WorldBridge → ℕ
sent_of_driven s = s.sent

abbrev pub taken_of : Line → ℕ
taken_of x = x.taken

-- a world that isn't stopped
pub record IsRunningWorld (w : WorldState) (tables : List CycleTable) (driven : List WorldBridge) (lines : List Line) : Type 0 where
  pub net : Network
  pub compiled : IsCompiledNetwork (sealed_run w) (seals w.entries) net
  pub within_run : seals w.entries ≤ w.cycles
  pub all_tables : length tables ≡ seals w.entries
  pub table : (cycle : ℕ) (x : CycleTable) → cycle < length tables →
      ((slice_index_or tables cycle x).cycle ≡ cycle) × ((slice_index_or tables cycle x).rows ≡ table_at w.domain w.entries cycle)
  pub all_driven : length driven ≡ length w.domain.bridges
  pub given_are : w.given ≡ map given_of driven
  pub sent_are : w.sent ≡ map sent_of_driven driven
  pub bridge_driven : (bridge : ℕ) (s : WorldBridge) → bridge < length driven →
      IsDriven (sealed_run w) (seals w.entries) net bridge (cycle_of_bridge w bridge) (links_taken w bridge) (slice_index_or driven bridge s)
  pub all_lines : length lines ≡ length w.domain.links
  pub taken_are : w.taken ≡ map taken_of lines
  pub line : (link bridge : ℕ) (x : Line) → enters w.domain link bridge ≡ true →
      IsLine w.domain net link (cycle_of_bridge w bridge) (sent_by_driven w bridge) (sent_by_driven w (bridge_of w.domain link)) (slice_index_or lines link x)

-- what a world maintains: its pages are those of the book, and, while no allocation has failed, its content follows the network
pub record IsWorld (w : WorldState) (tables : List CycleTable) (driven : List WorldBridge) (lines : List Line) : Type 0 where
  pub given : IsGivenWorld w
  pub pages : ArePagesOfTheBook w
  pub sealed : (bridge : ℕ) → cycle_of_bridge w bridge ≤ seals w.entries
  pub running : w.stopped ≡ false → IsRunningWorld w tables driven lines

-- a cycle is closed: the Seal is entered, and the cycle's table is appended to the others
pub record ClosesInWorld (old new : Administration) (seat : ℕ) (before after : List CycleTable) : Type 0 where
  pub domain : new.domain ≡ old.domain
  pub entries : new.entries ≡ with_entry old.entries seat Seals Sealed
  pub table : CycleTable
  pub of_cycle : table.cycle ≡ seals old.entries
  pub rows : table.rows ≡ table_at old.domain new.entries (seals old.entries)
  pub following : after ≡ before ++ table ∷ []

-- the oldest batch under way on a link goes to the bridge, where it is inserted by link number
pub record Moves (line line_after : Line) (bridge_driven driven_after : WorldBridge) : Type 0 where
  pub batch : LinkBatch
  pub popped : line.waiting.items ≡ batch ∷ line_after.waiting.items
  pub counted : line_after.taken ≡ line.taken + 1
  pub same : driven_after ≡ record bridge_driven { taken = driven_after.taken }
  pub put : driven_after.taken.items
      ≡ insert bridge_driven.taken.items (length (filter (λ (b : LinkBatch). nat_lt b.link batch.link) bridge_driven.taken.items)) batch

-- a bridge sends its cycle, with its background frames of the cycle, and keeps the starts of its batches' frames
pub record SendsItsCycle (before after : WorldBridge) (batches : List LinkBatch) : Type 0 where
  pub sends : SendsCycle before.bridge after.bridge before.posted (background_at before.agenda before.posted) [] batches
  pub starts : after.starts.items ≡ flat_map starts_of_batch batches
  pub same : after ≡ record before { bridge = after.bridge; starts = after.starts }

-- batches are put on the links that end in bridges, each after those that are under way
pub record AreComing (d : Domain) (batches : List LinkBatch) (before after : List Line) : Type 0 where
  pub as_many : length after ≡ length before
  pub counts : map taken_of after ≡ map taken_of before
  pub following : (link bridge : ℕ) (x : Line) → enters d link bridge ≡ true →
      (slice_index_or after link x).waiting.items
      ≡ (slice_index_or before link x).waiting.items ++ filter (λ (b : LinkBatch). b.link == link) batches

-- a bridge sends its cycle, and its batches are put on the links
pub record SendsOut (d : Domain) (before after : WorldBridge) (lines lines_after : List Line) : Type 0 where
  pub between : WorldBridge
  pub batches : List LinkBatch
  pub sends : SendsItsCycle before between batches
  pub coming : AreComing d batches lines lines_after
  pub counted : after ≡ record between { sent = before.posted + 1 }

-- what a bridge is given to receive its cycle: a table, and the batches that it has taken
abbrev pub handed_to : WorldBridge → CycleTable → Handed
handed_to s table = record { table_cycle = table.cycle; rows = table.rows; batches = s.taken.items }

-- a run that has the bridge's cycle, with this table, and with the bridge's offers in the cycle
abbrev pub IsRunAt : WorldBridge → CycleTable → Run → Type 0
IsRunAt s table run = IsRunOfBridge s.bridge.domain s.bridge.number s.posted table.rows (offers_listed_at s.agenda s.posted) run

-- a bridge may receive its cycle with the table: there is such a run, and the bridge can fail only if an allocation fails
pub record MayReceiveItsCycle (s : WorldBridge) (table : CycleTable) : Type 0 where
  pub run : Run
  pub of_run : IsRunAt s table run
  pub memory_alone : (after : BridgeState) (fault : BridgeFault) →
      ((r : Run) → IsRunAt s table r → IsReceiveFault r s.bridge after s.posted (handed_to s table) fault) → fault ≡ Memory

-- a bridge receives its cycle, with the table, its offers in the cycle, and the batches that it has taken
pub record ReceivesItsCycle (before after : WorldBridge) (table : CycleTable) (drops : List Dropped) : Type 0 where
  pub receives : (run : Run) → IsRunAt before table run → ReceivesCycle run before.bridge after.bridge before.posted before.taken.items drops
  pub number : after.bridge.number ≡ before.bridge.number
  pub same : after ≡ record before { bridge = after.bridge }

-- the page of a bridge that has received its cycle, with these drops
pub record IsPageOf (s : WorldBridge) (page : Page) (drops : List Dropped) : Type 0 where
  pub of_bridge : page.bridge ≡ s.bridge.number
  pub of_cycle : page.cycle.0 ≡ s.posted
  pub starts : page.starts.items ≡ s.starts.items
  pub background : page.background.items ≡ s.bridge.background
  pub dropped : page.drops.items ≡ drops

-- the page of a bridge's cycle is the bridge's next page
pub record IsNextToPost (pages : Posted) (s : WorldBridge) : Type 0 where
  pub inside : s.bridge.number < pages.bridges
  pub of_cycles : s.posted < pages.cycles
  pub next : s.posted ≡ page_count pages s.bridge.number

-- a bridge receives its cycle, and posts its page; it has taken no batch of the next cycle
pub record PostsOut (before after : WorldBridge) (table : CycleTable) (pages pages_after : Posted) : Type 0 where
  pub between : WorldBridge
  pub drops : List Dropped
  pub page : Page
  pub receives : ReceivesItsCycle before between table drops
  pub is_page : IsPageOf between page drops
  pub posted : pages_after ≡ with_page pages page
  pub none_taken : after.taken.items ≡ []
  pub same : after ≡ record between { posted = between.posted + 1; starts = after.starts; taken = after.taken }
