-- Laws about a bridge that follows the network of a run, in a planner's words.
use Rattle.std.specs.Prelude.{ℕ, ◌≡◌, ◌+◌, ◌<◌, ◌++◌, List, length, map}
use Rattle.std.specs.List.{flat_map}
use Rattle.cqf_model.specs.declared.frames.Dropped.{Dropped}
use Rattle.cqf_model.specs.declared.frames.Started.{Started}
use Rattle.cqf_model.specs.Book.{Contents, IsBook, background_in, drops_in, page_of, started}
use Rattle.cqf_model.specs.Domain.{Domain}
use Rattle.cqf_model.specs.Network.{Network, compiled_lists}
use Rattle.cqf_model.specs.Run.{AreBackground, AreOffers, Run}
use Rattle.cqf_model.specs.Table.{table_of}
use Rattle.cqf_laws_cycle.specs.BridgeCycle.{IsCompiledNetwork, policed_of}
use Rattle.cqf_laws_cycle.specs.Gathered.{backed_for, offered_for}
use Rattle.cqf_laws_cycle.specs.PageLaws.{on_links_of}
use Rattle.cqf_bridge.specs.Batch.{LinkBatch}
use Rattle.cqf_bridge.specs.BridgeState.{AreBackedOf, BridgeState, IsNextToSend, SendsCycle, new_bridge}
use Rattle.cqf_bridge.specs.Receiving.{IsRunOfBridge, ReceivesCycle}
use Rattle.cqf_bridge.specs.Follows.{FollowsTheNetwork, HasSentOfTheNetwork, batches_from, batches_into}

-- a bridge that has done nothing follows each network
abbrev pub NewBridgeFollows : Type 0
NewBridgeFollows = (run : Run) (net : Network) (number : ℕ) → number < length run.domain.bridges →
    FollowsTheNetwork run net (new_bridge run.domain number)

-- a run's input for a bridge in a cycle may be given to the bridge: its background frames to send the cycle, and its offers to receive it
abbrev pub BackgroundIsOfTheBridge : Type 0
BackgroundIsOfTheBridge = (d : Domain) (run : Run) (bridge cycle : ℕ) → d ≡ run.domain → AreBackground run.domain run.background →
    AreBackedOf d bridge cycle (backed_for run.domain run.background bridge cycle)

abbrev pub OffersAreOfTheBridge : Type 0
OffersAreOfTheBridge = (d : Domain) (run : Run) (bridge cycle : ℕ) → d ≡ run.domain → AreOffers run.domain run.offers →
    IsRunOfBridge d bridge cycle (table_of run.tables cycle) (offered_for run.domain run.offers bridge cycle) run

-- a bridge that follows the network sends a cycle of the run, with the run's background frames
pub record SendsOfTheRun (run : Run) (cycles cycle : ℕ) (net : Network) (before after : BridgeState) (given given_after : List LinkBatch) :
    Type 0 where
  pub compiled : IsCompiledNetwork run cycles net
  pub follows : FollowsTheNetwork run net before
  pub next : IsNextToSend before cycle
  pub within_run : cycle < cycles
  pub sends : SendsCycle before after cycle (backed_for run.domain run.background before.number cycle) given given_after

-- a bridge that has sent a cycle of the run returned the network's batches of its links, and has sent as the network does
pub record GivesTheBatches (run : Run) (cycle : ℕ) (net : Network) (before after : BridgeState) (given given_after : List LinkBatch) :
    Type 0 where
  pub batches : given_after ≡ given ++ batches_from run.domain net.carried before.number cycle
  pub background : after.background ≡ on_links_of run.domain before.number (background_in run.domain net.backed cycle)
  pub number : after.number ≡ before.number
  pub cycle_same : after.received ≡ cycle
  pub has_sent : HasSentOfTheNetwork run net after

abbrev pub SendingFollows : Type 0
SendingFollows = (run : Run) (cycles cycle : ℕ) (net : Network) (before after : BridgeState) (given given_after : List LinkBatch) →
    SendsOfTheRun run cycles cycle net before after given given_after → GivesTheBatches run cycle net before after given given_after

-- what is dropped at a bridge in a cycle of the network
abbrev pub drops_of_cycle : Run → Network → ℕ → ℕ → List Dropped
drops_of_cycle run net bridge cycle =
    drops_in run.domain (length run.offers) (λ b. policed_of run net.carried b cycle) cycle bridge

-- a bridge that has sent as the network does receives the cycle, with the network's batches of the links that end in it
pub record ReceivesOfTheRun (run : Run) (cycles cycle : ℕ) (net : Network) (before after : BridgeState) (drops : List Dropped) : Type 0 where
  pub compiled : IsCompiledNetwork run cycles net
  pub has_sent : HasSentOfTheNetwork run net before
  pub next : cycle ≡ before.received
  pub receives : ReceivesCycle run before after cycle (batches_into run.domain net.carried before.number cycle) drops

-- a bridge that has received a cycle of the run dropped what is dropped at it in the network, and follows the network again, one cycle
-- further
pub record GivesTheDrops (run : Run) (cycle : ℕ) (net : Network) (before after : BridgeState) (drops : List Dropped) : Type 0 where
  pub are_drops : drops ≡ drops_of_cycle run net before.number cycle
  pub number : after.number ≡ before.number
  pub one_on : after.received ≡ cycle + 1
  pub background : after.background ≡ before.background
  pub follows : FollowsTheNetwork run net after

abbrev pub ReceivingFollows : Type 0
ReceivingFollows = (run : Run) (cycles cycle : ℕ) (net : Network) (before after : BridgeState) (drops : List Dropped) →
    ReceivesOfTheRun run cycles cycle net before after drops → GivesTheDrops run cycle net before after drops

-- the entries of a batch's frames in a book
abbrev pub starts_of_batch : LinkBatch → List Started
starts_of_batch x = map (started x.cycle x.link) x.frames

-- the page of a bridge's output in a cycle: batches, background frames, drops
abbrev pub page_given : List LinkBatch → List Started → List Dropped → Contents
page_given batches background drops = record { starts = flat_map starts_of_batch batches; background = background; drops = drops }

-- the page of a bridge's output in a cycle is its page of the run's book
abbrev pub PageFollows : Type 0
PageFollows = (run : Run) (cycles cycle bridge : ℕ) (net : Network) (book : Contents) → IsCompiledNetwork run cycles net →
    IsBook run (compiled_lists run.domain) cycles book → bridge < length run.domain.bridges → cycle < cycles →
    page_of run.domain bridge cycle book
    ≡ page_given (batches_from run.domain net.carried bridge cycle) (on_links_of run.domain bridge (background_in run.domain net.backed cycle))
    (drops_of_cycle run net bridge cycle)
