-- How a bridge follows the legal network of a run: its ports have recorded exactly what arrives at them there.
use Rattle.std.specs.Prelude.{ℕ, ◌≡◌, ◌+◌, ◌*◌, ◌<◌, List, Option, false, length, map, Contains}
use Rattle.cqf_model.specs.Book.{background_in, batch}
use Rattle.cqf_model.specs.Domain.{Domain}
use Rattle.cqf_model.specs.Network.{Network, QueuedFrame, arrivals_of, comes_before}
use Rattle.cqf_model.specs.Port.{AreLegal}
use Rattle.cqf_model.specs.Run.{Run}
use Rattle.cqf_model.specs.Table.{table_of}
use Rattle.cqf_model.specs.Policing.{Carried}
use Rattle.cqf_laws_cycle.specs.PageLaws.{on_links_of}
use Rattle.cqf_laws_cycle.specs.PortCycle.{waits_in}
use Rattle.cqf_bridge.specs.Batch.{LinkBatch}
use Rattle.cqf_agenda.specs.Links.{links_from, links_into}
use Rattle.cqf_bridge.specs.BridgeState.{BridgeState}
use Rattle.cqf_bridge.specs.PortRecord.{PortRecord, rules_on}
use Rattle.cqf_bridge.specs.Receiving.{Handed}

-- the stream of each frame
abbrev pub streams_of_starts : List QueuedFrame → List (Option ℕ)
streams_of_starts frames = map (λ (x : QueuedFrame). x.stream) frames

-- a port has the rules of its compiled list, has run to an instant, has recorded exactly these frames, and has started what is legal for
-- them up to the instant
pub record HasTaken (d : Domain) (until : ℕ) (frames : List QueuedFrame) (r : PortRecord) : Type 0 where
  pub rules : r.port.rules ≡ rules_on d r.link
  pub reached : r.port.reached ≡ until
  pub arrivals : r.port.arrivals ≡ arrivals_of frames
  pub streams : r.streams ≡ streams_of_starts frames
  pub legal : AreLegal (rules_on d r.link) (arrivals_of frames) until r.port.starts

-- a bridge of the run's domain that isn't spent, with a port for each link that leaves it, by number
pub record IsOfRun (run : Run) (b : BridgeState) : Type 0 where
  pub domain : b.domain ≡ run.domain
  pub inside : b.number < length run.domain.bridges
  pub not_spent : b.spent ≡ false
  pub links : map (λ (r : PortRecord). r.link) b.ports ≡ links_from run.domain b.number

-- the bridge has sent and received the same cycles. Each of its ports has recorded what arrives at it in them in the network, and has run
-- to their end
pub record FollowsTheNetwork (run : Run) (net : Network) (b : BridgeState) : Type 0 where
  pub of_run : IsOfRun run b
  pub turn : b.sent ≡ b.received
  pub ports : (r : PortRecord) → Contains b.ports r →
      HasTaken run.domain (b.received * run.domain.cycle_time) (comes_before run net.carried r.link b.received) r

-- halfway through a cycle: the bridge has sent it and not yet received it. Each of its ports has also recorded the background frames of the
-- cycle, and has run to the cycle's end, and the bridge keeps the background frames that its links start in it
pub record HasSentOfTheNetwork (run : Run) (net : Network) (b : BridgeState) : Type 0 where
  pub of_run : IsOfRun run b
  pub turn : b.sent ≡ b.received + 1
  pub ports : (r : PortRecord) → Contains b.ports r →
      HasTaken run.domain ((b.received + 1) * run.domain.cycle_time) (waits_in run net.carried r.link b.received) r
  pub background : b.background ≡ on_links_of run.domain b.number (background_in run.domain net.backed b.received)

-- the batch of a link in a cycle of the network
abbrev pub batch_of : Domain → Carried → ℕ → ℕ → LinkBatch
batch_of d carried cycle link = record { link = link; cycle = cycle; frames = batch d carried link cycle }

-- the batches of the links that leave a bridge, and of those that end in it, by link number
abbrev pub batches_from : Domain → Carried → ℕ → ℕ → List LinkBatch
batches_from d carried bridge cycle = map (batch_of d carried cycle) (links_from d bridge)

abbrev pub batches_into : Domain → Carried → ℕ → ℕ → List LinkBatch
batches_into d carried bridge cycle = map (batch_of d carried cycle) (links_into d bridge)

-- what a bridge is given with a cycle of a run: the table of the cycle, and batches
abbrev pub handed_with : Run → ℕ → List LinkBatch → Handed
handed_with run cycle batches = record { table_cycle = cycle; rows = table_of run.tables cycle; batches = batches }

-- the table, and the network's batches of the links that end in it
abbrev pub handed_in : Run → Network → ℕ → ℕ → Handed
handed_in run net bridge cycle = handed_with run cycle (batches_into run.domain net.carried bridge cycle)
