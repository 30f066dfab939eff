-- The state of a bridge as its callers see it, and what it does in a cycle (IEEE Std 802.1Q-2018, Annex T).
use Rattle.std.specs.Prelude.{ℕ, ◌≡◌, ◌+◌, ◌*◌, ◌≤◌, ◌<◌, ◌++◌, ◌⊎◌, AllPairs, Bool, true, false, Contains, List, [], filter, length, map}
use Rattle.std.specs.List.{flat_map, zip}
use Rattle.cqf_model.specs.declared.frames.Backed.{Backed}
use Rattle.cqf_model.specs.declared.frames.Started.{Started}
use Rattle.cqf_model.specs.declared.ports.Arrival.{Arrival}
use Rattle.cqf_model.specs.Domain.{Domain, IsAccepted, cycle_of, leaves}
use Rattle.cqf_model.specs.Network.{QueuedFrame, backed_frame}
use Rattle.cqf_model.specs.Port.{Transmission}
use Rattle.cqf_model.specs.Run.{IsBackground}
use Rattle.cqf_laws_cycle.specs.Gathered.{is_for_link}
use Rattle.cqf_agenda.specs.Links.{links_from}
use Rattle.cqf_bridge.specs.Batch.{LinkBatch}
use Rattle.cqf_bridge.specs.PortRecord.{AreDemanded, PortRecord, background_by, batch_by, new_record, rules_on, with_frames, with_starts}
use Rattle.cqf_model.specs.Limits.{most_cycles}

-- a bridge: its domain and number, how many cycles it has sent and received, whether it is spent, the records of the ports of the links
-- that leave it, by link number, and the background frames that it started in the cycle last sent
pub record BridgeState : Type 0 where
  pub domain : Domain
  pub number : ℕ
  pub sent : ℕ
  pub received : ℕ
  pub spent : Bool
  pub ports : List PortRecord
  pub background : List Started

-- a bridge that has done nothing
abbrev pub new_bridge : Domain → ℕ → BridgeState
new_bridge d number =
    record { domain = d; number = number; sent = 0; received = 0; spent = false; ports = map (new_record d) (links_from d number); background = [] }

-- a port has the rules of its compiled list and has run to the end of the cycles that its bridge has sent. Its background frames are all of
-- these cycles, and its streams' frames all of the cycles that its bridge has received
pub record IsInStep (d : Domain) (sent received : ℕ) (r : PortRecord) : Type 0 where
  pub rules : r.port.rules ≡ rules_on d r.link
  pub reached : r.port.reached ≡ sent * d.cycle_time
  pub background : (a : Arrival) → Contains r.port.arrivals a → a.class < 6 → a.at.0 < sent * d.cycle_time
  pub of_streams : (a : Arrival) → Contains r.port.arrivals a → 6 ≤ a.class → a.at.0 < received * d.cycle_time

-- an invariant of each bridge: it has received the cycles that it has sent, or all but the last, and these are at most 100,000; if it isn't
-- spent, it has a port for each link that leaves it, and each port is in step
pub record IsBridge (b : BridgeState) : Type 0 where
  pub accepted : IsAccepted b.domain
  pub inside : b.number < length b.domain.bridges
  pub turn : (b.sent ≡ b.received) ⊎ (b.sent ≡ b.received + 1)
  pub few : b.sent ≤ most_cycles
  pub links : b.spent ≡ false → map (λ (r : PortRecord). r.link) b.ports ≡ links_from b.domain b.number
  pub in_step : b.spent ≡ false → (r : PortRecord) → Contains b.ports r → IsInStep b.domain b.sent b.received r

-- a background frame of a bridge in a cycle
pub record IsBackedOf (d : Domain) (bridge cycle : ℕ) (x : Backed) : Type 0 where
  pub good : IsBackground d x.background
  pub here : leaves d x.background.link bridge ≡ true
  pub of_cycle : cycle_of d x.background.at.0 ≡ cycle

-- background frames of a bridge in a cycle, in order of instant. The caller must ensure that none is missing
pub record AreBackedOf (d : Domain) (bridge cycle : ℕ) (backed : List Backed) : Type 0 where
  pub each : (x : Backed) → Contains backed x → IsBackedOf d bridge cycle x
  pub in_order : AllPairs (λ (a b : Backed). a.background.at.0 ≤ b.background.at.0) backed

-- the background frames that a link's port gets
abbrev pub backed_on : ℕ → List Backed → List QueuedFrame
backed_on link backed = map backed_frame (filter (is_for_link link) backed)

-- the end of a cycle
abbrev pub end_of_cycle : Domain → ℕ → ℕ
end_of_cycle d cycle = (cycle + 1) * d.cycle_time

-- a port with its background frames of the cycle that is sent
abbrev pub port_with : List Backed → PortRecord → PortRecord
port_with backed r = with_frames r (backed_on r.link backed)

-- a port after the cycle, and the batch and the background frames that it returns for the cycle
abbrev pub port_after : Domain → ℕ → List Backed → PortRecord × List Transmission → PortRecord
port_after d cycle backed x = with_starts (port_with backed x.0) (end_of_cycle d cycle) x.1

abbrev pub batch_from : ℕ → List Backed → PortRecord × List Transmission → LinkBatch
batch_from cycle backed x = batch_by (port_with backed x.0) cycle x.1

abbrev pub background_from : ℕ → List Backed → PortRecord × List Transmission → List Started
background_from cycle backed x = background_by (port_with backed x.0) cycle x.1

-- the bridge sends a cycle: each port gets its background frames of the cycle and makes the starts that are demanded of it up to the
-- cycle's end; one batch a link is appended to the given batches, by link number, and the background frames are kept
pub record SendsCycle (before after : BridgeState) (cycle : ℕ) (backed : List Backed) (given given_after : List LinkBatch) : Type 0 where
  pub made : List (List Transmission)
  pub one_each : length made ≡ length before.ports
  pub demanded : (x : PortRecord × List Transmission) → Contains (zip before.ports made) x →
      AreDemanded (port_with backed x.0) (end_of_cycle before.domain cycle) x.1
  pub bridge : after ≡ record {
    domain = before.domain;
    number = before.number;
    sent = before.sent + 1;
    received = before.received;
    spent = false;
    ports = map (port_after before.domain cycle backed) (zip before.ports made);
    background = flat_map (background_from cycle backed) (zip before.ports made);
  }
  pub batches : given_after ≡ given ++ map (batch_from cycle backed) (zip before.ports made)

-- the cycle is the next to be sent
abbrev pub IsNextToSend : BridgeState → ℕ → Type 0
IsNextToSend b cycle = (cycle ≡ b.received) × (b.sent ≡ b.received)

-- the bridge is spent, and its domain, number and background frames are unchanged
pub record IsSpentBy (before after : BridgeState) : Type 0 where
  pub spent : after.spent ≡ true
  pub domain : after.domain ≡ before.domain
  pub number : after.number ≡ before.number
  pub background : after.background ≡ before.background
