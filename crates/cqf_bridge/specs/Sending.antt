-- The transmit phase of a cycle, port by port.
use Rattle.std.specs.Prelude.{ℕ, ◌≡◌, ◌++◌, ◌∷◌, [], List, drop, length, map, Contains}
use Rattle.std.specs.List.{flat_map, zip}
use Rattle.cqf_model.specs.declared.frames.Backed.{Backed}
use Rattle.cqf_model.specs.declared.frames.Started.{Started}
use Rattle.cqf_model.specs.Domain.{Domain}
use Rattle.cqf_model.specs.Port.{Transmission}
use Rattle.cqf_bridge.specs.Batch.{LinkBatch}
use Rattle.cqf_bridge.specs.PortRecord.{AreDemanded, PortRecord}
use Rattle.cqf_bridge.specs.BridgeState.{AreBackedOf, IsInStep, background_from, batch_from, end_of_cycle, port_after, port_with}

-- a port that is in step, and background frames of its bridge in the cycle that it sends next
pub record CanTake (background : List Backed) (r : PortRecord) : Type 0 where
  pub domain : Domain
  pub bridge : ℕ
  pub cycle : ℕ
  pub frames : AreBackedOf domain bridge cycle background
  pub in_step : IsInStep domain cycle cycle r

-- a port sends a cycle
pub record PortSends (d : Domain) (cycle : ℕ) (backed : List Backed) (before after : PortRecord) (given given_after : List LinkBatch)
    (background background_after : List Started) : Type 0 where
  pub made : List Transmission
  pub demanded : AreDemanded (port_with backed before) (end_of_cycle d cycle) made
  pub port : after ≡ port_after d cycle backed (before, made)
  pub batches : given_after ≡ given ++ batch_from cycle backed (before, made) ∷ []
  pub others : background_after ≡ background ++ background_from cycle backed (before, made)

-- the first `count` ports have sent the cycle
pub record FirstSend (d : Domain) (cycle : ℕ) (backed : List Backed) (count : ℕ) (before after : List PortRecord) (given given_after : List LinkBatch)
    (background background_after : List Started) : Type 0 where
  pub made : List (List Transmission)
  pub one_each : length made ≡ count
  pub demanded : (x : PortRecord × List Transmission) → Contains (zip before made) x →
      AreDemanded (port_with backed x.0) (end_of_cycle d cycle) x.1
  pub ports : after ≡ map (port_after d cycle backed) (zip before made) ++ drop count before
  pub batches : given_after ≡ given ++ map (batch_from cycle backed) (zip before made)
  pub others : background_after ≡ background ++ flat_map (background_from cycle backed) (zip before made)
