-- The lines of a port's starts.
use Rattle.std.specs.Prelude.{◌<◌, ◌^◌, List, All, length}
use Rattle.cqf_model.specs.Port.{Transmission}
use Rattle.cqf_model.specs.declared.ports.Arrival.{Arrival}

-- starts that can be written: the arrival of each exists, and each is early enough for the end of its frame to be written
pub record AreExpressible (arrivals : List Arrival) (starts : List Transmission) : Type 0 where
  pub inside : All (λ (start : Transmission). start.0 < length arrivals) starts
  pub early : All (λ (start : Transmission). start.1 < 2 ^ 63) starts
