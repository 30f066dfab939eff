-- The least bound of an access link's waits, and when there is none.
use Rattle.std.specs.Prelude.{ℕ, ◌≤◌, List, Option, Some, None, map, option_map}
use Rattle.cqf_units.specs.Timing.{ticks_of_octet}
use Rattle.cqf_units.specs.declared.timing.Nanos.{Nanos}
use Rattle.cqf_units.specs.declared.timing.Octets.{Octets}
use Rattle.cqf_units.specs.declared.timing.Rate.{Rate}
use Rattle.cqf_laws_timing.specs.Traffic.{Traffic}
use Rattle.cqf_traffic.specs.TrafficText.{TrafficText, promise_of}
use Rattle.cqf_access.specs.Access.{AccessLink, IsBound}

-- a link with this rate, and with frames of no stream up to this size, if there may be any
abbrev pub link_of : Rate → Option Octets → AccessLink
link_of rate other = record { octet_time = ticks_of_octet rate; other = option_map (λ (o : Octets). o.0) other }

-- what talkers promise
abbrev pub all_promises : List TrafficText → List Traffic
all_promises ts = map promise_of ts

-- a bound that is at most any other bound
pub record IsLeastBound (link : AccessLink) (promises : List Traffic) (time : ℕ) : Type 0 where
  pub bound : IsBound link promises time
  pub least : (other : ℕ) → IsBound link promises other → time ≤ other

-- the least bound, if it is at most `most`; none if no bound is at most `most`
abbrev pub IsAccessBound : AccessLink → List Traffic → ℕ → Option Nanos → Type 0
IsAccessBound link promises most (Some time) = IsLeastBound link promises time.0 × (time.0 ≤ most)
IsAccessBound link promises most None = (time : ℕ) → time ≤ most → IsBound link promises time → ⊥
