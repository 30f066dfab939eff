-- The written gate of a reservation does what its list of one entry a cycle does.
use Rattle.std.specs.Prelude.{ℕ, ◌≡◌, ◌<◌, List, true}
use Rattle.cqf_model.specs.declared.gates.StreamEntry.{StreamEntry}
use Rattle.cqf_model.specs.declared.topology.Pace.{Pace}
use Rattle.cqf_model.specs.StreamGate.{PassedFrame, gate_class, gate_passes, stream_list}
use Rattle.cqf_gates.specs.ReservedSpans.{reserved_spans}

-- both lists pass the same frames of at least one octet, at each instant and regardless of what passed before, and give the passing ones
-- the same class
pub record PassTheSame (written entries : List StreamEntry) : Type 0 where
  pub passes : (passed : List PassedFrame) (t octets : ℕ) → 0 < octets → gate_passes written passed t octets ≡ gate_passes entries passed t octets
  pub class : (passed : List PassedFrame) (t octets : ℕ) → 0 < octets → gate_passes written passed t octets ≡ true →
      gate_class written t ≡ gate_class entries t

-- the written gate of a reservation passes what its list of one entry a cycle passes, at each pace and each hop number
abbrev pub SpansPassTheSame : Type 0
SpansPassTheSame = (cycle_time reserved : ℕ) (pace : Pace) (hop_number : ℕ) → 0 < cycle_time →
    PassTheSame (reserved_spans cycle_time reserved pace hop_number) (stream_list cycle_time reserved pace hop_number)
