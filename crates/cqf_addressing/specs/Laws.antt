-- Laws of addressing.
use Rattle.std.specs.Prelude.{ℕ, ◌≡◌, ◌<◌, ◌≢◌, List, Ok, Some, length}
use Rattle.cqf_model.specs.declared.limits.Limits.{Limits}
use Rattle.cqf_addressing.specs.declared.streams.StreamAddress.{StreamAddress}
use Rattle.cqf_addressing.specs.Mac.{IsMac, mac_of_text, mac_text}
use Rattle.cqf_addressing.specs.Streams.{addresses_of_text, gate_index}

-- in an accepted text no two streams have gates with the same index
abbrev pub GateIndexesAreApart : Type 0
GateIndexesAreApart = (limits : Limits) (text : List ℕ) (addresses : List StreamAddress) → addresses_of_text limits text ≡ Ok addresses →
    (i k : ℕ) → i < k → k < length addresses → gate_index addresses i ≢ gate_index addresses k

-- an address that is written reads back as itself
abbrev pub MacsReadBack : Type 0
MacsReadBack = (octets : List ℕ) → IsMac octets → mac_of_text (mac_text octets) ≡ Some octets
