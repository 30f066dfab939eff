-- Stream gate control lists, what they are made from, and what a stream gate counts.
use Rattle.std.specs.Prelude.{ℕ, ◌≡◌, ◌+◌, ◌≤◌, ◌<◌, ◌==◌, ◌&&◌, not, Bool, false, List, [], ◌∷◌, ◌++◌, if◌then◌else◌}
use Rattle.std.specs.Prelude.{nat_lt, All, length, Option, Some, None, slice_get, Result, Ok, Err, ◌⊎◌}
use Rattle.std.specs.List.{list_any}
use Rattle.std.specs.Option.{option_map_or, option_and_then}
use Rattle.cqf_model.specs.declared.gates.StreamEntry.{StreamEntry}
use Rattle.cqf_model.specs.StreamGate.{PassedFrame, same_interval, octets_in, within, index_at, gate_class, gate_passes}
use Rattle.cqf_gates.specs.declared.faults.ListFault.{ListFault}
use Rattle.cqf_gates.specs.declared.faults.ListFault.TheVariants.{Empty, TooMany, ZeroInterval, BadIpv}
use Rattle.cqf_gates.specs.declared.streams.Passed.{Passed}
use Rattle.cqf_gates.specs.declared.streams.Passed.TheVariants.{Class, OverOctets}

-- what holds of each list: it has 1 to 16 entries, each in force for some time and with an internal priority value of 6 or 7
pub record IsStreamList (entries : List StreamEntry) : Type 0 where
  pub some : 0 < length entries
  pub few : length entries ≤ 16
  pub lasting : All (λ (entry : StreamEntry). 0 < entry.interval) entries
  pub valued : All (λ (entry : StreamEntry). (entry.ipv ≡ 6) ⊎ (entry.ipv ≡ 7)) entries

-- the entry has an internal priority value that a gate may not give
abbrev pub is_bad_ipv : StreamEntry → Bool
is_bad_ipv entry = not (entry.ipv == 6) && not (entry.ipv == 7)

-- the result for some entries: the list, or the first fault that applies
abbrev pub stream_list_of : List StreamEntry → Result (List StreamEntry) ListFault
stream_list_of entries =
    if length entries == 0 then Err Empty else
    (if nat_lt 16 (length entries) then Err TooMany else
    (if list_any (λ (entry : StreamEntry). entry.interval == 0) entries then Err ZeroInterval else
    (if list_any is_bad_ipv entries then Err BadIpv else Ok entries)))

-- a stream gate: its list, the instant of the last call, and what the frames that passed in that instant's interval took of the entry's
-- octet maximum, 0 if the entry has none
pub record Gate : Type 0 where
  pub entries : List StreamEntry
  pub last : ℕ
  pub taken : ℕ

-- a gate that has met no frame
abbrev pub fresh : List StreamEntry → Gate
fresh entries = record { entries = entries; last = 0; taken = 0 }

-- the entry in force at an instant
abbrev pub entry_at : List StreamEntry → ℕ → Option StreamEntry
entry_at entries t = slice_get entries (index_at entries t)

-- the octet maximum in force at an instant
abbrev pub octet_max_at : List StreamEntry → ℕ → Option ℕ
octet_max_at entries t = option_and_then (λ (entry : StreamEntry). entry.octet_max) (entry_at entries t)

-- what has been taken of the octet maximum when a frame comes at an instant: nothing if the last call was in another interval
abbrev pub taken_at : Gate → ℕ → ℕ
taken_at gate t = if same_interval gate.entries gate.last t then gate.taken else 0

-- whether the gate passes a frame of these octets at an instant
abbrev pub lets_pass : Gate → ℕ → ℕ → Bool
lets_pass gate t octets = option_map_or (λ (entry : StreamEntry). within entry.octet_max (taken_at gate t + octets)) (entry_at gate.entries t) false

-- the gate's verdict on the frame
abbrev pub verdict_on : Gate → ℕ → ℕ → Passed
verdict_on gate t octets = if lets_pass gate t octets then Class (gate_class gate.entries t) else OverOctets

-- what has been taken of an octet maximum after a frame
abbrev pub taken_with : Option ℕ → ℕ → ℕ → ℕ
taken_with None taken octets = 0
taken_with (Some most) taken octets = if within (Some most) (taken + octets) then taken + octets else taken

-- the gate after the frame
abbrev pub gate_after : Gate → ℕ → ℕ → Gate
gate_after gate t octets = record { entries = gate.entries; last = t; taken = taken_with (octet_max_at gate.entries t) (taken_at gate t) octets }

-- the gate has counted these passed calls: none of them is later than its last call, and what it has as taken of an octet maximum is the
-- total of those in that interval
pub record Counts (gate : Gate) (passed : List PassedFrame) : Type 0 where
  pub before : All (λ (call : PassedFrame). call.0 ≤ gate.last) passed
  pub counted : (most : ℕ) → octet_max_at gate.entries gate.last ≡ Some most → gate.taken ≡ octets_in gate.entries passed gate.last

-- the calls that passed, after one more call
abbrev pub passed_after : Gate → List PassedFrame → ℕ → ℕ → List PassedFrame
passed_after gate passed t octets = if lets_pass gate t octets then passed ++ (t, octets) ∷ [] else passed

-- a gate that has counted its passed calls decides as their whole list does, and continues to count them
abbrev pub DecidesByCalls : Type 0
DecidesByCalls =
    (gate : Gate) (passed : List PassedFrame) (t octets : ℕ) → Counts gate passed → gate.last ≤ t →
    (lets_pass gate t octets ≡ gate_passes gate.entries passed t octets) × Counts (gate_after gate t octets) (passed_after gate passed t octets)
