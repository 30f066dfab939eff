-- Why a run on threads gives no account.
use Rattle.std.specs.Prelude.{ℕ, ◌≡◌, List, Bool, Option, Some, None, codes, false, if◌then◌else◌, nat_lt}
use Rattle.cqf_worker.specs.declared.faults.ConductFault.{ConductFault}
use Rattle.cqf_worker.specs.declared.faults.ConductFault.TheVariants.{Memory, DeskDisagrees, ChannelLost, Spawn}
use Rattle.cqf_worker.specs.declared.faults.Faults.{Faults}

-- the text of a fault: its name
abbrev pub conduct_fault_text : ConductFault → List ℕ
conduct_fault_text Memory = codes "Memory"
conduct_fault_text DeskDisagrees = codes "DeskDisagrees"
conduct_fault_text ChannelLost = codes "ChannelLost"
conduct_fault_text Spawn = codes "Spawn"

-- the order in which faults are reported
abbrev pub rank : ConductFault → ℕ
rank Spawn = 0
rank Memory = 1
rank ChannelLost = 2
rank DeskDisagrees = 3

abbrev pub is_before : ConductFault → ConductFault → Bool
is_before one other = nat_lt (rank one) (rank other)

-- which of two faults is kept, if there was one before
abbrev pub first_noted : Option ConductFault → ConductFault → ConductFault
first_noted None fault = fault
first_noted (Some first) fault = if is_before fault first then fault else first

-- nothing has gone wrong
abbrev pub IsClean : Faults → Type 0
IsClean faults = (faults.first ≡ None) × (faults.is_stopped ≡ false)

-- the fault to report: the first one noted in that order; if there is none but a thread ended early, ChannelLost
abbrev pub reported_of : Option ConductFault → Bool → Option ConductFault
reported_of (Some first) is_stopped = Some first
reported_of None is_stopped = if is_stopped then Some ChannelLost else None

abbrev pub is_noted : Faults → Option ConductFault
is_noted faults = reported_of faults.first faults.is_stopped
