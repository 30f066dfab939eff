-- Transmission gate control lists, and what they are made from.
use Rattle.std.specs.Prelude.{ℕ, ◌≡◌, ◌≤◌, ◌<◌, ◌==◌, List, if◌then◌else◌, nat_lt, All, length, Result, Ok, Err}
use Rattle.std.specs.List.{list_any}
use Rattle.cqf_model.specs.GateList.{Entry, states_at}
use Rattle.cqf_gates.specs.declared.faults.ListFault.{ListFault}
use Rattle.cqf_gates.specs.declared.faults.ListFault.TheVariants.{Empty, TooMany, ZeroInterval}

-- what holds of each list: it has 1 to 16 entries, each in force for some time
pub record IsTxList (entries : List Entry) : Type 0 where
  pub some : 0 < length entries
  pub few : length entries ≤ 16
  pub lasting : All (λ (entry : Entry). 0 < entry.1) entries

-- the result for some entries: the list, or the first fault that applies
abbrev pub tx_list_of : List Entry → Result (List Entry) ListFault
tx_list_of entries =
    if length entries == 0 then Err Empty else
    (if nat_lt 16 (length entries) then Err TooMany else
    (if list_any (λ (entry : Entry). entry.1 == 0) entries then Err ZeroInterval else Ok entries))

-- the gates have these states at every instant from `first` up to but excluding `last`
abbrev pub AreSteady : List Entry → ℕ → ℕ → ℕ → Type 0
AreSteady entries states first last = (t : ℕ) → first ≤ t → t < last → states_at entries t ≡ states
