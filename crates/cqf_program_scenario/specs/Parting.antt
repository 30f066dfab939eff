-- The calls of a scenario whose cycles are closed while it runs: those before its first Seal, and each administrator's commands from then
-- on.
use Rattle.std.specs.Prelude.{ℕ, ◌≡◌, ◌==◌, ◌<◌, ◌++◌, ◌&&◌, Bool, List, [], ◌∷◌, drop, filter, length, map, not, slice_index_or}
use Rattle.std.specs.List.{before_first, position_or_len}
use Rattle.cqf_model.specs.History.{Act, is_seal}
use Rattle.cqf_admission.specs.Script.{Called}

-- the call closes a cycle
abbrev pub closes : Called → Bool
closes call = is_seal call.1

-- the calls before the first Seal; all calls if there is none
abbrev pub opening_calls : List Called → List Called
opening_calls found = before_first closes found

-- whether a call is one of this administrator's and no Seal
abbrev pub is_command_of : ℕ → Called → Bool
is_command_of admin call = (call.0 == admin) && not (closes call)

-- an administrator's commands among these calls, in order
abbrev pub commands_by : List Called → ℕ → List Act
commands_by found admin = map (λ (call : Called). call.1) (filter (is_command_of admin) found)

-- for each of admins administrators, by number, a list of the administrator's commands among these calls
pub record AreCommandsBy (found : List Called) (admins : ℕ) (lists : List (List Act)) : Type 0 where
  pub one_each : length lists ≡ admins
  pub each : (admin : ℕ) (none : List Act) → admin < admins → slice_index_or lists admin none ≡ commands_by found admin

-- the calls from the first Seal on; none if there is no Seal
abbrev pub calls_from_seal : List Called → List Called
calls_from_seal found = drop (position_or_len closes found) found

-- for each of admins administrators, the administrator's commands from the first Seal on
abbrev pub AreCommandsAfter : List Called → ℕ → List (List Act) → Type 0
AreCommandsAfter found admins lists = AreCommandsBy (calls_from_seal found) admins lists

-- the lists with one more command at the end of an administrator's list, if there is a list for this administrator
pub record AddsCommand (before after : List (List Act)) (admin : ℕ) (act : Act) : Type 0 where
  pub as_many : length after ≡ length before
  pub own : (none : List Act) → admin < length before → slice_index_or after admin none ≡ slice_index_or before admin none ++ act ∷ []
  pub others : (other : ℕ) (none : List Act) → (other ≡ admin → ⊥) → slice_index_or after other none ≡ slice_index_or before other none
