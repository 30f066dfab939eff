-- Laws that say for each line of a script what it calls for, or why it is refused, in a planner's terms.
use Rattle.std.specs.Prelude.{ℕ, ◌≡◌, ◌+◌, ◌<◌, ◌≤◌, ◌⊎◌, ◌↔◌, true, false, not, List, Some, None, Ok, Err, count_by, length, slice_get, take, Contains}
use Rattle.cqf_text.specs.Lines.{lines_of}
use Rattle.cqf_model.specs.History.{Act, Admits, Asked, Seals, Withdraws}
use Rattle.cqf_admission.specs.declared.faults.ScriptFault.{ScriptFault}
use Rattle.cqf_admission.specs.declared.faults.ScriptFault.TheVariants.{BadLine, UnknownStream, TooMany, Memory}
use Rattle.cqf_admission.specs.declared.lines.Wish.{Wish}
use Rattle.cqf_admission.specs.declared.lines.Wish.TheVariants.{Admit, Withdraw}
use Rattle.cqf_admission.specs.Lines.{Written, is_seal_line, order_of_line}
use Rattle.cqf_model.specs.Limits.{most_calls}
use Rattle.cqf_admission.specs.Script.{Called, administrators, request_named, script_of}

-- the number of Seals among the lines before an index, and the number of other lines
abbrev pub seal_lines_before : List (List ℕ) → ℕ → ℕ
seal_lines_before lines index = count_by is_seal_line (take index lines)

abbrev pub other_lines_before : List (List ℕ) → ℕ → ℕ
other_lines_before lines index = count_by (λ line. not (is_seal_line line)) (take index lines)

-- the line writes an order, and isn't a Seal
pub record WritesOrder (line : List ℕ) (order : Written) : Type 0 where
  pub no_seal : is_seal_line line ≡ false
  pub written : order_of_line line ≡ Some order

-- to admit the stream of a name means to admit the first request that has the name; to withdraw it means to withdraw the name
abbrev pub IsActFor : List Asked → Wish → List ℕ → Act → Type 0
IsActFor requests Admit name act = (asked : Asked) × (request_named requests name ≡ Some asked) × (act ≡ Admits asked)
IsActFor requests Withdraw name act = act ≡ Withdraws name

-- the line at an index closes a cycle: there are fewer Seals before it than cycles. The call's seat is the number of administrators
pub record LineClosesCycle (cycles : ℕ) (lines : List (List ℕ)) (index : ℕ) (line : List ℕ) (call : Called) : Type 0 where
  pub seal : is_seal_line line ≡ true
  pub room : seal_lines_before lines index < cycles
  pub seat : call.0 ≡ administrators lines
  pub act : call.1 ≡ Seals

-- the line at an index calls for what its order says: fewer than 100,000 of the lines before it aren't Seals. The call's seat is the
-- administrator
pub record MakesCall (requests : List Asked) (lines : List (List ℕ)) (index : ℕ) (line : List ℕ) (call : Called) : Type 0 where
  pub order : Written
  pub writes : WritesOrder line order
  pub room : other_lines_before lines index < most_calls
  pub seat : call.0 ≡ order.seat
  pub act : IsActFor requests order.wish order.name call.1

-- what the line at an index calls for
abbrev pub CallsFor : List Asked → ℕ → List (List ℕ) → ℕ → List ℕ → Called → Type 0
CallsFor requests cycles lines index line call = LineClosesCycle cycles lines index line call ⊎ MakesCall requests lines index line call

-- the line has none of the forms of a line
pub record HasNoForm (line : List ℕ) : Type 0 where
  pub no_seal : is_seal_line line ≡ false
  pub no_order : order_of_line line ≡ None

-- the line admits a stream that isn't among the requests
pub record AdmitsNone (requests : List Asked) (line : List ℕ) : Type 0 where
  pub order : Written
  pub writes : WritesOrder line order
  pub admits : order.wish ≡ Admit
  pub none : request_named requests order.name ≡ None

-- the line is a Seal, and there are already as many Seals before it as cycles
pub record IsOneSealTooMany (cycles : ℕ) (lines : List (List ℕ)) (index : ℕ) (line : List ℕ) : Type 0 where
  pub seal : is_seal_line line ≡ true
  pub full : cycles ≤ seal_lines_before lines index

-- the line is call 100,001 among those that aren't Seals, and has no other fault
pub record IsOneCallTooMany (requests : List Asked) (lines : List (List ℕ)) (index : ℕ) (line : List ℕ) : Type 0 where
  pub order : Written
  pub writes : WritesOrder line order
  pub act : Act
  pub is_act : IsActFor requests order.wish order.name act
  pub full : most_calls ≤ other_lines_before lines index

-- the fault of the line at an index. A fault has the line's number, which counts from 1
abbrev pub IsFaultOfLine : List Asked → ℕ → List (List ℕ) → ℕ → List ℕ → ScriptFault → Type 0
IsFaultOfLine requests cycles lines index line (BadLine number) = (number ≡ index + 1) × HasNoForm line
IsFaultOfLine requests cycles lines index line (UnknownStream number) = (number ≡ index + 1) × AdmitsNone requests line
IsFaultOfLine requests cycles lines index line (TooMany number) =
    (number ≡ index + 1) × (IsOneSealTooMany cycles lines index line ⊎ IsOneCallTooMany requests lines index line)
IsFaultOfLine requests cycles lines index line Memory = ⊥

-- some calls are those of some lines: one call for each line, in order, and it is what the line calls for
pub record AreCallsOf (requests : List Asked) (cycles : ℕ) (lines : List (List ℕ)) (found : List Called) : Type 0 where
  pub one_each : length found ≡ length lines
  pub each : (index : ℕ) (line : List ℕ) (call : Called) → slice_get lines index ≡ Some line → slice_get found index ≡ Some call →
      CallsFor requests cycles lines index line call

-- a fault is that of the first line with a fault: each line before it calls for something
pub record IsFirstFaultyLine (requests : List Asked) (cycles : ℕ) (lines : List (List ℕ)) (fault : ScriptFault) : Type 0 where
  pub index : ℕ
  pub line : List ℕ
  pub here : slice_get lines index ≡ Some line
  pub faulty : IsFaultOfLine requests cycles lines index line fault
  pub before : (earlier : ℕ) (other : List ℕ) → earlier < index → slice_get lines earlier ≡ Some other →
      (call : Called) × CallsFor requests cycles lines earlier other call

-- the calls of a script are exactly those of its lines
abbrev pub ScriptsAreTheirLines : Type 0
ScriptsAreTheirLines = (requests : List Asked) (cycles : ℕ) (text : List ℕ) (found : List Called) →
    script_of requests cycles text ≡ Ok found ↔ AreCallsOf requests cycles (lines_of text) found

-- the fault of a script is exactly that of its first line with a fault
abbrev pub FaultsAreOfTheirLines : Type 0
FaultsAreOfTheirLines = (requests : List Asked) (cycles : ℕ) (text : List ℕ) (fault : ScriptFault) →
    script_of requests cycles text ≡ Err fault ↔ IsFirstFaultyLine requests cycles (lines_of text) fault

-- some line is an order of the administrator with the greatest number
pub record HasGreatest (lines : List (List ℕ)) (count : ℕ) : Type 0 where
  pub line : List ℕ
  pub of_lines : Contains lines line
  pub order : Written
  pub written : order_of_line line ≡ Some order
  pub greatest : order.seat + 1 ≡ count

-- the number of administrators is one more than the greatest number of an administrator with an order, or 0 if no line is an order
pub record AreTheAdministrators (lines : List (List ℕ)) (count : ℕ) : Type 0 where
  pub above : (line : List ℕ) (order : Written) → Contains lines line → order_of_line line ≡ Some order → order.seat < count
  pub least : 0 < count → HasGreatest lines count

-- `administrators` returns the number of administrators of lines
abbrev pub AdministratorsAreCounted : Type 0
AdministratorsAreCounted = (lines : List (List ℕ)) → AreTheAdministrators lines (administrators lines)
