-- The calls of a script.
use Rattle.std.specs.Prelude.{ℕ, ◌+◌, ◌≤◌, List, [], ◌∷◌, Option, Some, None, Result, Ok, Err, count_by, find, max}
use Rattle.std.specs.Prelude.{nat_le, not, ok_or, option_map, if◌then◌else◌}
use Rattle.cqf_lists.specs.Results.{and_then}
use Rattle.cqf_text.specs.Lines.{lines_of}
use Rattle.cqf_model.specs.Domain.{is_text}
use Rattle.cqf_model.specs.History.{Act, Admits, Asked, Seals, Withdraws, is_seal}
use Rattle.cqf_topology.specs.Fields.{and_first}
use Rattle.cqf_admission.specs.declared.entries.Call.{Call}
use Rattle.cqf_admission.specs.Admission.{act_of}
use Rattle.cqf_admission.specs.declared.faults.ScriptFault.{ScriptFault}
use Rattle.cqf_admission.specs.declared.faults.ScriptFault.TheVariants.{BadLine, UnknownStream, TooMany}
use Rattle.cqf_admission.specs.declared.lines.Wish.{Wish}
use Rattle.cqf_admission.specs.declared.lines.Wish.TheVariants.{Admit, Withdraw}
use Rattle.cqf_admission.specs.Lines.{Written, is_seal_line, order_of_line}
use Rattle.cqf_model.specs.Limits.{most_calls}

-- a call: its seat, and what is called for
abbrev pub Called : Type 0
Called = ℕ × Act

-- one more than the number of the order's administrator; 0 without an order
abbrev pub seats_up_to : Option Written → ℕ
seats_up_to None = 0
seats_up_to (Some order) = order.seat + 1

-- the number of administrators: one more than the greatest of their numbers, or 0 if there are none
abbrev pub administrators : List (List ℕ) → ℕ
administrators [] = 0
administrators (line ∷ lines) = max (seats_up_to (order_of_line line)) (administrators lines)

-- the first of some requests that has a name
abbrev pub request_named : List Asked → List ℕ → Option Asked
request_named requests name = find (λ (asked : Asked). is_text asked.name name) requests

-- the act that admits or withdraws the stream of a name; none if a stream is to be admitted that isn't among the requests
abbrev pub act_for : List Asked → Wish → List ℕ → Option Act
act_for requests Admit name = option_map (λ (asked : Asked). Admits asked) (request_named requests name)
act_for requests Withdraw name = Some (Withdraws name)

-- the call of an order on the line with this number, after `called` calls that aren't Seals; or the line's fault
abbrev pub call_of_order : List Asked → ℕ → ℕ → Written → Result Called ScriptFault
call_of_order requests number called order =
    and_then (ok_or (act_for requests order.wish order.name) (UnknownStream number)) (λ act.
    if nat_le most_calls called then Err (TooMany number) else Ok (order.seat, act))

-- the Seal on the line with this number, after `sealed` Seals; or the line's fault
abbrev pub call_of_seal : ℕ → ℕ → ℕ → ℕ → Result Called ScriptFault
call_of_seal seat cycles number sealed = if nat_le cycles sealed then Err (TooMany number) else Ok (seat, Seals)

-- the call of the line with this number, after `sealed` Seals and `called` other calls; or the line's fault
abbrev pub call_of_line : List Asked → ℕ → ℕ → ℕ → ℕ → ℕ → List ℕ → Result Called ScriptFault
call_of_line requests seat cycles number sealed called line =
    if is_seal_line line then call_of_seal seat cycles number sealed
    else and_then (ok_or (order_of_line line) (BadLine number)) (call_of_order requests number called)

-- the number of Seals before the next line, and the number of other calls before it
abbrev pub sealed_after : ℕ → List ℕ → ℕ
sealed_after sealed line = if is_seal_line line then sealed + 1 else sealed

abbrev pub called_after : ℕ → List ℕ → ℕ
called_after called line = if is_seal_line line then called else called + 1

-- the calls of lines, the first with this number, after `sealed` Seals and `called` other calls; or the fault of the first line
-- with a fault. The Seals have a seat of their own
abbrev pub calls_from : List Asked → ℕ → ℕ → ℕ → ℕ → ℕ → List (List ℕ) → Result (List Called) ScriptFault
calls_from requests seat cycles number sealed called [] = Ok []
calls_from requests seat cycles number sealed called (line ∷ lines) =
    and_first (call_of_line requests seat cycles number sealed called line)
    (calls_from requests seat cycles (number + 1) (sealed_after sealed line) (called_after called line) lines)

-- the calls of a script for this number of cycles, given the streams that may be admitted; or its first fault. The seat of the Seals is the
-- number of administrators
abbrev pub script_of : List Asked → ℕ → List ℕ → Result (List Called) ScriptFault
script_of requests cycles text = calls_from requests (administrators (lines_of text)) cycles 1 0 0 (lines_of text)

-- how many of some calls are Seals, and how many aren't
abbrev pub seals_among : List Called → ℕ
seals_among found = count_by (λ (call : Called). is_seal call.1) found

abbrev pub others_among : List Called → ℕ
others_among found = count_by (λ (call : Called). not (is_seal call.1)) found

-- the calls of a script are few: no more Seals than cycles, and no more than 100,000 others
pub record AreFew (cycles : ℕ) (found : List Called) : Type 0 where
  pub for_seals : seals_among found ≤ cycles
  pub for_others : others_among found ≤ most_calls

-- a call that was read, as the definitions have it
abbrev pub called_of : ℕ × Call → Called
called_of entry = (entry.0, act_of entry.1)
