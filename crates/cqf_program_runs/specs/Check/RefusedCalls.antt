-- The first refused call of a history, and what a check says of it.
use Rattle.std.specs.Prelude.{ℕ, ◌++◌, Bool, true, false, not, List, Option, codes, decimal, filter, find}
use Rattle.std.specs.List.{enumerate_from}
use Rattle.cqf_model.specs.declared.history.Reply.{Reply}
use Rattle.cqf_model.specs.declared.history.Reply.TheVariants.{Accepted, Sealed, Refused as RefusedFor}
use Rattle.cqf_model.specs.History.{Act, Admits, Recorded, Seals, Withdraws, is_seal}
use Rattle.cqf_report.specs.HistoryText.{reply_text}
use Rattle.cqf_output.specs.Stops.{fault_line}

-- whether an answer refuses a call
abbrev pub is_refused : Reply → Bool
is_refused (Accepted receipt) = false
is_refused (RefusedFor refused) = true
is_refused Sealed = false

-- the calls of a history, numbered from 1; a Seal isn't a call
abbrev pub numbered_calls : List Recorded → List (ℕ × Recorded)
numbered_calls entries = enumerate_from 1 (filter (λ (e : Recorded). not (is_seal e.act)) entries)

-- the first refused call
abbrev pub first_refused : List Recorded → Option (ℕ × Recorded)
first_refused entries = find (λ (call : ℕ × Recorded). is_refused call.1.reply) (numbered_calls entries)

-- what was requested
abbrev pub act_text : Act → List ℕ
act_text (Admits asked) = codes "admit " ++ asked.name
act_text (Withdraws name) = codes "withdraw " ++ name
act_text Seals = codes "seal"

-- the line about a call: its number, what was requested, by whom, and the answer as in the text of a history
abbrev pub refused_call_line : ℕ × Recorded → List ℕ
refused_call_line call = fault_line (codes "check")
    (codes "call "
    ++ (decimal call.0
    ++ (codes ", "
    ++ (act_text call.1.act ++ (codes " by " ++ (decimal call.1.seat ++ (codes ": " ++ reply_text call.1.reply)))))))
