-- A history as a text: one line for each entry.
use Rattle.std.specs.Prelude.{ℕ, ◌++◌, List, [], ◌∷◌, codes, decimal}
use Rattle.std.specs.List.{flat_map}
use Rattle.cqf_model.specs.declared.history.Reply.{Reply}
use Rattle.cqf_model.specs.declared.history.Reply.TheVariants.{Accepted, Sealed, Refused as RefusedFor}
use Rattle.cqf_model.specs.History.{Act, Admits, Recorded, Seals, Withdraws}
use Rattle.cqf_model.specs.Refusals.{text_of_refusal}

-- an answer: the stream's number and the effect cycle, or why the call is refused. The line of a Seal has only the call, as only a Seal has
-- the answer `sealed`
abbrev pub reply_text : Reply → List ℕ
reply_text (Accepted receipt) = codes "accepted " ++ (decimal receipt.no ++ (codes " " ++ decimal receipt.effect.0))
reply_text (RefusedFor refused) = codes "refused " ++ text_of_refusal refused
reply_text Sealed = codes "sealed"

-- a call with its answer: the seat, what was called for, the stream's name as it is, and the answer
abbrev pub entry_text : ℕ → Act → Reply → List ℕ
entry_text seat (Admits asked) reply = decimal seat ++ (codes " admit " ++ (asked.name ++ (codes " " ++ reply_text reply)))
entry_text seat (Withdraws name) reply = decimal seat ++ (codes " withdraw " ++ (name ++ (codes " " ++ reply_text reply)))
entry_text seat Seals reply = decimal seat ++ codes " seal"

-- the line of an entry
abbrev pub line_of_entry : Recorded → List ℕ
line_of_entry entry = entry_text entry.seat entry.act entry.reply ++ 10 ∷ []

-- the text of a history: a line for each entry, in their order
abbrev pub history_text : List Recorded → List ℕ
history_text entries = flat_map line_of_entry entries
