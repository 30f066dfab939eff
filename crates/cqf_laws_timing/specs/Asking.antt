-- Which histories admit only streams of a list: those whose calls request no other stream.
use Rattle.std.specs.Prelude.{ℕ, ◌≡◌, List, Some, Contains, fold, slice_get}
use Rattle.cqf_model.specs.Calls.{IsHistoryOf}
use Rattle.cqf_model.specs.Domain.{Domain}
use Rattle.cqf_model.specs.History.{Act, Admits, Asked, Recorded, reply_to}
use Rattle.cqf_laws_history.specs.StateLaws.{with_entry}
use Rattle.cqf_laws_timing.specs.Streams.{AdmitsOnly}

-- a call requests no stream outside the list; to withdraw or to close a cycle it requests none
abbrev pub AsksOnly : List Asked → Act → Type 0
AsksOnly streams act = (asked : Asked) → act ≡ Admits asked → Contains streams asked

-- the history followed by these calls, each with its seat and its act, one after the other with the replies that are due
abbrev pub called_in_turn : Domain → List Recorded → List (ℕ × Act) → List Recorded
called_in_turn d entries calls =
    fold (λ (before : List Recorded) (call : ℕ × Act). with_entry before call.0 call.1 (reply_to d before call.1)) entries calls

-- if a history admits only streams of the list, and further calls request only these, the longer history admits only these
abbrev pub CallsAdmitOnly : Type 0
CallsAdmitOnly = (d : Domain) (streams : List Asked) (entries : List Recorded) (calls : List (ℕ × Act)) → AdmitsOnly streams entries →
    ((call : ℕ × Act) → Contains calls call → AsksOnly streams call.1) → AdmitsOnly streams (called_in_turn d entries calls)

-- a history of what was called at each seat admits only streams of the list, if its opening part admits no other stream and no call at a
-- seat requests one
abbrev pub SeatsAdmitOnly : Type 0
SeatsAdmitOnly = (d : Domain) (streams : List Asked) (opening entries : List Recorded) (asked : List (List Act)) (cycles : ℕ) →
    IsHistoryOf d opening asked cycles entries → AdmitsOnly streams opening →
    ((admin : ℕ) (acts : List Act) (act : Act) → slice_get asked admin ≡ Some acts → Contains acts act → AsksOnly streams act) →
    AdmitsOnly streams entries
