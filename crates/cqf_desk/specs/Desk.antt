-- A desk and its seats as their callers see them, and what a seat keeps of its calls.
use Rattle.std.specs.Prelude.{ℕ, ◌≡◌, ◌≤◌, ◌↔◌, List, [], ◌∷◌, ◌++◌, Result, Ok, Err, true, false}
use Rattle.cqf_model.specs.declared.history.Receipt.{Receipt}
use Rattle.cqf_model.specs.declared.history.Refused.{Refused}
use Rattle.cqf_model.specs.declared.history.Refused.TheVariants.{HistoryFull}
use Rattle.cqf_model.specs.declared.history.Reply.TheVariants.{Sealed}
use Rattle.cqf_model.specs.History.{Act, IsLegalHistory, Recorded, Seals, reply_to}
use Rattle.cqf_laws_history.specs.StateLaws.{with_entry}
use Rattle.cqf_lists.specs.Lists.{each_below}
use Rattle.cqf_admission.specs.declared.entries.SealFault.{SealFault}
use Rattle.cqf_admission.specs.Admission.{Administration, Closes, calls, is_entered, reply_of}
use Rattle.cqf_admission.specs.Tables.{CycleTable}
use Rattle.cqf_model.specs.Limits.{most_calls}

-- a desk: the administration with which it was made, and its number of seats
pub record Counter : Type 0 where
  pub opening : Administration
  pub seats : ℕ

-- a seat: its number, its own calls with their answers, and the tables of its Seals
pub record Sitting : Type 0 where
  pub number : ℕ
  pub calls : List Recorded
  pub tables : List CycleTable

-- the seats of a desk before any call
abbrev pub fresh_seats : ℕ → List Sitting
fresh_seats seats = each_below (λ number. record { number = number; calls = []; tables = [] } ∷ []) seats

-- what a seat keeps of a call that enters the history: the call, with the same answer that its caller gets
pub record Keeps (old new : Sitting) (act : Act) (result : Result Receipt Refused) : Type 0 where
  pub number : new.number ≡ old.number
  pub tables : new.tables ≡ old.tables
  pub entered : is_entered result ≡ true → new.calls ≡ with_entry old.calls old.number act (reply_of result)
  pub unchanged : is_entered result ≡ false → new ≡ old

-- a seat with one more Seal, and its table
abbrev pub with_seal : Sitting → CycleTable → Sitting
with_seal seat table = record {
  number = seat.number;
  calls = with_entry seat.calls seat.number Seals Sealed;
  tables = seat.tables ++ table ∷ [];
}

-- what a seat keeps of a Seal: the Seal and its table
abbrev pub KeepsSeal : Sitting → Sitting → Result (Unit {0}) SealFault → Type 0
KeepsSeal old new (Ok done) = (table : CycleTable) × (new ≡ with_seal old table)
KeepsSeal old new (Err fault) = new ≡ old

-- what a call does to the desk's administration. It is refused with `HistoryFull` if and only if the history is full; this check comes
-- first. Otherwise it gets the answer that is due there, and enters with it
pub record IsAnswered (old new : Administration) (seat : ℕ) (act : Act) (result : Result Receipt Refused) : Type 0 where
  pub full : (result ≡ Err HistoryFull) ↔ (most_calls ≤ calls old.entries)
  pub domain : new.domain ≡ old.domain
  pub due : is_entered result ≡ true → reply_of result ≡ reply_to old.domain old.entries act
  pub entered : is_entered result ≡ true → new.entries ≡ with_entry old.entries seat act (reply_of result)
  pub unchanged : is_entered result ≡ false → new ≡ old

-- what a Seal does to the desk's administration and to its seat. It closes the next cycle, and the seat gets a table of that cycle, which
-- is compared when the desk is closed. A refused Seal is refused for the reason that is due there
abbrev pub IsSealed : Administration → Administration → Sitting → Sitting → Result (Unit {0}) SealFault → Type 0
IsSealed before after old new (Ok done) =
    (table own : CycleTable) × Closes before after old.number (Ok table) × (own.cycle ≡ table.cycle) × (new ≡ with_seal old own)
IsSealed before after old new (Err fault) = Closes before after old.number (Err fault) × (new ≡ old)

-- some administration with a legal history gives this answer to the call and is changed accordingly. No clause can say which one, since the
-- desk's is protected by a lock. Closing the desk shows which history it was
abbrev pub IsAnsweredSomewhere : ℕ → Act → Result Receipt Refused → Type 0
IsAnsweredSomewhere seat act result =
    (old new : Administration) × IsLegalHistory old.domain old.entries × IsAnswered old new seat act result

-- the same for a Seal
abbrev pub IsSealedSomewhere : Sitting → Sitting → Result (Unit {0}) SealFault → Type 0
IsSealedSomewhere old new result =
    (before after : Administration) × IsLegalHistory before.domain before.entries × IsSealed before after old new result
