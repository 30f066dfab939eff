-- The state of an admission controller as its callers see it, and what its calls do.
use Rattle.std.specs.Prelude.{ℕ, ◌≡◌, ◌+◌, ◌-◌, ◌≤◌, ◌<◌, ◌↔◌, ◌++◌, [], ◌∷◌, Bool, true, false, List, Result, Ok, Err, filter, length, map, string_bytes}
use Rattle.std.specs.Arc.{arc_value}
use Rattle.cqf_model.specs.declared.history.Receipt.{Receipt}
use Rattle.cqf_model.specs.declared.history.Refused.{Refused}
use Rattle.cqf_model.specs.declared.history.Refused.TheVariants.{BadName, BadOctets, BadPace, UnknownNode, BrokenPath, LoopingPath, NotATree, NameHeld, TooManyStreams}
use Rattle.cqf_model.specs.declared.history.Refused.TheVariants.{TooManyHops, BudgetShort, NotHeld, AlreadyWithdrawn, HistoryFull, Memory}
use Rattle.cqf_model.specs.declared.history.Reply.{Reply}
use Rattle.cqf_model.specs.declared.history.Reply.TheVariants.{Accepted, Sealed, Refused as RefusedFor}
use Rattle.cqf_model.specs.declared.topology.Row.{Row}
use Rattle.cqf_model.specs.Domain.{Domain}
use Rattle.cqf_model.specs.History.{Act, Admits, Asked, IsLegalHistory, Recorded, Seals, Withdraws, held_in, reply_to, seals, table_at}
use Rattle.cqf_model.specs.Table.{is_held}
use Rattle.cqf_laws_history.specs.StateLaws.{IsState, ended_row, granted_row, with_entry}
use Rattle.cqf_admission.specs.declared.entries.Call.{Call}
use Rattle.cqf_admission.specs.declared.entries.Call.TheVariants.{Admit, AdmitPaced, Withdraw, Seal}
use Rattle.cqf_admission.specs.declared.entries.Entry.{Entry}
use Rattle.cqf_admission.specs.declared.entries.SealFault.{SealFault}
use Rattle.cqf_admission.specs.declared.entries.SealFault.TheVariants as fault
use Rattle.cqf_admission.specs.Asking.{asked_of, asked_paced}
use Rattle.cqf_admission.specs.Tables.{AreAlongLinks, AreTrees, CycleTable}
use Rattle.cqf_model.specs.Limits.{most_calls, most_cycles}

-- an administration: its domain, and the entries of its history
pub record Administration : Type 0 where
  pub domain : Domain
  pub entries : List Recorded

-- the streams that are held in the next cycle to be closed
abbrev pub held_of : Administration → List Row
held_of a = held_in a.domain a.entries (seals a.entries)

-- a call as the definitions have it
abbrev pub act_of : Call → Act
act_of (Admit request) = Admits (asked_of request)
act_of (AdmitPaced request) = Admits (asked_paced (arc_value request))
act_of (Withdraw name) = Withdraws (string_bytes name)
act_of Seal = Seals

abbrev pub recorded_of : Entry → Recorded
recorded_of entry = record { seat = entry.seat; act = act_of entry.call; reply = entry.reply }

-- the number of entries that aren't Seals
abbrev pub calls : List Recorded → ℕ
calls entries = length entries - seals entries

-- the answer of an entry, given the result of a call
abbrev pub reply_of : Result Receipt Refused → Reply
reply_of (Ok receipt) = Accepted receipt
reply_of (Err refused) = RefusedFor refused

-- whether a call with this result enters the history: each call does, unless it is refused with `HistoryFull` or `Memory`
abbrev pub is_entered : Result Receipt Refused → Bool
is_entered (Ok receipt) = true
is_entered (Err HistoryFull) = false
is_entered (Err Memory) = false
is_entered (Err BadName) = true
is_entered (Err BadOctets) = true
is_entered (Err BadPace) = true
is_entered (Err (UnknownNode index)) = true
is_entered (Err (BrokenPath index)) = true
is_entered (Err (LoopingPath index)) = true
is_entered (Err (NotATree branch)) = true
is_entered (Err TooManyHops) = true
is_entered (Err NameHeld) = true
is_entered (Err TooManyStreams) = true
is_entered (Err (BudgetShort link left)) = true
is_entered (Err NotHeld) = true
is_entered (Err AlreadyWithdrawn) = true

-- what a call does. It is refused with `HistoryFull` if and only if the history is full; this check comes first. A call that isn't entered
-- changes nothing. A call that is entered has the answer that is due, both in its entry and as its result
pub record Answers (old new : Administration) (seat : ℕ) (act : Act) (result : Result Receipt Refused) : Type 0 where
  pub full : (result ≡ Err HistoryFull) ↔ (most_calls ≤ calls old.entries)
  pub unchanged : is_entered result ≡ false → new ≡ old
  pub domain : new.domain ≡ old.domain
  pub due : is_entered result ≡ true → reply_of result ≡ reply_to old.domain old.entries act
  pub entered : is_entered result ≡ true → new.entries ≡ with_entry old.entries seat act (reply_of result)

-- what is held after a request: if it is granted, its stream in addition to those held before; otherwise the same streams
abbrev pub HoldsOneMore : Administration → Administration → Asked → Result Receipt Refused → Type 0
HoldsOneMore old new asked (Ok receipt) = held_of new ≡ held_of old ++ granted_row old.domain receipt.no receipt.effect.0 asked ∷ []
HoldsOneMore old new asked (Err refused) = held_of new ≡ held_of old

-- what is held after a withdrawal: the same streams, and if it is accepted, the one with the receipt's number is withdrawn
abbrev pub EndsOne : Administration → Administration → Result Receipt Refused → Type 0
EndsOne old new (Ok receipt) = held_of new ≡ map (ended_row receipt.no receipt.effect.0) (held_of old)
EndsOne old new (Err refused) = held_of new ≡ held_of old

-- what is held after a Seal: of the streams in the Seal's table, those whose last frame hasn't left by the next cycle. The table's trees
-- are trees of the domain
pub record LetsGo (old new : Administration) (table : CycleTable) : Type 0 where
  pub rows : table.rows ≡ held_of old
  pub held : held_of new ≡ filter (λ (row : Row). is_held row (seals old.entries + 1)) (held_of old)
  pub trees : AreTrees old.domain table.rows
  pub links : AreAlongLinks old.domain table.rows

-- what a Seal does: it enters itself and returns the table of the cycle that it closes. A refused Seal changes nothing
abbrev pub Closes : Administration → Administration → ℕ → Result CycleTable SealFault → Type 0
Closes old new seat (Ok table) =
    (seals old.entries < most_cycles) × (new.domain ≡ old.domain) × (new.entries ≡ with_entry old.entries seat Seals Sealed) ×
    (table.cycle ≡ seals old.entries) × (table.rows ≡ table_at old.domain new.entries (seals old.entries))
Closes old new seat (Err fault.CyclesSpent) = (most_cycles ≤ seals old.entries) × (new ≡ old)
Closes old new seat (Err fault.Memory) = (seals old.entries < most_cycles) × (new ≡ old)

-- the state that an administration keeps in place of its history: the held streams, the number of the next stream, and the number of Seals
pub record IsRunning (d : Domain) (entries : List Recorded) (rows : List Row) (next sealed : ℕ) : Type 0 where
  pub legal : IsLegalHistory d entries
  pub state : IsState d entries rows next
  pub counted : sealed ≡ seals entries
  pub few : next + sealed ≤ length entries
