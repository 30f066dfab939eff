-- The result of making a call of a history again.
use Rattle.std.specs.Prelude.{ℕ, ◌≡◌, ◌≢◌, ◌+◌, ◌⊎◌, ◌++◌, List, [], ◌∷◌, Bool, true, false, Option, None, Some, Result, Ok, Err, slice_get}
use Rattle.cqf_model.specs.declared.history.Receipt.{Receipt}
use Rattle.cqf_model.specs.declared.history.Refused.{Refused}
use Rattle.cqf_model.specs.declared.history.Refused.TheVariants.{HistoryFull}
use Rattle.cqf_model.specs.declared.history.Reply.{Reply}
use Rattle.cqf_model.specs.declared.history.Reply.TheVariants.{Sealed}
use Rattle.cqf_model.specs.History.{IsLegalHistory, Recorded, is_seal, seals}
use Rattle.cqf_admission.specs.declared.entries.SealFault.{SealFault}
use Rattle.cqf_admission.specs.declared.entries.SealFault.TheVariants as fault
use Rattle.cqf_admission.specs.Admission.{Administration, held_of, is_entered, reply_of}
use Rattle.cqf_admission.specs.Tables.{CycleTable}
use Rattle.cqf_desk.specs.Closing.{is_seal_by}
use Rattle.cqf_desk.specs.declared.again.Made.{Made}
use Rattle.cqf_desk.specs.declared.again.Made.TheVariants as made

-- the call enters with the same reply as before; it is answered otherwise if the history is full or the reply differs; the result is
-- `Memory` only if the call doesn't enter
abbrev pub IsAnsweredSo : Result Receipt Refused → Reply → Made → Type 0
IsAnsweredSo answer reply made.Answered = (is_entered answer ≡ true) × (reply_of answer ≡ reply)
IsAnsweredSo answer reply (made.Closed table) = ⊥
IsAnsweredSo answer reply made.Otherwise = (answer ≡ Err HistoryFull) ⊎ ((is_entered answer ≡ true) × (reply_of answer ≢ reply))
IsAnsweredSo answer reply made.Memory = is_entered answer ≡ false

-- the Seal closes a table, as it did before; it is answered otherwise if all cycles are spent, or if the earlier reply isn't that of a Seal
abbrev pub IsClosedSo : Result CycleTable SealFault → Reply → Made → Type 0
IsClosedSo answer reply made.Answered = ⊥
IsClosedSo answer reply (made.Closed table) = (answer ≡ Ok table) × (reply ≡ Sealed)
IsClosedSo answer reply made.Otherwise = (answer ≡ Err fault.CyclesSpent) ⊎ (reply ≢ Sealed)
IsClosedSo answer reply made.Memory = answer ≡ Err fault.Memory

-- an administration continues with an entry
pub record FollowerGoesOn (old new : Administration) (e : Recorded) : Type 0 where
  pub domain : new.domain ≡ old.domain
  pub entries : new.entries ≡ old.entries ++ e ∷ []

-- an administration has continued with these entries
pub record FollowerHasGone (old new : Administration) (calls : List Recorded) : Type 0 where
  pub domain : new.domain ≡ old.domain
  pub entries : new.entries ≡ old.entries ++ calls

-- the table that the next Seal closes: the streams that are held in the next cycle
abbrev pub next_table : Administration → CycleTable
next_table a = record { cycle = seals a.entries; rows = held_of a }

-- no legal history continues with this entry here
abbrev pub GoesOnNowhere : Administration → Recorded → Type 0
GoesOnNowhere a e = (more : List Recorded) → ¬ IsLegalHistory a.domain (a.entries ++ e ∷ more)

-- the effect of making a call again. If the answer is the same, the administration continues with the call. If it differs, no legal history
-- does. If an allocation failed, the administration is unchanged
abbrev pub ComesTo : Administration → Administration → Recorded → Made → Type 0
ComesTo old new e made.Answered = FollowerGoesOn old new e × (is_seal e.act ≡ false)
ComesTo old new e (made.Closed table) = FollowerGoesOn old new e × (is_seal e.act ≡ true) × (e.reply ≡ Sealed) × (table ≡ next_table old)
ComesTo old new e made.Otherwise = GoesOnNowhere old e
ComesTo old new e made.Memory = new ≡ old

-- the next index in a seat's tables: if the seat closes the table at `next` there, the index after it; if the seat closes none, the same
-- index
abbrev pub MovesOn : Bool → List CycleTable → ℕ → ℕ → CycleTable → Type 0
MovesOn true tables next after table = (slice_get tables next ≡ Some table) × (after ≡ next + 1)
MovesOn false tables next after table = after ≡ next

-- a call that is made again, and the table that it closes for the seat
pub record FollowerStepsTo (old new : Administration) (e : Recorded) (number : ℕ) (tables : List CycleTable) (next after : ℕ) : Type 0 where
  pub goes : FollowerGoesOn old new e
  pub sealed : is_seal e.act ≡ true → e.reply ≡ Sealed
  pub moves : MovesOn (is_seal_by number e) tables next after (next_table old)

-- why the follower stops: no legal history continues with the call, or the seat closes another table by it than the one at `next`
abbrev pub FollowerStops : Administration → Recorded → ℕ → List CycleTable → ℕ → Type 0
FollowerStops old e number tables next =
    GoesOnNowhere old e ⊎ ((is_seal_by number e ≡ true) × (e.reply ≡ Sealed) × (slice_get tables next ≢ Some (next_table old)))

-- the result of a step: the next index in the seat's tables, or none if the follower stops
abbrev pub FollowerComesTo : Administration → Administration → Recorded → ℕ → List CycleTable → ℕ → Option ℕ → Type 0
FollowerComesTo old new e number tables next None = FollowerStops old e number tables next
FollowerComesTo old new e number tables next (Some after) = FollowerStepsTo old new e number tables next after
