-- What the conductor of a run gives the workers: the table of each cycle, through one pipe per worker.
use Rattle.std.specs.Prelude.{ℕ, ◌≡◌, ◌<◌, ◌≤◌, ◌⊎◌, ◌++◌, List, [], ◌∷◌, All, Bool, true, false, length, map, replicate, slice_index_or}
use Rattle.cqf_model.specs.History.{Seals}
use Rattle.cqf_model.specs.Calls.{acts_of}
use Rattle.cqf_admission.specs.declared.entries.SealFault.{SealFault}
use Rattle.cqf_admission.specs.declared.entries.SealFault.TheVariants as seal
use Rattle.cqf_admission.specs.Tables.{CycleTable}
use Rattle.cqf_desk.specs.Desk.{Sitting}
use Rattle.cqf_worker_loops.specs.PipeEnds.{End, PipeId}
use Rattle.cqf_worker_loops.specs.declared.carried.Carried.{Carried}
use Rattle.cqf_worker_loops.specs.declared.carried.Carried.TheVariants.{Item}
use Rattle.cqf_worker_loops.specs.declared.sealing.Block.{Block}
use Rattle.cqf_worker_loops.specs.declared.sealing.SealingFault.{SealingFault}
use Rattle.cqf_worker_loops.specs.declared.sealing.SealingFault.TheVariants as sealing
use Rattle.cqf_worker_loops.specs.declared.sealing.Unsealed.{Unsealed}
use Rattle.cqf_worker_loops.specs.Rows.{MayGet}
use Rattle.cqf_worker_loops.specs.Stops.{AreItemsThenStop}

-- a conductor's end of a worker's pipe for tables
abbrev pub TableEnd : Type 0
TableEnd = End (Carried CycleTable)

-- the pipes of ends
abbrev pub pipes_of : {T : Type 0} → List (End T) → List (PipeId T)
pipes_of ends = map (λ end. end.pipe) ends

-- the tables of a block
abbrev pub tables_handed : Block → List CycleTable
tables_handed block = block.first ∷ block.following.items

-- each end got these items
abbrev pub GivesEach : {T : Type 0} → List T → List (End T) → List (End T) → Type 0
GivesEach {T} xs before after = (index : ℕ) (d : End T) → index < length before →
    (slice_index_or after index d).items ≡ (slice_index_or before index d).items ++ xs

-- each end got these items or nothing
abbrev pub GivesSome : {T : Type 0} → List T → List (End T) → List (End T) → Type 0
GivesSome {T} xs before after = (index : ℕ) (d : End T) → index < length before →
    MayGet xs (slice_index_or before index d) (slice_index_or after index d)

-- at one of the ends nothing was put
abbrev pub MissesOne : {T : Type 0} → List (End T) → List (End T) → Type 0
MissesOne {T} before after = (index : ℕ) × (index < length before) × ((d : End T) → slice_index_or after index d ≡ slice_index_or before index d)

-- at one of the ends fewer than count items were put
abbrev pub LacksOne : {T : Type 0} → List (End T) → ℕ → Type 0
LacksOne {T} ends count = (index : ℕ) × (index < length ends) × ((d : End T) → length (slice_index_or ends index d).items < count)

-- count tables were put at each of some of the ends and nothing at the others; or nothing was put at any end
abbrev pub GivesTables : ℕ → List TableEnd → List TableEnd → Type 0
GivesTables count before after = (after ≡ before) ⊎ ((tables : List CycleTable) × (length tables ≡ count) × GivesSome (map Item tables) before after)

-- one cycle is closed: the seat has its Seal and its table
pub record SealsOne (old new : Sitting) (table : CycleTable) : Type 0 where
  pub number : new.number ≡ old.number
  pub acts : acts_of new.calls ≡ acts_of old.calls ++ Seals ∷ []
  pub tables : new.tables ≡ old.tables ++ table ∷ []

-- count cycles are closed, one after the other
pub record SealsMany (count : ℕ) (old new : Sitting) (tables : List CycleTable) : Type 0 where
  pub number : new.number ≡ old.number
  pub acts : acts_of new.calls ≡ acts_of old.calls ++ replicate count Seals
  pub many : length tables ≡ count
  pub following : new.tables ≡ old.tables ++ tables

-- the fault with which the conductor gives up, from the reason of a refused Seal
abbrev pub fault_of_seal : SealFault → SealingFault
fault_of_seal seal.CyclesSpent = sealing.CyclesSpent
fault_of_seal seal.Memory = sealing.Memory

-- of count cycles the first ones are closed, one after the other; not all of them if the fault is that no more cycles can be closed
pub record SealsSome (count : ℕ) (old new : Sitting) (fault : SealingFault) : Type 0 where
  pub closed : ℕ
  pub tables : List CycleTable
  pub sealed : SealsMany closed old new tables
  pub upto : closed ≤ count
  pub spent : fault ≡ sealing.CyclesSpent → closed < count
  pub not_lost : fault ≡ sealing.Lost → ⊥

-- count cycles are closed; if all is true, each end got their tables, in order; else one of the ends got nothing
pub record SealsBlock (count : ℕ) (old new : Sitting) (before after : List TableEnd) (all : Bool) : Type 0 where
  pub tables : List CycleTable
  pub sealed : SealsMany count old new tables
  pub given : all ≡ true → GivesEach (map Item tables) before after
  pub missed : all ≡ false → MissesOne before after

-- this number of cycles is closed with a seat that had no calls and no tables
pub record HasClosed (cycles : ℕ) (seat done : Sitting) : Type 0 where
  pub number : done.number ≡ seat.number
  pub acts : acts_of done.calls ≡ replicate cycles Seals
  pub many : length done.tables ≡ cycles

-- of these cycles the first ones are closed with such a seat; not all of them if the fault is that no more cycles can be closed
pub record ClosesSome (cycles : ℕ) (seat done : Sitting) (fault : SealingFault) : Type 0 where
  pub count : ℕ
  pub closed : HasClosed count seat done
  pub upto : count ≤ cycles
  pub spent : fault ≡ sealing.CyclesSpent → count < cycles
  pub not_lost : fault ≡ sealing.Lost → ⊥

-- this number of cycles is closed with such a seat, and each of the pipes carried exactly their tables, in order
pub record HasSealed (cycles : ℕ) (seat done : Sitting) (before after : List TableEnd) : Type 0 where
  pub number : done.number ≡ seat.number
  pub acts : acts_of done.calls ≡ replicate cycles Seals
  pub many : length done.tables ≡ cycles
  pub pipes : pipes_of after ≡ pipes_of before
  pub given : (index : ℕ) (d : TableEnd) → index < length after → (slice_index_or after index d).items ≡ map Item done.tables

-- a conductor that gives up. The first of the cycles are closed: not all of them if the fault is that no more cycles can be closed, and all
-- of them if a worker had ended, which then lacks tables. At each end tables were put, and then at most one Stop
pub record HasBrokenOff (cycles : ℕ) (seat : Sitting) (before : List TableEnd) (left : Unsealed) : Type 0 where
  pub count : ℕ
  pub closed : HasClosed count seat left.conductor.seat
  pub upto : count ≤ cycles
  pub spent : left.fault ≡ sealing.CyclesSpent → count < cycles
  pub lost : left.fault ≡ sealing.Lost → (count ≡ cycles) × LacksOne left.conductor.tables.items cycles
  pub pipes : pipes_of left.conductor.tables.items ≡ pipes_of before
  pub put : All (λ (end : TableEnd). AreItemsThenStop end.items) left.conductor.tables.items
