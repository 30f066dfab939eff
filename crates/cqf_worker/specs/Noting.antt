-- How a thread's fault is reported as the run's fault.
use Rattle.std.specs.Prelude.{◌≡◌, ◌⊎◌, ◌++◌, [], ◌∷◌, Err, List, None, Ok, Option, Result, Some, true}
use Rattle.cqf_worker_loops.specs.declared.calling.CallFault.{CallFault}
use Rattle.cqf_worker_loops.specs.declared.calling.CallFault.TheVariants as call
use Rattle.cqf_worker_loops.specs.declared.calling.Unmade.{Unmade}
use Rattle.cqf_worker.specs.declared.faults.ConductFault.{ConductFault}
use Rattle.cqf_worker.specs.declared.faults.ConductFault.TheVariants as conduct
use Rattle.cqf_worker.specs.declared.faults.Faults.{Faults}
use Rattle.cqf_worker_loops.specs.declared.sealing.Sealed.{Sealed}
use Rattle.cqf_worker_loops.specs.declared.sealing.SealingFault.{SealingFault}
use Rattle.cqf_worker_loops.specs.declared.sealing.SealingFault.TheVariants as sealing
use Rattle.cqf_worker_loops.specs.declared.worker.GaveUp.{GaveUp}
use Rattle.cqf_worker_loops.specs.declared.worker.WorkerFault.{WorkerFault}
use Rattle.cqf_worker_loops.specs.declared.worker.WorkerFault.TheVariants as working
use Rattle.cqf_worker.specs.Faults.{first_noted}

-- a run's faults after a thread's own fault is noted, or after a thread ended early for no cause of its own
abbrev pub noted : Faults → Option ConductFault → Faults
noted faults (Some fault) = record faults { first = Some (first_noted faults.first fault) }
noted faults None = record faults { is_stopped = true }

-- a worker's own fault, as the run's
abbrev pub fault_in_worker : WorkerFault → Option ConductFault
fault_in_worker working.Memory = Some conduct.Memory
fault_in_worker working.Stopped = None

abbrev pub fault_of_worker : GaveUp → Option ConductFault
fault_of_worker why = fault_in_worker why.fault

-- an administrator's own fault, as the run's
abbrev pub fault_in_call : CallFault → Option ConductFault
fault_in_call call.HistoryFull = Some conduct.DeskDisagrees
fault_in_call call.Memory = Some conduct.Memory

abbrev pub fault_of_caller : Unmade → Option ConductFault
fault_of_caller why = fault_in_call why.fault

-- the conductor's own fault, as the run's
abbrev pub fault_of_conductor : SealingFault → Option ConductFault
fault_of_conductor sealing.Memory = Some conduct.Memory
fault_of_conductor sealing.CyclesSpent = Some conduct.DeskDisagrees
fault_of_conductor sealing.Lost = None

-- the faults in the end, from those of the other threads and the conductor's result
abbrev pub noted_with : Faults → Result Sealed SealingFault → Faults
noted_with faults (Ok sealed) = faults
noted_with faults (Err fault) = noted faults (fault_of_conductor fault)

-- what a thread returned is appended to what others returned, or an allocation failure is noted
abbrev pub KeepsGiven : {X : Type 0} → Faults → Faults → List X → List X → X → Type 0
KeepsGiven before after kept more given =
    ((more ≡ kept ++ given ∷ []) × (after ≡ before)) ⊎ ((more ≡ kept) × (after ≡ noted before (Some conduct.Memory)))

-- the effect of a thread's answer: its value is kept, or its cause is noted
abbrev pub NotesFault : {X Y : Type 0} → (Y → Option ConductFault) → Faults → Faults → List X → List X → Result X Y → Type 0
NotesFault cause before after kept more (Ok given) = KeepsGiven before after kept more given
NotesFault cause before after kept more (Err why) = (more ≡ kept) × (after ≡ noted before (cause why))

-- the effect of several answers, one after the other
abbrev pub NotesAll : {X Y : Type 0} → (Y → Option ConductFault) → Faults → Faults → List X → List X → List (Result X Y) → Type 0
NotesAll cause before after kept more [] = (after ≡ before) × (more ≡ kept)
NotesAll {X} {Y} cause before after kept more (answer ∷ answers) =
    (between : Faults) × (some : List X) × NotesFault cause before between kept some answer × NotesAll cause between after some more answers
