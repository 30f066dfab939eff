-- A run on threads before it begins, and after all threads have ended.
use Rattle.std.specs.Prelude.{ℕ, ◌≡◌, ◌⊎◌, ◌++◌, List, [], ◌∷◌, All, length, map}
use Rattle.std.specs.List.{flat_map}
use Rattle.cqf_model.specs.declared.frames.Offer.{Offer}
use Rattle.cqf_model.specs.Domain.{Domain}
use Rattle.cqf_model.specs.History.{Recorded}
use Rattle.cqf_admission.specs.declared.entries.Command.{Command}
use Rattle.cqf_trace.specs.declared.bridge_trace.BridgeTrace.{BridgeTrace}
use Rattle.cqf_trace.specs.BridgeTraces.{AreGatheredFrom}
use Rattle.cqf_desk.specs.declared.faults.CloseFault.TheVariants as closing
use Rattle.cqf_desk.specs.Closing.{IsCloseFault, IsClosed}
use Rattle.cqf_desk.specs.Desk.{Counter, Sitting, fresh_seats}
use Rattle.cqf_worker.specs.declared.account.TracedAccount.{TracedAccount}
use Rattle.cqf_worker.specs.declared.conducting.PreparedRun.{PreparedRun}
use Rattle.cqf_worker.specs.Failing.{desk_of_run}
use Rattle.cqf_worker.specs.declared.faults.ConductFault.{ConductFault}
use Rattle.cqf_worker.specs.declared.faults.ConductFault.TheVariants as conduct
use Rattle.cqf_worker.specs.declared.threads.Administrator.{Administrator}
use Rattle.cqf_worker.specs.declared.threads.EndedRun.{EndedRun}
use Rattle.cqf_worker_loops.specs.declared.worker.Worker.{Worker}
use Rattle.cqf_worker.specs.Closing.{bridge_trace_at}
use Rattle.cqf_worker_loops.specs.Handing.{TableEnd}
use Rattle.cqf_worker_loops.specs.Workers.{MayWork}
use Rattle.cqf_worker.specs.Laying.{traffic_of}
use Rattle.cqf_worker.specs.Wires.{AreFedByWires, AreGiven, AreWired, AreWorkersOf, LackEnds, Wiring, ins_at, outs_at, pipe_of_tables, tables_pipe}

-- the commands of an administrator, and its seat
abbrev pub commands_of : Administrator → List Command
commands_of a = a.commands.items

abbrev pub seat_of : Administrator → Sitting
seat_of a = a.seat

-- each administrator has its commands and the seat of its number, and the conductor has the next seat; nobody has called yet
pub record AreSeatedFor (admins : List (List Command)) (administrators : List Administrator) (conductor : Sitting) : Type 0 where
  pub commands : map commands_of administrators ≡ admins
  pub seats : map seat_of administrators ≡ fresh_seats (length admins)
  pub next : conductor ≡ record { number = length admins; calls = []; tables = [] }

-- the workers of all bridges, which have done nothing, with pipes between them, and the putting end of each worker's pipe for tables
pub record AreLaidFor (d : Domain) (offers : List Offer) (cycles : ℕ) (those : List Worker) (ends : List TableEnd) : Type 0 where
  pub many : length those ≡ length d.bridges
  pub workers : AreWorkersOf (traffic_of d offers) those
  pub may_work : All (MayWork cycles) those
  pub wired : (wiring : Wiring) × AreWired wiring those
  pub tables : map pipe_of_tables ends ≡ map tables_pipe those
  pub nothing_put : All (λ (end : TableEnd). end.items ≡ []) ends

-- a run that is ready to begin
pub record IsPrepared (d : Domain) (opening : List Recorded) (offers : List Offer) (cycles : ℕ) (admins : List (List Command))
    (p : PreparedRun) : Type 0 where
  pub desk : p.desk ≡ desk_of_run d opening (length admins)
  pub laid : AreLaidFor d offers cycles p.ready.workers.items p.ready.tables.items
  pub seated : AreSeatedFor admins p.ready.administrators.items p.ready.conductor

-- all seats in the end: the administrators' seats, followed by the conductor's
abbrev pub all_seats : EndedRun → List Sitting
all_seats e = e.seats.items ++ e.sealed.seat ∷ []

-- all pipes are closed: what was taken from each is a prefix of what was put there, and the bridge traces are those of the workers
pub record AreShut (ends : List TableEnd) (those : List Worker) (bridge_traces : List BridgeTrace) : Type 0 where
  pub fed : AreFedByWires those
  pub given : AreGiven ends those
  pub own : bridge_traces ≡ map bridge_trace_at those

-- there is a fault of this kind other than an allocation failure
abbrev pub KeepsOpen : {F : Type 0} → F → (F → Type 0) → Type 0
KeepsOpen {F} memory IsFault = (why : F) × (¬ (why ≡ memory)) × IsFault why

-- the fault that a run reports if its desk can't be closed
abbrev pub IsDeskFault : Counter → List Sitting → ConductFault → Type 0
IsDeskFault desk seats fault = (fault ≡ conduct.Memory) ⊎ ((fault ≡ conduct.DeskDisagrees) × KeepsOpen closing.Memory (IsCloseFault desk seats))

-- the fault that a run reports if its pipes can't be closed
abbrev pub IsPipeFault : List Worker → ConductFault → Type 0
IsPipeFault those fault =
    (fault ≡ conduct.Memory) ⊎ ((fault ≡ conduct.ChannelLost) × LackEnds (flat_map ins_at those) (flat_map outs_at those))

-- the run's pipes and desk are closed and its traces gathered: what was taken from each pipe is a prefix of what was put there, the history
-- is that of the seats, and the traces are those of the workers' bridge traces
pub record IsSettled (d : Domain) (desk : Counter) (e : EndedRun) (account : TracedAccount) : Type 0 where
  pub fed : AreFedByWires e.workers.items
  pub given : AreGiven e.sealed.tables.items e.workers.items
  pub history : IsClosed desk (all_seats e) account.history
  pub gathered : AreGatheredFrom d (map bridge_trace_at e.workers.items) account.traces

-- why a run that has ended isn't closed: an allocation fails, some link has fewer putting than taking ends, or its desk can't be closed
-- with its seats for a cause other than memory
abbrev pub IsSettleFault : Counter → EndedRun → ConductFault → Type 0
IsSettleFault desk e conduct.Memory = Unit {0}
IsSettleFault desk e conduct.DeskDisagrees = KeepsOpen closing.Memory (IsCloseFault desk (all_seats e))
IsSettleFault desk e conduct.ChannelLost = LackEnds (flat_map ins_at e.workers.items) (flat_map outs_at e.workers.items)
IsSettleFault desk e conduct.Spawn = ⊥
