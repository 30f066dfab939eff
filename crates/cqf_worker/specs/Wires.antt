-- The pipes between the workers of a run: which pipe is on which link, and what is known of the pipes once they are closed.
use Rattle.std.specs.Prelude.{ℕ, ◌≡◌, ◌<◌, ◌==◌, ◌++◌, List, Option, Some, Contains, count_by, slice_get}
use Rattle.cqf_admission.specs.Tables.{CycleTable}
use Rattle.cqf_relay.specs.declared.moving.Segment.{Segment}
use Rattle.cqf_worker_loops.specs.declared.carried.Carried.{Carried}
use Rattle.cqf_worker_loops.specs.declared.worker.Worker.{Worker}
use Rattle.cqf_worker_loops.specs.PipeEnds.{End, PipeId}
use Rattle.cqf_worker_loops.specs.Workers.{IsWorkerOf, Offering, SegmentPort}

-- the pipe on each link, if there is one
abbrev pub Wiring : Type 0
Wiring = ℕ → Option (PipeId (Carried Segment))

-- the end is of the pipe on its link
abbrev pub IsOn : Wiring → SegmentPort → Type 0
IsOn wiring port = wiring port.link ≡ Some port.pipe.pipe

abbrev pub AreOn : Wiring → List SegmentPort → Type 0
AreOn wiring ports = (p : SegmentPort) → Contains ports p → IsOn wiring p

-- each end at the workers is of the pipe on its link, so a putting and a taking end of one link are of one pipe
pub record AreWired (wiring : Wiring) (workers : List Worker) : Type 0 where
  pub at_ins : (w : Worker) → Contains workers w → AreOn wiring w.ins.items
  pub at_outs : (w : Worker) → Contains workers w → AreOn wiring w.outs.items

-- the workers of all bridges of this traffic, by number
abbrev pub AreWorkersOf : Offering → List Worker → Type 0
AreWorkersOf t workers = (number : ℕ) (w : Worker) → slice_get workers number ≡ Some w → IsWorkerOf t number w

-- how many ends of a link there are
abbrev pub count_on : ℕ → List SegmentPort → ℕ
count_on link ports = count_by (λ (p : SegmentPort). p.link == link) ports

-- some link has fewer putting than taking ends
abbrev pub LackEnds : List SegmentPort → List SegmentPort → Type 0
LackEnds ins outs = (link : ℕ) × (count_on link outs < count_on link ins)

-- the taking ends at workers, and the putting ends
abbrev pub ins_at : Worker → List SegmentPort
ins_at w = w.ins.items

abbrev pub outs_at : Worker → List SegmentPort
outs_at w = w.outs.items

-- the pipe that brings a worker its tables, and the pipe of an end at which tables are put
abbrev pub tables_pipe : Worker → PipeId (Carried CycleTable)
tables_pipe w = w.tables.pipe

abbrev pub pipe_of_tables : End (Carried CycleTable) → PipeId (Carried CycleTable)
pipe_of_tables end = end.pipe

-- what was taken is a prefix of what was put
abbrev pub IsBeginning : {T : Type 0} → List T → List T → Type 0
IsBeginning {T} taken put = (rest : List T) × (put ≡ taken ++ rest)

-- what was taken at a port is a prefix of what some worker put on the port's link
pub record IsFed (workers : List Worker) (p : SegmentPort) : Type 0 where
  pub from : Worker
  pub out : SegmentPort
  pub of_workers : Contains workers from
  pub at_worker : Contains from.outs.items out
  pub same_link : out.link ≡ p.link
  pub beginning : IsBeginning p.pipe.items out.pipe.items

-- each port at which a worker takes is fed so
abbrev pub AreFedByWires : List Worker → Type 0
AreFedByWires workers = (w : Worker) (p : SegmentPort) → Contains workers w → Contains w.ins.items p → IsFed workers p

-- the tables that each worker took are a prefix of those put for it
abbrev pub AreGiven : List (End (Carried CycleTable)) → List Worker → Type 0
AreGiven tables workers = (index : ℕ) (end : End (Carried CycleTable)) (w : Worker) → slice_get tables index ≡ Some end →
    slice_get workers index ≡ Some w → IsBeginning w.tables.items end.items
