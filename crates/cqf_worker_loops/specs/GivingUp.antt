-- Why a bridge's thread gives up, and what it returns then.
use Rattle.std.specs.Prelude.{ℕ, ◌≡◌, ◌<◌, All}
use Rattle.cqf_worker_loops.specs.declared.worker.GaveUp.{GaveUp}
use Rattle.cqf_worker_loops.specs.declared.worker.Worker.{Worker}
use Rattle.cqf_worker_loops.specs.declared.worker.WorkerFault.{WorkerFault}
use Rattle.cqf_worker_loops.specs.declared.worker.WorkerFault.TheVariants as working
use Rattle.cqf_worker_loops.specs.Rows.{wires_of}
use Rattle.cqf_worker_loops.specs.Stops.{AreItemsThenStop}
use Rattle.cqf_worker_loops.specs.Workers.{SegmentPort}

-- why a worker of this number of cycles gives up: an allocation fails, or, only if there are cycles to go through, it is stopped
abbrev pub GivesUpFor : ℕ → WorkerFault → Type 0
GivesUpFor cycles working.Memory = Unit {0}
GivesUpFor cycles working.Stopped = 0 < cycles

-- what a worker that gives up returns: its bridge's number, the fault, and the ends at which it put: segments, and then at most one Stop
pub record HasGivenUp (cycles : ℕ) (worker : Worker) (why : GaveUp) : Type 0 where
  pub number : why.bridge ≡ worker.relay.number
  pub stopped : GivesUpFor cycles why.fault
  pub outs : wires_of why.outs.items ≡ wires_of worker.outs.items
  pub put : All (λ (port : SegmentPort). AreItemsThenStop port.pipe.items) why.outs.items
