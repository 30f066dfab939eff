-- The threads of a run: their initial and their final state.
use Rattle.std.specs.Prelude.{ℕ, ◌≡◌, ◌≤◌, List, [], All, IfErr, IfOk, Result}
use Rattle.std.specs.List.{AllZip}
use Rattle.cqf_desk.specs.Desk.{Sitting}
use Rattle.cqf_worker.specs.declared.faults.ConductFault.{ConductFault}
use Rattle.cqf_worker.specs.declared.threads.Administrator.{Administrator}
use Rattle.cqf_worker.specs.declared.threads.EndedRun.{EndedRun}
use Rattle.cqf_worker.specs.declared.threads.ReadyRun.{ReadyRun}
use Rattle.cqf_worker_loops.specs.declared.calling.Unmade.{Unmade}
use Rattle.cqf_worker_loops.specs.declared.sealing.SealingFault.{SealingFault}
use Rattle.cqf_worker_loops.specs.declared.sealing.Unsealed.{Unsealed}
use Rattle.cqf_worker_loops.specs.declared.worker.GaveUp.{GaveUp}
use Rattle.cqf_worker_loops.specs.declared.worker.Worker.{Worker}
use Rattle.cqf_worker_loops.specs.Commands.{HasCalled, HasLeftOff}
use Rattle.cqf_worker_loops.specs.GivingUp.{HasGivenUp}
use Rattle.cqf_worker_loops.specs.Handing.{HasBrokenOff, HasSealed, TableEnd}
use Rattle.cqf_worker_loops.specs.Workers.{MayWork, Works}
use Rattle.cqf_worker.specs.Reporting.{MayBeReported}
use Rattle.cqf_model.specs.Limits.{most_cycles}

-- what a worker's thread answers: the worker that has done its part, or what a worker that gives up returns, with the number of the
-- worker's own bridge
abbrev pub AnswersWorker : ℕ → Worker → Result Worker GaveUp → Type 0
AnswersWorker cycles w answer = IfOk answer (Works cycles w) × IfErr answer (HasGivenUp cycles w)

-- an administrator's seat with which all of its commands were made
abbrev pub CallsOf : Administrator → Sitting → Type 0
CallsOf a done = HasCalled a.commands.items a.seat done

-- what an administrator's thread answers: that seat, or the seat with the commands before the first one that wasn't entered
abbrev pub CallAnswers : Administrator → Result Sitting Unmade → Type 0
CallAnswers a answer = IfOk answer (CallsOf a) × IfErr answer (HasLeftOff a.commands.items a.seat)

-- why the conductor gives up
abbrev pub BreaksOff : ℕ → Sitting → List TableEnd → SealingFault → Type 0
BreaksOff cycles seat before fault = (left : Unsealed) × (left.fault ≡ fault) × HasBrokenOff cycles seat before left

-- the threads may begin: nothing is done yet
pub record IsReadyWorker (cycles : ℕ) (r : ReadyRun) : Type 0 where
  pub few : cycles ≤ most_cycles
  pub workers : All (MayWork cycles) r.workers.items
  pub fresh : All (λ (a : Administrator). a.seat.calls ≡ []) r.administrators.items
  pub no_calls : r.conductor.calls ≡ []
  pub no_tables : r.conductor.tables ≡ []
  pub nothing_put : All (λ (end : TableEnd). end.items ≡ []) r.tables.items

-- the threads have ended, and each has done its part
pub record IsEnded (cycles : ℕ) (r : ReadyRun) (e : EndedRun) : Type 0 where
  pub worked : AllZip (Works cycles) r.workers.items e.workers.items
  pub called : AllZip CallsOf r.administrators.items e.seats.items
  pub sealed : HasSealed cycles r.conductor e.sealed.seat r.tables.items e.sealed.tables.items

-- what the run answers: that the threads have ended and done their parts, or a fault that may be reported
abbrev pub RunAnswers : ℕ → ReadyRun → Result EndedRun ConductFault → Type 0
RunAnswers cycles r answer = IfOk answer (IsEnded cycles r) × IfErr answer (MayBeReported cycles r)
