-- Threads that have ended: what each promised is what the run has in the end.
use Rattle.std.proofs.Common.{ℕ, ◌≡◌, [], List, All, IfErr, IfOk, Ok, Result, Some, map, subst, sym}
use Rattle.std.specs.List.{AllZip}
use Rattle.cqf_worker_loops.specs.declared.sealing.Sealed.{Sealed}
use Rattle.cqf_worker_loops.specs.declared.sealing.SealingFault.{SealingFault}
use Rattle.cqf_worker_loops.specs.declared.calling.Unmade.{Unmade}
use Rattle.cqf_worker_loops.specs.declared.worker.GaveUp.{GaveUp}
use Rattle.cqf_worker.specs.declared.faults.ConductFault.{ConductFault}
use Rattle.cqf_worker.specs.declared.faults.Faults.{Faults}
use Rattle.cqf_worker.specs.declared.threads.Administrator.{Administrator}
use Rattle.cqf_worker.specs.declared.threads.EndedRun.{EndedRun}
use Rattle.cqf_worker.specs.declared.threads.ReadyRun.{ReadyRun}
use Rattle.cqf_worker_loops.specs.declared.worker.Worker.{Worker}
use Rattle.cqf_desk.specs.Desk.{Sitting}
use Rattle.cqf_worker_loops.specs.Handing.{HasSealed}
use Rattle.cqf_worker.specs.Faults.{IsClean, is_noted}
use Rattle.cqf_worker.specs.Noting.{NotesAll, fault_of_caller, fault_of_worker, noted_with}
use Rattle.cqf_worker.specs.Running.{AnswersWorker, BreaksOff, CallAnswers, CallsOf, IsEnded}
use Rattle.cqf_worker.specs.Reporting.{MayBeReported}
use Rattle.cqf_worker.proofs.Notings.{AreReported, all_reported, callers_reported, is_reported, reported_clean, reported_with, workers_reported}
use Rattle.cqf_worker_loops.specs.Workers.{Works}
use Rattle.cqf_worker.proofs.Zipped.{zipped_same, zipped_values}

-- what a conductor has sealed, if it has an answer
pub sealed_so : (cycles : ℕ) (r : ReadyRun) (sealed : Result Sealed SealingFault) (s : Sealed) → sealed ≡ Ok s
    → IfOk sealed (λ done. HasSealed cycles r.conductor done.seat r.tables.items done.tables.items)
    → HasSealed cycles r.conductor s.seat r.tables.items s.tables.items
sealed_so cycles r sealed s is all =
    subst (λ answer. IfOk answer (λ (done : Sealed). HasSealed cycles r.conductor done.seat r.tables.items done.tables.items)) is all

-- each worker has done its part, and each administrator has made its commands
pub all_joined : {H K : Type 0} (cycles_in : H → ℕ) (worker_in : H → Worker) (administrator_in : K → Administrator) (working : List H) (calling : List K)
    (workers : List Worker) (seats : List Sitting) (cycles : ℕ) (r : ReadyRun) (e : EndedRun) → e.workers.items ≡ workers → e.seats.items ≡ seats
    → map worker_in working ≡ r.workers.items → All (λ h. cycles_in h ≡ cycles) working → map administrator_in calling ≡ r.administrators.items
    → AllZip (λ h done. Works (cycles_in h) (worker_in h) done) working workers → AllZip (λ h done. CallsOf (administrator_in h) done) calling seats
    → HasSealed cycles r.conductor e.sealed.seat r.tables.items e.sealed.tables.items → IsEnded cycles r e
all_joined cycles_in worker_in administrator_in working calling workers seats cycles r e at_workers at_seats begun same seated worked called sealed = record {
  worked = subst (AllZip (Works cycles) r.workers.items) (sym at_workers)
      (zipped_values worker_in (Works cycles) working r.workers.items workers begun
      (zipped_same cycles_in (λ c h done. Works c (worker_in h) done) cycles working workers same worked));
  called = subst (AllZip CallsOf r.administrators.items) (sym at_seats)
      (zipped_values administrator_in CallsOf calling r.administrators.items seats seated called);
  sealed = sealed;
}

-- what is noted of all threads may be reported for the run
pub joined_reported : {H K : Type 0} (cycles_in : H → ℕ) (worker_in : H → Worker) (administrator_in : K → Administrator) (working : List H) (calling : List K)
    (cycles : ℕ) (r : ReadyRun) (clean called worked : Faults) (seats : List Sitting) (workers : List Worker) → IsClean clean
    → map worker_in working ≡ r.workers.items → All (λ h. cycles_in h ≡ cycles) working → map administrator_in calling ≡ r.administrators.items
    → ((answers : List (Result Sitting Unmade)) × AllZip (λ h answer. CallAnswers (administrator_in h) answer) calling answers
    × NotesAll fault_of_caller clean called [] seats answers)
    → ((answers : List (Result Worker GaveUp)) × AllZip (λ h answer. AnswersWorker (cycles_in h) (worker_in h) answer) working answers
    × NotesAll fault_of_worker called worked [] workers answers) → AreReported cycles r worked
joined_reported cycles_in worker_in administrator_in working calling cycles r clean called worked seats workers is_clean begun same seated calls works =
    let after_calls : AreReported cycles r called = all_reported cycles r fault_of_caller CallAnswers r.administrators.items calls.0 clean called [] seats
    (callers_reported cycles r) (zipped_values administrator_in CallAnswers calling r.administrators.items calls.0 seated calls.1) calls.2
    (reported_clean cycles r clean is_clean) in
    all_reported cycles r fault_of_worker (AnswersWorker cycles) r.workers.items works.0 called worked [] workers (workers_reported cycles r)
    (zipped_values worker_in (AnswersWorker cycles) working r.workers.items works.0 begun
    (zipped_same cycles_in (λ c h answer. AnswersWorker c (worker_in h) answer) cycles working works.0 same works.1)) works.2 after_calls

-- and so may what is reported of them and the conductor
pub run_reported : (cycles : ℕ) (r : ReadyRun) (faults : Faults) (sealed : Result Sealed SealingFault) (fault : ConductFault) → AreReported cycles r faults
    → IfErr sealed (BreaksOff cycles r.conductor r.tables.items) → is_noted (noted_with faults sealed) ≡ Some fault → MayBeReported cycles r fault
run_reported cycles r faults sealed fault reported why is = is_reported cycles r (noted_with faults sealed) fault (reported_with cycles r faults sealed reported why) is
