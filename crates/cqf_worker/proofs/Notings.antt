-- What is noted of the threads of a run, as they end one after the other.
use Rattle.std.proofs.Common.{ℕ, ◌≡◌, ◌<◌, ◌++◌, List, [], ◌∷◌, All, Bool, Err, IfErr, IfOk, None, Ok, Option}
use Rattle.std.proofs.Common.{Result, Some, arith, cond, false, length, refl, subst, sym, true, inl, inr, ◌∙◌}
use Rattle.std.specs.List.{AllZip}
use Rattle.std.specs.Prelude.{Contains}
use Rattle.std.proofs.lemmas.Bool.{false≢true}
use Rattle.std.proofs.lemmas.List.Elements.{All-contains_itself, All-head, All-tail, All-weaker}
use Rattle.std.proofs.lemmas.Option.{same_Some}
use Rattle.cqf_worker_loops.specs.declared.calling.CallFault.{CallFault}
use Rattle.cqf_worker_loops.specs.declared.calling.CallFault.TheVariants as call
use Rattle.cqf_worker_loops.specs.declared.calling.Unmade.{Unmade}
use Rattle.cqf_worker_loops.specs.declared.sealing.Sealed.{Sealed}
use Rattle.cqf_worker_loops.specs.declared.sealing.SealingFault.{SealingFault}
use Rattle.cqf_worker_loops.specs.declared.sealing.SealingFault.TheVariants as sealing
use Rattle.cqf_worker_loops.specs.declared.sealing.Unsealed.{Unsealed}
use Rattle.cqf_worker_loops.specs.declared.worker.GaveUp.{GaveUp}
use Rattle.cqf_worker_loops.specs.declared.worker.Worker.{Worker}
use Rattle.cqf_worker_loops.specs.declared.worker.WorkerFault.{WorkerFault}
use Rattle.cqf_worker_loops.specs.declared.worker.WorkerFault.TheVariants as working
use Rattle.cqf_worker_loops.specs.GivingUp.{GivesUpFor}
use Rattle.cqf_worker_loops.specs.Handing.{HasBrokenOff, LacksOne, TableEnd}
use Rattle.cqf_worker.specs.declared.faults.ConductFault.{ConductFault}
use Rattle.cqf_worker.specs.declared.faults.ConductFault.TheVariants as conduct
use Rattle.cqf_worker.specs.declared.faults.Faults.{Faults}
use Rattle.cqf_worker.specs.declared.threads.Administrator.{Administrator}
use Rattle.cqf_worker.specs.declared.threads.ReadyRun.{ReadyRun}
use Rattle.cqf_worker.specs.Faults.{IsClean, first_noted, is_before, is_noted, reported_of}
use Rattle.cqf_worker.specs.Noting.{NotesFault, NotesAll, fault_in_call, fault_in_worker, fault_of_caller}
use Rattle.cqf_worker.specs.Noting.{fault_of_conductor, fault_of_worker, noted, noted_with}
use Rattle.cqf_worker.specs.Running.{AnswersWorker, BreaksOff, CallAnswers}
use Rattle.cqf_worker.specs.Reporting.{IsStartFault, MayBeReported}
use Rattle.cqf_worker.proofs.Zipped.{HasOneMore}

-- if something is noted, something has gone wrong
not_clean : (faults : Faults) (cause : Option ConductFault) → IsClean (noted faults cause) → ⊥
not_clean faults (Some fault) clean = some_none clean.0
  where
    -- a fault isn't None
    some_none : {X : Type 0} → {x : X} → Some x ≡ None → ⊥
    some_none is = absurd cc
not_clean faults None clean = false≢true (sym clean.1)

module _ {X Y : Type 0} (cause : Y → Option ConductFault) where
  -- if nothing has gone wrong, one more value is appended
  pub notes_clean : (P : X → Type 0) (before after : Faults) (kept more : List X) (answer : Result X Y) → NotesFault cause before after kept more answer →
      IfOk answer P → IsClean after → IsClean before × HasOneMore P kept more
  notes_clean P before after kept more (Ok given) notes is clean =
      elim notes [
        | inl one ↦ (subst IsClean one.1 clean, (given, one.0, is))
        | inr none ↦ absurd (not_clean before (Some conduct.Memory) (subst IsClean none.1 clean))
      ]
  notes_clean P before after kept more (Err why) notes is clean = absurd (not_clean before (cause why) (subst IsClean notes.1 clean))

  -- one more answer
  pub notes_more : (before now after : Faults) (first kept more : List X) (answers : List (Result X Y)) (answer : Result X Y) →
      NotesAll cause before now first kept answers → NotesFault cause now after kept more answer →
      NotesAll cause before after first more (answers ++ answer ∷ [])
  notes_more before now after first kept more [] answer all one = (
    after,
    more,
    subst (λ (f : Faults). NotesFault cause f after first more answer) all.0
        (subst (λ (xs : List X). NotesFault cause now after xs more answer) all.1 one),
    (refl, refl),
  )
  notes_more before now after first kept more (other ∷ answers) answer all one =
      (all.0, all.1, all.2, notes_more all.0 now after all.1 kept more answers answer all.3 one)

-- what is noted may be reported for the run
pub record AreReported (cycles : ℕ) (r : ReadyRun) (faults : Faults) : Type 0 where
  pub first : (fault : ConductFault) → faults.first ≡ Some fault → MayBeReported cycles r fault
  pub stopped : faults.is_stopped ≡ true → MayBeReported cycles r conduct.ChannelLost

-- the cause of a thread may be
abbrev pub MayCause : ℕ → ReadyRun → Option ConductFault → Type 0
MayCause cycles r (Some fault) = MayBeReported cycles r fault
MayCause cycles r None = MayBeReported cycles r conduct.ChannelLost

module _ (cycles : ℕ) (r : ReadyRun) where
  -- nothing is noted
  pub reported_clean : (faults : Faults) → IsClean faults → AreReported cycles r faults
  reported_clean faults clean = record {
    first = λ fault is. absurd (none_some (sym clean.0 ∙ is));
    stopped = λ is. absurd (false≢true (sym clean.1 ∙ is));
  }
    where
      -- None isn't a fault
      none_some : {fault : ConductFault} → None ≡ Some fault → ⊥
      none_some is = absurd cc

  -- either of two may be reported
  chosen : (b : Bool) (fault first : ConductFault) → MayBeReported cycles r fault → MayBeReported cycles r first → MayBeReported cycles r (cond b fault first)
  chosen true fault first may reported = may
  chosen false fault first may reported = reported

  reported_first : (was : Option ConductFault) (fault : ConductFault) → ((x : ConductFault) → was ≡ Some x → MayBeReported cycles r x) → MayBeReported cycles r fault →
      MayBeReported cycles r (first_noted was fault)
  reported_first None fault reported may = may
  reported_first (Some x) fault reported may = chosen (is_before fault x) fault x may (reported x refl)

  -- one more is noted
  pub reported_more : (faults : Faults) (cause : Option ConductFault) → AreReported cycles r faults → MayCause cycles r cause → AreReported cycles r (noted faults cause)
  reported_more faults (Some fault) reported may = record {
    first = λ other is.
        subst (MayBeReported cycles r) (same_Some (first_noted faults.first fault) other is) (reported_first faults.first fault reported.first may);
    stopped = reported.stopped;
  }
  reported_more faults None reported may = record { first = reported.first; stopped = λ is. may }

  -- what is reported is one of them
  pub is_reported : (faults : Faults) (fault : ConductFault) → AreReported cycles r faults → is_noted faults ≡ Some fault → MayBeReported cycles r fault
  is_reported faults fault reported is = by_first faults.first refl
    where
      -- whether a thread was stopped
      by_stop : (b : Bool) → (b ≡ true → MayBeReported cycles r conduct.ChannelLost) → reported_of None b ≡ Some fault → MayBeReported cycles r fault
      by_stop true may reported = subst (MayBeReported cycles r) (same_Some conduct.ChannelLost fault reported) (may refl)
      by_stop false may reported = absurd cc

      -- whether a fault is noted
      by_first : (first : Option ConductFault) → faults.first ≡ first → MayBeReported cycles r fault
      by_first (Some x) at = reported.first fault (at ∙ subst (λ (o : Option ConductFault). reported_of o faults.is_stopped ≡ Some fault) at is)
      by_first None at = by_stop faults.is_stopped reported.stopped (subst (λ (o : Option ConductFault). reported_of o faults.is_stopped ≡ Some fault) at is)

  module _ {X Y : Type 0} (cause : Y → Option ConductFault) where
    -- the effect of one answer
    notes_reported : (before after : Faults) (kept more : List X) (answer : Result X Y) → NotesFault cause before after kept more answer →
        AreReported cycles r before → ((why : Y) → answer ≡ Err why → MayCause cycles r (cause why)) → AreReported cycles r after
    notes_reported before after kept more (Ok given) notes reported may =
        elim notes [
          | inl one ↦ subst (AreReported cycles r) (sym one.1) reported
          | inr none ↦ subst (AreReported cycles r) (sym none.1) (reported_more before (Some conduct.Memory) reported tt)
        ]
    notes_reported before after kept more (Err why) notes reported may =
        subst (AreReported cycles r) (sym notes.1) (reported_more before (cause why) reported (may why refl))

    -- and that of several
    pub all_reported : {A : Type 0} (P : A → Result X Y → Type 0) (those : List A) (answers : List (Result X Y)) (before after : Faults) (kept more : List X) →
        All (λ (a : A). (why : Y) → P a (Err why) → MayCause cycles r (cause why)) those → AllZip P those answers →
        NotesAll cause before after kept more answers → AreReported cycles r before → AreReported cycles r after
    all_reported P [] [] before after kept more may zip notes reported = subst (AreReported cycles r) (sym notes.0) reported
    all_reported P [] (answer ∷ answers) before after kept more may zip notes reported = absurd zip
    all_reported P (a ∷ those) [] before after kept more may zip notes reported = absurd zip
    all_reported {A} P (a ∷ those) (answer ∷ answers) before after kept more may zip notes reported =
        all_reported P those answers notes.0 after notes.1 more (All-tail (λ (b : A). (why : Y) → P b (Err why) → MayCause cycles r (cause why)) a those may)
        zip.1 notes.3
        (notes_reported before notes.0 kept notes.1 answer notes.2 reported
        (λ why is. All-head (λ (b : A). (why : Y) → P b (Err why) → MayCause cycles r (cause why)) a those may why (subst (P a) is zip.0)))

  -- the reason for which a worker gives up may be reported
  worker_cause : (fault : WorkerFault) → GivesUpFor cycles fault → MayCause cycles r (fault_in_worker fault)
  worker_cause working.Memory gives = gives
  worker_cause working.Stopped gives = gives

  pub workers_reported : All (λ (w : Worker). (why : GaveUp) → AnswersWorker cycles w (Err why) → MayCause cycles r (fault_of_worker why)) r.workers.items
  workers_reported = λ index d within why answer. worker_cause why.fault answer.1.stopped

  -- and that of an administrator
  caller_cause : (a : Administrator) (fault : CallFault) → Contains r.administrators.items a → 0 < length a.commands.items →
      MayCause cycles r (fault_in_call fault)
  caller_cause a call.HistoryFull there some = inr (record { administrator = a; there = there; some = some })
  caller_cause a call.Memory there some = tt

  pub callers_reported : All (λ (a : Administrator). (why : Unmade) → CallAnswers a (Err why) → MayCause cycles r (fault_of_caller why)) r.administrators.items
  callers_reported =
      All-weaker (Contains r.administrators.items)
      (λ (a : Administrator). (why : Unmade) → CallAnswers a (Err why) → MayCause cycles r (fault_of_caller why))
      (λ a there why answer. caller_cause a why.fault there (omega (arith, answer.1.there))) r.administrators.items
      (All-contains_itself r.administrators.items)

  -- and that of the conductor
  conductor_cause : (left : Unsealed) (fault : SealingFault) → left.fault ≡ fault → HasBrokenOff cycles r.conductor r.tables.items left →
      MayCause cycles r (fault_of_conductor fault)
  conductor_cause left sealing.Memory is broken = tt
  conductor_cause left sealing.CyclesSpent is broken = inl (omega (arith, broken.spent is))
  conductor_cause left sealing.Lost is broken = some_lacks left.conductor.tables.items (broken.lost is).1
    where
      -- an end that lacks an item lacks one of a positive number
      some_lacks : (ends : List TableEnd) → LacksOne ends cycles → 0 < cycles
      some_lacks [] lacks = absurd (omega (arith, lacks.1))
      some_lacks (end ∷ ends) lacks = omega (arith, lacks.2 end)

  -- everything that is noted in the end, with the conductor's result
  pub reported_with : (faults : Faults) (sealed : Result Sealed SealingFault) → AreReported cycles r faults →
      IfErr sealed (BreaksOff cycles r.conductor r.tables.items) →
      AreReported cycles r (noted_with faults sealed)
  reported_with faults (Ok done) reported why = reported
  reported_with faults (Err fault) reported why = reported_more faults (fault_of_conductor fault) reported (conductor_cause why.0 fault why.1 why.2)

  -- why not all threads could be started
  pub start_reported : (fault : ConductFault) → IsStartFault fault → MayBeReported cycles r fault
  start_reported conduct.Memory is = tt
  start_reported conduct.DeskDisagrees is = absurd is
  start_reported conduct.ChannelLost is = absurd is
  start_reported conduct.Spawn is = tt
