-- From the result of each step of a run to the result of the run.
use Rattle.std.proofs.Common.{◌≡◌, ◌≢◌, ◌⊎◌, ◌≤◌, ◌<◌, ℕ, List, [], ◌∷◌, Bool, true, false, Option, Some}
use Rattle.std.proofs.Common.{None, length, arith, codes, if◌then◌else◌, inl, inr, sym, subst, subst₂, refl, ap, ◌∙◌, ◌==◌, map, Bor}
use Rattle.std.specs.Str.{IsUtf8}
use Rattle.std.specs.declared.io.ErrorKind.{ErrorKind}
use Rattle.std.specs.Io.KnownBytes.{IsAtEnd}
use Rattle.std.proofs.Math.Logic.{∥∥₁_elim}
use Rattle.cqf_model.specs.declared.limits.Limits.{Limits}
use Rattle.cqf_output.specs.Stops.{EndsWith, line_of}
use Rattle.clap.specs.Words.{Row, Text, first_of, subcommand_of}
use Rattle.cqf_program_words.specs.Shown.{EndsShown, ShowsLine, ShowsWords, is_shown_whole, no_command}
use Rattle.cqf_program_words.specs.Words.{EndsWords, IsJob, IsJobOf, IsNumberIn, Mean, app_for, limits_of}
use Rattle.cqf_program_engine.specs.Edge.{IsHeard, Marks, Reading}
use Rattle.cqf_output.specs.Edge.{Writing}
use Rattle.cqf_output.specs.Kinds.{NoKind, SomeKind}
use Rattle.cqf_program_engine.specs.Run.{first_line, input_of, version_line, words_of, AskForVersion, Ends}
use Rattle.cqf_program_engine.specs.Run.{EndsByStatus, EndsDone, EndsFaulty, EndsInput, EndsRead, HandsOver, HasCause, HasFault}
use Rattle.cqf_program_engine.specs.Run.{HasRun, HasWords, most_line, IsAfterWords, IsDone, IsEnd, IsFailure, IsOutput, IsResult, is_diff}
use Rattle.cqf_program_engine.specs.Run.{IsFailedRun, IsMisuse, IsRefusedRun, WritesPlainly}
use Rattle.cqf_program_engine.specs.Run.{IsRefusal, IsStopped, StopsWithAnswer, IsWrittenOutput, IsTooLong, IsWithin, most_bytes}
use Rattle.cqf_program_engine.specs.Run.{FaultIsOfThreads, FaultIsOfThreadsOrOutput, WritesStop, WritesFaultAlone}
use Rattle.cqf_program_engine.specs.Run.{IsRunOf, IsThreadedRun, LeavesThreads, OnlyThreadsAreLeft, is_threaded}
use Rattle.cqf_program_engine.specs.Prepared.{Begins, HasResult, HasText, is_of_diff, status_after}
use Rattle.cqf_program_engine.specs.declared.prepared.PreparedOutput.{PreparedOutput}
use Rattle.cqf_program_engine.specs.declared.begun.Begun.{Begun}
use Rattle.cqf_program_engine.specs.declared.begun.Begun.TheVariants.{Ready, Threads}
use Rattle.cqf_program_engine.specs.declared.begun.ThreadedRun.{ThreadedRun}
use Rattle.cqf_program_threads.specs.ThreadsOutput.{EndsThreads, IsThreadsOutput}
use Rattle.cqf_output.proofs.EdgeLemmas.{Appends-whole}
use Rattle.cqf_output.specs.declared.stops.Stop.{Stop}
use Rattle.cqf_program_engine.specs.declared.heard.ReadFailure.{ReadFailure}
use Rattle.cqf_program_engine.specs.declared.heard.ReadFailure.TheVariants.{Memory, Fault}
use Rattle.cqf_program_words.specs.declared.words.Format.TheVariants as form
use Rattle.cqf_program_words.specs.declared.words.Job.{Job}
use Rattle.cqf_program_words.specs.declared.words.Job.TheVariants.{Check, Compile, Deliveries, Diff, Hops, Latency, Line, Load, Offers, Plan, Port, Report, Run, Summary}

-- given words that mean no job stop the run before anything is read
pub IsStopped-by_words : (words : List (List ℕ)) (input : Reading) (stop : Stop) → words ≢ [] → input.failed ≡ false → EndsWords words stop
    → ¬ AskForVersion words → ShowsWords words stop → WritesPlainly words stop → IsStopped words input stop
IsStopped-by_words [] input stop some sound e no_version shows reports = absurd (some refl)
IsStopped-by_words (word ∷ words) input stop some sound e no_version shows reports = elim e.statuses [
  | inl zero_is ↦ inl (zero_is, record { answered = inl (e.help zero_is); at_end = λ none. absurd (some none); sound = sound })
  | inr (inl two) ↦
      let misused : IsMisuse (word ∷ words) input.bytes stop = record {
        status = two;
        short = λ none. absurd (some none);
        cause = inr (inr ((λ none. absurd (some none)), e.mistake two, e.no_job (λ three. omega arith), no_version, (shows, reports)));
      } in
      inr (inr (inl (two, record { misused = misused; at_end = λ none. absurd (some none); sound = sound })))
  | inr (inr three) ↦ inr (inr (inr (inl (three, e.memory three))))
]

-- the version, if requested, stops the run before anything is read
pub IsStopped-by_version : (words : List (List ℕ)) (input : Reading) (stop : Stop) → words ≢ [] → input.failed ≡ false → AskForVersion words
    → EndsWith 0 version_line stop → IsStopped words input stop
IsStopped-by_version words input stop some sound asks e = elim e.statuses [
  | inl zero_is ↦
      inl (zero_is, record { answered = inr (asks, e.line_is zero_is); at_end = λ none. absurd (some none); sound = sound })
  | inr three ↦ inr (inr (inr (inl (three, e.memory three))))
]

-- no words request nothing
no_words_ask : ¬ AskForVersion []
no_words_ask (inl same) = (cc)
no_words_ask (inr same) = (cc)

-- words of the first line that mean no job stop it too
pub HasCause-by_line : (bytes : List ℕ) (stop : Stop) → length bytes ≤ most_bytes [] → HasWords bytes → EndsWords (words_of [] bytes) stop
    → ShowsLine (first_line bytes) stop → (is_shown_whole (first_line bytes) ≡ true → WritesPlainly (words_of [] bytes) stop) → HasCause [] bytes stop
HasCause-by_line bytes stop short text e shows reports = elim e.statuses [
  | inl zero_is ↦ inl (zero_is, inl (e.help zero_is))
  | inr (inl two) ↦
      inr (inr (inl (record { status = two; short = λ none. short; cause = inr (inr ((λ none. text), e.mistake two, e.no_job (λ three. omega arith), no_words_ask, (shows, reports))) })))
  | inr (inr three) ↦ inr (inr (inr (inl (three, e.memory three))))
]

-- the report about a line's words, for the same line and words under other names
pub WritesPlainly-of : {line first : List ℕ} {words taken : List (List ℕ)} (stop : Stop) → line ≡ first → words ≡ taken →
    (is_shown_whole line ≡ true → WritesPlainly words stop) → is_shown_whole first ≡ true → WritesPlainly taken stop
WritesPlainly-of {line} {first} {words} {taken} stop same_line same_words reports =
    subst (λ (text : List ℕ). is_shown_whole text ≡ true → WritesPlainly taken stop) same_line
    (subst (λ (those : List (List ℕ)). is_shown_whole line ≡ true → WritesPlainly those stop) same_words reports)

-- a first line that isn't text stops it
pub HasCause-by_bytes : (bytes : List ℕ) (stop : Stop) → length bytes ≤ most_bytes [] → ¬ IsUtf8 (first_line bytes)
    → EndsWith 2 (line_of (codes "cqf: words")) stop → HasCause [] bytes stop
HasCause-by_bytes bytes stop short no_text e = elim e.statuses [
  | inl two ↦ inr (inr (inl (record { status = two; short = λ none. short; cause = inl (refl, no_text, e.line_is two) })))
  | inr three ↦ inr (inr (inr (inl (three, e.memory three))))
]

-- one that is too long to have words stops it
pub HasCause-by_length : (bytes : List ℕ) (stop : Stop) → length bytes ≤ most_bytes [] → most_line < length (first_line bytes) → EndsShown no_command stop
    → HasCause [] bytes stop
HasCause-by_length bytes stop short long e = elim e.statuses [
  | inl two ↦ inr (inr (inl (record { status = two; short = λ none. short; cause = inr (inl (refl, long, e.shows two)) })))
  | inr three ↦ inr (inr (inr (inl (three, e.memory three))))
]

-- lack of memory stops it
pub HasCause-by_memory : (words : List (List ℕ)) (bytes : List ℕ) (stop : Stop) → stop.status ≡ 3 → stop.text.items ≡ [] → HasCause words bytes stop
HasCause-by_memory words bytes stop three none = inr (inr (inr (inl (three, none))))

-- a read that failed ends the input
pub EndsInput-broken : (most : ℕ) (input : Reading) (before : Bool) (cause : ReadFailure) (stop : Stop) → Marks before input.failed cause → EndsRead cause stop
    → EndsInput most input stop
EndsInput-broken most input before Memory stop marks ended = inr (inr ended)
EndsInput-broken most input before Fault stop marks ended = elim ended.statuses [
  | inl four ↦ inr (inl (four, record { failed = marks; line = ended.line_is four }))
  | inr three ↦ inr (inr (three, ended.memory three))
]

-- more than `most` bytes end it
pub EndsInput-long : (most : ℕ) (input : Reading) (stop : Stop) → IsTooLong most input.bytes → input.failed ≡ false →
    EndsWith 1 (line_of (codes "cqf: input too long")) stop
    → EndsInput most input stop
EndsInput-long most input stop long sound ended = elim ended.statuses [
  | inl one ↦ inl (one, record { long = long; sound = sound; line = ended.line_is one })
  | inr three ↦ inr (inr (three, ended.memory three))
]

-- a read that ends before the input does stops it
pub IsStopped-by_input : (words : List (List ℕ)) (input : Reading) (stop : Stop) → EndsInput (most_bytes words) input stop → (words ≢ [] → (job : Job) × Mean words job)
    → IsStopped words input stop
IsStopped-by_input words input stop (inl e) means =
    let refused : IsRefusedRun words input.bytes stop = record { status = e.0; length_first = inl (e.1.long, e.1.line, means) } in
    inr (inl (e.0, record { refused = refused; whole = inl e.1.long; sound = e.1.sound }))
IsStopped-by_input words input stop (inr (inl e)) means = inr (inr (inr (inr (e.0, inl (e.1.failed, e.1.line)))))
IsStopped-by_input words input stop (inr (inr e)) means = inr (inr (inr (inl e)))

-- if all is read, a cause stops it
pub IsStopped-by_cause : (words : List (List ℕ)) (input : Reading) (stop : Stop) → input.failed ≡ false → IsAtEnd input.after
    → HasCause words input.bytes stop → IsStopped words input stop
IsStopped-by_cause words input stop sound at_end (inl e) = inl (e.0, record { answered = e.1; at_end = λ _. at_end; sound = sound })
IsStopped-by_cause words input stop sound at_end (inr (inl refused)) =
    inr (inl (refused.status, record { refused = refused; whole = inr at_end; sound = sound }))
IsStopped-by_cause words input stop sound at_end (inr (inr (inl misused))) =
    inr (inr (inl (misused.status, record { misused = misused; at_end = λ _. at_end; sound = sound })))
IsStopped-by_cause words input stop sound at_end (inr (inr (inr (inl e)))) = inr (inr (inr (inl e)))
IsStopped-by_cause words input stop sound at_end (inr (inr (inr (inr e)))) = inr (inr (inr (inr (e.0, inr (sound, at_end, e.1)))))

-- a refused input has status 1 or 3; with status 3 it has no text
refusal_end : (limits : Limits) (job : Job) (input : List ℕ) (stop : Stop) → IsRefusal limits job input stop
    → ((stop.status ≡ 1) ⊎ (stop.status ≡ 3)) × (stop.status ≡ 3 → stop.text.items ≡ [])
refusal_end limits (Port until rate) input stop h = (h.statuses, h.memory)
refusal_end limits (Line cycles) input stop h = (h.statuses, h.memory)
refusal_end limits (Compile form.List edge_gates) input stop h = (h.statuses, h.memory)
refusal_end limits (Compile (form.Tc is_software) edge_gates) input stop h = (h.statuses, h.memory)
refusal_end limits (Compile (form.Env bridge) edge_gates) input stop h = (h.statuses, h.memory)
refusal_end limits (Compile form.Json edge_gates) input stop h = (h.statuses, h.memory)
refusal_end limits (Load false) input stop h = (h.statuses, h.memory)
refusal_end limits (Load true) input stop h = (h.statuses, h.memory)
refusal_end limits (Latency strict) input stop h = (h.statuses, h.memory)
refusal_end limits (Run cycles threads) input stop h = (h.statuses, h.memory)
refusal_end limits (Report cycles) input stop h = (h.statuses, h.memory)
refusal_end limits (Deliveries cycles) input stop h = (h.statuses, h.memory)
refusal_end limits (Check cycles) input stop h = (h.statuses, h.memory)
refusal_end limits (Summary cycles) input stop h = (h.statuses, h.memory)
refusal_end limits (Offers cycles seed) input stop h = (h.statuses, h.memory)
refusal_end limits (Hops cycles stream frame) input stop h = (h.statuses, h.memory)
refusal_end limits (Plan options) input stop h = (h.statuses, h.memory)
refusal_end limits (Diff quiet) input stop h = (h.statuses, h.memory)

-- a job that fails has status 4
failure_status : (limits : Limits) (job : Job) (input : List ℕ) (stop : Stop) → IsFailure limits job input stop → stop.status ≡ 4
failure_status limits (Port until rate) input stop h = absurd h
failure_status limits (Line cycles) input stop h = absurd h
failure_status limits (Compile format edge_gates) input stop h = absurd h
failure_status limits (Load streams) input stop h = absurd h
failure_status limits (Latency strict) input stop h = absurd h
failure_status limits (Run cycles true) input stop h = h.0
failure_status limits (Run cycles false) input stop h = absurd h
failure_status limits (Report cycles) input stop h = absurd h
failure_status limits (Deliveries cycles) input stop h = absurd h
failure_status limits (Check cycles) input stop h = absurd h
failure_status limits (Summary cycles) input stop h = absurd h
failure_status limits (Offers cycles seed) input stop h = absurd h
failure_status limits (Hops cycles stream frame) input stop h = absurd h
failure_status limits (Plan options) input stop h = absurd h
failure_status limits (Diff quiet) input stop h = absurd h

-- an input that is refused stops it
HasCause-by_refusal : (words : List (List ℕ)) (bytes : List ℕ) (job : Job) (stop : Stop) → length bytes ≤ most_bytes words
    → (words ≡ [] → HasWords bytes) → Mean (words_of words bytes) job → IsRefusal (limits_of (words_of words bytes)) job (input_of words bytes) stop
    → HasCause words bytes stop
HasCause-by_refusal words bytes job stop short text means h =
    let ended = refusal_end (limits_of (words_of words bytes)) job (input_of words bytes) stop h in
    elim ended.0 [
      | inl one ↦ inr (inl (record { status = one; length_first = inr (short, text, (job, means, h)) }))
      | inr three ↦ HasCause-by_memory words bytes stop three (ended.1 three)
    ]

-- a job that fails stops it
HasCause-by_failure : (words : List (List ℕ)) (bytes : List ℕ) (job : Job) (stop : Stop) → length bytes ≤ most_bytes words
    → (words ≡ [] → HasWords bytes) → Mean (words_of words bytes) job → IsFailure (limits_of (words_of words bytes)) job (input_of words bytes) stop
    → HasCause words bytes stop
HasCause-by_failure words bytes job stop short text means h =
    let failed : IsFailedRun words bytes stop = record { short = short; text = text; job = job; means = means; fails = h } in
    inr (inr (inr (inr (failure_status (limits_of (words_of words bytes)) job (input_of words bytes) stop h, failed))))

-- a job that ends without its output stops it
pub HasCause-by_end : (words : List (List ℕ)) (bytes : List ℕ) (job : Job) (stop : Stop) → length bytes ≤ most_bytes words
    → (words ≡ [] → HasWords bytes) → Mean (words_of words bytes) job → IsEnd (limits_of (words_of words bytes)) job (input_of words bytes) stop
    → HasCause words bytes stop
HasCause-by_end words bytes job stop short text means (inl h) = HasCause-by_refusal words bytes job stop short text means h
HasCause-by_end words bytes job stop short text means (inr h) = HasCause-by_failure words bytes job stop short text means h

-- a run of the first line's words is done, given these words, their limits and the rest of the input under other names
pub IsDone-by_line : (bytes rest output : List ℕ) (status : ℕ) (words : List (List ℕ)) (limits : Limits) (job : Job) → length bytes ≤ most_bytes [] → HasWords bytes
    → words ≡ words_of [] bytes → limits ≡ limits_of (words_of [] bytes) → rest ≡ input_of [] bytes → Mean words job → IsResult limits job rest output status
    → IsDone [] bytes output status
IsDone-by_line bytes rest output status words limits job short text same within following means h = record {
  short = short;
  text = λ _. text;
  job = job;
  means = subst (λ (those : List (List ℕ)). Mean those job) same means;
  result = subst₂ (λ (set : Limits) (input : List ℕ). IsResult set job input output status) within following h;
}

-- and one that ends without its output is stopped
pub HasCause-by_line_end : (bytes rest : List ℕ) (words : List (List ℕ)) (limits : Limits) (job : Job) (stop : Stop) → length bytes ≤ most_bytes []
    → HasWords bytes → words ≡ words_of [] bytes → limits ≡ limits_of (words_of [] bytes) → rest ≡ input_of [] bytes → Mean words job
    → IsEnd limits job rest stop → HasCause [] bytes stop
HasCause-by_line_end bytes rest words limits job stop short text same within following means h =
    HasCause-by_end [] bytes job stop short (λ _. text) (subst (λ (those : List (List ℕ)). Mean those job) same means)
    (subst₂ (λ (set : Limits) (input : List ℕ). IsEnd set job input stop) within following h)

-- if words are given, they are the run's
means_given : (words : List (List ℕ)) (bytes : List ℕ) (job : Job) → words ≢ [] → Mean words job → Mean (words_of words bytes) job
means_given [] bytes job some means = absurd (some refl)
means_given (word ∷ words) bytes job some means = means

words_given : (words : List (List ℕ)) (bytes : List ℕ) → words ≢ [] → words ≡ words_of words bytes
words_given [] bytes some = absurd (some refl)
words_given (word ∷ words) bytes some = refl

-- and all bytes are the input
input_given : (words : List (List ℕ)) (bytes : List ℕ) → words ≢ [] → bytes ≡ input_of words bytes
input_given [] bytes some = absurd (some refl)
input_given (word ∷ words) bytes some = refl

-- a job that ends without its output stops a run of words that are given
pub IsStopped-by_given : (words : List (List ℕ)) (input : Reading) (job : Job) (stop : Stop) → words ≢ [] → input.failed ≡ false → IsAtEnd input.after
    → length input.bytes ≤ most_bytes words → Mean words job → IsEnd (limits_of words) job input.bytes stop → IsStopped words input stop
IsStopped-by_given words input job stop some sound at_end short means h =
    IsStopped-by_cause words input stop sound at_end
    (HasCause-by_end words input.bytes job stop short (λ none. absurd (some none)) (means_given words input.bytes job some means)
    (subst₂ (λ (those : List (List ℕ)) (bytes : List ℕ). IsEnd (limits_of those) job bytes stop) (words_given words input.bytes some)
    (input_given words input.bytes some) h))

-- a run of words that are given is done
pub HasRun-given : (words : List (List ℕ)) (input : Reading) (output : List ℕ) (status : ℕ) (job : Job) → words ≢ [] → input.failed ≡ false → IsAtEnd input.after
    → length input.bytes ≤ most_bytes words → Mean words job → IsResult (limits_of words) job input.bytes output status → HasRun words input output status
HasRun-given words input output status job some sound at_end short means h = record {
  is_done = record {
    short = short;
    text = λ none. absurd (some none);
    job = job;
    means = means_given words input.bytes job some means;
    result = subst₂ (λ (those : List (List ℕ)) (bytes : List ℕ). IsResult (limits_of those) job bytes output status)
        (words_given words input.bytes some) (input_given words input.bytes some) h;
  };
  at_end = at_end;
  sound = sound;
}

-- the case of a run that is stopped with status 0
answer_of : (words : List (List ℕ)) (input : Reading) (stop : Stop) → IsStopped words input stop → stop.status ≡ 0 → StopsWithAnswer words input stop
answer_of words input stop (inl e) none = e.1
answer_of words input stop (inr (inl e)) none = absurd (omega (arith, e.0, none))
answer_of words input stop (inr (inr (inl e))) none = absurd (omega (arith, e.0, none))
answer_of words input stop (inr (inr (inr (inl e)))) none = absurd (omega (arith, e.0, none))
answer_of words input stop (inr (inr (inr (inr e)))) none = absurd (omega (arith, e.0, none))

-- the status after an output is 0 or 1
status_by_length : (none : Bool) (status : ℕ) → status ≡ (if none then 0 else 1) → (status ≡ 0) ⊎ (status ≡ 1)
status_by_length true status is = inl is
status_by_length false status is = inr is

statuses_after : (of_diff : Bool) (text : List ℕ) → (status_after of_diff text ≡ 0) ⊎ (status_after of_diff text ≡ 1)
statuses_after false text = inl refl
statuses_after true text = status_by_length (length text == 0) (status_after true text) refl

-- the output of a job has the job's status
pub HasResult-of : (limits : Limits) (job : Job) (input : List ℕ) (output : PreparedOutput) → is_of_diff output ≡ is_diff job
    → HasText (IsOutput limits job input) output → HasResult (IsResult limits job input) output
HasResult-of limits job input output same reported =
    (reported.0, reported.1, record { is_output = reported.2; is_status = ap (λ (of_diff : Bool). status_after of_diff reported.0) same })

-- a run over a reader and an output that fail and refuse only for such kinds of error
module _ (fails refuses : ErrorKind → Type 0) (words : List (List ℕ)) (input : Reading) (output faults : Writing)
    (may_fail : input.failed ≡ true → SomeKind fails) (may_refuse : output.refused ≡ true → SomeKind refuses) where
  -- a run that writes all of its output is done
  EndsDone-reported : (wanted : ℕ) (text : List ℕ) (status : ℕ) → IsWrittenOutput words input text wanted → input.failed ≡ false
      → HandsOver wanted text output faults status → status ≡ wanted → EndsDone words input output faults wanted
  EndsDone-reported wanted text status is_output sound h same = record {
    text = text;
    is_output = is_output;
    written = Appends-whole output text h.reported (h.done same).0;
    clean = (h.done same).1;
    sound = sound;
    accepted = (h.done same).0;
  }

  -- so its status is one of two
  by_done : (wanted status : ℕ) → (wanted ≡ 0) ⊎ (wanted ≡ 1) → status ≡ wanted → EndsDone words input output faults wanted
      → EndsByStatus fails refuses words input output faults status
  by_done wanted status (inl zero_is) same done =
      inl (same ∙ zero_is, subst (λ (given : ℕ). EndsDone words input output faults given) zero_is done)
  by_done wanted status (inr one) same done =
      inr (inl (same ∙ one, inl (subst (λ (given : ℕ). EndsDone words input output faults given) one done)))

  -- a run that writes its output ends with that, or with the output's fault
  Ends-reported : (wanted : ℕ) (text : List ℕ) (status : ℕ) → (wanted ≡ 0) ⊎ (wanted ≡ 1) → IsHeard (most_bytes words) input → IsAfterWords words input
      → IsWrittenOutput words input text wanted → input.failed ≡ false → HandsOver wanted text output faults status
      → Ends fails refuses words input output faults status
  Ends-reported wanted text status few heard after_words is_output sound h = record {
    heard = heard;
    after_words = after_words;
    by_status = elim h.statuses [
      | inl same ↦ by_done wanted status few same (EndsDone-reported wanted text status is_output sound h same)
      | inr four ↦ inr (inr (inr (inr (
        four,
        inr (inl (record {
          refused = (h.fault four).0;
          may = may_refuse (h.fault four).0;
          sound = sound;
          text = text;
          wanted = wanted;
          is_output = is_output;
          reported = h.reported;
          line = (h.fault four).1;
        })),
      ))))
    ];
  }

  -- a run that is done ends with its output
  pub Ends-ran : (of_diff : Bool) (text : List ℕ) (status : ℕ) → IsHeard (most_bytes words) input → IsAfterWords words input
      → HasRun words input text (status_after of_diff text) → HandsOver (status_after of_diff text) text output faults status
      → Ends fails refuses words input output faults status
  Ends-ran of_diff text status heard after_words ran h =
      Ends-reported (status_after of_diff text) text status (statuses_after of_diff text) heard after_words (inl (ran.is_done, ran.at_end)) ran.sound h

  -- a run that is stopped with status 4 ends with the fault of the reader, or of the run
  fault_written : (stop : Stop) → HasFault words input stop → WritesFaultAlone stop.text.items output faults
      → EndsFaulty fails refuses words input output faults
  fault_written stop (inl h) reported = inl (record {
    failed = h.0;
    may = may_fail h.0;
    reported = subst (λ text. WritesFaultAlone text output faults) h.1 reported;
  })
  fault_written stop (inr h) reported = inr (inr (record { sound = h.0; at_end = h.1; stop = stop; failed = h.2; reported = reported }))

  -- the one case of a run that is stopped by its own line
  barred_by_status : (stop : Stop) → IsStopped words input stop → stop.status ≢ 0 → stop.status ≢ 3 → WritesFaultAlone stop.text.items output faults
      → EndsByStatus fails refuses words input output faults stop.status
  barred_by_status stop (inl e) some known reported = absurd (some e.0)
  barred_by_status stop (inr (inl e)) some known reported =
      inr (inl (e.0, inr (record { stop = stop; refused = e.1.refused; reported = reported; whole = e.1.whole; sound = e.1.sound })))
  barred_by_status stop (inr (inr (inl e))) some known reported =
      inr (inr (inl (e.0, record { stop = stop; misused = e.1.misused; reported = reported; at_end = e.1.at_end; sound = e.1.sound })))
  barred_by_status stop (inr (inr (inr (inl e)))) some known reported = absurd (known e.0)
  barred_by_status stop (inr (inr (inr (inr e)))) some known reported = inr (inr (inr (inr (e.0, fault_written stop e.1 reported))))

  -- a run that is stopped ends as it was stopped
  pub Ends-stopped : (stop : Stop) (status : ℕ) → IsHeard (most_bytes words) input → IsAfterWords words input → IsStopped words input stop
      → WritesStop stop output faults status → Ends fails refuses words input output faults status
  Ends-stopped stop status heard after_words s (inl t) =
      let answer = answer_of words input stop s t.0 in
      Ends-reported 0 stop.text.items status (inl refl) heard after_words (inr (refl, answer.answered, answer.at_end)) answer.sound t.1
  Ends-stopped stop status heard after_words s (inr (inl t)) = record {
    heard = heard;
    after_words = after_words;
    by_status = inr (inr (inr (inl (t.1, t.2))));
  }
  Ends-stopped stop status heard after_words s (inr (inr t)) = record {
    heard = heard;
    after_words = after_words;
    by_status = subst (λ (given : ℕ). EndsByStatus fails refuses words input output faults given) (sym t.2) (barred_by_status stop s t.0 t.1 t.3);
  }

-- if there is no kind of error, none occurs
none_of : (may : ErrorKind → Type 0) → NoKind may → SomeKind may → ⊥
none_of may none some = ∥∥₁_elim some (λ p q. absurd p) (λ found. none found.0 found.1)

-- an end with status 4 is a fault
faulty_of : (fails refuses : ErrorKind → Type 0) (words : List (List ℕ)) (input : Reading) (output faults : Writing)
    → Ends fails refuses words input output faults 4 → EndsFaulty fails refuses words input output faults
faulty_of fails refuses words input output faults e = elim e.by_status [
  | inl zero_is ↦ absurd (omega (arith, zero_is.0))
  | inr (inl one) ↦ absurd (omega (arith, one.0))
  | inr (inr (inl two)) ↦ absurd (omega (arith, two.0))
  | inr (inr (inr (inl three))) ↦ absurd (omega (arith, three.0))
  | inr (inr (inr (inr four))) ↦ four.1
]

-- it is a fault of threads or of the output, if reads never fail
pub faults-read : (fails refuses : ErrorKind → Type 0) → NoKind fails → FaultIsOfThreadsOrOutput fails refuses
faults-read fails refuses none words input output faults e = elim (faulty_of fails refuses words input output faults e) [
  | inl read ↦ absurd (none_of fails none read.may)
  | inr (inl reported) ↦ inr reported
  | inr (inr run) ↦ inl run
]

-- and one of threads, if the output refuses nothing
pub faults-reported : (fails refuses : ErrorKind → Type 0) → NoKind fails → NoKind refuses → FaultIsOfThreads fails refuses
faults-reported fails refuses none nothing words input output faults e = elim (faults-read fails refuses none words input output faults e) [
  | inl run ↦ run
  | inr reported ↦ absurd (none_of refuses nothing reported.may)
]

-- a number that is read from a text is at most the limit
number_within : (least most number : ℕ) (text : Option Text) → IsNumberIn least most number text → number ≤ most
number_within least most number None is = absurd is
number_within least most number (Some text) is = is.3

-- the numbers of a job that words mean are within their limits
job_within : (job : Job) (name : Text) (rows : List Row) → IsJobOf job name rows → IsWithin job
job_within (Port until rate) name rows is = number_within 1 100000000 until (first_of (codes "until") rows) is.1
job_within (Line cycles) name rows is = number_within 1 100000 cycles (first_of (codes "cycles") rows) is.1
job_within (Compile format edge_gates) name rows is = tt
job_within (Load streams) name rows is = tt
job_within (Latency strict) name rows is = tt
job_within (Run cycles threads) name rows is = number_within 1 100000 cycles (first_of (codes "cycles") rows) is.1
job_within (Report cycles) name rows is = number_within 1 100000 cycles (first_of (codes "cycles") rows) is.1
job_within (Deliveries cycles) name rows is = number_within 1 100000 cycles (first_of (codes "cycles") rows) is.1
job_within (Check cycles) name rows is = number_within 1 100000 cycles (first_of (codes "cycles") rows) is.1
job_within (Summary cycles) name rows is = number_within 1 100000 cycles (first_of (codes "cycles") rows) is.1
job_within (Offers cycles seed) name rows is = number_within 1 100000 cycles (first_of (codes "cycles") rows) is.1
job_within (Hops cycles stream frame) name rows is = number_within 1 100000 cycles (first_of (codes "cycles") rows) is.1
job_within (Plan options) name rows is = tt
job_within (Diff quiet) name rows is = tt

-- the numbers of a job that options give are within their ranges
found_within : (job : Job) (found : Option (Text × List Row)) → IsJob job found → IsWithin job
found_within job None is = absurd is
found_within job (Some command) is = job_within job command.0 command.1 is

-- so are those of a job that words mean
pub IsWithin-means : (words : List Text) (job : Job) → Mean words job → IsWithin job
IsWithin-means words job means = found_within job (subcommand_of (app_for words) words) means.read

-- no words have no texts
pub no_words : (words : List (Bor (List ℕ))) → length words ≡ 0 → map (λ word. word.now) words ≡ []
no_words [] none = refl
no_words (word ∷ words) none = absurd (omega (arith, none))

-- the result of a run has a property that follows from another
pub Begins-weaker : {A B : List ℕ → ℕ → Type 0} {P Q : ThreadedRun → Type 0} (begun : Begun) → ((text : List ℕ) (status : ℕ) → A text status → B text status)
    → ((threaded : ThreadedRun) → P threaded → Q threaded) → Begins A P begun → Begins B Q begun
Begins-weaker (Ready output) outputs runs reported = (reported.0, reported.1, outputs reported.0 (status_after (is_of_diff output) reported.0) reported.2)
Begins-weaker (Threads threaded) outputs runs left = runs threaded left

-- a job that is a run on threads leaves it, if its words are given
pub LeavesThreads-given : (words : List (List ℕ)) (input : Reading) (limits : Limits) (job : Job) (threaded : ThreadedRun) → words ≢ [] → input.failed ≡ false
    → IsAtEnd input.after → length input.bytes ≤ most_bytes words → Mean words job → limits ≡ limits_of words → IsRunOf limits job threaded
    → LeavesThreads words input threaded
LeavesThreads-given words input limits job threaded some sound at_end short means within is = record {
  is_run = record {
    short = short;
    text = λ none. absurd (some none);
    means = means_given words input.bytes (Run threaded.cycles true) some (subst (λ (j : Job). Mean words j) is.is_job means);
    within = is.within ∙ within ∙ ap limits_of (words_given words input.bytes some);
  };
  at_end = at_end;
  sound = sound;
}

-- and if its words are the first line's, given these under another name
pub IsThreadedRun-by_line : (bytes : List ℕ) (words : List (List ℕ)) (limits : Limits) (job : Job) (threaded : ThreadedRun) → length bytes ≤ most_bytes []
    → HasWords bytes → words ≡ words_of [] bytes → limits ≡ limits_of (words_of [] bytes) → Mean words job → IsRunOf limits job threaded
    → IsThreadedRun [] bytes threaded
IsThreadedRun-by_line bytes words limits job threaded short text same within means is = record {
  short = short;
  text = λ _. text;
  means = subst₂ (λ (those : List (List ℕ)) (j : Job). Mean those j) same is.is_job means;
  within = is.within ∙ within;
}

-- its number of cycles is within its limit
pub threads_within : (words : List (List ℕ)) (bytes : List ℕ) (threaded : ThreadedRun) → IsThreadedRun words bytes threaded → threaded.cycles ≤ 100000
threads_within words bytes threaded is = IsWithin-means (words_of words bytes) (Run threaded.cycles true) is.means

-- if a run on threads is left, its output is that of the run
pub HasRun-threads : (words : List (List ℕ)) (input : Reading) (threaded : ThreadedRun) (output : List ℕ) → LeavesThreads words input threaded
    → IsThreadsOutput threaded.limits threaded.cycles (input_of words input.bytes) output → HasRun words input output 0
HasRun-threads words input threaded output left h = record {
  is_done = record {
    short = left.is_run.short;
    text = left.is_run.text;
    job = Run threaded.cycles true;
    means = left.is_run.means;
    result = record {
      is_output = subst (λ (limits : Limits). IsThreadsOutput limits threaded.cycles (input_of words input.bytes) output) left.is_run.within h;
      is_status = refl;
    };
  };
  at_end = left.at_end;
  sound = left.sound;
}

-- the end of a run on threads is that of its job
IsEnd-threads : (limits : Limits) (cycles : ℕ) (input : List ℕ) (stop : Stop) → EndsThreads limits cycles input stop → IsEnd limits (Run cycles true) input stop
IsEnd-threads limits cycles input stop e = elim e.statuses [
  | inl one ↦ inl (record { statuses = inl one; line = e.refused; memory = e.memory })
  | inr other ↦ elim other [
    | inl three ↦ inl (record { statuses = inr three; line = e.refused; memory = e.memory })
    | inr four ↦ inr (four, e.fault four)
  ]
]

-- and its end without an output stops the run
pub IsStopped-threads : (words : List (List ℕ)) (input : Reading) (threaded : ThreadedRun) (stop : Stop) → LeavesThreads words input threaded
    → EndsThreads threaded.limits threaded.cycles (input_of words input.bytes) stop → IsStopped words input stop
IsStopped-threads words input threaded stop left e =
    IsStopped-by_cause words input stop left.sound left.at_end
    (HasCause-by_end words input.bytes (Run threaded.cycles true) stop left.is_run.short left.is_run.text left.is_run.means
    (subst (λ (limits : Limits). IsEnd limits (Run threaded.cycles true) (input_of words input.bytes) stop) left.is_run.within
    (IsEnd-threads threaded.limits threaded.cycles (input_of words input.bytes) stop e)))

-- two texts of different lengths aren't one name
not_both : (name first second : Text) → name ≡ first → name ≡ second → length first ≢ length second → ⊥
not_both name first second is_first is_second differ = absurd (differ (ap length (sym is_first ∙ is_second)))

-- the command of another job isn't a run on threads
no_threads : (job : Job) (name : Text) (rows : List Row) (cycles : ℕ) → IsJobOf job name rows → is_threaded job ≡ false → IsJobOf (Run cycles true) name rows → ⊥
no_threads (Port until rate) name rows cycles is other h = not_both name (codes "port") (codes "run") is.0 h.0 (λ e. omega (arith, e))
no_threads (Line own) name rows cycles is other h = not_both name (codes "line") (codes "run") is.0 h.0 (λ e. omega (arith, e))
no_threads (Compile format edge_gates) name rows cycles is other h = not_both name (codes "compile") (codes "run") is.0 h.0 (λ e. omega (arith, e))
no_threads (Load streams) name rows cycles is other h = not_both name (codes "load") (codes "run") is.0 h.0 (λ e. omega (arith, e))
no_threads (Latency strict) name rows cycles is other h = not_both name (codes "latency") (codes "run") is.0 h.0 (λ e. omega (arith, e))
no_threads (Run own true) name rows cycles is other h = (cc)
no_threads (Run own false) name rows cycles is other h = is.2 h.2
no_threads (Report own) name rows cycles is other h = not_both name (codes "report") (codes "run") is.0 h.0 (λ e. omega (arith, e))
no_threads (Deliveries own) name rows cycles is other h = not_both name (codes "deliveries") (codes "run") is.0 h.0 (λ e. omega (arith, e))
no_threads (Check own) name rows cycles is other h = not_both name (codes "check") (codes "run") is.0 h.0 (λ e. omega (arith, e))
no_threads (Summary own) name rows cycles is other h = not_both name (codes "summary") (codes "run") is.0 h.0 (λ e. omega (arith, e))
no_threads (Offers own seed) name rows cycles is other h = not_both name (codes "offers") (codes "run") is.0 h.0 (λ e. omega (arith, e))
no_threads (Hops own stream frame) name rows cycles is other h = not_both name (codes "hops") (codes "run") is.0 h.0 (λ e. omega (arith, e))
no_threads (Plan options) name rows cycles is other h = not_both name (codes "plan") (codes "run") is.0 h.0 (λ e. omega (arith, e))
no_threads (Diff quiet) name rows cycles is other h = not_both name (codes "diff") (codes "run") is.0 h.0 (λ e. omega (arith, e))

-- what is read from words isn't both
no_threads_found : (job : Job) (found : Option (Text × List Row)) (cycles : ℕ) → IsJob job found → is_threaded job ≡ false → IsJob (Run cycles true) found → ⊥
no_threads_found job None cycles is other h = absurd is
no_threads_found job (Some command) cycles is other h = no_threads job command.0 command.1 cycles is other h

-- words that mean another job leave no run on threads
pub only_threads_are_left : OnlyThreadsAreLeft
only_threads_are_left words input job threaded means other left =
    no_threads_found job (subcommand_of (app_for (words_of words input.bytes)) (words_of words input.bytes)) threaded.cycles
    means.read other left.is_run.means.read
