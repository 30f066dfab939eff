-- The result of a run of the program, for its words and the bytes of its reader.
use Rattle.std.specs.Prelude.{ℕ, ◌≡◌, ◌≢◌, ◌⊎◌, ◌≤◌, ◌<◌, ◌==◌, ◌++◌, Bool, true, false, List, [], ◌∷◌, Ok, Option, String, ⊤, codes, if◌then◌else◌, length, option_map, string_bytes}
use Rattle.std.specs.Io.KnownBytes.{Appends, IsAtEnd, Keeps}
use Rattle.std.specs.List.{slice_split, before_first, after_first}
use Rattle.std.specs.Str.{IsUtf8}
use Rattle.std.specs.declared.io.ErrorKind.{ErrorKind}
use Rattle.cqf_text.specs.Lines.{is_line_feed}
use Rattle.cqf_program_engine.specs.declared.begun.ThreadedRun.{ThreadedRun}
use Rattle.cqf_program_engine.specs.declared.heard.ReadFailure.{ReadFailure}
use Rattle.cqf_program_engine.specs.declared.heard.ReadFailure.TheVariants.{Memory, Fault}
use Rattle.cqf_program_engine.specs.Prepared.{status_after}
use Rattle.cqf_program_engine.specs.Edge.{IsHeard, Reading}
use Rattle.cqf_output.specs.Edge.{IsWritten, Writing}
use Rattle.cqf_output.specs.Kinds.{SomeKind}
use Rattle.cqf_output.specs.Stops.{EndsWith, IsRefused, line_of}
use Rattle.cqf_program_scenario.specs.Scenario.{scenario_input}
use Rattle.std.specs.declared.alloc.Global.{Global}
use Rattle.cqf_model.specs.declared.limits.Limits.{Limits}
use Rattle.cqf_model.specs.Limits.{last_until, most_cycles}
use Rattle.cqf_program_diff.specs.Output.{diff_of_input}
use Rattle.cqf_program_json.specs.Output.{json_of_input}
use Rattle.cqf_program_offers.specs.OffersOutput.{offered_input}
use Rattle.cqf_program_plans.specs.Compile.Output.{compiled_input}
use Rattle.cqf_program_plans.specs.Latency.Input.{latency_of_input}
use Rattle.cqf_program_plans.specs.Load.Output.{loaded_input, loaded_streams}
use Rattle.cqf_program_plans.specs.Port.Output.{IsPortOutput, port_input}
use Rattle.cqf_program_tc.specs.Output.{env_of_input, tc_of_input}
use Rattle.cqf_output.specs.declared.stops.Stop.{Stop}
use Rattle.cqf_program_runs.specs.Check.Output.{IsChecked, IsCheckRefusal}
use Rattle.cqf_program_runs.specs.Deliveries.Output.{IsDeliveriesOutput}
use Rattle.cqf_program_runs.specs.Line.Output.{IsLineOutput, line_input}
use Rattle.cqf_program_runs.specs.Deliveries.PlannedScenario.{planned_scenario}
use Rattle.cqf_program_runs.specs.Report.Output.{IsReportOutput}
use Rattle.cqf_program_runs.specs.Run.Output.{IsRunOutput}
use Rattle.cqf_program_planning.specs.declared.choosing.Search.{Search}
use Rattle.cqf_program_summary.specs.Hops.Known.{wanted_scenario}
use Rattle.cqf_program_summary.specs.Hops.Output.{IsHopsOutput}
use Rattle.cqf_program_summary.specs.Hops.Legs.{Wanted}
use Rattle.cqf_program_summary.specs.Summary.Output.{IsSummaryOutput}
use Rattle.cqf_program_threads.specs.ThreadsOutput.{IsThreadsOutput, WritesFault}
use Rattle.cqf_program_without.specs.Output.{IsPlanWithout, IsRefusalWithout}
use Rattle.cqf_program_words.specs.Candidates.{times_of}
use Rattle.cqf_program_words.specs.declared.words.Format.TheVariants as form
use Rattle.cqf_program_words.specs.declared.plan_words.PlanOptions.{PlanOptions}
use Rattle.cqf_program_words.specs.declared.words.Job.{Job}
use Rattle.cqf_program_words.specs.declared.words.Job.TheVariants.{Check, Compile, Deliveries, Diff, Hops, Latency, Line, Load, Offers, Plan, Port, Report, Run, Summary}
use Rattle.cqf_program_words.specs.Shown.{ShowsAfter, ShowsLine, ShowsWords, are_printable, is_shown_whole, no_command}
use Rattle.cqf_program_words.specs.Words.{AreMistaken, AskForHelp, Mean, WritesMistake, ask_for_large, limits_of}
use Rattle.cqf_program_engine.specs.declared.runs.TheConstants.{VERSION}

-- the job's numbers are within their limits
abbrev pub IsWithin : Job → Type 0
IsWithin (Port until rate) = until ≤ last_until
IsWithin (Line cycles) = cycles ≤ most_cycles
IsWithin (Compile format edge_gates) = ⊤
IsWithin (Load streams) = ⊤
IsWithin (Latency strict) = ⊤
IsWithin (Run cycles threads) = cycles ≤ most_cycles
IsWithin (Report cycles) = cycles ≤ most_cycles
IsWithin (Deliveries cycles) = cycles ≤ most_cycles
IsWithin (Check cycles) = cycles ≤ most_cycles
IsWithin (Offers cycles seed) = cycles ≤ most_cycles
IsWithin (Summary cycles) = cycles ≤ most_cycles
IsWithin (Hops cycles stream frame) = cycles ≤ most_cycles
IsWithin (Plan options) = ⊤
IsWithin (Diff quiet) = ⊤

-- how `plan` searches with these options
abbrev pub search_of : PlanOptions → Search
search_of options = record { tries = options.tries; best = options.best }

-- whether the job is a run on threads
abbrev pub is_threaded : Job → Bool
is_threaded (Run cycles threads) = threads
is_threaded job = false

-- the frames that `hops` lists: those of a stream, or a single one
abbrev pub wanted_of : Option (String Global) → Option ℕ → Wanted
wanted_of stream frame = record { stream = option_map string_bytes stream; frame = frame }

-- the words mean no run on threads
abbrev pub MeanNoThreads : List (List ℕ) → Type 0
MeanNoThreads words = (cycles : ℕ) → ¬ Mean words (Run cycles true)

-- the job is this run on threads, within given limits
pub record IsRunOf (limits : Limits) (job : Job) (threaded : ThreadedRun) : Type 0 where
  pub is_job : job ≡ Run threaded.cycles true
  pub within : threaded.limits ≡ limits

-- the output of a job for its input, which is read within given limits
abbrev pub IsOutput : Limits → Job → List ℕ → List ℕ → Type 0
IsOutput limits (Port until rate) input output = IsPortOutput until rate input output
IsOutput limits (Line cycles) input output = IsLineOutput cycles input output
IsOutput limits (Compile form.List edge_gates) input output = compiled_input limits edge_gates input ≡ Ok output
IsOutput limits (Compile (form.Tc is_software) edge_gates) input output = tc_of_input limits is_software edge_gates input ≡ Ok output
IsOutput limits (Compile (form.Env bridge) edge_gates) input output = env_of_input limits edge_gates bridge input ≡ Ok output
IsOutput limits (Compile form.Json edge_gates) input output = json_of_input limits edge_gates input ≡ Ok output
IsOutput limits (Load false) input output = loaded_input limits input ≡ Ok output
IsOutput limits (Load true) input output = loaded_streams limits input ≡ Ok output
IsOutput limits (Latency strict) input output = latency_of_input limits strict input ≡ Ok output
IsOutput limits (Run cycles false) input output = IsRunOutput limits cycles input output
IsOutput limits (Run cycles true) input output = IsThreadsOutput limits cycles input output
IsOutput limits (Report cycles) input output = IsReportOutput limits cycles input output
IsOutput limits (Deliveries cycles) input output = IsDeliveriesOutput limits cycles input output
IsOutput limits (Check cycles) input output = IsChecked limits cycles input (Ok output)
IsOutput limits (Offers cycles seed) input output = offered_input limits cycles seed input ≡ Ok output
IsOutput limits (Summary cycles) input output = IsSummaryOutput limits cycles input output
IsOutput limits (Hops cycles stream frame) input output = IsHopsOutput limits cycles (wanted_of stream frame) input output
IsOutput limits (Plan options) input output = IsPlanWithout limits options.table (search_of options) (option_map times_of options.given) options.without.items input (Ok output)
IsOutput limits (Diff quiet) input output = diff_of_input limits quiet input ≡ Ok output

-- the job is `diff`
abbrev pub is_diff : Job → Bool
is_diff (Diff quiet) = true
is_diff job = false

-- the output of a job for its input, and the status after it was written
pub record IsResult (limits : Limits) (job : Job) (input output : List ℕ) (status : ℕ) : Type 0 where
  pub is_output : IsOutput limits job input output
  pub is_status : status ≡ status_after (is_diff job) output

-- the input of a job, which is read within given limits, is refused with a line: of its first fault; for `latency` if
-- strict, of a deadline that isn't certain to be met; for `diff` if quiet, that something differs; for `check`, of what
-- isn't well; or for `plan`, if no candidate for the cycle time is good
abbrev pub IsRefusal : Limits → Job → List ℕ → Stop → Type 0
IsRefusal limits (Port until rate) input stop = IsRefused (port_input input) stop
IsRefusal limits (Line cycles) input stop = IsRefused (line_input input) stop
IsRefusal limits (Compile form.List edge_gates) input stop = IsRefused (compiled_input limits edge_gates input) stop
IsRefusal limits (Compile (form.Tc is_software) edge_gates) input stop = IsRefused (tc_of_input limits is_software edge_gates input) stop
IsRefusal limits (Compile (form.Env bridge) edge_gates) input stop = IsRefused (env_of_input limits edge_gates bridge input) stop
IsRefusal limits (Compile form.Json edge_gates) input stop = IsRefused (json_of_input limits edge_gates input) stop
IsRefusal limits (Load false) input stop = IsRefused (loaded_input limits input) stop
IsRefusal limits (Load true) input stop = IsRefused (loaded_streams limits input) stop
IsRefusal limits (Latency strict) input stop = IsRefused (latency_of_input limits strict input) stop
IsRefusal limits (Run cycles threads) input stop = IsRefused (scenario_input limits cycles input) stop
IsRefusal limits (Report cycles) input stop = IsRefused (scenario_input limits cycles input) stop
IsRefusal limits (Deliveries cycles) input stop = IsRefused (planned_scenario limits cycles input) stop
IsRefusal limits (Check cycles) input stop = IsCheckRefusal limits cycles input stop
IsRefusal limits (Offers cycles seed) input stop = IsRefused (offered_input limits cycles seed input) stop
IsRefusal limits (Summary cycles) input stop = IsRefused (planned_scenario limits cycles input) stop
IsRefusal limits (Hops cycles stream frame) input stop = IsRefused (wanted_scenario limits cycles (wanted_of stream frame) input) stop
IsRefusal limits (Plan options) input stop = IsRefusalWithout limits options.table (search_of options) (option_map times_of options.given) options.without.items input stop
IsRefusal limits (Diff quiet) input stop = IsRefused (diff_of_input limits quiet input) stop

-- a run on threads fails, with the line of its fault; its input isn't refused. No other job fails
abbrev pub IsFailure : Limits → Job → List ℕ → Stop → Type 0
IsFailure limits (Run cycles true) input stop = (stop.status ≡ 4) × WritesFault cycles (scenario_input limits cycles input) stop.text.items
IsFailure limits job input stop = ⊥

-- how a job ends without its output
abbrev pub IsEnd : Limits → Job → List ℕ → Stop → Type 0
IsEnd limits job input stop = IsRefusal limits job input stop ⊎ IsFailure limits job input stop

-- the byte is a space
abbrev pub is_space : ℕ → Bool
is_space byte = byte == 32

-- the first line of the input, and what follows it
abbrev pub first_line : List ℕ → List ℕ
first_line bytes = before_first is_line_feed bytes

abbrev pub after_first_line : List ℕ → List ℕ
after_first_line bytes = after_first is_line_feed bytes

-- the most octets of a first line that has words
abbrev pub most_line : ℕ
most_line = 65536

-- the first line has words: it is text, and not too long
pub record HasWords (bytes : List ℕ) : Type 0 where
  pub text : IsUtf8 (first_line bytes)
  pub short : length (first_line bytes) ≤ most_line

-- the words of the run: the given ones or, if there are none, those of the input's first line, which are separated by
-- single spaces
abbrev pub words_of : List (List ℕ) → List ℕ → List (List ℕ)
words_of [] bytes = slice_split is_space (first_line bytes)
words_of (word ∷ words) bytes = word ∷ words

-- the input of the job: all bytes that were read or, if the first line has the words, those that follow it
abbrev pub input_of : List (List ℕ) → List ℕ → List ℕ
input_of [] bytes = after_first_line bytes
input_of (word ∷ words) bytes = bytes

-- the most bytes that the program reads, by the given words: more if these contain `--large`. Words of the input's
-- first line don't count
abbrev pub most_bytes : List (List ℕ) → ℕ
most_bytes words = if ask_for_large words then 536870912 else 67108864

-- more than `most` bytes
abbrev pub IsTooLong : ℕ → List ℕ → Type 0
IsTooLong most bytes = most < length bytes

-- the run is done: its words mean a job, and these are the job's output for its input and the status after that
pub record IsDone (words : List (List ℕ)) (bytes output : List ℕ) (status : ℕ) : Type 0 where
  pub short : length bytes ≤ most_bytes words
  pub text : words ≡ [] → HasWords bytes
  pub job : Job
  pub means : Mean (words_of words bytes) job
  pub result : IsResult (limits_of (words_of words bytes)) job (input_of words bytes) output status

-- the input is refused. Either it is too long, and the given words, if there are any, mean a job; or the words mean a
-- job, and the line is that of its input's first fault. The stop has status 1
pub record IsRefusedRun (words : List (List ℕ)) (bytes : List ℕ) (stop : Stop) : Type 0 where
  pub status : stop.status ≡ 1
  pub length_first : (IsTooLong (most_bytes words) bytes × (stop.text.items ≡ line_of (codes "cqf: input too long")) × (words ≢ [] → (job : Job) × Mean words job))
      ⊎ ((length bytes ≤ most_bytes words) × (words ≡ [] → HasWords bytes)
      × ((job : Job) × Mean (words_of words bytes) job × IsRefusal (limits_of (words_of words bytes)) job (input_of words bytes) stop))

-- the program's version is requested, by a single word
abbrev pub AskForVersion : List (List ℕ) → Type 0
AskForVersion words = (words ≡ codes "--version" ∷ []) ⊎ (words ≡ codes "-V" ∷ [])

-- if the words are all printable and clap accepts them, a mistake in them is reported by a line of the program's own,
-- which says what is expected
abbrev pub WritesPlainly : List (List ℕ) → Stop → Type 0
WritesPlainly words stop = are_printable words ≡ true → WritesMistake words stop

-- how a mistake is reported: by a line of the program's own that shows the words escaped, if given words aren't all
-- printable or a first line with the words isn't shown as it is; otherwise by a line of the program's own if clap
-- accepts the words, and by clap's text if it doesn't
abbrev pub ShowsMistake : List (List ℕ) → List ℕ → Stop → Type 0
ShowsMistake [] bytes stop = ShowsLine (first_line bytes) stop × (is_shown_whole (first_line bytes) ≡ true → WritesPlainly (words_of [] bytes) stop)
ShowsMistake (word ∷ words) bytes stop = ShowsWords (word ∷ words) stop × WritesPlainly (word ∷ words) stop

-- the words mean no job: those of the first line aren't text; this line is too long to have words; or the words are a
-- mistake, and don't request the version. The stop has status 2
pub record IsMisuse (words : List (List ℕ)) (bytes : List ℕ) (stop : Stop) : Type 0 where
  pub status : stop.status ≡ 2
  pub short : words ≡ [] → length bytes ≤ most_bytes words
  pub cause : ((words ≡ []) × ¬ IsUtf8 (first_line bytes) × (stop.text.items ≡ line_of (codes "cqf: words")))
      ⊎ (((words ≡ []) × (most_line < length (first_line bytes)) × ShowsAfter no_command stop.text.items)
      ⊎ ((words ≡ [] → HasWords bytes) × AreMistaken (words_of words bytes) × ((job : Job) → ¬ Mean (words_of words bytes) job)
      × ¬ AskForVersion words × ShowsMistake words bytes stop))

-- a run on threads fails: the words mean that job, and the line is that of its fault. The stop has status 4
pub record IsFailedRun (words : List (List ℕ)) (bytes : List ℕ) (stop : Stop) : Type 0 where
  pub short : length bytes ≤ most_bytes words
  pub text : words ≡ [] → HasWords bytes
  pub job : Job
  pub means : Mean (words_of words bytes) job
  pub fails : IsFailure (limits_of (words_of words bytes)) job (input_of words bytes) stop

-- the words mean this run on threads, and the bytes aren't too many for it
pub record IsThreadedRun (words : List (List ℕ)) (bytes : List ℕ) (threaded : ThreadedRun) : Type 0 where
  pub short : length bytes ≤ most_bytes words
  pub text : words ≡ [] → HasWords bytes
  pub means : Mean (words_of words bytes) (Run threaded.cycles true)
  pub within : threaded.limits ≡ limits_of (words_of words bytes)

-- all that the program reads was read: more bytes than it accepts, or all there were
abbrev pub IsAll : List (List ℕ) → Reading → Type 0
IsAll words input = IsTooLong (most_bytes words) input.bytes ⊎ IsAtEnd input.after

-- before anything is read, given words mean a job
abbrev pub IsAfterWords : List (List ℕ) → Reading → Type 0
IsAfterWords words input = words ≢ [] → ((job : Job) × Mean words job) ⊎ ((input.bytes ≡ []) × (input.failed ≡ false))

-- the stop of a read that ended early: status 4 and the line about it if the reader failed, status 3 for lack of memory
abbrev pub EndsRead : ReadFailure → Stop → Type 0
EndsRead Memory stop = (stop.status ≡ 3) × (stop.text.items ≡ [])
EndsRead Fault stop = EndsWith 4 (line_of (codes "cqf: input fault")) stop

-- status 1: there are more than `most` bytes
pub record EndsTooLong (most : ℕ) (input : Reading) (stop : Stop) : Type 0 where
  pub long : IsTooLong most input.bytes
  pub sound : input.failed ≡ false
  pub line : stop.text.items ≡ line_of (codes "cqf: input too long")

-- status 4: the reader failed
pub record EndsUnread (input : Reading) (stop : Stop) : Type 0 where
  pub failed : input.failed ≡ true
  pub line : stop.text.items ≡ line_of (codes "cqf: input fault")

-- how a read of the whole input, of at most `most` bytes, ends early; status 3 is lack of memory
abbrev pub EndsInput : ℕ → Reading → Stop → Type 0
EndsInput most input stop = ((stop.status ≡ 1) × EndsTooLong most input stop)
    ⊎ (((stop.status ≡ 4) × EndsUnread input stop)
    ⊎ ((stop.status ≡ 3) × (stop.text.items ≡ [])))

-- how a read of one more text ends early: with status 1 if all texts together have more than `most` bytes, with status
-- 4 if the reader failed, with one of these kinds of error, and with status 3 for lack of memory
pub record EndsText (fails : ErrorKind → Type 0) (most : ℕ) (bytes : List ℕ) (stop : Stop) : Type 0 where
  pub statuses : (stop.status ≡ 1) ⊎ ((stop.status ≡ 4) ⊎ (stop.status ≡ 3))
  pub long : stop.status ≡ 1 → IsTooLong most bytes × (stop.text.items ≡ line_of (codes "cqf: input too long"))
  pub fault : stop.status ≡ 4 → stop.text.items ≡ line_of (codes "cqf: input fault")
  pub may : stop.status ≡ 4 → SomeKind fails
  pub memory : stop.status ≡ 3 → stop.text.items ≡ []

-- whether the word requests the program's version
abbrev pub IsVersionWord : Bool → List ℕ → Type 0
IsVersionWord true word = (word ≡ codes "--version") ⊎ (word ≡ codes "-V")
IsVersionWord false word = ¬ ((word ≡ codes "--version") ⊎ (word ≡ codes "-V"))

-- whether the words do
abbrev pub IsAsking : Bool → List (List ℕ) → Type 0
IsAsking true words = AskForVersion words
IsAsking false words = ¬ AskForVersion words

-- the line of the program's version
abbrev pub version_line : List ℕ
version_line = codes "cqf " ++ line_of VERSION.now

-- a question about the program is answered, and no job is done: by help, in a text of clap's, or by the version
abbrev pub IsQuestionAnswered : List (List ℕ) → List ℕ → List ℕ → Type 0
IsQuestionAnswered words bytes text = AskForHelp (words_of words bytes) ⊎ (AskForVersion words × (text ≡ version_line))

-- why a run ends before it is done, if no read failed: a question is answered, the input is refused, the words mean no
-- job, memory was lacking, or a run on threads failed
abbrev pub HasCause : List (List ℕ) → List ℕ → Stop → Type 0
HasCause words bytes stop = ((stop.status ≡ 0) × IsQuestionAnswered words bytes stop.text.items)
    ⊎ (IsRefusedRun words bytes stop
    ⊎ (IsMisuse words bytes stop
    ⊎ (((stop.status ≡ 3) × (stop.text.items ≡ []))
    ⊎ ((stop.status ≡ 4) × IsFailedRun words bytes stop))))

-- why a run ends with status 4 before it is done: the reader failed; or all was read, and a run on threads failed
abbrev pub HasFault : List (List ℕ) → Reading → Stop → Type 0
HasFault words input stop = ((input.failed ≡ true) × (stop.text.items ≡ line_of (codes "cqf: input fault")))
    ⊎ ((input.failed ≡ false) × IsAtEnd input.after × IsFailedRun words input.bytes stop)

-- status 0: a question is answered; if the words are those of the input, all of it was read
pub record StopsWithAnswer (words : List (List ℕ)) (input : Reading) (stop : Stop) : Type 0 where
  pub answered : IsQuestionAnswered words input.bytes stop.text.items
  pub at_end : words ≡ [] → IsAtEnd input.after
  pub sound : input.failed ≡ false

-- status 1: the input is refused, after all that the program reads of it was read
pub record StopsRefused (words : List (List ℕ)) (input : Reading) (stop : Stop) : Type 0 where
  pub refused : IsRefusedRun words input.bytes stop
  pub whole : IsAll words input
  pub sound : input.failed ≡ false

-- status 2: the words mean no job
pub record StopsMisused (words : List (List ℕ)) (input : Reading) (stop : Stop) : Type 0 where
  pub misused : IsMisuse words input.bytes stop
  pub at_end : words ≡ [] → IsAtEnd input.after
  pub sound : input.failed ≡ false

-- how a run ends before it is done, for what was read: one case for each status; 3 is lack of memory
abbrev pub IsStopped : List (List ℕ) → Reading → Stop → Type 0
IsStopped words input stop = ((stop.status ≡ 0) × StopsWithAnswer words input stop)
    ⊎ (((stop.status ≡ 1) × StopsRefused words input stop)
    ⊎ (((stop.status ≡ 2) × StopsMisused words input stop)
    ⊎ (((stop.status ≡ 3) × (stop.text.items ≡ []))
    ⊎ ((stop.status ≡ 4) × HasFault words input stop))))

-- a run is done: all was read, and these are its output and its status
pub record HasRun (words : List (List ℕ)) (input : Reading) (output : List ℕ) (status : ℕ) : Type 0 where
  pub is_done : IsDone words input.bytes output status
  pub at_end : IsAtEnd input.after
  pub sound : input.failed ≡ false

-- a run on threads is left to be made: the words mean it, and all was read
pub record LeavesThreads (words : List (List ℕ)) (input : Reading) (threaded : ThreadedRun) : Type 0 where
  pub is_run : IsThreadedRun words input.bytes threaded
  pub at_end : IsAtEnd input.after
  pub sound : input.failed ≡ false

-- how a run ends after its output was written: with a given status, and nothing is on the writer of faults; or the
-- output refused some of it, and the line about that is on the writer of faults
pub record EndsWritten (wanted : ℕ) (refused : Bool) (faults : Writing) (status : ℕ) : Type 0 where
  pub statuses : (status ≡ wanted) ⊎ (status ≡ 4)
  pub done : status ≡ wanted → (refused ≡ false) × Keeps faults.before faults.after
  pub fault : status ≡ 4 → (refused ≡ true) × IsWritten faults (line_of (codes "cqf: output fault"))

-- the text was written: all of it, with a given status, and nothing on the writer of faults; or the output refused some
-- of it, and the line about that is on the writer of faults
pub record HandsOver (wanted : ℕ) (text : List ℕ) (output faults : Writing) (status : ℕ) : Type 0 where
  pub statuses : (status ≡ wanted) ⊎ (status ≡ 4)
  pub reported : IsWritten output text
  pub done : status ≡ wanted → (output.refused ≡ false) × Keeps faults.before faults.after
  pub fault : status ≡ 4 → (output.refused ≡ true) × IsWritten faults (line_of (codes "cqf: output fault"))

-- what the run writes on its output, and the status after it: the output of its job, or the help or the version that was
-- requested
abbrev pub IsWrittenOutput : List (List ℕ) → Reading → List ℕ → ℕ → Type 0
IsWrittenOutput words input text status = (IsDone words input.bytes text status × IsAtEnd input.after)
    ⊎ ((status ≡ 0) × IsQuestionAnswered words input.bytes text × (words ≡ [] → IsAtEnd input.after))

-- nothing is on the output, and this text was written on the writer of faults: all of it, if that writer refused
-- nothing
pub record WritesFaultAlone (text : List ℕ) (output faults : Writing) : Type 0 where
  pub quiet : Keeps output.before output.after
  pub accepted : output.refused ≡ false
  pub line : IsWritten faults text

-- the text of a stop was written: a requested one on the output, and the line of any other stop on the writer of faults
-- only
abbrev pub WritesStop : Stop → Writing → Writing → ℕ → Type 0
WritesStop stop output faults status = ((stop.status ≡ 0) × HandsOver 0 stop.text.items output faults status)
    ⊎ (((stop.status ≡ 3) × (status ≡ 3) × WritesFaultAlone (line_of (codes "cqf: out of memory")) output faults)
    ⊎ ((stop.status ≢ 0) × (stop.status ≢ 3) × (status ≡ stop.status) × WritesFaultAlone stop.text.items output faults))

-- the reader failed, with one of these kinds of error; nothing is on the output, and the line about that is on the
-- writer of faults
pub record IsInputFault (fails : ErrorKind → Type 0) (input : Reading) (output faults : Writing) : Type 0 where
  pub failed : input.failed ≡ true
  pub may : SomeKind fails
  pub reported : WritesFaultAlone (line_of (codes "cqf: input fault")) output faults

-- the output refused a part, with one of these kinds of error; the beginning of the text was written, and the line
-- about that is on the writer of faults
pub record IsOutputFault (refuses : ErrorKind → Type 0) (words : List (List ℕ)) (input : Reading) (output faults : Writing) : Type 0 where
  pub refused : output.refused ≡ true
  pub may : SomeKind refuses
  pub sound : input.failed ≡ false
  pub text : List ℕ
  pub wanted : ℕ
  pub is_output : IsWrittenOutput words input text wanted
  pub reported : IsWritten output text
  pub line : IsWritten faults (line_of (codes "cqf: output fault"))

-- a run on threads failed, after its input was read to the end; nothing is on the output, and the line about that is on
-- the writer of faults
pub record EndsByRunFault (words : List (List ℕ)) (input : Reading) (output faults : Writing) : Type 0 where
  pub sound : input.failed ≡ false
  pub at_end : IsAtEnd input.after
  pub stop : Stop
  pub failed : IsFailedRun words input.bytes stop
  pub reported : WritesFaultAlone stop.text.items output faults

-- the run's output was written, or the requested help or version, and nothing else; the status is that of the output
pub record EndsDone (words : List (List ℕ)) (input : Reading) (output faults : Writing) (status : ℕ) : Type 0 where
  pub text : List ℕ
  pub is_output : IsWrittenOutput words input text status
  pub written : Appends output.before output.after text
  pub clean : Keeps faults.before faults.after
  pub sound : input.failed ≡ false
  pub accepted : output.refused ≡ false

-- status 1: after all that the program reads of it was read, the input was refused, with the line of its first fault
pub record EndsRefused (words : List (List ℕ)) (input : Reading) (output faults : Writing) : Type 0 where
  pub stop : Stop
  pub refused : IsRefusedRun words input.bytes stop
  pub reported : WritesFaultAlone stop.text.items output faults
  pub whole : IsAll words input
  pub sound : input.failed ≡ false

-- status 2: the words mean no job
pub record EndsMisused (words : List (List ℕ)) (input : Reading) (output faults : Writing) : Type 0 where
  pub stop : Stop
  pub misused : IsMisuse words input.bytes stop
  pub reported : WritesFaultAlone stop.text.items output faults
  pub at_end : words ≡ [] → IsAtEnd input.after
  pub sound : input.failed ≡ false

-- status 3: memory was lacking
abbrev pub EndsForMemory : Writing → Writing → Type 0
EndsForMemory output faults = WritesFaultAlone (line_of (codes "cqf: out of memory")) output faults

-- status 4: the reader failed, or the output refused a write, or a run on threads failed
abbrev pub EndsFaulty : (ErrorKind → Type 0) → (ErrorKind → Type 0) → List (List ℕ) → Reading → Writing → Writing → Type 0
EndsFaulty fails refuses words input output faults = IsInputFault fails input output faults
    ⊎ (IsOutputFault refuses words input output faults ⊎ EndsByRunFault words input output faults)

-- one case for each status. That of a run that is done is 0, or 1 if it is `diff` and something differs
abbrev pub EndsByStatus : (ErrorKind → Type 0) → (ErrorKind → Type 0) → List (List ℕ) → Reading → Writing → Writing → ℕ → Type 0
EndsByStatus fails refuses words input output faults status = ((status ≡ 0) × EndsDone words input output faults 0)
    ⊎ (((status ≡ 1) × (EndsDone words input output faults 1 ⊎ EndsRefused words input output faults))
    ⊎ (((status ≡ 2) × EndsMisused words input output faults)
    ⊎ (((status ≡ 3) × EndsForMemory output faults)
    ⊎ ((status ≡ 4) × EndsFaulty fails refuses words input output faults))))

-- the result of the engine: what was read, and what its status means, if reads may fail and the output may refuse with
-- these kinds of error
pub record Ends (fails refuses : ErrorKind → Type 0) (words : List (List ℕ)) (input : Reading) (output faults : Writing) (status : ℕ) : Type 0 where
  pub heard : IsHeard (most_bytes words) input
  pub after_words : IsAfterWords words input
  pub by_status : EndsByStatus fails refuses words input output faults status

-- status 4 is that of a run on threads that failed, or of an output that refused a write
abbrev pub FaultIsOfThreadsOrOutput : (ErrorKind → Type 0) → (ErrorKind → Type 0) → Type 0
FaultIsOfThreadsOrOutput fails refuses = (words : List (List ℕ)) (input : Reading) (output faults : Writing)
    → Ends fails refuses words input output faults 4 → EndsByRunFault words input output faults ⊎ IsOutputFault refuses words input output faults

-- status 4 is that of a run on threads that failed
abbrev pub FaultIsOfThreads : (ErrorKind → Type 0) → (ErrorKind → Type 0) → Type 0
FaultIsOfThreads fails refuses = (words : List (List ℕ)) (input : Reading) (output faults : Writing)
    → Ends fails refuses words input output faults 4 → EndsByRunFault words input output faults

-- if the words mean a job other than a run on threads, no run on threads is left to be made. Then the engine's work is
-- all done by `run_unless_threaded`, which has no handle that may wait: it returns if each read and each write does
abbrev pub OnlyThreadsAreLeft : Type 0
OnlyThreadsAreLeft = (words : List (List ℕ)) (input : Reading) (job : Job) (threaded : ThreadedRun)
    → Mean (words_of words input.bytes) job → is_threaded job ≡ false → ¬ LeavesThreads words input threaded
