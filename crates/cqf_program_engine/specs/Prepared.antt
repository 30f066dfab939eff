-- The text of an output, and the result of a run before it waits for a thread.
use Rattle.std.specs.Prelude.{ℕ, ◌≡◌, ◌==◌, Bool, true, false, List, if◌then◌else◌, length}
use Rattle.cqf_program_engine.specs.declared.begun.Begun.{Begun}
use Rattle.cqf_program_engine.specs.declared.begun.Begun.TheVariants.{Ready, Threads}
use Rattle.cqf_program_engine.specs.declared.begun.ThreadedRun.{ThreadedRun}
use Rattle.cqf_program_engine.specs.declared.prepared.PreparedOutput.{PreparedOutput}
use Rattle.cqf_program_engine.specs.declared.prepared.PreparedOutput.TheVariants.{Account, Config, Deliveries, Differences, Hops, Latency, Line, Load, Object}
use Rattle.cqf_program_engine.specs.declared.prepared.PreparedOutput.TheVariants.{Port, Run, Script, StreamLoads, Summary, Text, Variables}
use Rattle.cqf_program_json.specs.Output.{text_of_json}
use Rattle.cqf_program_plans.specs.Compile.Written.{text_of_config}
use Rattle.cqf_program_summary.specs.Hops.Rounds.{IsWrittenText}
use Rattle.cqf_program_runs.specs.Deliveries.Following.{AreDeliveriesWritten}
use Rattle.cqf_program_summary.specs.Summary.Text.{text_of_summary}
use Rattle.cqf_program_plans.specs.Latency.Text.{text_of_latency}
use Rattle.cqf_program_runs.specs.Line.Written.{IsLineWritten}
use Rattle.cqf_program_plans.specs.Load.Streams.{text_of_streams}
use Rattle.cqf_program_plans.specs.Load.Written.{text_of_load}
use Rattle.cqf_program_plans.specs.Port.Written.{text_of_port}
use Rattle.cqf_program_runs.specs.Run.Written.{IsRunWritten}
use Rattle.cqf_program_tc.specs.Output.{text_of_env, text_of_tc}
use Rattle.cqf_program_threads.specs.AccountWritten.{text_of_account}

-- the text is one of the output
abbrev pub IsTextOf : PreparedOutput → List ℕ → Type 0
IsTextOf (Text output) text = text ≡ output.items
IsTextOf (Differences output) text = text ≡ output.items
IsTextOf (Port output) text = text ≡ text_of_port output
IsTextOf (Line output) text = IsLineWritten output text
IsTextOf (Config output) text = text ≡ text_of_config output
IsTextOf (Script output) text = text ≡ text_of_tc output
IsTextOf (Variables output) text = text ≡ text_of_env output
IsTextOf (Object output) text = text ≡ text_of_json output
IsTextOf (Load output) text = text ≡ text_of_load output
IsTextOf (StreamLoads output) text = text ≡ text_of_streams output
IsTextOf (Latency output) text = text ≡ text_of_latency output
IsTextOf (Run output) text = IsRunWritten output text
IsTextOf (Account output) text = text ≡ text_of_account output
IsTextOf (Deliveries output) text = AreDeliveriesWritten output text
IsTextOf (Summary output) text = text ≡ text_of_summary output
IsTextOf (Hops output) text = IsWrittenText output text

-- the output is that of `diff`
abbrev pub is_of_diff : PreparedOutput → Bool
is_of_diff (Differences output) = true
is_of_diff output = false

-- the status after an output was written: 1 for that of `diff` if something differs, 0 otherwise
abbrev pub status_after : Bool → List ℕ → ℕ
status_after false text = 0
status_after true text = if length text == 0 then 0 else 1

-- the output has a text with a given property
abbrev pub HasText : (List ℕ → Type 0) → PreparedOutput → Type 0
HasText wanted output = (text : List ℕ) × IsTextOf output text × wanted text

-- it has a text and a status with a given property
abbrev pub HasResult : (List ℕ → ℕ → Type 0) → PreparedOutput → Type 0
HasResult wanted output = (text : List ℕ) × IsTextOf output text × wanted text (status_after (is_of_diff output) text)

-- the result of a run before it waits for a thread: an output whose text and status have a given property, or a run on threads with
-- another
abbrev pub Begins : (List ℕ → ℕ → Type 0) → (ThreadedRun → Type 0) → Begun → Type 0
Begins wanted left (Ready output) = HasResult wanted output
Begins wanted left (Threads threaded) = left threaded
