-- The script that is made from a file of calls, and that the program reads.
use Rattle.std.specs.Prelude.{ℕ, ◌≡◌, ◌==◌, ◌&&◌, ◌+◌, ◌-◌, Bool, true, List, [], ◌∷◌, ◌++◌, Option, Some, None, codes, if◌then◌else◌, is_some}
use Rattle.std.specs.Prelude.{length, map, max, min, nat_eq, nat_le, nat_lt, replicate, take}
use Rattle.std.specs.List.{ends_with, flat_map}
use Rattle.cqf_text.specs.Decimal.{decimal_in}
use Rattle.cqf_text.specs.Lines.{lines_of}
use Rattle.cqf_output.specs.Stops.{line_of}
use Rattle.cqf_admission.specs.Lines.{is_seal_line, order_of_line}
use Rattle.cqf_program_files.specs.declared.calls.CallsScript.{CallsScript}

-- a line without the carriage return before its line feed
abbrev pub bare : List ℕ → List ℕ
bare line = if ends_with nat_eq line (13 ∷ []) then take (length line - 1) line else line

-- a line without content: it is empty, or a comment
abbrev pub is_silent : List ℕ → Bool
is_silent [] = true
is_silent (first ∷ more) = first == 35

-- the last cycle that a line may state; cycles are counted up to it
abbrev pub last_written : ℕ
last_written = 4294967295

-- the cycle that a line `@N` states
abbrev pub cycle_written : List ℕ → Option ℕ
cycle_written [] = None
cycle_written (first ∷ digits) = if first == 64 then decimal_in 0 last_written digits else None

-- the cycle that is reached after a line that states one, which isn't before the cycle reached; after a Seal; and after any line
abbrev pub written_after : ℕ → Option ℕ → ℕ
written_after reached None = reached
written_after reached (Some cycle) = max reached cycle

abbrev pub reached_after : ℕ → List ℕ → ℕ
reached_after reached line = min last_written (if is_seal_line line then reached + 1 else written_after reached (cycle_written line))

-- how many Seals a run of `cycles` cycles has from a cycle on, up to another
abbrev pub seals_between : ℕ → ℕ → ℕ → ℕ
seals_between cycles reached cycle = min cycle cycles - reached

-- the lines of the script for a line that states a cycle: as many Seals as that takes. If the cycle is before the one reached, the line is
-- left unchanged, and isn't a line of a script
abbrev pub lines_written : ℕ → ℕ → List ℕ → ℕ → List (List ℕ)
lines_written cycles reached line cycle = if nat_lt cycle reached then line ∷ [] else replicate (seals_between cycles reached cycle) (codes "seal")

-- the lines for another line: it is left unchanged, but a call of a cycle that isn't run is left out
abbrev pub lines_called : ℕ → ℕ → List ℕ → List (List ℕ)
lines_called cycles reached line = if nat_le cycles reached && is_some (order_of_line line) then [] else line ∷ []

abbrev pub lines_by : ℕ → ℕ → List ℕ → Option ℕ → List (List ℕ)
lines_by cycles reached line None = lines_called cycles reached line
lines_by cycles reached line (Some cycle) = lines_written cycles reached line cycle

-- the lines for any line: a Seal past the last cycle is left out
abbrev pub lines_for : ℕ → ℕ → List ℕ → List (List ℕ)
lines_for cycles reached line =
    if is_silent line then []
    else (if is_seal_line line then replicate (seals_between cycles reached (reached + 1)) (codes "seal") else lines_by cycles reached line (cycle_written line))

-- the lines of the script, each with the number of the file's line from which it is made
abbrev pub numbered : ℕ → List (List ℕ) → List (ℕ × List ℕ)
numbered number lines = map (λ line. (number, line)) lines

abbrev pub script_lines : ℕ → ℕ → ℕ → List (List ℕ) → List (ℕ × List ℕ)
script_lines cycles number reached [] = []
script_lines cycles number reached (line ∷ lines) =
    numbered number (lines_for cycles reached (bare line)) ++ script_lines cycles (number + 1) (reached_after reached (bare line)) lines

abbrev pub script_of_calls : ℕ → List ℕ → List (ℕ × List ℕ)
script_of_calls cycles text = script_lines cycles 1 0 (lines_of text)

-- its text, and the numbers
abbrev pub text_of_script : List (ℕ × List ℕ) → List ℕ
text_of_script lines = flat_map (λ line. line_of line.1) lines

abbrev pub numbers_of_script : List (ℕ × List ℕ) → List ℕ
numbers_of_script lines = map (λ line. line.0) lines

-- lines were appended to a script, with their numbers
pub record HasPut (old new : CallsScript) (lines : List (ℕ × List ℕ)) : Type 0 where
  pub text : new.text.items ≡ old.text.items ++ text_of_script lines
  pub numbers : new.numbers.items ≡ old.numbers.items ++ numbers_of_script lines
