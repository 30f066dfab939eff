-- The number of a file's line replaces that of its script's line in the line of a script's fault.
use Rattle.std.specs.Prelude.{ℕ, ◌-◌, List, [], ◌∷◌, ◌++◌, Option, Some, None, codes, decimal, drop, if◌then◌else◌, length, nat_eq, option_and_then}
use Rattle.std.specs.Prelude.{option_map, slice_get, take}
use Rattle.std.specs.List.{ends_with, starts_with}
use Rattle.std.specs.Option.{option_map_or, option_or}
use Rattle.cqf_text.specs.Decimal.{decimal_in}
use Rattle.cqf_output.specs.Stops.{line_of}

-- a text without the line feed at its end; none if it has no line feed there
abbrev pub unended : List ℕ → Option (List ℕ)
unended text = if ends_with nat_eq text (10 ∷ []) then Some (take (length text - 1) text) else None

-- the rest of a line, if the line begins so
abbrev pub following : List ℕ → List ℕ → Option (List ℕ)
following start line = if starts_with nat_eq line start then unended (drop (length start) line) else None

-- the number of the file's line for the script's line of a number, from 1
abbrev pub number_in_file : List ℕ → ℕ → Option ℕ
number_in_file numbers number = slice_get numbers (number - 1)

-- the number for a fault's line that begins so and ends with the number of a script's line
abbrev pub number_written : List ℕ → List ℕ → List ℕ → Option ℕ
number_written numbers start line =
    option_and_then (number_in_file numbers) (option_and_then (decimal_in 1 18446744073709551615) (following start line))

-- the fault's line with that number
abbrev pub written_by : List ℕ → List ℕ → List ℕ → Option (List ℕ)
written_by numbers start line = option_map (λ number. line_of (start ++ decimal number)) (number_written numbers start line)

-- the same for each fault of a script that states a line; any other line is left unchanged
abbrev pub renumbered : List ℕ → List ℕ → List ℕ
renumbered numbers line =
    option_map_or (λ reported. reported)
    (option_or (written_by numbers (codes "cqf: script: BadLine ") line)
    (option_or (written_by numbers (codes "cqf: script: UnknownStream ") line) (written_by numbers (codes "cqf: script: TooMany ") line))) line
