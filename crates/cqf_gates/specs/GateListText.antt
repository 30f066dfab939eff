-- Gate lists as text. An entry is the pair of its gate states and its interval.
use Rattle.std.specs.Prelude.{ℕ, ◌+◌, ◌-◌, ◌*◌, ◌/◌, ◌%◌, ◌^◌, ◌==◌, ◌&&◌, nat_lt, List, [], ◌∷◌, ◌++◌, Option, Some, None, Result, Ok, Err, if◌then◌else◌}
use Rattle.std.specs.Char.{digit_value, is_digit}
use Rattle.std.specs.Fmt.{decimal}
use Rattle.std.specs.Option.{option_map}
use Rattle.cqf_text.specs.Decimal.{decimal_in}
use Rattle.cqf_text.specs.Lines.{lines_of}

-- the entry that a line denotes, if it has the form of one: two hexadecimal digits of either case, one space, and a decimal number of 32 bits
abbrev pub entry_of_line : List ℕ → Option (ℕ × ℕ)
entry_of_line (high ∷ low ∷ space ∷ digits) =
    if is_digit high 16 && is_digit low 16 && (space == 32)
    then option_map (λ interval. (16 * digit_value high + digit_value low, interval)) (decimal_in 0 (2 ^ 32 - 1) digits)
    else None
entry_of_line _ = None

-- the entry of the first line followed by the others, or the first line's number if it has no entry
abbrev pub with_gate_line : ℕ → Option (ℕ × ℕ) → Result (List (ℕ × ℕ)) ℕ → Result (List (ℕ × ℕ)) ℕ
with_gate_line number None others = Err number
with_gate_line number (Some entry) (Ok others) = Ok (entry ∷ others)
with_gate_line number (Some entry) (Err bad) = Err bad

-- the entries that lines denote, one each, or the number of the first line that has none; the first line's number is `number`
abbrev pub entries_of_lines : ℕ → List (List ℕ) → Result (List (ℕ × ℕ)) ℕ
entries_of_lines number [] = Ok []
entries_of_lines number (line ∷ lines) = with_gate_line number (entry_of_line line) (entries_of_lines (number + 1) lines)

-- the entries that a text denotes, one a line, or the number of its first bad line, counted from 1
abbrev pub entries_of_text : List ℕ → Result (List (ℕ × ℕ)) ℕ
entries_of_text text = entries_of_lines 1 (lines_of text)

-- the upper case hexadecimal digit of a number below 16
abbrev pub hex_digit : ℕ → ℕ
hex_digit n = if nat_lt n 10 then 48 + n else 55 + n

-- the line of an entry: its gate states in two upper case digits, a space, and the interval
abbrev pub line_of_gates : (ℕ × ℕ) → List ℕ
line_of_gates entry = hex_digit (entry.0 / 16) ∷ hex_digit (entry.0 % 16) ∷ 32 ∷ decimal entry.1

-- the text of entries, one a line
abbrev pub text_of_entries : List (ℕ × ℕ) → List ℕ
text_of_entries [] = []
text_of_entries (entry ∷ entries) = line_of_gates entry ++ 10 ∷ text_of_entries entries
