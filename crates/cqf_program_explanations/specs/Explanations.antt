-- The form of explanations and of notes.
use Rattle.std.specs.Prelude.{ℕ, ◌≡◌, ◌++◌, ◌≤◌, ◌||◌, List, [], ◌∷◌, if◌then◌else◌, codes, length, map, nat_lt}
use Rattle.std.specs.List.{flat_map}

-- a byte as it is printed: a question mark if it isn't a printable one of ASCII. Texts are escaped before, so there is no such byte
abbrev pub printable : ℕ → ℕ
printable byte = if nat_lt byte 32 || nat_lt 126 byte then 63 else byte

-- a line as it is printed: after its start, with its line feed
abbrev pub reported_line : List ℕ → List ℕ → List ℕ
reported_line start line = start ++ (map printable line ++ 10 ∷ [])

-- no line, or at most `most` lines, each with this start and with only printable characters of ASCII
pub record AreReportedLines (most : ℕ) (start text : List ℕ) : Type 0 where
  pub lines : List (List ℕ)
  pub few : length lines ≤ most
  pub text_is : text ≡ flat_map (reported_line start) lines

-- an explanation: no line, or up to 21, each after two blanks
abbrev pub IsExplanation : List ℕ → Type 0
IsExplanation text = AreReportedLines 21 (codes "  ") text

-- notes: no line, or up to 21
abbrev pub AreNotes : List ℕ → Type 0
AreNotes text = AreReportedLines 21 (codes "note: ") text
