-- The parts of a command's input.
use Rattle.std.specs.Prelude.{ℕ, List, [], ◌∷◌, Option, Some, None, Result, Ok, Err, codes}
use Rattle.cqf_output.specs.Stops.{line_of}

-- the line if the input has the wrong number of parts
abbrev pub parts_line : List ℕ
parts_line = line_of (codes "cqf: parts")

-- the part of an input that has one part; else the line that says so
abbrev pub one_part : List (List ℕ) → Result (List ℕ) (List ℕ)
one_part (part ∷ []) = Ok part
one_part _ = Err parts_line

-- the two parts of an input that has two parts; else the line that says so
abbrev pub two_parts : List (List ℕ) → Result (List ℕ × List ℕ) (List ℕ)
two_parts (first ∷ second ∷ []) = Ok (first, second)
two_parts _ = Err parts_line

-- the parts of a run: its domain, streams, script and offers, and its background frames if there is a fifth part
pub record RunTexts : Type 0 where
  pub domain : List ℕ
  pub streams : List ℕ
  pub script : List ℕ
  pub offers : List ℕ
  pub background : Option (List ℕ)

-- the parts of an input that has four or five parts; else the line that says so
abbrev pub run_parts : List (List ℕ) → Result RunTexts (List ℕ)
run_parts (domain ∷ streams ∷ script ∷ offers ∷ []) =
    Ok (record { domain = domain; streams = streams; script = script; offers = offers; background = None })
run_parts (domain ∷ streams ∷ script ∷ offers ∷ background ∷ []) =
    Ok (record { domain = domain; streams = streams; script = script; offers = offers; background = Some background })
run_parts _ = Err parts_line
