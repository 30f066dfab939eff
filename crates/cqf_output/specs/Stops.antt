-- Ends of the program before its work is done, and what it means that an input is refused.
use Rattle.std.specs.Prelude.{ℕ, ◌≡◌, ◌⊎◌, ◌++◌, List, [], ◌∷◌, Result, Ok, Err, codes}
use Rattle.cqf_output.specs.declared.stops.Stop.{Stop}

-- an end with this status and this line, or with status 3 (a failed allocation) and no text
pub record EndsWith (status : ℕ) (line : List ℕ) (stop : Stop) : Type 0 where
  pub statuses : (stop.status ≡ status) ⊎ (stop.status ≡ 3)
  pub line_is : stop.status ≡ status → stop.text.items ≡ line
  pub memory : stop.status ≡ 3 → stop.text.items ≡ []

-- an end with exactly this status and this text
pub record EndsJustWith (status : ℕ) (text : List ℕ) (stop : Stop) : Type 0 where
  pub status_is : stop.status ≡ status
  pub text_is : stop.text.items ≡ text

-- the text with a line feed after it
abbrev pub line_of : List ℕ → List ℕ
line_of text = text ++ 10 ∷ []

-- the line that reports a fault in a part of the input: `cqf:`, the part's name, and the fault's text
abbrev pub fault_line : List ℕ → List ℕ → List ℕ
fault_line part fault = line_of (codes "cqf: " ++ (part ++ (codes ": " ++ fault)))

-- the value, or the line of its fault
abbrev pub or_line : {A E : Type 0} → (E → List ℕ) → Result A E → Result A (List ℕ)
or_line line (Ok value) = Ok value
or_line line (Err fault) = Err (line fault)

-- the end has status 1, and then its text is the line that `found` is refused with; or it has status 3 (a failed allocation) and no text
pub record IsRefused {A : Type 0} (found : Result A (List ℕ)) (stop : Stop) : Type 0 where
  pub statuses : (stop.status ≡ 1) ⊎ (stop.status ≡ 3)
  pub line : stop.status ≡ 1 → found ≡ Err stop.text.items
  pub memory : stop.status ≡ 3 → stop.text.items ≡ []
