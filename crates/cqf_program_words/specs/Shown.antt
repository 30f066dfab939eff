-- The program's own lines that show a text with any content.
use Rattle.std.specs.Prelude.{ℕ, ◌≡◌, ◌⊎◌, ◌++◌, ◌&&◌, Bool, false, List, [], codes, length, nat_le}
use Rattle.std.specs.List.{list_all}
use Rattle.std.specs.Str.{chars}
use Rattle.clap.specs.Words.{Text}
use Rattle.cqf_output.specs.Stops.{line_of}
use Rattle.cqf_output.specs.declared.stops.Stop.{Stop}

-- a printable character of ASCII. A terminal may do something else with other characters than print them, or print what looks like another
abbrev pub is_plain : ℕ → Bool
is_plain character = nat_le 32 character && nat_le character 126

-- a text of such characters, and such texts
abbrev pub is_printable : Text → Bool
is_printable text = list_all is_plain (chars text)

abbrev pub are_printable : List Text → Bool
are_printable words = list_all is_printable words

-- a text that a line shows unchanged: it is printable, and has no more than 200 characters
abbrev pub is_shown_whole : Text → Bool
is_shown_whole text = is_printable text && nat_le (length (chars text)) 200

-- the new text is the old one, and possibly more after it
pub record Lengthens (old new : List ℕ) : Type 0 where
  pub more : List ℕ
  pub is : new ≡ old ++ more

-- how the line begins if the first line of the input isn't a command, and if the words aren't one
abbrev pub no_command : List ℕ
no_command = codes "cqf: the first line of the input isn't a command: "

abbrev pub no_words : List ℕ
no_words = codes "cqf: the words aren't a command:"

-- a line that begins so, and shows something after that
pub record ShowsAfter (start text : List ℕ) : Type 0 where
  pub shown : List ℕ
  pub is : text ≡ line_of (start ++ shown)

-- an end with status 2 and such a line, or with status 3 if an allocation for it fails
pub record EndsShown (start : List ℕ) (stop : Stop) : Type 0 where
  pub statuses : (stop.status ≡ 2) ⊎ (stop.status ≡ 3)
  pub shows : stop.status ≡ 2 → ShowsAfter start stop.text.items
  pub memory : stop.status ≡ 3 → stop.text.items ≡ []

-- a mistake in words that aren't all printable ends with such a line, which shows them escaped. For other words the text is clap's
abbrev pub ShowsWords : List Text → Stop → Type 0
ShowsWords words stop = stop.status ≡ 2 → are_printable words ≡ false → ShowsAfter no_words stop.text.items

-- and so does a mistake in a first line of the input that isn't shown unchanged
abbrev pub ShowsLine : Text → Stop → Type 0
ShowsLine line stop = stop.status ≡ 2 → is_shown_whole line ≡ false → ShowsAfter no_command stop.text.items
