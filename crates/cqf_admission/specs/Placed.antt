-- Where lines and names are in a script's text.
use Rattle.std.specs.Prelude.{ℕ, ◌≡◌, ◌-◌, ◌≤◌, List, length}
use Rattle.std.specs.Str.{IsUtf8}
use Rattle.cqf_admission.specs.Orders.{word_at}

-- the line is in the text and ends at index `end`
pub record LineEnds (text : List ℕ) (end : ℕ) (line : List ℕ) : Type 0 where
  pub inside : end ≤ length text
  pub long : length line ≤ end
  pub is : word_at text (end - length line) (length line) ≡ line

-- the name is in the text, ends at index `end`, and is UTF-8
pub record NameEnds (text : List ℕ) (end : ℕ) (name : List ℕ) : Type 0 where
  pub ends : LineEnds text end name
  pub utf8 : IsUtf8 name
