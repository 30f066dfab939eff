-- The lines of a script: `N admit WORD`, `N withdraw WORD` or `seal`.
use Rattle.std.specs.Prelude.{ℕ, ◌-◌, ◌&&◌, Bool, List, [], ◌∷◌, Option, Some, None, if◌then◌else◌}
use Rattle.std.specs.Prelude.{codes, drop, length, nat_le, option_and_then, option_map, take}
use Rattle.std.specs.List.{list_all}
use Rattle.cqf_lists.specs.Lists.{or_else}
use Rattle.cqf_model.specs.Domain.{is_text}
use Rattle.cqf_admission.specs.declared.lines.Wish.{Wish}
use Rattle.cqf_admission.specs.declared.lines.Wish.TheVariants.{Admit, Withdraw}

-- an administrator's order: the administrator, what is to be done, and the stream's name
pub record Written : Type 0 where
  pub seat : ℕ
  pub wish : Wish
  pub name : List ℕ

-- the digit of an administrator, 0 to 7
abbrev pub is_seat_digit : ℕ → Bool
is_seat_digit byte = nat_le 48 byte && nat_le byte 55

-- the administrator of a digit
abbrev pub seat_of_digit : ℕ → Option ℕ
seat_of_digit byte = if is_seat_digit byte then Some (byte - 48) else None

-- a byte of a word: printable ASCII without the space
abbrev pub is_word_byte : ℕ → Bool
is_word_byte byte = nat_le 33 byte && nat_le byte 126

-- a word has 1 to 64 such bytes
abbrev pub is_word : List ℕ → Bool
is_word bytes = nat_le 1 (length bytes) && nat_le (length bytes) 64 && list_all is_word_byte bytes

abbrev pub if_word : List ℕ → Option (List ℕ)
if_word bytes = if is_word bytes then Some bytes else None

-- the word that follows a prefix, up to the end of the line
abbrev pub word_after : List ℕ → List ℕ → Option (List ℕ)
word_after start text = if is_text start (take (length start) text) then if_word (drop (length start) text) else None

-- the order of an administrator, given what follows the digit
abbrev pub order_of : Wish → ℕ → Option (List ℕ) → Option Written
order_of wish seat name = option_map (λ word. record { seat = seat; wish = wish; name = word }) name

abbrev pub order_after : List ℕ → ℕ → Option Written
order_after rest seat =
    or_else (order_of Admit seat (word_after (codes " admit ") rest)) (order_of Withdraw seat (word_after (codes " withdraw ") rest))

-- the order that a line writes, if it writes one
abbrev pub order_of_line : List ℕ → Option Written
order_of_line [] = None
order_of_line (digit ∷ rest) = option_and_then (order_after rest) (seat_of_digit digit)

-- the line closes a cycle to changes
abbrev pub is_seal_line : List ℕ → Bool
is_seal_line line = is_text line (codes "seal")
