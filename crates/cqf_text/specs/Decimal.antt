-- Decimal numbers in text.
use Rattle.std.specs.Prelude.{ℕ, ◌&&◌, Bool, List, length, nat_le, Option, Some, None, if◌then◌else◌}
use Rattle.std.specs.Char.{is_ascii_digit}
use Rattle.std.specs.List.{list_all}
use Rattle.std.specs.Str.Parse.{digits_value}
use Rattle.std.specs.Option.{option_and_then}

-- one to twenty digits, leading zeros allowed
abbrev pub is_decimal : List ℕ → Bool
is_decimal digits = nat_le 1 (length digits) && nat_le (length digits) 20 && list_all is_ascii_digit digits

-- the number that a text denotes, if it has the form of one
abbrev pub decimal_value : List ℕ → Option ℕ
decimal_value digits = if is_decimal digits then Some (digits_value 10 digits) else None

-- the number, if it is in the range
abbrev pub in_range : ℕ → ℕ → ℕ → Option ℕ
in_range least most number = if nat_le least number && nat_le number most then Some number else None

-- the number that a text denotes, if it has the form of one and the number is in the range
abbrev pub decimal_in : ℕ → ℕ → List ℕ → Option ℕ
decimal_in least most digits = option_and_then (in_range least most) (decimal_value digits)
