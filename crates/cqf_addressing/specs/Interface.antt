-- The form of the name of an interface.
use Rattle.std.specs.Prelude.{ℕ, ◌==◌, ◌||◌, ◌&&◌, Bool, false, List, [], ◌∷◌, Option, Some, None, if◌then◌else◌, length, nat_le}
use Rattle.std.specs.List.{list_all}

-- a letter or a digit
abbrev pub is_alphanumeric : ℕ → Bool
is_alphanumeric c = (nat_le 97 c && nat_le c 122) || (nat_le 65 c && nat_le c 90) || (nat_le 48 c && nat_le c 57)

-- a letter or a digit, or `.`, `_`, `-` or `@`
abbrev pub is_interface_byte : ℕ → Bool
is_interface_byte c = is_alphanumeric c || (c == 46) || (c == 95) || (c == 45) || (c == 64)

-- 1 to 15 such bytes, the first a letter or a digit
abbrev pub is_interface : List ℕ → Bool
is_interface [] = false
is_interface (first ∷ rest) = is_alphanumeric first && nat_le (length rest) 14 && list_all is_interface_byte rest

-- the bytes, if they have the form of the name of an interface
abbrev pub interface_of : List ℕ → Option (List ℕ)
interface_of bytes = if is_interface bytes then Some bytes else None
