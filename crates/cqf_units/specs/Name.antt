-- The form of a name.
use Rattle.std.specs.Prelude.{ℕ, ◌==◌, ◌||◌, ◌&&◌, Bool, List, length, nat_le}
use Rattle.std.specs.List.{list_all}

-- a to z, 0 to 9, `-` or `_`
abbrev pub is_name_byte : ℕ → Bool
is_name_byte c = (nat_le 97 c && nat_le c 122) || (nat_le 48 c && nat_le c 57) || (c == 45) || (c == 95)

-- 1 to 32 such bytes
abbrev pub is_name : List ℕ → Bool
is_name bytes = nat_le 1 (length bytes) && nat_le (length bytes) 32 && list_all is_name_byte bytes
