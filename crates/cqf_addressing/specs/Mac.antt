-- Destination addresses of frames, and how they are written.
use Rattle.std.specs.Prelude.{ℕ, ◌≡◌, ◌+◌, ◌*◌, ◌/◌, ◌%◌, ◌<◌, ◌==◌, ◌&&◌, ◌++◌, Bool, not, All, IsTrue, List, [], ◌∷◌, Option, Some, None, if◌then◌else◌}
use Rattle.std.specs.Prelude.{bytes_eq, length, nat_lt, option_and_then, slice_index, take}
use Rattle.std.specs.Char.{digit_value, is_digit}

-- bridges forward to an address unless it is all zeros, the address of no station, or one of 01:80:c2:00:00:00 to 01:80:c2:00:00:0f (IEEE
-- Std 802.1Q-2018, 8.6.3)
abbrev pub nobody : List ℕ
nobody = 0 ∷ 0 ∷ 0 ∷ 0 ∷ 0 ∷ 0 ∷ []

abbrev pub reserved_front : List ℕ
reserved_front = 0x01 ∷ 0x80 ∷ 0xc2 ∷ 0x00 ∷ 0x00 ∷ []

abbrev pub is_forwarded : List ℕ → Bool
is_forwarded octets = not (bytes_eq octets nobody) && not (bytes_eq (take 5 octets) reserved_front && nat_lt (slice_index octets 5) 16)

-- the address of a stream's frames: six octets, and bridges forward to it
pub record IsMac (octets : List ℕ) : Type 0 where
  pub six : length octets ≡ 6
  pub octet : All (λ octet. octet < 256) octets
  pub forwarded : IsTrue (is_forwarded octets)

-- the octet of two hexadecimal digits of either case; and the one that is written at an index of a text
abbrev pub octet_of : ℕ → ℕ → Option ℕ
octet_of high low = if is_digit high 16 && is_digit low 16 then Some (16 * digit_value high + digit_value low) else None

abbrev pub octet_at : List ℕ → ℕ → Option ℕ
octet_at text index = octet_of (slice_index text index) (slice_index text (index + 1))

-- whether there is a `:` between any two neighboring octets
abbrev pub has_colons : List ℕ → Bool
has_colons text =
    (slice_index text 2 == 58) && (slice_index text 5 == 58) && (slice_index text 8 == 58) && (slice_index text 11 == 58) && (slice_index text 14 == 58)

-- the octets of an address, if bridges forward to it
abbrev pub if_forwarded : List ℕ → Option (List ℕ)
if_forwarded octets = if is_forwarded octets then Some octets else None

-- the octets that a text writes at their indexes
abbrev pub octets_of : List ℕ → Option (List ℕ)
octets_of text =
    option_and_then (λ (a : ℕ). option_and_then (λ (b : ℕ). option_and_then (λ (c : ℕ). option_and_then (λ (d : ℕ). option_and_then (λ (e : ℕ).
    option_and_then (λ (f : ℕ). Some (a ∷ b ∷ c ∷ d ∷ e ∷ f ∷ []))
    (octet_at text 15)) (octet_at text 12)) (octet_at text 9)) (octet_at text 6)) (octet_at text 3)) (octet_at text 0)

-- the address that a text writes: six octets, separated by `:`
abbrev pub mac_of_text : List ℕ → Option (List ℕ)
mac_of_text text = if (length text == 17) && has_colons text then option_and_then if_forwarded (octets_of text) else None

-- the lower case digit of a number below 16, and an octet as two digits
abbrev pub hex_digit : ℕ → ℕ
hex_digit n = if nat_lt n 10 then 48 + n else 87 + n

abbrev pub hex_pair : ℕ → List ℕ
hex_pair octet = hex_digit (octet / 16) ∷ hex_digit (octet % 16) ∷ []

-- an address as it is written: two digits for each octet, separated by `:`
abbrev pub mac_text : List ℕ → List ℕ
mac_text octets =
    hex_pair (slice_index octets 0)
    ++ (58 ∷ []
    ++ (hex_pair (slice_index octets 1)
    ++ (58 ∷ []
    ++ (hex_pair (slice_index octets 2)
    ++ (58 ∷ []
    ++ (hex_pair (slice_index octets 3)
    ++ (58 ∷ [] ++ (hex_pair (slice_index octets 4) ++ (58 ∷ [] ++ hex_pair (slice_index octets 5))))))))))
