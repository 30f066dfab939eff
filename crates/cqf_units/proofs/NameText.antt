-- The bytes of a name are ASCII, and so UTF-8.
use Rattle.std.proofs.Common.{◌≡◌, ◌<◌, ℕ, List, true, arith, slice_index_or}
use Rattle.std.specs.List.{list_all}
use Rattle.std.specs.Str.{IsUtf8}
use Rattle.std.proofs.lemmas.Str.{IsUtf8-from_ascii}
use Rattle.std.proofs.lemmas.Str.Ascii.{IsAscii-from_all}
use Rattle.std.proofs.lemmas.List.Sums.{AllPass-from_list_all}
use Rattle.std.proofs.lemmas.Bool.Decides.{nat_tests}
use Rattle.cqf_units.specs.Name.{is_name, is_name_byte}

-- a byte of a name is ASCII
name_byte-ascii : (b : ℕ) → is_name_byte b ≡ true → b < 128
name_byte-ascii b e = grind (arith, nat_tests)

-- bytes that may occur in a name are UTF-8
pub name_bytes-utf8 : (bs : List ℕ) → list_all is_name_byte bs ≡ true → IsUtf8 bs
name_bytes-utf8 bs e = IsUtf8-from_ascii bs (IsAscii-from_all bs
    (λ k d h. name_byte-ascii (slice_index_or bs k d) (AllPass-from_list_all is_name_byte bs e k d h)))

-- a name is UTF-8
pub name-utf8 : (bs : List ℕ) → is_name bs ≡ true → IsUtf8 bs
name-utf8 bs e = name_bytes-utf8 bs (grind arith)
