-- Words are ASCII, and so UTF-8.
use Rattle.std.proofs.Common.{◌≡◌, ◌<◌, ℕ, List, true, arith, slice_index_or}
use Rattle.std.specs.List.{list_all}
use Rattle.std.specs.Str.{IsUtf8}
use Rattle.std.proofs.lemmas.Str.{IsUtf8-from_ascii}
use Rattle.std.proofs.lemmas.Str.Ascii.{IsAscii-from_all}
use Rattle.std.proofs.lemmas.List.Sums.{AllPass-from_list_all}
use Rattle.std.proofs.lemmas.Bool.Decides.{nat_tests}
use Rattle.cqf_admission.specs.Lines.{is_word, is_word_byte}

-- a byte of a word is ASCII
word_byte-ascii : (b : ℕ) → is_word_byte b ≡ true → b < 128
word_byte-ascii b e = grind (arith, nat_tests)

-- bytes of words are UTF-8
word_bytes-utf8 : (bs : List ℕ) → list_all is_word_byte bs ≡ true → IsUtf8 bs
word_bytes-utf8 bs e = IsUtf8-from_ascii bs (IsAscii-from_all bs
    (λ k d h. word_byte-ascii (slice_index_or bs k d) (AllPass-from_list_all is_word_byte bs e k d h)))

-- a word is UTF-8
pub word-utf8 : (bs : List ℕ) → is_word bs ≡ true → IsUtf8 bs
word-utf8 bs e = word_bytes-utf8 bs (grind arith)
