-- What is written is read back.
use Rattle.std.proofs.Common.{ℕ, ◌≡◌, ◌+◌, ◌-◌, ◌*◌, ◌/◌, ◌%◌, ◌^◌, ◌<◌, ◌≤◌, zero, suc, List, [], ◌∷◌, ◌++◌, length}
use Rattle.std.proofs.Common.{take, drop, get_or, All, true, false, ltb, leb, eqb, Some, Ok, refl, ap, ◌∙◌, arith}
use Rattle.std.proofs.Common.{length-append}
use Rattle.std.specs.Char.{digit_value, is_ascii_digit}
use Rattle.std.specs.Fmt.{decimal}
use Rattle.std.specs.List.{list_all, list_any, position_or_len, before_first, after_first}
use Rattle.std.specs.Str.Parse.{digits_value}
use Rattle.std.proofs.lemmas.Bool.Decides.{nat_tests}
use Rattle.std.proofs.lemmas.Fmt.{decimal_nonempty, length-decimal-le, digits_decimal, digits_value-decimal}
use Rattle.std.proofs.lemmas.List.Sums.{position_or_len_is, AllPass-from_list_all}
use Rattle.std.proofs.lemmas.List.Folds.{list_any_none}
use Rattle.std.proofs.Math.Seq.{take-append_seam, drop-append-add, get_or-append_seam}
use Rattle.std.proofs.lemmas.List.{get_or_append_left}
use Rattle.cqf_model.specs.GateList.{Entry}
use Rattle.cqf_text.proofs.DecimalLemmas.{own}
use Rattle.cqf_text.proofs.LineLemmas.{lines_of-first}
use Rattle.cqf_text.specs.Decimal.{is_decimal, decimal_in}
use Rattle.cqf_gates.specs.GateListText.{entry_of_line, entries_of_lines, with_gate_line, hex_digit, line_of_gates, text_of_entries}
use Rattle.cqf_text.specs.Lines.{is_line_feed, lines_of}
use Rattle.cqf_gates.specs.TxList.{IsTxList, tx_list_of}
use Rattle.cqf_gates.specs.TxText.{list_of_text}

-- a hexadecimal digit is read as its number
digit_value-hex : (n : ℕ) → n < 16 → digit_value (hex_digit n) ≡ n
digit_value-hex n h = grind (arith, nat_tests)

-- and isn't a line feed
hex-no_feed : (n : ℕ) → n < 16 → is_line_feed (hex_digit n) ≡ false
hex-no_feed n h = grind (arith, nat_tests)

-- a decimal number is read as its number
decimal_in-decimal : (n most : ℕ) → n ≤ most → most < 2 ^ 64 → decimal_in 0 most (decimal n) ≡ Some n
decimal_in-decimal n most h small =
    let some = decimal_nonempty n (omega arith) in
    let short = length-decimal-le 20 n (omega arith) (omega arith) (omega arith) in
    let digits : list_all is_ascii_digit (decimal n) ≡ true = digits_decimal own n (omega arith) in
    let value : digits_value 10 (decimal n) ≡ n = digits_value-decimal own n (omega arith) in
    let one : leb 1 (length (decimal n)) ≡ true = grind (arith, nat_tests) in
    let twenty : leb (length (decimal n)) 20 ≡ true = grind (arith, nat_tests) in
    let least : leb 0 n ≡ true = grind (arith, nat_tests) in
    let inside : leb n most ≡ true = grind (arith, nat_tests) in
    let form : is_decimal (decimal n) ≡ true = rw (one, twenty, digits) in
    rw (form, value, least, inside)

-- a digit isn't a line feed
digit-no_feed : (c : ℕ) → is_ascii_digit c ≡ true → is_line_feed c ≡ false
digit-no_feed c h = grind (arith, nat_tests)

-- a decimal number has no line feed
decimal-no_feed : (n k : ℕ) → n < 2 ^ 64 → k < length (decimal n) → is_line_feed (get_or (decimal n) k 0) ≡ false
decimal-no_feed n k small inside =
    let digit : is_ascii_digit (get_or (decimal n) k 0) ≡ true = AllPass-from_list_all is_ascii_digit (decimal n) (digits_decimal own n small) k 0 inside in
    digit-no_feed (get_or (decimal n) k 0) digit

-- a line that is written is read as its entry
entry_of_line-line : (entry : Entry) → entry.0 < 256 → entry.1 < 2 ^ 32 → entry_of_line (line_of_gates entry) ≡ Some entry
entry_of_line-line entry states interval =
    let high : digit_value (hex_digit (entry.0 / 16)) ≡ entry.0 / 16 = digit_value-hex (entry.0 / 16) (omega arith) in
    let low : digit_value (hex_digit (entry.0 % 16)) ≡ entry.0 % 16 = digit_value-hex (entry.0 % 16) (omega arith) in
    let high_digit : ltb (entry.0 / 16) 16 ≡ true = grind (arith, nat_tests) in
    let low_digit : ltb (entry.0 % 16) 16 ≡ true = grind (arith, nat_tests) in
    let number : decimal_in 0 (2 ^ 32 - 1) (decimal entry.1) ≡ Some entry.1 = decimal_in-decimal entry.1 (2 ^ 32 - 1) (omega arith) (omega arith) in
    let whole : 16 * (entry.0 / 16) + entry.0 % 16 ≡ entry.0 = omega arith in
    simp (high, low, high_digit, low_digit, number, whole)

-- a written line has no line feed
line-no_feed : (entry : Entry) (k : ℕ) → entry.0 < 256 → entry.1 < 2 ^ 32 → k < length (line_of_gates entry) →
    is_line_feed (get_or (line_of_gates entry) k 0) ≡ false
line-no_feed entry zero states interval inside = hex-no_feed (entry.0 / 16) (omega arith)
line-no_feed entry (suc zero) states interval inside = hex-no_feed (entry.0 % 16) (omega arith)
line-no_feed entry (suc (suc zero)) states interval inside = refl
line-no_feed entry (suc (suc (suc k))) states interval inside = decimal-no_feed entry.1 k (omega arith) (omega arith)

-- a line without a line feed is the first line
lines_of-line : (line rest : List ℕ) → ((k : ℕ) → k < length line → is_line_feed (get_or line k 0) ≡ false) → lines_of (line ++ 10 ∷ rest)
    ≡ line ∷ lines_of rest
lines_of-line line rest none =
    let text : List ℕ = line ++ 10 ∷ rest in
    let longer : length line < length text = omega (arith, length-append line (10 ∷ rest)) in
    let seam : get_or text (length line) 0 ≡ 10 = get_or-append_seam line 10 rest 0 in
    let index : position_or_len is_line_feed text ≡ length line =
    position_or_len_is is_line_feed text (length line) 0 (omega arith) (λ k h. rw (get_or_append_left line (10 ∷ rest) 0 k h) (none k h)) (λ _. rw seam) in
    let front : before_first is_line_feed text ≡ line = ap (λ n. take n text) index ∙ take-append_seam line (10 ∷ rest) in
    let back : after_first is_line_feed text ≡ rest = ap (λ n. drop (n + 1) text) index ∙ drop-append-add line (10 ∷ rest) 1 in
    let first : lines_of text ≡ before_first is_line_feed text ∷ lines_of (after_first is_line_feed text) = lines_of-first text (omega arith) in
    rw (first, front, back)

-- the lines of what is written are read as the entries
entries_of_lines-text : (number : ℕ) (entries : List Entry) → All (λ (entry : Entry). (entry.0 < 256) × (entry.1 < 2 ^ 32)) entries →
    entries_of_lines number (lines_of (text_of_entries entries)) ≡ Ok entries
entries_of_lines-text number [] ranges = refl
entries_of_lines-text number (entry ∷ entries) ranges =
    let range = ranges 0 (0, 0) (omega arith) in
    let first : lines_of (text_of_entries (entry ∷ entries)) ≡ line_of_gates entry ∷ lines_of (text_of_entries entries) =
    lines_of-line (line_of_gates entry) (text_of_entries entries) (λ k inside. line-no_feed entry k range.0 range.1 inside) in
    let good : entry_of_line (line_of_gates entry) ≡ Some entry = entry_of_line-line entry range.0 range.1 in
    let others : entries_of_lines (number + 1) (lines_of (text_of_entries entries)) ≡ Ok entries =
    entries_of_lines-text (number + 1) entries (λ k d inside. ranges (suc k) d (omega arith)) in
    ap (entries_of_lines number) first ∙ ap (λ e. with_gate_line number e (entries_of_lines (number + 1) (lines_of (text_of_entries entries)))) good
    ∙ ap (with_gate_line number (Some entry)) others

-- a number above 0 fails the test for 0
longer-test : (n : ℕ) → 0 < n → eqb n 0 ≡ false
longer-test n h = grind (arith, nat_tests)

-- the entries of a list form the list
tx_list_of-list : (entries : List Entry) → IsTxList entries → tx_list_of entries ≡ Ok entries
tx_list_of-list entries f =
    let some : eqb (length entries) 0 ≡ false = grind (arith, nat_tests, f.some) in
    let few : ltb 16 (length entries) ≡ false = grind (arith, nat_tests, f.few) in
    let none : list_any (λ (entry : Entry). eqb entry.1 0) entries ≡ false =
    list_any_none (λ (entry : Entry). eqb entry.1 0) entries (λ k d inside. longer-test (get_or entries k d).1 (f.lasting k d inside)) in
    rw (some, few, none)

-- what is written is read back as the list
pub list_of_text-text : (entries : List Entry) → IsTxList entries → All (λ (entry : Entry). (entry.0 < 256) × (entry.1 < 2 ^ 32)) entries →
    list_of_text (text_of_entries entries) ≡ Ok entries
list_of_text-text entries f ranges = rw (entries_of_lines-text 1 entries ranges, tx_list_of-list entries f)
