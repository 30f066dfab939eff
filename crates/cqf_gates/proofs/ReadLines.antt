-- The lines of a gate list that have been read so far.
use Rattle.std.proofs.Common.{ℕ, ◌≡◌, ◌+◌, ◌<◌, ◌≤◌, List, [], ◌∷◌, ◌++◌, length, take, Some, None, Result, Ok, Err}
use Rattle.std.proofs.Common.{refl, ap, sym, ◌∙◌, append_assoc, arith, length-append, min, inl, inr, ltb, eqb, true}
use Rattle.std.proofs.Common.{false}
use Rattle.std.proofs.lemmas.Bool.Decides.{nat_tests, leb_tells}
use Rattle.std.proofs.lemmas.List.{take_all, take-append-le, length-take, length-take-le, append-nil}
use Rattle.cqf_model.specs.GateList.{Entry}
use Rattle.cqf_text.specs.Lines.{lines_of}
use Rattle.cqf_gates.specs.GateListText.{entry_of_line, entries_of_lines, entries_of_text, with_gate_line}
use Rattle.cqf_gates.specs.TxList.{tx_list_of}
use Rattle.cqf_gates.specs.TxText.{list_of_text, in_text}

-- the entries that were read, followed by the others if each line denotes an entry
abbrev pub after_entries : List Entry → Result (List Entry) ℕ → Result (List Entry) ℕ
after_entries read (Ok others) = Ok (read ++ others)
after_entries read (Err line) = Err line

-- some entries were read, and the first 17 are kept; the number of the first line that is left is `number`
pub record IsReadSoFar (text : List ℕ) (kept : List Entry) (number : ℕ) (left : List ℕ) : Type 0 where
  pub read : List Entry
  pub keeps : kept ≡ take 17 read
  pub goes_on : entries_of_text text ≡ after_entries read (entries_of_lines number (lines_of left))

-- with no entries read, the result is the others
after_none : (others : Result (List Entry) ℕ) → others ≡ after_entries [] others
after_none (Ok others) = refl
after_none (Err line) = refl

-- at first nothing has been read
pub read-none : (text : List ℕ) → IsReadSoFar text [] 1 text
read-none text = record { read = []; keeps = refl; goes_on = after_none _ }

-- one more entry after those that were read
after_one_more : (read : List Entry) (number : ℕ) (entry : Entry) (others : Result (List Entry) ℕ) →
    after_entries read (with_gate_line number (Some entry) others) ≡ after_entries (read ++ entry ∷ []) others
after_one_more read number entry (Ok others) = ap Ok (sym (append_assoc read (entry ∷ []) others))
after_one_more read number entry (Err line) = refl

-- the first 17 entries are kept, with one more entry
keeps-one_more : (kept after read : List Entry) (entry : Entry) → kept ≡ take 17 read → (length kept < 17 → after ≡ kept ++ entry ∷ []) →
    (17 ≤ length kept → after ≡ kept) → after ≡ take 17 (read ++ entry ∷ [])
keeps-one_more kept after read entry keeps room full =
    let sizes : length kept ≡ min 17 (length read) = ap length keeps ∙ length-take 17 read in
    elim (leb_tells 17 (length read)) [
      | inl many ↦ full (omega (arith, sizes, many.1)) ∙ keeps ∙ sym (take-append-le 17 read (entry ∷ []) (omega (arith, many.1)))
      | inr few ↦
          let whole : kept ≡ read = keeps ∙ take_all 17 read (omega (arith, few.1)) in
          let longer : length (read ++ entry ∷ []) ≤ 17 = omega (arith, few.1, length-append read (entry ∷ [])) in
          room (omega (arith, sizes, few.1)) ∙ ap (λ (xs : List Entry). xs ++ entry ∷ []) whole ∙ sym (take_all 17 (read ++ entry ∷ []) longer)
    ]

-- one more line was read
pub read-one_more : (text : List ℕ) (kept after : List Entry) (number : ℕ) (left line following : List ℕ) (entry : Entry) →
    IsReadSoFar text kept number left → lines_of left ≡ line ∷ lines_of following → entry_of_line line ≡ Some entry →
    (length kept < 17 → after ≡ kept ++ entry ∷ []) → (17 ≤ length kept → after ≡ kept) → IsReadSoFar text after (number + 1) following
read-one_more text kept after number left line following entry so_far first good room full =
    let others : Result (List Entry) ℕ = entries_of_lines (number + 1) (lines_of following) in
    let now_first : entries_of_lines number (lines_of left) ≡ with_gate_line number (entry_of_line line) others = ap (entries_of_lines number) first in
    let now_good : entries_of_lines number (lines_of left) ≡ with_gate_line number (Some entry) others =
    now_first ∙ ap (λ e. with_gate_line number e others) good in
    record {
      read = so_far.read ++ entry ∷ [];
      keeps = keeps-one_more kept after so_far.read entry so_far.keeps room full;
      goes_on = so_far.goes_on ∙ ap (after_entries so_far.read) now_good ∙ after_one_more so_far.read number entry others;
    }

-- a line that doesn't denote an entry is the first bad one
pub read-bad_line : (text : List ℕ) (kept : List Entry) (number : ℕ) (left line following : List ℕ) → IsReadSoFar text kept number left →
    lines_of left ≡ line ∷ lines_of following → entry_of_line line ≡ None → entries_of_text text ≡ Err number
read-bad_line text kept number left line following so_far first bad =
    let others : Result (List Entry) ℕ = entries_of_lines (number + 1) (lines_of following) in
    let now_bad : entries_of_lines number (lines_of left) ≡ Err number = ap (entries_of_lines number) first ∙ ap (λ e. with_gate_line number e others) bad in
    so_far.goes_on ∙ ap (after_entries so_far.read) now_bad

-- the first 17 entries have the same result as all
list_of_kept : (entries : List Entry) → tx_list_of (take 17 entries) ≡ tx_list_of entries
list_of_kept entries =
    elim (leb_tells 18 (length entries)) [
      | inl many ↦
          let kept : length (take 17 entries) ≡ 17 = length-take-le 17 entries (omega (arith, many.1)) in
          let over : ltb 16 (length entries) ≡ true = grind (arith, nat_tests, many.1) in
          let some : eqb (length entries) 0 ≡ false = grind (arith, nat_tests, many.1) in
          rw (kept, some, over)
      | inr few ↦ ap tx_list_of (take_all 17 entries (omega (arith, few.1)))
    ]

-- at the end the kept entries have the text's result
pub read-all : (text : List ℕ) (kept : List Entry) (number : ℕ) (left : List ℕ) → IsReadSoFar text kept number left → lines_of left ≡ [] →
    list_of_text text ≡ in_text (tx_list_of kept)
read-all text kept number left so_far none =
    let rest : entries_of_lines number (lines_of left) ≡ Ok [] = ap (entries_of_lines number) none in
    let whole : entries_of_text text ≡ Ok so_far.read = so_far.goes_on ∙ ap (after_entries so_far.read) rest ∙ ap Ok (append-nil so_far.read) in
    let same : tx_list_of kept ≡ tx_list_of so_far.read = ap tx_list_of so_far.keeps ∙ list_of_kept so_far.read in
    rw (whole, same)
