-- The first line of a text.
use Rattle.std.proofs.Common.{◌≡◌, ℕ, ◌<◌, ◌≤◌, ◌∙◌, List, [], ◌∷◌, length, arith, Bool, true, refl, sym, ap, inl, inr, slice_index}
use Rattle.std.specs.List.{slice_split, position_or_len, before_first, after_first}
use Rattle.std.proofs.lemmas.List.Splits.{slice_split_first, length-slice_split}
use Rattle.std.proofs.lemmas.List.Sums.{position_or_len_is}
use Rattle.std.proofs.lemmas.Bool.{cases_Bool, cases_lt}
use Rattle.std.proofs.lemmas.Grind.{common_steps}
use Rattle.cqf_text.specs.Lines.{is_line_feed, without_empty_last, lines_of}

-- if no element passes, the list is the only piece
pub slice_split-alone : (p : ℕ → Bool) (xs : List ℕ) → length xs ≤ position_or_len p xs → slice_split p xs ≡ xs ∷ []
slice_split-alone p [] h = refl
slice_split-alone p (x ∷ xs) h = grind (arith, common_steps, slice_split-alone p xs)

-- a piece that isn't the last one is a line
pub without_empty_last-cons : (piece : List ℕ) (pieces : List (List ℕ)) → 0 < length pieces →
    without_empty_last (piece ∷ pieces) ≡ piece ∷ without_empty_last pieces
without_empty_last-cons piece [] h = absurd (omega arith)
without_empty_last-cons piece (next ∷ more) h = refl

-- there is at least one piece
pub slice_split-some : (text : List ℕ) → 0 < length (slice_split is_line_feed text)
slice_split-some text = omega (arith, length-slice_split is_line_feed text)

-- the lines of one piece
pub without_empty_last-one : (piece : List ℕ) → 0 < length piece → without_empty_last (piece ∷ []) ≡ piece ∷ []
without_empty_last-one piece h = grind (arith, common_steps)

-- the first line ends at a line feed
lines_of-at_feed : (text : List ℕ) → position_or_len is_line_feed text < length text →
    lines_of text ≡ before_first is_line_feed text ∷ lines_of (after_first is_line_feed text)
lines_of-at_feed text h = ap without_empty_last (slice_split_first is_line_feed text 0 h)
    ∙ without_empty_last-cons _ _ (slice_split-some (after_first is_line_feed text))

-- the first line ends with the text
lines_of-at_end : (text : List ℕ) → 0 < length text → length text ≤ position_or_len is_line_feed text →
    lines_of text ≡ before_first is_line_feed text ∷ lines_of (after_first is_line_feed text)
lines_of-at_end text some h =
    let front : before_first is_line_feed text ≡ text = grind (arith, common_steps) in
    let back : after_first is_line_feed text ≡ [] = grind (arith, common_steps) in
    let alone : lines_of text ≡ text ∷ [] = ap without_empty_last (slice_split-alone is_line_feed text h) ∙ without_empty_last-one text some in
    let none : lines_of (after_first is_line_feed text) ≡ [] = ap lines_of back in
    cc

-- the first line of a nonempty text is first among its lines
pub lines_of-first : (text : List ℕ) → 0 < length text → lines_of text ≡ before_first is_line_feed text ∷ lines_of (after_first is_line_feed text)
lines_of-first text some = elim (cases_lt (position_or_len is_line_feed text) (length text)) [
  | inl h ↦ lines_of-at_feed text h
  | inr h ↦ lines_of-at_end text some h
]

-- the first line ends at the first line feed, or at the end of the text
pub first_feed : (text : List ℕ) (end : ℕ) → end ≤ length text → ((k : ℕ) → k < end → is_line_feed (slice_index text k) ≡ true → ⊥) →
    (end < length text → is_line_feed (slice_index text end) ≡ true) → end ≡ position_or_len is_line_feed text
first_feed text end inside none here = sym (position_or_len_is is_line_feed text end 0 inside
    (λ k below. elim (cases_Bool (is_line_feed (slice_index text k))) [ inl t ↦ absurd (none k below t) | inr f ↦ f ]) here)
