-- The lines of a text that is put together from pieces, read one by one.
use Rattle.std.proofs.Common.{ℕ, ◌≡◌, ◌++◌, ◌∙◌, Bool, true, false, not, List, [], ◌∷◌, All, ap, arith, append-nil, append_assoc, map, refl, suc, sym}
use Rattle.std.specs.List.{flat_map, list_all, slice_split}
use Rattle.std.proofs.lemmas.List.Splits.{slice_split_at}
use Rattle.std.proofs.lemmas.List.Sums.{AllPass-from_list_all}
use Rattle.cqf_program_json.specs.Arrays.{elements, listed}
use Rattle.cqf_program_json.specs.Items.{Item, items_in, items_of}
use Rattle.cqf_program_json.proofs.Parts.{IsWithin, is_within, within_then}
use Rattle.cqf_text.proofs.LineLemmas.{slice_split-some, without_empty_last-cons}
use Rattle.cqf_text.specs.Lines.{is_line_feed, lines_of, without_empty_last}

is_false : (b : Bool) → not b ≡ true → b ≡ false
is_false false h = refl
is_false true h = absurd cc

-- the first line of a text
first_line : (line rest : List ℕ) → IsWithin line → lines_of (line ++ 10 ∷ rest) ≡ line ∷ lines_of rest
first_line line rest within =
    let none : All (λ x. is_line_feed x ≡ false) line =
    λ k d inside. is_false (is_line_feed _) (AllPass-from_list_all is_within line within k d inside) in
    ap without_empty_last (slice_split_at is_line_feed line 10 rest none refl)
    ∙ without_empty_last-cons line (slice_split is_line_feed rest) (slice_split-some rest)

-- its items come before those of the other lines
pub line_says : (line rest : List ℕ) → IsWithin line → items_of (line ++ 10 ∷ rest) ≡ items_in line ++ items_of rest
line_says line rest within = ap (flat_map items_in) (first_line line rest within)

-- a line of a prefix, a value and what follows it
pub value_line : (front value tail rest : List ℕ) → IsWithin front → IsWithin value → IsWithin tail →
    items_of (front ++ (value ++ (tail ++ 10 ∷ rest))) ≡ items_in (front ++ (value ++ tail)) ++ items_of rest
value_line front value tail rest of_front of_value of_tail =
    let joined : front ++ (value ++ (tail ++ 10 ∷ rest)) ≡ (front ++ (value ++ tail)) ++ 10 ∷ rest = simp append_assoc in
    ap items_of joined ∙ line_says (front ++ (value ++ tail)) rest (within_then front (value ++ tail) of_front (within_then value tail of_value of_tail))

-- a text that ends within a line: the line ends after it, with a comma or without
abbrev pub close : Bool → List ℕ → List ℕ
close false rest = 10 ∷ rest
close true rest = 44 ∷ 10 ∷ rest

-- its lines give these items
abbrev pub Says : List ℕ → List Item → Type 0
Says text items = (comma : Bool) (rest : List ℕ) → items_of (text ++ close comma rest) ≡ items ++ items_of rest

-- a line that gives nothing, for any text after its prefix
abbrev pub IsSilent : List ℕ → Type 0
IsSilent front = (rest : List ℕ) → items_in (front ++ rest) ≡ []

pub silent_line : (line rest : List ℕ) → IsWithin line → IsSilent line → items_of (line ++ 10 ∷ rest) ≡ items_of rest
silent_line line rest within silent =
    line_says line rest within ∙ ap (λ (items : List Item). items ++ items_of rest) (ap items_in (sym (append-nil line)) ∙ silent [])

-- a line that gives the same with a comma after it
pub line_end : (line : List ℕ) (items : List Item) → IsWithin line → ((end : List ℕ) → items_in (line ++ end) ≡ items) → Says line items
line_end line items within each false rest =
    line_says line rest within ∙ ap (λ (z : List Item). z ++ items_of rest) (ap items_in (sym (append-nil line)) ∙ each [])
line_end line items within each true rest =
    ap items_of (sym (append_assoc line (44 ∷ []) (10 ∷ rest)))
    ∙ line_says (line ++ 44 ∷ []) rest (within_then line (44 ∷ []) within refl)
    ∙ ap (λ (z : List Item). z ++ items_of rest) (each (44 ∷ []))

pub silent_end : (line : List ℕ) → IsWithin line → IsSilent line → Says line []
silent_end line within silent = line_end line [] within silent

-- a line with a value that gives nothing
pub silent_value : (front value tail rest : List ℕ) → IsWithin front → IsWithin value → IsWithin tail → IsSilent front →
    items_of (front ++ (value ++ (tail ++ 10 ∷ rest))) ≡ items_of rest
silent_value front value tail rest of_front of_value of_tail silent =
    value_line front value tail rest of_front of_value of_tail ∙ ap (λ (items : List Item). items ++ items_of rest) (silent (value ++ tail))

module _ {A : Type 0} (text : A → List ℕ) (items : A → List Item) where
  -- each of these elements gives its items
  abbrev pub EachSays : List A → Type 0
  EachSays [] = Unit {0}
  EachSays (x ∷ xs) = Says (text x) (items x) × EachSays xs

  pub all_say : ((x : A) → Says (text x) (items x)) → (xs : List A) → EachSays xs
  all_say each [] = tt
  all_say each (x ∷ xs) = (each x, all_say each xs)

  pub each_says : (P : A → Type 0) → ((x : A) → P x → Says (text x) (items x)) → (xs : List A) → All P xs → EachSays xs
  each_says P each [] all = tt
  each_says P each (x ∷ xs) all = (each x (all 0 x (omega arith)), each_says P each xs (λ k d inside. all (suc k) d (omega arith)))

  -- elements up to the end of the last line
  more_say : (x : A) (xs : List A) (rest : List ℕ) → EachSays (x ∷ xs) →
      items_of (text x ++ (listed false (map text xs) ++ 10 ∷ rest)) ≡ flat_map items (x ∷ xs) ++ items_of rest
  more_say x [] rest each = each.0 false rest ∙ ap (λ (z : List Item). z ++ items_of rest) (sym (append-nil (items x)))
  more_say x (y ∷ ys) rest each =
      let following : List ℕ = listed false (map text ys) in
      each.0 true ((text y ++ following) ++ 10 ∷ rest)
      ∙ ap (λ (z : List ℕ). items x ++ items_of z) (append_assoc (text y) following (10 ∷ rest))
      ∙ ap (λ (z : List Item). items x ++ z) (more_say y ys rest each.1)
      ∙ sym (append_assoc (items x) (flat_map items (y ∷ ys)) (items_of rest))

  -- an array: the line that opens it, its elements, and the line that ends it
  pub array_says : (line blanks : List ℕ) (xs : List A) → IsWithin line → IsSilent line → IsWithin (blanks ++ 93 ∷ []) → IsSilent (blanks ++ 93 ∷ []) →
      EachSays xs → (comma : Bool) (rest : List ℕ) →
      items_of (line ++ (elements blanks (map text xs) ++ close comma rest)) ≡ flat_map items xs ++ items_of rest
  array_says line blanks [] within silent end_within end_silent each comma rest =
      ap items_of (sym (append_assoc line (93 ∷ []) (close comma rest)))
      ∙ silent_end (line ++ 93 ∷ []) (within_then line (93 ∷ []) within refl) (λ more. ap items_in (append_assoc line (93 ∷ []) more) ∙ silent (93 ∷ more)) comma rest
  array_says line blanks (x ∷ xs) within silent end_within end_silent each comma rest =
      let following : List ℕ = listed false (map text xs) in
      let last : List ℕ = blanks ++ 93 ∷ [] in
      let parts : ((text x ++ following) ++ 10 ∷ last) ++ close comma rest ≡ text x ++ (following ++ 10 ∷ (last ++ close comma rest)) =
      append_assoc (text x ++ following) (10 ∷ last) (close comma rest) ∙ append_assoc (text x) following (10 ∷ (last ++ close comma rest)) in
      silent_line line (((text x ++ following) ++ 10 ∷ last) ++ close comma rest) within silent
      ∙ ap items_of parts
      ∙ more_say x xs (last ++ close comma rest) each
      ∙ ap (λ (z : List Item). flat_map items (x ∷ xs) ++ z) (silent_end last end_within end_silent comma rest)

-- items that are one each
pub ones : {A : Type 0} (item : A → Item) (xs : List A) → flat_map (λ (x : A). item x ∷ []) xs ≡ map item xs
ones item [] = refl
ones item (x ∷ xs) = ap (λ (z : List Item). item x ∷ z) (ones item xs)
