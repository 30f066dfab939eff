-- The first part of an input, line by line.
use Rattle.std.proofs.Common.{◌≡◌, ◌≢◌, ℕ, ◌<◌, ◌≤◌, ◌+◌, ◌-◌, zero, suc, ◌∙◌, List, [], ◌∷◌, ◌++◌, length, get_or}
use Rattle.std.proofs.Common.{take, drop, arith, map, not, Bool, true, false}
use Rattle.std.proofs.Common.{Option, Some, None, refl, sym, ap, inl, inr, length-append, length-drop, subst}
use Rattle.std.specs.List.{slice_split, onto_first, concat, position_or_len, before_first, after_first}
use Rattle.std.proofs.lemmas.List.{append_assoc, append-nil, get_or_default, length-map, take_at, take_more, take-append-drop}
use Rattle.std.proofs.lemmas.List.Splits.{slice_split_first, slice_split-cons_yes, slice_split-cons_no, length-slice_split}
use Rattle.std.proofs.lemmas.List.Sums.{passes_at_first}
use Rattle.std.specs.List.{All}
use Rattle.std.specs.Bool.{IsTrue}
use Rattle.std.specs.Option.{is_some}
use Rattle.memchr.specs.Find.{IsFirstByte, is_byte}
use Rattle.std.proofs.lemmas.Bool.{cases_lt, ne_eqb, eq-eqb}
use Rattle.std.proofs.lemmas.List.Elements.{All-head, All-take, All-drop}
use Rattle.std.proofs.lemmas.Grind.{common_steps}
use denote.Bor.{Bor}
use Rattle.cqf_text.specs.Lines.{is_line_feed}
use Rattle.cqf_text.specs.Parts.{is_divider, with_line_feeds, whole_lines, parts_of}
use Rattle.cqf_text.proofs.LineLemmas.{slice_split-alone, slice_split-some}

-- the first line with its line feed
abbrev pub first_line : List ℕ → List ℕ
first_line text = take (position_or_len is_line_feed text + 1) text

-- the text after the first line
abbrev pub after_first_line : List ℕ → List ℕ
after_first_line text = drop (position_or_len is_line_feed text + 1) text

-- the parts, with more text at the front of the first one
abbrev pub prepend : List ℕ → List (List ℕ) → List (List ℕ)
prepend front [] = (front ++ []) ∷ []
prepend front (part ∷ parts) = (front ++ part) ∷ parts

-- prepending two texts is prepending their concatenation
prepend-append : (a b : List ℕ) (parts : List (List ℕ)) → prepend a (prepend b parts) ≡ prepend (a ++ b) parts
prepend-append a b [] = ap (λ x. x ∷ []) (sym (append_assoc a b []))
prepend-append a b (part ∷ parts) = ap (λ x. x ∷ parts) (sym (append_assoc a b part))

-- adding a line to the first group prepends it to the first part
prepend-onto_first : (line : List ℕ) (groups : List (List (List ℕ))) → map concat (onto_first line groups) ≡ prepend line (map concat groups)
prepend-onto_first line [] = refl
prepend-onto_first line (group ∷ groups) = refl

-- a piece that isn't the last one has a line feed
with_line_feeds-cons : (piece : List ℕ) (pieces : List (List ℕ)) → 0 < length pieces →
    with_line_feeds (piece ∷ pieces) ≡ (piece ++ 10 ∷ []) ∷ with_line_feeds pieces
with_line_feeds-cons piece [] h = absurd (omega arith)
with_line_feeds-cons piece (next ∷ more) h = refl

-- the first line is the text before its line feed, with the line feed
first_line-feed : (text : List ℕ) → position_or_len is_line_feed text < length text → first_line text ≡ before_first is_line_feed text ++ 10 ∷ []
first_line-feed text h =
    let feed : is_line_feed (get_or text (position_or_len is_line_feed text) 0) ≡ true = passes_at_first is_line_feed text 0 h in
    let byte : get_or text (position_or_len is_line_feed text) 0 ≡ 10 = grind (arith, common_steps) in
    take_more text (position_or_len is_line_feed text) 0 h ∙ ap (λ b. before_first is_line_feed text ++ b ∷ []) byte

-- the first line and the other ones, if it has a line feed
whole_lines-first : (text : List ℕ) → position_or_len is_line_feed text < length text →
    whole_lines text ≡ first_line text ∷ whole_lines (after_first_line text)
whole_lines-first text h = ap with_line_feeds (slice_split_first is_line_feed text 0 h)
    ∙ with_line_feeds-cons _ _ (slice_split-some (after_first is_line_feed text))
    ∙ ap (λ line. line ∷ whole_lines (after_first_line text)) (sym (first_line-feed text h))

-- a divider line begins a new part
groups-divider : (line : List ℕ) (lines : List (List ℕ)) → is_divider line ≡ true →
    map concat (slice_split is_divider (line ∷ lines)) ≡ [] ∷ map concat (slice_split is_divider lines)
groups-divider line lines h = ap (map concat) (slice_split-cons_yes is_divider line lines h)

-- a line that isn't a divider belongs to the first part
groups-other : (line : List ℕ) (lines : List (List ℕ)) → is_divider line ≡ false →
    map concat (slice_split is_divider (line ∷ lines)) ≡ prepend line (map concat (slice_split is_divider lines))
groups-other line lines h = ap (map concat) (slice_split-cons_no is_divider line lines h) ∙ prepend-onto_first line _

-- a text without a line feed is one line
first_line-alone : (text : List ℕ) → length text ≤ position_or_len is_line_feed text → first_line text ≡ text
first_line-alone text h = grind (arith, common_steps)

-- no text follows the only line
following-alone : (text : List ℕ) → length text ≤ position_or_len is_line_feed text → after_first_line text ≡ []
following-alone text h = grind (arith, common_steps)

-- the parts of a single line
parts_of-alone : (text : List ℕ) → length text ≤ position_or_len is_line_feed text → parts_of text ≡ map concat (slice_split is_divider (text ∷ []))
parts_of-alone text h = ap (λ pieces. map concat (slice_split is_divider (with_line_feeds pieces))) (slice_split-alone is_line_feed text h)

-- the parts, if the first line is a divider
pub parts_of-divider : (text : List ℕ) → is_divider (first_line text) ≡ true → parts_of text ≡ [] ∷ parts_of (after_first_line text)
parts_of-divider text h = elim (cases_lt (position_or_len is_line_feed text) (length text)) [
  | inl feed ↦ ap (λ lines. map concat (slice_split is_divider lines)) (whole_lines-first text feed)
      ∙ groups-divider (first_line text) (whole_lines (after_first_line text)) h
  | inr alone ↦
      let line : is_divider text ≡ true = ap is_divider (sym (first_line-alone text alone)) ∙ h in
      parts_of-alone text alone ∙ groups-divider text [] line
      ∙ ap (λ rest. [] ∷ parts_of rest) (sym (following-alone text alone))
]

-- the parts, if the first line isn't a divider
pub parts_of-other : (text : List ℕ) → is_divider (first_line text) ≡ false → parts_of text ≡ prepend (first_line text) (parts_of (after_first_line text))
parts_of-other text h = elim (cases_lt (position_or_len is_line_feed text) (length text)) [
  | inl feed ↦ ap (λ lines. map concat (slice_split is_divider lines)) (whole_lines-first text feed)
      ∙ groups-other (first_line text) (whole_lines (after_first_line text)) h
  | inr alone ↦
      let line : is_divider text ≡ false = ap is_divider (sym (first_line-alone text alone)) ∙ h in
      parts_of-alone text alone ∙ groups-other text [] line
      ∙ ap (λ rest. prepend text (parts_of rest)) (sym (following-alone text alone))
      ∙ ap (λ front. prepend front (parts_of (after_first_line text))) (sym (first_line-alone text alone))
]

-- the text has no percent sign
abbrev pub HasNoSign : List ℕ → Type 0
HasNoSign text = All (λ byte. byte ≢ 37) text

-- a line without a percent sign isn't a divider
other-line : (line : List ℕ) → HasNoSign line → is_divider line ≡ false
other-line [] none = refl
other-line (a ∷ []) none = refl
other-line (a ∷ b ∷ []) none = rw (ne_eqb a 37 (All-head (λ byte. byte ≢ 37) a (b ∷ []) none)) refl
other-line (a ∷ b ∷ c ∷ []) none = rw (ne_eqb a 37 (All-head (λ byte. byte ≢ 37) a (b ∷ c ∷ []) none)) refl
other-line (a ∷ b ∷ c ∷ d ∷ more) none = refl

-- a text of limited length without a percent sign is one part
one_part-within : (most : ℕ) (text : List ℕ) → length text ≤ most → HasNoSign text → parts_of text ≡ text ∷ []
one_part-within most [] short none = refl
one_part-within zero (byte ∷ text) short none = absurd (omega arith)
one_part-within (suc most) (byte ∷ text) short none =
    let whole = byte ∷ text in
    let cut = position_or_len is_line_feed whole + 1 in
    let shorter : length (drop cut whole) ≤ most = omega (arith, length-drop cut whole) in
    parts_of-other whole (other-line (take cut whole) (All-take (λ byte. byte ≢ 37) cut whole none))
    ∙ ap (prepend (take cut whole)) (one_part-within most (drop cut whole) shorter (All-drop (λ byte. byte ≢ 37) cut whole none))
    ∙ ap (λ part. part ∷ []) (take-append-drop cut whole)

-- a text without a percent sign is one part
pub one_part : (text : List ℕ) → HasNoSign text → parts_of text ≡ text ∷ []
one_part text none = one_part-within (length text) text (omega arith) none

-- so is a text in which no percent sign was found
pub one_part-unfound : (text : List ℕ) (found : Option ℕ) (unfound : Bool) → IsFirstByte (is_byte 37) text found → is_some found ≡ not unfound
    → IsTrue unfound → parts_of text ≡ text ∷ []
one_part-unfound text None unfound nowhere is none_there =
    one_part text (λ k d below same. nowhere k (omega arith) below (eq-eqb (get_or text k 0) 37 (get_or_default text k 0 d below ∙ same)))
one_part-unfound text (Some k) unfound there is none_there = absurd (cc)

-- the text before the rest has no divider
pub record Passed (input front rest : List ℕ) : Type 0 where
  pub cut : input ≡ front ++ rest
  pub parts : parts_of input ≡ prepend front (parts_of rest)

-- the text before the rest
abbrev pub front_of : List ℕ → List ℕ → List ℕ
front_of input rest = take (length input - length rest) input

-- prepending nothing
prepend-nil : (parts : List (List ℕ)) → 0 < length parts → prepend [] parts ≡ parts
prepend-nil [] h = absurd (omega arith)
prepend-nil (part ∷ parts) h = refl

-- a text has at least one part
some_part : (input : List ℕ) → 0 < length (parts_of input)
some_part input = omega (arith, length-map (slice_split is_divider (whole_lines input)) concat, length-slice_split is_divider (whole_lines input))

-- the passed text is the front
front_is : (input front rest : List ℕ) → Passed input front rest → front_of input rest ≡ front
front_is input front rest p =
    let long : length input ≡ length front + length rest = ap length p.cut ∙ length-append front rest in
    let count : length front ≡ length input - length rest = omega arith in
    ap (take (length input - length rest)) p.cut ∙ take_at front rest (length input - length rest) count

-- nothing has been passed before the first line
pub Passed-start : (input : List ℕ) → Passed input (front_of input input) input
Passed-start input =
    let whole : Passed input [] input = record { cut = refl; parts = sym (prepend-nil (parts_of input) (some_part input)) } in
    subst (λ (front : List ℕ). Passed input front input) (sym (front_is input [] input whole)) whole

-- a line that isn't a divider is passed
line-passed : (input rest : List ℕ) → Passed input (front_of input rest) rest → is_divider (first_line rest) ≡ false →
    Passed input (front_of input (after_first_line rest)) (after_first_line rest)
line-passed input rest p h =
    let line = first_line rest in
    let following = after_first_line rest in
    let front = front_of input rest in
    let whole : line ++ following ≡ rest = take-append-drop (position_or_len is_line_feed rest + 1) rest in
    let further : Passed input (front ++ line) following = record {
      cut = p.cut ∙ ap (λ x. front ++ x) (sym whole) ∙ sym (append_assoc front line following);
      parts = p.parts ∙ ap (prepend front) (parts_of-other rest h) ∙ prepend-append front line (parts_of following);
    } in
    subst (λ (x : List ℕ). Passed input x following) (sym (front_is input (front ++ line) following further)) further

-- at a divider, the front is a part
divider-passed : (input rest : List ℕ) → Passed input (front_of input rest) rest → is_divider (first_line rest) ≡ true →
    parts_of input ≡ front_of input rest ∷ parts_of (after_first_line rest)
divider-passed input rest p h =
    p.parts ∙ ap (prepend (front_of input rest)) (parts_of-divider rest h)
    ∙ ap (λ x. x ∷ parts_of (after_first_line rest)) (append-nil (front_of input rest))

-- the next line is passed if it isn't a divider
pub Passed-line : (input rest line following : List ℕ) → Passed input (front_of input rest) rest → line ≡ first_line rest → following ≡ after_first_line rest →
    false ≡ is_divider line → Passed input (front_of input following) following
Passed-line input rest line following p line_is after_is h =
    let other : is_divider (first_line rest) ≡ false = ap is_divider (sym line_is) ∙ sym h in
    subst (λ (x : List ℕ). Passed input (front_of input x) x) (sym after_is) (line-passed input rest p other)

-- a divider ends the first part
pub Passed-divider : (input rest line following : List ℕ) → Passed input (front_of input rest) rest → line ≡ first_line rest → following ≡ after_first_line rest →
    true ≡ is_divider line → parts_of input ≡ front_of input rest ∷ parts_of following
Passed-divider input rest line following p line_is after_is h =
    let divider : is_divider (first_line rest) ≡ true = ap is_divider (sym line_is) ∙ sym h in
    divider-passed input rest p divider ∙ ap (λ x. front_of input rest ∷ parts_of x) (sym after_is)

-- the last part ends with the input
pub Passed-end : (input : List ℕ) → Passed input (front_of input []) [] → parts_of input ≡ input ∷ []
Passed-end input p =
    let front : front_of input [] ++ [] ≡ input = sym p.cut in
    p.parts ∙ ap (λ x. x ∷ []) front

-- the length of the text that is left
abbrev pub size_of : Option (Bor (List ℕ)) → ℕ
size_of None = 0
size_of (Some rest) = suc (length rest.now)

-- the parts of the text that is left
abbrev pub parts_left : Option (Bor (List ℕ)) → List (List ℕ)
parts_left None = []
parts_left (Some rest) = parts_of rest.now
