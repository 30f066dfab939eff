-- The name of a line is at the line's end.
use Rattle.std.proofs.Common.{◌≡◌, ◌∙◌, ◌+◌, ◌-◌, ◌≤◌, ℕ, Bool, true, false, List, [], ◌∷◌, ◌++◌, Option, Some, None}
use Rattle.std.proofs.Common.{length, length-append, take, drop, take-append-drop, refl, sym, ap, subst, arith}
use Rattle.std.proofs.Common.{append_assoc}
use Rattle.std.specs.Prelude.{option_and_then, if◌then◌else◌}
use Rattle.std.proofs.lemmas.List.{take_at}
use Rattle.std.proofs.Math.Seq.{drop-append_seam, drop-drop}
use Rattle.cqf_lists.specs.Lists.{or_else}
use Rattle.cqf_model.specs.Domain.{is_text}
use Rattle.cqf_admission.specs.declared.lines.Wish.{Wish}
use Rattle.cqf_admission.specs.declared.lines.Wish.TheVariants.{Admit, Withdraw}
use Rattle.cqf_admission.specs.Lines.{Written, if_word, is_word, order_after, order_of, order_of_line, seat_of_digit, word_after}
use Rattle.cqf_admission.specs.Placed.{LineEnds, NameEnds}
use Rattle.cqf_admission.proofs.Words.{word-utf8}
use Rattle.std.specs.Prelude.{codes}

-- a text ends in a word
pub record EndsIn (text name : List ℕ) : Type 0 where
  pub start : List ℕ
  pub is : text ≡ start ++ name
  pub word : is_word name ≡ true

-- a word is the text that was tested
word_tested : (bytes name : List ℕ) → if_word bytes ≡ Some name → (bytes ≡ name) × (is_word name ≡ true)
word_tested bytes name h = by (is_word bytes) refl h
  where
    by : (b : Bool) → is_word bytes ≡ b → (if b then Some bytes else None) ≡ Some name → (bytes ≡ name) × (is_word name ≡ true)
    by false e h = absurd (cc)
    by true e h = let same : bytes ≡ name = cc in (same, ap is_word (sym same) ∙ e)

-- the word after a prefix ends the text
word_ends : (start text name : List ℕ) → word_after start text ≡ Some name → EndsIn text name
word_ends start text name h = by (is_text start (take (length start) text)) h
  where
    by : (b : Bool) → (if b then if_word (drop (length start) text) else None) ≡ Some name → EndsIn text name
    by false h = absurd (cc)
    by true h =
        let found = word_tested (drop (length start) text) name h in
        record {
          start = take (length start) text;
          is = sym (take-append-drop (length start) text) ∙ ap (λ (rest : List ℕ). take (length start) text ++ rest) found.0;
          word = found.1;
        }

-- so does an order's name
order_ends : (wish : Wish) (seat : ℕ) (rest : List ℕ) (found : Option (List ℕ)) (order : Written) → order_of wish seat found ≡ Some order →
    ((name : List ℕ) → found ≡ Some name → EndsIn rest name) → EndsIn rest order.name
order_ends wish seat rest None order h ends = absurd (cc)
order_ends wish seat rest (Some name) order h ends =
    let same : name ≡ order.name = cc in
    subst (λ (word : List ℕ). EndsIn rest word) same (ends name refl)

-- for either wish
after_ends : (rest : List ℕ) (seat : ℕ) (order : Written) (first second : Option Written) → or_else first second ≡ Some order →
    (first ≡ Some order → EndsIn rest order.name) → (second ≡ Some order → EndsIn rest order.name) → EndsIn rest order.name
after_ends rest seat order None second h one other = other h
after_ends rest seat order (Some x) second h one other = one h

-- and so does a line's
pub name_ends : (line : List ℕ) (order : Written) → order_of_line line ≡ Some order → EndsIn line order.name
name_ends [] order h = absurd (cc)
name_ends (digit ∷ rest) order h = by (seat_of_digit digit) h
  where
    by : (o : Option ℕ) → option_and_then (order_after rest) o ≡ Some order → EndsIn (digit ∷ rest) order.name
    by None h = absurd (cc)
    by (Some seat) h =
        let found : EndsIn rest order.name =
        after_ends rest seat order (order_of Admit seat (word_after (codes " admit ") rest))
        (order_of Withdraw seat (word_after (codes " withdraw ") rest)) h
        (λ first. order_ends Admit seat rest (word_after (codes " admit ") rest) order first (word_ends (codes " admit ") rest))
        (λ second. order_ends Withdraw seat rest (word_after (codes " withdraw ") rest) order second (word_ends (codes " withdraw ") rest)) in
        record { start = digit ∷ found.start; is = ap (λ (xs : List ℕ). digit ∷ xs) found.is; word = found.word }

-- if a line ends at an index, so does what the line ends in
pub name_at : (text : List ℕ) (end : ℕ) (line name : List ℕ) → LineEnds text end line → EndsIn line name → NameEnds text end name
name_at text end line name at ends =
    let k = length ends.start in
    let m = length name in
    let b = end - length line in
    let long : length line ≡ k + m = ap length ends.is ∙ length-append ends.start name in
    let post : List ℕ = drop (length line) (drop b text) in
    let whole : drop b text ≡ ends.start ++ (name ++ post) =
    sym (take-append-drop (length line) (drop b text)) ∙ ap (λ (xs : List ℕ). xs ++ post) (at.is ∙ ends.is) ∙ append_assoc ends.start name post in
    let begins : end - m ≡ b + k = omega (arith, at.long, long) in
    let from : drop (end - m) text ≡ name ++ post =
    ap (λ (n : ℕ). drop n text) begins ∙ sym (drop-drop k b text) ∙ ap (drop k) whole ∙ drop-append_seam ends.start (name ++ post) in
    record {
      ends = record {
        inside = at.inside;
        long = omega (arith, at.long, long);
        is = ap (take m) from ∙ take_at name post m refl;
      };
      utf8 = word-utf8 name ends.word;
    }

-- a word has at most 64 octets
pub word_short : (name : List ℕ) → is_word name ≡ true → length name ≤ 64
word_short name h = grind (arith)

-- a part is no longer than the line
pub name_shorter : (line name : List ℕ) → EndsIn line name → length name ≤ length line
name_shorter line name ends = omega (arith, ap length ends.is, length-append ends.start name)
