-- What was written so far.
use Rattle.std.proofs.Common.{◌≡◌, ◌++◌, ◌∙◌, ◌-◌, ℕ, List, [], Bool, false, Option, length, arith, refl, sym, ap, take}
use Rattle.std.proofs.Common.{drop, take-append-drop, append_assoc, subst}
use Rattle.std.specs.Io.KnownBytes.{Appends, Keeps}
use Rattle.std.proofs.KnownBytes.{Appends-kept, Appends-nil, Appends-trans}
use Rattle.std.proofs.lemmas.Grind.{common_steps}
use Rattle.std.proofs.lemmas.List.{append-nil}
use Rattle.cqf_output.specs.Edge.{IsWritten, Writing}

-- the part of the text before the rest was written
pub record WrittenSoFar (before now : Option (List ℕ)) (text rest : List ℕ) : Type 0 where
  pub front : List ℕ
  pub cut : text ≡ front ++ rest
  pub written : Appends before now front

-- if nothing has been written yet, all of the text is left
pub WrittenSoFar-start : (before : Option (List ℕ)) (text : List ℕ) → WrittenSoFar before before text text
WrittenSoFar-start before text = record { front = []; cut = refl; written = Appends-nil before }

-- a write took `count` bytes of the rest
pub WrittenSoFar-more : (before now after : Option (List ℕ)) (text rest : List ℕ) (count : ℕ) → WrittenSoFar before now text rest
    → Appends now after (take count rest) → WrittenSoFar before after text (drop count rest)
WrittenSoFar-more before now after text rest count w more = record {
  front = w.front ++ take count rest;
  cut = w.cut ∙ ap (λ x. w.front ++ x) (sym (take-append-drop count rest)) ∙ sym (append_assoc w.front (take count rest) (drop count rest));
  written = Appends-trans before now after w.front (take count rest) w.written more;
}

-- the same, with the rest as a range up to its end
pub WrittenSoFar-range : (before now after : Option (List ℕ)) (text rest : List ℕ) (count : ℕ) → WrittenSoFar before now text rest
    → Appends now after (take count rest) → WrittenSoFar before after text (take (length rest - count) (drop count rest))
WrittenSoFar-range before now after text rest count w more =
    let all : take (length rest - count) (drop count rest) ≡ drop count rest = grind (arith, common_steps) in
    subst (λ (x : List ℕ). WrittenSoFar before after text x) (sym all) (WrittenSoFar-more before now after text rest count w more)

-- the writing ends with this result
pub IsWritten-ended : (before now after : Option (List ℕ)) (refused : Bool) (text rest : List ℕ) → WrittenSoFar before now text rest → Keeps now after
    → (refused ≡ false → rest ≡ []) → IsWritten (record { before = before; after = after; refused = refused }) text
IsWritten-ended before now after refused text rest w kept all = record {
  front = w.front;
  following = rest;
  cut = w.cut;
  written = Appends-kept before now after w.front w.written kept;
  all = all;
}

-- if nothing was refused, the text is what was written
pub Appends-whole : (output : Writing) (text : List ℕ) → IsWritten output text → output.refused ≡ false → Appends output.before output.after text
Appends-whole output text checked accepted =
    let same : checked.front ≡ text = sym (checked.cut ∙ ap (λ x. checked.front ++ x) (checked.all accepted) ∙ append-nil checked.front) in
    subst (λ (x : List ℕ). Appends output.before output.after x) same checked.written
