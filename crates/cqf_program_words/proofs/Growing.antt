-- Lines that grow.
use Rattle.std.proofs.Common.{◌≡◌, ℕ, ◌++◌, List, [], ◌∷◌, ap, codes, sym, ◌∙◌, append_assoc, append-nil}
use Rattle.cqf_output.specs.Stops.{line_of}
use Rattle.cqf_program_words.specs.Shown.{Lengthens}

-- nothing follows them yet
pub lengthens_by_none : (old : List ℕ) → Lengthens old old
lengthens_by_none old = record { more = []; is = sym (append-nil old) }

-- something more does
pub lengthens_more : (old new newer more : List ℕ) → Lengthens old new → newer ≡ new ++ more → Lengthens old newer
lengthens_more old new newer more so_far is = record {
  more = so_far.more ++ more;
  is = is ∙ ap (λ t. t ++ more) so_far.is ∙ append_assoc old so_far.more more;
}

-- one growth after another
pub lengthens_twice : (old new newer : List ℕ) → Lengthens old new → Lengthens new newer → Lengthens old newer
lengthens_twice old new newer first second = lengthens_more old new newer second.more first second.is

-- a line of three texts after its beginning
pub line_of_three : (line before shown following text : List ℕ) → line ≡ codes "cqf: words: " ++ (before ++ (shown ++ (following ++ 10 ∷ [])))
    → before ++ (shown ++ following) ≡ text → line ≡ line_of (codes "cqf: words: " ++ text)
line_of_three line before shown following text is reported =
    let feed : List ℕ = 10 ∷ [] in
    let inner : shown ++ (following ++ feed) ≡ (shown ++ following) ++ feed = sym (append_assoc shown following feed) in
    let outer : before ++ (shown ++ (following ++ feed)) ≡ (before ++ (shown ++ following)) ++ feed =
    ap (λ (t : List ℕ). before ++ t) inner ∙ sym (append_assoc before (shown ++ following) feed) in
    is ∙ ap (λ (t : List ℕ). codes "cqf: words: " ++ t) (outer ∙ ap (λ (t : List ℕ). t ++ feed) reported)
    ∙ sym (append_assoc (codes "cqf: words: ") text feed)
