-- The names of a branch: whether it passes a link, and its last one.
use Rattle.std.proofs.Common.{◌≡◌, ◌∙◌, ◌+◌, ◌-◌, ◌≤◌, ◌||◌, ℕ, zero, suc, false, List, [], ◌∷◌, String, Global, length, map, get_or, drop, take}
use Rattle.std.proofs.Common.{add-one, string_bytes, refl, ap, sym, arith}
use Rattle.std.proofs.lemmas.List.{length-drop, take_all}
use Rattle.cqf_program_words.specs.declared.links.LinkName.{LinkName}
use Rattle.cqf_program_without.specs.Streams.{begins_along, last_name, passes}

-- a branch that doesn't begin with a link passes it later, or not at all
begins_later : (link : LinkName) (path : List (String Global)) → begins_along link (map string_bytes path) ≡ false →
    passes link (map string_bytes path) ≡ passes link (map string_bytes (drop 1 path))
begins_later link [] differs = refl
begins_later link (name ∷ rest) differs = ap (λ b. b || passes link (map string_bytes rest)) differs

one_less : {X : Type 0} (xs : List X) (i : ℕ) → drop 1 (drop i xs) ≡ drop (suc i) xs
one_less [] zero = refl
one_less [] (suc i) = refl
one_less (x ∷ xs) zero = refl
one_less (x ∷ xs) (suc i) = one_less xs i

-- all that is left from an index on
all_left : {X : Type 0} (xs : List X) (i : ℕ) → take (length xs - i) (drop i xs) ≡ drop i xs
all_left xs i = let few : length (drop i xs) ≤ length xs - i = omega (arith, length-drop i xs) in take_all (length xs - i) (drop i xs) few

pub passes_later : (link : LinkName) (path : List (String Global)) (i : ℕ) →
    begins_along link (map string_bytes (take (length path - i) (drop i path))) ≡ false →
    passes link (map string_bytes (drop i path)) ≡ passes link (map string_bytes path) →
    passes link (map string_bytes (drop (i + 1) path)) ≡ passes link (map string_bytes path)
passes_later link path i differs before =
    let here : begins_along link (map string_bytes (drop i path)) ≡ false =
    ap (λ names. begins_along link (map string_bytes names)) (sym (all_left path i)) ∙ differs in
    ap (λ k. passes link (map string_bytes (drop k path))) (add-one i)
    ∙ ap (λ names. passes link (map string_bytes names)) (sym (one_less path i)) ∙ sym (begins_later link (drop i path) here) ∙ before

-- the last name
pub last_is : (names : List (List ℕ)) (k : ℕ) (d : List ℕ) → suc k ≡ length names → last_name names ≡ get_or names k d
last_is [] k d end = absurd (omega (arith, end))
last_is (name ∷ []) zero d end = refl
last_is (name ∷ []) (suc k) d end = absurd (omega (arith, end))
last_is (name ∷ next ∷ rest) zero d end = absurd (omega (arith, end))
last_is (name ∷ next ∷ rest) (suc k) d end = last_is (next ∷ rest) k d (omega (arith, end))
