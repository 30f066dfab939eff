-- Names are distinct if none of them is taken.
use Rattle.std.proofs.Common.{◌≡◌, ◌≢◌, ℕ, List, [], ◌∷◌, ◌++◌, Bool, true, false, ◌||◌, cond, Some, None, get_or, All, AllPairs, refl, ap, sym, ◌∙◌, arith}
use Rattle.std.proofs.lemmas.Bool.{true≢false}
use Rattle.std.proofs.lemmas.List.Elements.{All-cons, All-nil}
use Rattle.std.proofs.lemmas.List.Folds.{list_any-append}
use Rattle.std.proofs.lemmas.List.Kept.{AllPairs-cons}
use Rattle.cqf_model.proofs.Texts.{is_text_itself}
use Rattle.cqf_model.specs.Domain.{is_text}
use Rattle.cqf_topology.specs.DomainText.{is_among, first_taken}

-- neither of two tests
neither : (b c : Bool) → (b || c) ≡ false → (b ≡ false) × (c ≡ false)
neither true c h = absurd (true≢false h)
neither false true h = absurd (true≢false h)
neither false false h = (refl, refl)

-- a name that isn't among some names and one more is not among the names, and isn't that one
not_among : (name : List ℕ) (names : List (List ℕ)) (last : List ℕ) → is_among name (names ++ last ∷ []) ≡ false → (is_among name names ≡ false) × (last ≢ name)
not_among name names last h =
    let both = neither (is_among name names) (is_text last name || false) (sym (list_any-append (λ other. is_text other name) names (last ∷ [])) ∙ h) in
    (both.0, λ same. true≢false (sym (is_text_itself name) ∙ ap (λ text. is_text text name) (sym same) ∙ (neither (is_text last name) false both.1).0))

-- if none of the names is taken, none of them occurred earlier, and any two of them differ
pub first_taken-None : (earlier names : List (List ℕ)) → first_taken earlier names ≡ None
    → (All (λ name. is_among name earlier ≡ false) names) × AllPairs (λ a b. a ≢ b) names
first_taken-None earlier [] h = (All-nil (λ name. is_among name earlier ≡ false), λ i j d before inside. absurd (omega arith))
first_taken-None earlier (x ∷ xs) h = by (is_among x earlier) refl (first_taken-None (earlier ++ x ∷ []) xs) h
  where
    -- with one more name first that isn't taken, none occurred earlier and any two differ
    by : (b : Bool) → is_among x earlier ≡ b
        → (first_taken (earlier ++ x ∷ []) xs ≡ None → (All (λ name. is_among name (earlier ++ x ∷ []) ≡ false) xs) × AllPairs (λ a b. a ≢ b) xs)
        → cond b (Some x) (first_taken (earlier ++ x ∷ []) xs) ≡ None
        → (All (λ name. is_among name earlier ≡ false) (x ∷ xs)) × AllPairs (λ a b. a ≢ b) (x ∷ xs)
    by true there rest h = absurd (cc)
    by false absent rest h =
        let (none, differ) = rest h in (
          All-cons (λ name. is_among name earlier ≡ false) x xs absent (λ k d inside. (not_among (get_or xs k d) earlier x (none k d inside)).0),
          AllPairs-cons (λ a b. a ≢ b) x xs (λ k d inside. (not_among (get_or xs k d) earlier x (none k d inside)).1) differ,
        )
