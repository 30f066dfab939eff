use Rattle.std.proofs.Common.{◌≡◌, ◌<◌, ◌≤◌, ◌∙◌, ℕ, List, Result, Ok, Err, MatchResult, get_or, length, ap, subst, arith, inl, inr}
use Rattle.std.specs.Prelude.{AllPairs, Contains}
use Rattle.std.specs.List.Sorted.{IsBinarySearchResult}
use Rattle.std.specs.Ordering.{nat_cmp}
use Rattle.std.proofs.lemmas.Bool.{cases_lt}
use Rattle.std.proofs.lemmas.List.{get_or_default}
use Rattle.std.proofs.lemmas.List.Sorted.{searched}
use Rattle.cqf_admission.proofs.HeldNumbers.{removed_is_without}
use Rattle.cqf_admission.proofs.holdings.take_out.Goals as goal

-- ascending numbers don't descend
rising : (numbers : List ℕ) → AllPairs (λ (a b : ℕ). a < b) numbers → (i j : ℕ) → i ≤ j → j < length numbers → get_or numbers i 0 ≤ get_or numbers j 0
rising numbers order i j le low = elim (cases_lt i j) [
  | inl less ↦ omega (arith, order i j 0 less low)
  | inr same ↦
      let e : i ≡ j = omega (arith, le, same) in
      omega (arith, ap (λ (k : ℕ). get_or numbers k 0) e)
]

-- a number among them is found
abbrev Finds : List ℕ → ℕ → Result ℕ ℕ → Type 0
Finds numbers number r = MatchResult r (λ index. (index < length numbers) × (get_or numbers index 0 ≡ number)) (λ index. Contains numbers number → ⊥)

finds : (numbers : List ℕ) (number : ℕ) (r : Result ℕ ℕ) → AllPairs (λ (a b : ℕ). a < b) numbers → IsBinarySearchResult (λ (y : ℕ). nat_cmp y number) numbers r →
    Finds numbers number r
finds numbers number (Ok index) order by = searched numbers number (Ok index) by (rising numbers order)
finds numbers number (Err index) order by = λ among.
    let w = searched numbers number (Err index) by (rising numbers order) in
    let is : get_or numbers among.0 0 ≡ number = get_or_default numbers among.0 0 number among.1 ∙ among.2 in
    elim (cases_lt among.0 index) [
      | inl before ↦ omega (arith, w.1 among.0 before, is)
      | inr following ↦ omega (arith, w.2 among.0 following among.1, is)
    ]

pub returns-in-Ok : goal.returns-in-Ok
returns-in-Ok c =
    let numbers = c.args.held.now.items in
    let w : Finds numbers c.args.number (Ok c.in-Ok.index) = subst (Finds numbers c.args.number) c.in-Ok.is
    (finds numbers c.args.number c.binary_search.result c.requires.order
    (subst (λ (ns : List ℕ). IsBinarySearchResult (λ (y : ℕ). nat_cmp y c.args.number) ns c.binary_search.result) c.deref.ensures.value
    c.binary_search.ensures.position)) in
    c.remove.ensures.items ∙ removed_is_without numbers c.in-Ok.index c.args.number c.requires.order w.0 w.1

pub returns-in_default : goal.returns-in_default
returns-in_default c =
    let numbers = c.args.held.now.items in
    let w : Finds numbers c.args.number (Err c.in_default.field-0) = subst (Finds numbers c.args.number) c.in_default.is
    (finds numbers c.args.number c.binary_search.result c.requires.order
    (subst (λ (ns : List ℕ). IsBinarySearchResult (λ (y : ℕ). nat_cmp y c.args.number) ns c.binary_search.result) c.deref.ensures.value
    c.binary_search.ensures.position)) in
    absurd (w c.requires.there)
