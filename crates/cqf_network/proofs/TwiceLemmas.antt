-- The first name that occurred earlier, found name by name.
use Rattle.std.proofs.Common.{◌≡◌, ◌∙◌, ◌+◌, ◌<◌, ℕ, true, false, List, [], ◌∷◌, ◌++◌, Some, cond, drop, get_or, length, take, ap, sym}
use Rattle.std.proofs.lemmas.List.{drop_more, take_more}
use Rattle.cqf_topology.specs.DomainText.{first_taken, is_among}

module _ (names : List (List ℕ)) (index : ℕ) (name : List ℕ) (inside : index < length names) (is : name ≡ get_or names index name) where
  -- the name at an index comes next
  next_is : drop index names ≡ name ∷ drop (index + 1) names
  next_is = drop_more names index name inside ∙ ap (λ n. n ∷ drop (index + 1) names) (sym is)

  one_more : take (index + 1) names ≡ take index names ++ name ∷ []
  one_more = take_more names index name inside ∙ ap (λ n. take index names ++ n ∷ []) (sym is)

  opened : first_taken (take index names) (drop index names)
      ≡ cond (is_among name (take index names)) (Some name) (first_taken (take (index + 1) names) (drop (index + 1) names))
  opened =
      ap (first_taken (take index names)) next_is
      ∙ ap (λ front. cond (is_among name (take index names)) (Some name) (first_taken front (drop (index + 1) names))) (sym one_more)

  -- a name that occurred earlier is the first such; otherwise the result is that of the rest
  pub taken_here : is_among name (take index names) ≡ true → first_taken (take index names) (drop index names) ≡ Some name
  taken_here there = opened ∙ ap (λ b. cond b (Some name) (first_taken (take (index + 1) names) (drop (index + 1) names))) there

  pub taken_later : is_among name (take index names) ≡ false →
      first_taken (take (index + 1) names) (drop (index + 1) names) ≡ first_taken (take index names) (drop index names)
  taken_later absent = sym (opened ∙ ap (λ b. cond b (Some name) (first_taken (take (index + 1) names) (drop (index + 1) names))) absent)
