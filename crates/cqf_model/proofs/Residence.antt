-- The hop numbers of a tree, and the greatest of them.
use Rattle.std.proofs.Common.{◌≡◌, ℕ, ◌<◌, ◌≤◌, ◌⊎◌, List, Option, Some, None, max, fold, length, refl, sym, ap, ◌∙◌, inl, inr, arith}
use Rattle.std.proofs.lemmas.Bool.{cases_lt}
use Rattle.std.specs.Prelude.{[], ◌∷◌, Contains}
use Rattle.cqf_lists.proofs.Members.{contains_cases, contains_here, contains_later, contains_none, index_of_member}
use Rattle.cqf_model.specs.declared.topology.Hop.{Hop}
use Rattle.cqf_model.specs.declared.topology.Row.{Row}
use Rattle.cqf_model.specs.Domain.{Domain}
use Rattle.cqf_model.specs.Table.{IsHop, IsTree, residence}

-- the greatest hop number is at least the start value
most_from : (tree : List Hop) (least : ℕ) → least ≤ fold (λ most (hop : Hop). max most hop.hop_number) least tree
most_from [] least = omega arith
most_from (hop ∷ tree) least = omega (arith, most_from tree (max least hop.hop_number))

-- no hop number is above the greatest
most_of : (tree : List Hop) (least : ℕ) (hop : Hop) → Contains tree hop → hop.hop_number ≤ fold (λ most (hop : Hop). max most hop.hop_number) least tree
most_of [] least hop c = absurd (contains_none hop c)
most_of (x ∷ tree) least hop c = elim (contains_cases x tree hop c) [
  | inl e ↦ omega (arith, most_from tree (max least x.hop_number), ap (λ (h : Hop). h.hop_number) e)
  | inr k ↦ most_of tree (max least x.hop_number) hop k
]

-- no hop number is above the residence
pub hop_number_within_residence : (row : Row) (hop : Hop) → Contains row.tree.items hop → hop.hop_number ≤ residence row
hop_number_within_residence row hop c = most_of row.tree.items 0 hop c

-- a hop number is at least 1
pub hop_number_some : (d : Domain) (tree : List Hop) (hop : Hop) → IsTree d tree → Contains tree hop → 0 < hop.hop_number
hop_number_some d tree hop good c = by_from hop.from refl
  where
    -- whether or not the hop follows a link
    by_from : (from : Option ℕ) → hop.from ≡ from → 0 < hop.hop_number
    by_from None e = omega (arith, (good.begins hop c e).0)
    by_from (Some m) e = let index = index_of_member tree hop c in omega (arith, (good.follows index.0 m hop index.1 e).2.deeper)

-- a tree that isn't empty has a hop
first_of : (tree : List Hop) → 0 < length tree → (hop : Hop) × Contains tree hop
first_of [] h = absurd (omega (arith, h))
first_of (hop ∷ tree) h = (hop, contains_here hop tree)

-- so a stream's frames are under way for at least one cycle
pub residence_some : (d : Domain) (row : Row) → IsTree d row.tree.items → 0 < residence row
residence_some d row good =
    let first = first_of row.tree.items good.some in
    omega (arith, hop_number_some d row.tree.items first.0 good first.1, hop_number_within_residence row first.0 first.1)

-- some hop has the greatest hop number
most_met : (tree : List Hop) (least : ℕ) →
    (fold (λ most (hop : Hop). max most hop.hop_number) least tree ≡ least) ⊎
    ((hop : Hop) × Contains tree hop × (hop.hop_number ≡ fold (λ most (hop : Hop). max most hop.hop_number) least tree))
most_met [] least = inl refl
most_met (x ∷ tree) least = elim (most_met tree (max least x.hop_number)) [
  | inr w ↦ inr (w.0, contains_later x tree w.0 w.1, w.2)
  | inl e ↦ elim (cases_lt least x.hop_number) [
    | inl l ↦ (let here : x.hop_number ≡ max least x.hop_number = omega (arith, l) in inr (x, contains_here x tree, here ∙ sym e))
    | inr g ↦ (let here : max least x.hop_number ≡ least = omega (arith, g) in inl (e ∙ here))
  ]
]

-- some hop's number is the residence
pub residence_met : (row : Row) → 0 < length row.tree.items → (link : ℕ) × IsHop row (residence row) link
residence_met row some = elim (most_met row.tree.items 0) [
  | inr w ↦ (w.0.link, record { hop = w.0; of_tree = w.1; is_hop_number = w.2; is_link = refl })
  | inl e ↦ (let first = first_of row.tree.items some in
      let hop_number : first.0.hop_number ≡ residence row = omega (arith, e, hop_number_within_residence row first.0 first.1) in
      (first.0.link, record { hop = first.0; of_tree = first.1; is_hop_number = hop_number; is_link = refl }))
]
