-- What links hold of a table's rows.
use Rattle.std.proofs.Common.{◌≡◌, ◌∙◌, ◌∷◌, [], ℕ, List, ap, length}
use Rattle.std.specs.Prelude.{slice_index_or}
use Rattle.cqf_lists.specs.Lists.{each_below}
use Rattle.cqf_lists.proofs.EachBelow.{get_or-singles, same_below}
use Rattle.cqf_admission.specs.Costs.{most_cost}
use Rattle.cqf_model.specs.declared.topology.Row.{Row}
use Rattle.cqf_model.specs.Domain.{Domain}
use Rattle.cqf_program_diff.specs.Element.{ElementText}
use Rattle.cqf_program_diff.specs.Figures.{load_element, load_elements}

-- the elements for these costs, if they are those of the rows
pub held_by_rows : (d : Domain) (rows : List Row) (costs : List ℕ) (elements : List ElementText) → costs ≡ each_below (λ l. most_cost rows l ∷ []) (length d.links)
    → elements ≡ each_below (λ l. load_element d l (slice_index_or costs l 0) ∷ []) (length d.links) → elements ≡ load_elements d rows
held_by_rows d rows costs elements costs_are is =
    is ∙ same_below (λ l. load_element d l (slice_index_or costs l 0) ∷ []) (λ l. load_element d l (most_cost rows l) ∷ []) (length d.links)
    (λ l below. ap (λ (cost : ℕ). load_element d l cost ∷ [])
    (ap (λ (all : List ℕ). slice_index_or all l 0) costs_are ∙ get_or-singles (most_cost rows) (length d.links) l 0 below))
