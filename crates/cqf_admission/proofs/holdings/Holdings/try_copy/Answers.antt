use Rattle.std.proofs.Common.{◌≡◌, ◌∙◌, ℕ, List, ap, map}
use Rattle.std.proofs.lemmas.Map.Entries.{entries_from_clone}
use Rattle.cqf_admission.specs.Holdings.{standing_of}
use Rattle.cqf_admission.proofs.Figures.{figures_same}
use Rattle.cqf_admission.proofs.holdings.Holdings.try_copy.Goals as goal

pub invariant_of-result : goal.invariant_of-result
invariant_of-result c =
    figures_same (map standing_of c.self.inside.rows.items) (map standing_of c.in_ok-copied_stands.field-0.items) c.self.inside.by_name
    c.in_ok-clone.field-0 c.self.inside.held.items c.in_ok-from_slice.field-0.items c.self.inside.sums c.in_ok-try_copy.field-0
    c.self.invariant (c.in_ok-copied_stands.ensures ∙ ap (map standing_of) c.as_slice.ensures.value)
    (entries_from_clone (λ (x y : List ℕ). y ≡ x) (λ (v w : ℕ). w ≡ v) (λ x y e. e) (λ v w e. e) c.self.inside.by_name.entries
    c.in_ok-clone.field-0.entries c.in_ok-clone.ensures.cases)
    (c.in_ok-from_slice.ensures.items ∙ c.as_slice-2.ensures.value) c.in_ok-try_copy.ensures
