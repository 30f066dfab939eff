use Rattle.std.proofs.Common.{◌≡◌, ◌∙◌, ℕ, List, ap, sym}
use Rattle.std.specs.BTreeMap.{is_at}
use Rattle.std.specs.Cmp.Lexicographic.{slice_cmp}
use Rattle.std.specs.Map.{lookup}
use Rattle.std.specs.Ordering.{nat_cmp}
use Rattle.std.proofs.lemmas.Map.Entries.{entries_from_clone}
use Rattle.cqf_topology.specs.DomainText.{index_of}
use Rattle.cqf_topology.proofs.names.NameList.try_copy.Goals as goal

pub invariant_of-result : goal.invariant_of-result
invariant_of-result c = λ name.
    ap (lookup (is_at (slice_cmp nat_cmp name))) (entries_from_clone (λ (x y : List ℕ). y ≡ x) (λ (v w : ℕ). w ≡ v) (λ x y e. e) (λ v w e. e)
    c.self.inside.numbers.entries c.in_ok-numbers.numbers.entries c.in_ok-numbers.ensures.cases)
    ∙ c.self.invariant name ∙ ap (index_of name) (sym (c.in_ok-names.ensures ∙ c.as_slice.ensures.value))
