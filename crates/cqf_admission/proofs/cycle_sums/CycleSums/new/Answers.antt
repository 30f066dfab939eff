use Rattle.std.proofs.Common.{arith}
use Rattle.cqf_admission.proofs.ActiveCycleLemmas.{kept_none, none_of_each}
use Rattle.cqf_admission.proofs.cycle_sums.CycleSums.new.Goals as goal

pub invariant_of-result : goal.invariant_of-result
invariant_of-result c =
    kept_none (record { links = c.from-links.result; sums = c.in_ok-vec.field-0.items }) c.in_ok-vec-2.field-0.items
    (omega (arith, c.in_ok-vec.ensures.len)) (omega (arith, c.in_ok-vec-2.ensures.len))
    (none_of_each _ _ (c.in_ok-vec.ensures.items_if_clones_equal (λ y e. e))) (none_of_each _ _ (c.in_ok-vec-2.ensures.items_if_clones_equal (λ y e. e)))
