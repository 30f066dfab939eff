use Rattle.std.proofs.Common.{ℕ, List, ap}
use Rattle.std.specs.BTreeMap.{is_at}
use Rattle.std.specs.Cmp.Lexicographic.{slice_cmp}
use Rattle.std.specs.Map.{lookup}
use Rattle.std.specs.Ordering.{nat_cmp}
use Rattle.cqf_admission.specs.Holdings.{held_under}
use Rattle.cqf_admission.proofs.Figures.{figures_none}
use Rattle.cqf_admission.proofs.holdings.Holdings.new.Goals as goal

pub invariant_of-result : goal.invariant_of-result
invariant_of-result c =
    rw c.new-2.ensures.items
    (figures_none (held_under c.new-3.result) c.new-4.result.items c.in_ok-sums.sums c.args.links
    (λ name. ap (λ (entries : List (List ℕ × ℕ)). lookup (is_at (slice_cmp nat_cmp name)) entries) c.new-3.ensures.empty) c.new-4.ensures.items
    c.in_ok-sums.ensures)
