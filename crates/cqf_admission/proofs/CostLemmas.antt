-- The most that streams cost on a link that a stream offered in each cycle uses.
use Rattle.std.proofs.Common.{◌≡◌, ℕ, List, [], ◌∷◌, ◌==◌, Bool, true, max, fold, ◌∙◌, ap}
use Rattle.std.specs.Prelude.{if◌then◌else◌}
use Rattle.std.specs.List.{list_any}
use Rattle.cqf_lists.proofs.EachBelow.{same_below}
use Rattle.cqf_model.specs.declared.topology.Hop.{Hop}
use Rattle.cqf_model.specs.declared.topology.Row.{Row}
use Rattle.cqf_model.specs.History.{most_beside}
use Rattle.cqf_model.specs.Paces.{each_cycle}
use Rattle.cqf_model.specs.Table.{link_cost, links_in, uses}
use Rattle.cqf_model.proofs.EachCycle.{uses_same}
use Rattle.cqf_admission.specs.Costs.{most_cost}

-- for a stream that uses the link, it is the most over all cycles
pub beside_is_most : (rows : List Row) (tree : List Hop) (l : ℕ) → list_any (λ k. k == l) (links_in tree) ≡ true →
    most_beside rows tree each_cycle l ≡ most_cost rows l
beside_is_most rows tree l crossed =
    let taken : Bool → ℕ → List ℕ = λ b k. if b then link_cost rows l k ∷ [] else [] in
    ap (fold max 0) (same_below (λ k. taken (uses tree each_cycle l k) k) (λ k. link_cost rows l k ∷ []) 80
    (λ k below. ap (λ (b : Bool). taken b k) (uses_same tree l k ∙ crossed)))
