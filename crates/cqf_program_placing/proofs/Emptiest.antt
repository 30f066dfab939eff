-- What links have left in the cycles of a pace.
use Rattle.std.proofs.Common.{◌≡◌, ◌∙◌, ◌+◌, ◌-◌, ℕ, suc, Bool, List, [], ◌∷◌, Contains, ap, arith, fold, max, refl, sym}
use Rattle.std.specs.Prelude.{if◌then◌else◌}
use Rattle.std.proofs.Math.Nat.{zero-max}
use Rattle.std.proofs.lemmas.List.Sums.{fold-append}
use Rattle.cqf_lists.specs.Lists.{each_below}
use Rattle.cqf_lists.proofs.EachBelow.{same_below}
use Rattle.cqf_model.specs.declared.topology.Hop.{Hop}
use Rattle.cqf_model.specs.declared.topology.Pace.{Pace}
use Rattle.cqf_model.specs.declared.topology.Row.{Row}
use Rattle.cqf_model.specs.Domain.{Domain, budget}
use Rattle.cqf_model.specs.History.{Branch, left_on, tree_of}
use Rattle.cqf_model.specs.Limits.{most_every}
use Rattle.cqf_model.specs.Paces.{is_active}
use Rattle.cqf_model.specs.Table.{link_cost, uses}
use Rattle.cqf_model.proofs.Hops.{hops_apart}
use Rattle.cqf_admission.proofs.ActiveCycleLemmas.{always_active_cycle, uses_of_hop}
use Rattle.cqf_admission.specs.Costs.{left_beside, left_in_active_cycles}
use Rattle.cqf_program_placing.specs.ActiveCycles.{hop_at, left_emptiest, pace_by}

-- what is left in each cycle is what is left in the only phase of one
pub emptiest_of_each : (d : Domain) (rows : List Row) (l : ℕ) → left_emptiest d rows 1 l ≡ left_beside d rows l
emptiest_of_each d rows l =
    let taken : Bool → ℕ → List ℕ = λ b cycle. if b then link_cost rows l cycle ∷ [] else [] in
    zero-max (left_in_active_cycles d rows (pace_by 1 0) (hop_at l))
    ∙ ap (λ most. budget d l - fold max 0 most)
    (same_below (λ cycle. taken (is_active (pace_by 1 0) 0 cycle) cycle) (λ cycle. link_cost rows l cycle ∷ []) most_every
    (λ cycle low. ap (λ b. taken b cycle) (always_active_cycle (pace_by 1 0) 0 cycle refl)))

-- one more phase is checked
pub emptiest_more : (d : Domain) (rows : List Row) (every l phase most left after : ℕ) →
    most ≡ fold max 0 (each_below (λ p. left_in_active_cycles d rows (pace_by every p) (hop_at l) ∷ []) phase) →
    left ≡ left_in_active_cycles d rows (pace_by every phase) (hop_at l) → after ≡ max most left →
    after ≡ fold max 0 (each_below (λ p. left_in_active_cycles d rows (pace_by every p) (hop_at l) ∷ []) (phase + 1))
emptiest_more d rows every l phase most left after so_far is more =
    let one : ℕ → List ℕ = λ p. left_in_active_cycles d rows (pace_by every p) (hop_at l) ∷ [] in
    let on : suc phase ≡ phase + 1 = omega arith in
    more ∙ (λ i. max (so_far i) (is i)) ∙ sym (fold-append max 0 (each_below one phase) (one phase)) ∙ ap (λ n. fold max 0 (each_below one n)) on

-- what the link of a tree's hop has left for a stream along that tree
pub left_of_hop : (d : Domain) (rows : List Row) (paths : List Branch) (pace : Pace) (hop : Hop) → Contains (tree_of d paths) hop →
    left_on d rows (tree_of d paths) pace hop.link ≡ left_in_active_cycles d rows pace hop
left_of_hop d rows paths pace hop among =
    let taken : Bool → ℕ → List ℕ = λ b cycle. if b then link_cost rows hop.link cycle ∷ [] else [] in
    ap (λ most. budget d hop.link - fold max 0 most)
    (same_below (λ cycle. taken (uses (tree_of d paths) pace hop.link cycle) cycle) (λ cycle. taken (is_active pace hop.hop_number cycle) cycle) most_every
    (λ cycle low. ap (λ b. taken b cycle) (uses_of_hop (tree_of d paths) pace hop cycle (hops_apart d paths) among)))
