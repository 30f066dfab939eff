-- What streams cost of a link repeats with their paces.
use Rattle.std.specs.Prelude.{sum_by}
use Rattle.std.proofs.Common.{◌≡◌, ℕ, ◌+◌, ◌-◌, ◌<◌, ◌≤◌, ◌%◌, Bool, true, List, sym, ap, ◌∙◌, inl, inr, arith, le_of_eq, mod-lt, max, fold}
use Rattle.std.specs.Prelude.{[], ◌∷◌, ◌==◌, ◌&&◌, if◌then◌else◌, suc, zero, Contains}
use Rattle.std.specs.List.{list_any}
use Rattle.std.proofs.Math.Nat.{mod-mod_of_dvd, mod-zero}
use Rattle.std.proofs.lemmas.Nat.Gcd.{dvd_of_mod-eq-zero}
use Rattle.cqf_units.specs.Timing.{cost_of}
use Rattle.cqf_lists.specs.Lists.{each_below}
use Rattle.cqf_lists.proofs.EachBelow.{contains_below}
use Rattle.cqf_lists.proofs.Made.{if_contains}
use Rattle.cqf_lists.proofs.Members.{any_member, contains_cases, contains_here, contains_map, contains_none, member_any}
use Rattle.cqf_lists.proofs.Sums.{sum_le_members}
use Rattle.cqf_model.specs.declared.topology.Hop.{Hop}
use Rattle.cqf_model.specs.declared.topology.Pace.{Pace}
use Rattle.cqf_model.specs.declared.topology.Row.{Row}
use Rattle.cqf_model.specs.History.{most_beside}
use Rattle.cqf_model.specs.Table.{cost_on, link_cost, links_in, uses}
use Rattle.cqf_model.specs.Paces.{is_active}
use Rattle.std.proofs.lemmas.Bool.{and_parts}

-- a stream is offered once every n cycles, for a divisor n of 80
abbrev pub IsPaced : Pace → Type 0
IsPaced pace = 80 % (pace.pause + 1) ≡ 0

-- it uses a link in a cycle exactly if it does in the cycle of the first 80 with the same remainder
pub uses_again : (tree : List Hop) (pace : Pace) (l cycle : ℕ) → IsPaced pace → uses tree pace l (cycle % 80) ≡ uses tree pace l cycle
uses_again tree pace l cycle paced =
    ap (λ z. list_any (λ (hop : Hop). (hop.link == l) && ((pace.phase + hop.hop_number) % (pace.pause + 1) == z)) tree)
    (mod-mod_of_dvd (pace.pause + 1) cycle (dvd_of_mod-eq-zero (pace.pause + 1) paced))

-- a stream crosses each link that it uses
pub used_is_crossed : (tree : List Hop) (pace : Pace) (l cycle : ℕ) → uses tree pace l cycle ≡ true → list_any (λ k. k == l) (links_in tree) ≡ true
used_is_crossed tree pace l cycle t =
    let w = any_member (λ (hop : Hop). (hop.link == l) && is_active pace hop.hop_number cycle) tree t in
    let here = (and_parts (w.0.link == l) (is_active pace w.0.hop_number cycle) w.2).0 in
    member_any (λ k. k == l) (links_in tree) w.0.link (contains_map (λ (hop : Hop). hop.link) tree w.0 w.1) here

-- so streams cost the same there
pub costs_again : (rows : List Row) (l cycle : ℕ) → ((row : Row) → Contains rows row → IsPaced row.pace) → link_cost rows l cycle ≤ link_cost rows l (cycle % 80)
costs_again rows l cycle paced =
    sum_le_members (λ (row : Row). cost_on row l cycle) (λ (row : Row). cost_on row l (cycle % 80)) rows
    (λ row m. le_of_eq (sym (ap (λ (b : Bool). if b then cost_of row.overhead row.octets else 0) (uses_again row.tree.items row.pace l cycle (paced row m)))))

-- a number of a list is at most the greatest
most_from : (xs : List ℕ) (least : ℕ) → least ≤ fold max least xs
most_from [] least = omega arith
most_from (x ∷ xs) least = omega (arith, most_from xs (max least x))

most_of : (xs : List ℕ) (least x : ℕ) → Contains xs x → x ≤ fold max least xs
most_of [] least x c = absurd (contains_none x c)
most_of (y ∷ xs) least x c = elim (contains_cases y xs x c) [
  | inl e ↦ omega (arith, most_from xs (max least y), e)
  | inr k ↦ most_of xs (max least y) x k
]

-- the cost of the streams on a link, in a cycle in which another stream uses it, is at most the greatest such cost
pub cost_within_most : (rows : List Row) (tree : List Hop) (pace : Pace) (l cycle : ℕ) → ((row : Row) → Contains rows row → IsPaced row.pace) →
    IsPaced pace → uses tree pace l cycle ≡ true → link_cost rows l cycle ≤ most_beside rows tree pace l
cost_within_most rows tree pace l cycle paced own used =
    let active_cycle = cycle % 80 in
    let below : active_cycle < 80 = mod-lt cycle (omega arith) in
    let there : uses tree pace l active_cycle ≡ true = uses_again tree pace l cycle own ∙ used in
    let costs : ℕ → List ℕ = λ k. if uses tree pace l k then link_cost rows l k ∷ [] else [] in
    let here : Contains (costs active_cycle) (link_cost rows l active_cycle) =
    if_contains (uses tree pace l active_cycle) (link_cost rows l active_cycle ∷ []) (link_cost rows l active_cycle) there (contains_here (link_cost rows l active_cycle) []) in
    let most = most_of (each_below costs 80) 0 (link_cost rows l active_cycle) (contains_below costs 80 active_cycle (link_cost rows l active_cycle) below here) in
    omega (arith, costs_again rows l cycle paced, most)

-- the same for rows that are made from the elements of a list
pub all_within_most : {X : Type 0} (row_of : X → Row) (xs : List X) (tree : List Hop) (pace : Pace) (l cycle : ℕ) →
    ((x : X) → Contains xs x → IsPaced (row_of x).pace) → IsPaced pace → uses tree pace l cycle ≡ true →
    sum_by (λ x. cost_on (row_of x) l cycle) xs
    ≤ fold max 0 (each_below (λ k. if uses tree pace l k then sum_by (λ x. cost_on (row_of x) l k) xs ∷ [] else []) 80)
all_within_most {X} row_of xs tree pace l cycle each own used =
    let active_cycle = cycle % 80 in
    let below : active_cycle < 80 = mod-lt cycle (omega arith) in
    let there : uses tree pace l active_cycle ≡ true = uses_again tree pace l cycle own ∙ used in
    let cost : ℕ → ℕ = λ k. sum_by (λ x. cost_on (row_of x) l k) xs in
    let costs : ℕ → List ℕ = λ k. if uses tree pace l k then cost k ∷ [] else [] in
    let here : Contains (costs active_cycle) (cost active_cycle) = if_contains (uses tree pace l active_cycle) (cost active_cycle ∷ []) (cost active_cycle) there (contains_here (cost active_cycle) []) in
    let most = most_of (each_below costs 80) 0 (cost active_cycle) (contains_below costs 80 active_cycle (cost active_cycle) below here) in
    let again = sum_le_members (λ x. cost_on (row_of x) l cycle) (λ x. cost_on (row_of x) l active_cycle) xs
    (λ x m. let row = row_of x in
    le_of_eq (sym (ap (λ (b : Bool). if b then cost_of row.overhead row.octets else 0) (uses_again row.tree.items row.pace l cycle (each x m))))) in
    omega (arith, again, most)

-- the pace of a request that isn't refused is of this kind
pub paced : (every : ℕ) → 80 % every ≡ 0 → 80 % (every - 1 + 1) ≡ 0
paced zero e = absurd (omega (arith, e, mod-zero 80))
paced (suc every) e = let same : suc every - 1 + 1 ≡ suc every = omega arith in ap (λ z. 80 % z) same ∙ e
