-- Streams that are listed, and what is kept of them.
use Rattle.std.proofs.Common.{ℕ, ◌≡◌, ◌≤◌, ◌<◌, ◌+◌, ◌++◌, ◌∙◌, Bool, true, cond, List, [], ◌∷◌, length, map, ap, arith, sym, refl, inl, inr}
use Rattle.std.specs.Prelude.{count_by, if◌then◌else◌, replicate, slice_index_or, ◌==◌, ◌^◌}
use Rattle.std.specs.List.{list_any}
use Rattle.cqf_admission.specs.Sums.{part_on}
use Rattle.std.proofs.lemmas.List.{get_or-replicate, length-replicate, length_push, map-append}
use Rattle.std.proofs.lemmas.List.Sums.{fold-append, sum_by_push}
use Rattle.std.proofs.lemmas.Bool.{cases_Bool}
use Rattle.cqf_units.proofs.Costs.{cost_within}
use Rattle.cqf_units.specs.Timing.{cost_of}
use Rattle.cqf_model.specs.declared.topology.Row.{Row}
use Rattle.cqf_model.specs.Limits.{most_overhead, most_reserved}
use Rattle.cqf_model.specs.Table.{cost_on, crosses, link_cost, uses}
use Rattle.cqf_admission.proofs.ActiveCycleLemmas.{most_of_costs}
use Rattle.cqf_admission.specs.ActiveCycles.{AreMoreIn, AreNone, HasRoomFor, SumsByCycle, most_of}
use Rattle.cqf_admission.specs.Costs.{most_cost}
use Rattle.cqf_program_plans.proofs.Fits.{most_taken}
use Rattle.cqf_program_plans.specs.Adding.{AddsWhere}
use Rattle.cqf_program_plans.specs.Load.Fitting.{streams_on}
use Rattle.cqf_program_plans.specs.Load.Listing.{IsListing}

-- each of this number of sums is 0
none_held : (sums : List ℕ) (count l : ℕ) → sums ≡ replicate count 0 → l < count → slice_index_or sums l 0 ≡ 0
none_held sums count l is low = ap (λ (s : List ℕ). slice_index_or s l 0) is ∙ get_or-replicate {A = ℕ} count l 0 0 low

-- no streams
pub none_listed : (held : SumsByCycle) (crossing : List ℕ) → AreNone held 4096 → crossing ≡ replicate 4096 0 → IsListing [] [] held crossing
none_listed held crossing costs counts = record {
  are_names = refl;
  few = omega arith;
  costs = costs.of_links;
  counts = ap length counts ∙ length-replicate {A = ℕ} 4096 0;
  cost = λ l cycle low. costs.none l cycle;
  bounded = λ l cycle low. omega (arith, costs.none l cycle);
  count = λ l low. none_held crossing 4096 l counts low;
  counted = λ l low. omega (arith, none_held crossing 4096 l counts low);
}

-- a sum far below the limit has room for a number
pub room_where : (sums links : List ℕ) (number l : ℕ) → number < 2 ^ 32 → slice_index_or sums l 0 < 2 ^ 32 → slice_index_or sums l 0 + part_on links number l < 2 ^ 64
room_where sums links number l small low = elim (cases_Bool (list_any (λ k. k == l) links)) [
  | inl on ↦ omega (arith, low, small, ap {B = ℕ} (λ (b : Bool). if b then number else 0) on)
  | inr off ↦ omega (arith, low, ap {B = ℕ} (λ (b : Bool). if b then number else 0) off)
]

-- one more stream counts if it passes
count_push : (p : Row → Bool) (rows : List Row) (row : Row) → count_by p (rows ++ row ∷ []) ≡ count_by p rows + (if p row then 1 else 0)
count_push p rows row = fold-append (λ (n : ℕ) (x : Row). n + cond (p x) 1 0) 0 rows (row ∷ [])

-- one more stream, of a name that isn't listed yet
module _ (names : List (List ℕ)) (rows : List Row) (held : SumsByCycle) (crossing : List ℕ) (row : Row) (now : IsListing names rows held crossing)
    (few : length rows < 16384) (octets : row.octets ≤ most_reserved) (overhead : row.overhead ≤ most_overhead) where
  -- what it costs of a link is bounded
  short : (l cycle : ℕ) → cost_on row l cycle ≤ 2000000
  short l cycle = elim (cases_Bool (uses row.tree.items row.pace l cycle)) [
    | inl goes ↦
        omega (arith, octets, cost_within row.overhead row.octets overhead, ap {B = ℕ} (λ (b : Bool). if b then cost_of row.overhead row.octets else 0) goes)
    | inr stays ↦ omega (arith, ap {B = ℕ} (λ (b : Bool). if b then cost_of row.overhead row.octets else 0) stays)
  ]

  one : (l : ℕ) → (if crosses row l then 1 else 0) ≤ 1
  one l = elim (cases_Bool (crosses row l)) [
    | inl goes ↦ omega (arith, ap {B = ℕ} (λ (b : Bool). if b then 1 else 0) goes)
    | inr stays ↦ omega (arith, ap {B = ℕ} (λ (b : Bool). if b then 1 else 0) stays)
  ]

  -- the sums have room for it
  pub room_for : HasRoomFor held row.tree.items row.pace (cost_of row.overhead row.octets)
  room_for l cycle low = omega (arith, few, short l cycle, now.bounded l cycle (omega (arith, low, now.costs)))

  pub one_listed : (names_after : List (List ℕ)) (rows_after : List Row) (held_after : SumsByCycle) (crossing_after : List ℕ) → names_after ≡ names ++ row.name ∷ [] →
      rows_after ≡ rows ++ row ∷ [] → AreMoreIn held row.tree.items row.pace (cost_of row.overhead row.octets) held_after → AddsWhere crossing row 1 crossing_after →
      IsListing names_after rows_after held_after crossing_after
  one_listed names_after rows_after held_after crossing_after named grown costs counts =
      let longer : length rows_after ≡ length rows + 1 = ap length grown ∙ length_push rows row in
      let cost_sum : (l cycle : ℕ) → link_cost rows_after l cycle ≡ link_cost rows l cycle + cost_on row l cycle =
      λ l cycle. ap (λ (rs : List Row). link_cost rs l cycle) grown ∙ sum_by_push (λ (r : Row). cost_on r l cycle) rows row in
      let count_sum : (l : ℕ) → streams_on rows_after l ≡ streams_on rows l + (if crosses row l then 1 else 0) =
      λ l. ap (λ (rs : List Row). streams_on rs l) grown ∙ count_push (λ (r : Row). crosses r l) rows row in
      record {
        are_names = named ∙ ap (λ (ns : List (List ℕ)). ns ++ row.name ∷ []) now.are_names ∙ sym (ap (map (λ (r : Row). r.name)) grown
            ∙ map-append (λ (r : Row). r.name) rows (row ∷ []));
        few = omega (arith, few, longer);
        costs = costs.links ∙ now.costs;
        counts = counts.all;
        cost = λ l cycle low. omega (arith, costs.each l cycle (omega (arith, low, now.costs)), now.cost l cycle low, cost_sum l cycle);
        bounded = λ l cycle low. omega (arith, costs.each l cycle (omega (arith, low, now.costs)), now.bounded l cycle low, short l cycle, longer);
        count = λ l low. omega (arith, counts.each l low, now.count l low, count_sum l);
        counted = λ l low. omega (arith, counts.each l low, now.counted l low, one l, longer);
      }

-- the most that the streams cost of a link in a cycle is the sum that is kept of it, and is bounded
pub most_listed : (names : List (List ℕ)) (rows : List Row) (held : SumsByCycle) (crossing : List ℕ) (l : ℕ) → IsListing names rows held crossing → l < 4096 →
    most_of held l ≡ most_cost rows l
most_listed names rows held crossing l is low = most_of_costs held l (link_cost rows l) (λ cycle below. is.cost l cycle low)

pub most_bounded : (names : List (List ℕ)) (rows : List Row) (held : SumsByCycle) (crossing : List ℕ) (l : ℕ) → IsListing names rows held crossing → l < 4096 →
    most_cost rows l ≤ 32768000000
most_bounded names rows held crossing l is low =
    most_taken (λ active_cycle. true) (link_cost rows l) 32768000000 (λ active_cycle on. omega (arith, is.few, is.bounded l active_cycle low, is.cost l active_cycle low)) 80
