-- What streams cost of a link repeats after 80 cycles.
use Rattle.std.proofs.Common.{ℕ, ◌≡◌, ◌+◌, ◌++◌, ◌%◌, ◌<◌, ◌≤◌, ◌∙◌, Bool, List, [], ◌∷◌, Contains, None, Ok, Option, Some, ap, arith, fold, inl, inr, length, max, mod-lt, refl, subst, sym}
use Rattle.std.specs.Prelude.{if◌then◌else◌, nat_le, suc, zero}
use Rattle.std.specs.List.{list_any}
use Rattle.std.proofs.Math.Nat.{add-mod_right}
use Rattle.std.proofs.lemmas.Bool.{cases_lt, cases_order}
use Rattle.std.proofs.lemmas.List.Elements.{Contains-append_cases}
use Rattle.std.proofs.lemmas.List.Sums.{fold_push}
use Rattle.cqf_lists.specs.Lists.{each_below, or_else}
use Rattle.cqf_lists.proofs.EachBelow.{fold_same}
use Rattle.cqf_lists.proofs.Members.{contains_none, contains_one}
use Rattle.cqf_units.specs.Timing.{cost_of}
use Rattle.cqf_model.specs.declared.history.Refused.{Refused}
use Rattle.cqf_model.specs.declared.history.Refused.TheVariants.{NameHeld, TooManyStreams}
use Rattle.cqf_model.specs.declared.topology.Row.{Row}
use Rattle.cqf_model.specs.Domain.{Domain, is_text}
use Rattle.cqf_model.specs.History.{Asked, held_in, refused_if}
use Rattle.cqf_model.specs.Limits.{most_every, streams_within}
use Rattle.cqf_model.specs.Table.{cost_on, link_cost}
use Rattle.cqf_admission.specs.Judging.{form_refusal}
use Rattle.cqf_admission.specs.ActiveCycles.{AreOfGoodPaces, IsOfGoodPace}
use Rattle.cqf_admission.proofs.GrantLemmas.{form_paced}
use Rattle.cqf_admission.proofs.Paced.{good_held}
use Rattle.cqf_admission.proofs.ActiveCycleLemmas.{asked_is_good}
use Rattle.cqf_laws_history.proofs.ActiveCycles.{uses_again}
use Rattle.cqf_program_plans.specs.Compile.Output.{stream_line}
use Rattle.cqf_program_plans.specs.Load.Listing.{listed_row, listing_refusal}
use Rattle.cqf_program_plans.specs.Load.Output.{listed_from}
use Rattle.cqf_program_plans.proofs.CompileLemmas.{refuse_ok, same_ok}
use Rattle.cqf_program_laws.specs.CostLaws.{AreRepeatedCosts, HeldCostsRepeat, ListedCostsRepeat}

-- the greatest of some numbers is one of them, and none is greater
module _ (f : ℕ → ℕ) where
  abbrev greatest : ℕ → ℕ
  greatest n = fold max 0 (each_below (λ k. f k ∷ []) n)

  with_next : (n : ℕ) → greatest (suc n) ≡ max (greatest n) (f n)
  with_next n = fold_push max 0 (each_below (λ k. f k ∷ []) n) (f n)

  none_greater : (n k : ℕ) → k < n → f k ≤ greatest n
  none_greater zero k below = absurd (omega (arith, below))
  none_greater (suc n) k below = elim (cases_order k n) [
    | inl same ↦ omega (arith, with_next n, ap f same)
    | inr o ↦ elim o [
      | inl less ↦ omega (arith, with_next n, none_greater n k less)
      | inr more ↦ absurd (omega (arith, below, more))
    ]
  ]

  one_reaches : (n : ℕ) → (k : ℕ) × (k < suc n) × (f k ≡ greatest (suc n))
  one_reaches zero = (0, omega arith, omega arith)
  one_reaches (suc n) =
      let before = one_reaches n in
      elim (cases_lt (greatest (suc n)) (f (suc n))) [
        | inl less ↦ (suc n, omega arith, omega (arith, with_next (suc n), less))
        | inr more ↦ (before.0, omega (arith, before.1), omega (arith, with_next (suc n), more, before.2))
      ]

-- so the costs are those of the first 80 cycles
module _ (rows : List Row) (good : AreOfGoodPaces rows) (l : ℕ) where
  cost_again : (cycle : ℕ) → link_cost rows l (cycle % most_every) ≡ link_cost rows l cycle
  cost_again cycle =
      fold_same (λ (n : ℕ) (row : Row). n + cost_on row l (cycle % most_every)) (λ (n : ℕ) (row : Row). n + cost_on row l cycle) 0 rows
      (λ n row among. ap (λ (b : Bool). n + (if b then cost_of row.overhead row.octets else 0)) (uses_again row.tree.items row.pace l cycle (good row among).divides))

  repeated : AreRepeatedCosts rows l
  repeated = record {
    again = λ cycle. sym (cost_again (cycle + most_every)) ∙ ap (link_cost rows l) (add-mod_right cycle most_every) ∙ cost_again cycle;
    most = λ cycle.
        subst (λ (n : ℕ). n ≤ greatest (link_cost rows l) most_every) (cost_again cycle)
        (none_greater (link_cost rows l) most_every (cycle % most_every) (mod-lt cycle (omega arith)));
    reached = one_reaches (link_cost rows l) 79;
  }

-- the first of two refusals isn't due if neither is
first_none : (a b : Option Refused) → or_else a b ≡ None → a ≡ None
first_none None b h = refl
first_none (Some x) b h = cc

-- listed streams have good paces
good_listed : (d : Domain) (streams : List Asked) (rows end : List Row) → AreOfGoodPaces rows → listed_from d rows streams ≡ Ok end → AreOfGoodPaces end
good_listed d [] rows end good h = subst AreOfGoodPaces (same_ok rows end h) good
good_listed d (asked ∷ more) rows end good h =
    let new = listed_row d rows asked in
    let parts = refuse_ok (listing_refusal d rows asked) (stream_line (length rows + 1)) (listed_from d (rows ++ new ∷ []) more) end h in
    let form = first_none (form_refusal d asked)
    (or_else (refused_if (list_any (λ (row : Row). is_text row.name asked.name) rows) NameHeld)
    (refused_if (nat_le (streams_within d.limits) (length rows)) TooManyStreams)) parts.0 in
    let paced : IsOfGoodPace new = asked_is_good asked (form_paced d asked form) in
    good_listed d more (rows ++ new ∷ []) end
    (λ row among. elim (Contains-append_cases rows (new ∷ []) row among) [
      | inl before ↦ good row before
      | inr last ↦ subst IsOfGoodPace (contains_one new row last) paced
    ]) parts.1

pub listed_costs_repeat : ListedCostsRepeat
listed_costs_repeat d streams rows l h = repeated rows (good_listed d streams [] rows (λ row among. absurd (contains_none row among)) h) l

pub held_costs_repeat : HeldCostsRepeat
held_costs_repeat d entries cycle l legal = repeated (held_in d entries cycle) (good_held d entries legal cycle) l
