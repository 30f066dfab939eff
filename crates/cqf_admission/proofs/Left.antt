-- What links have left besides the held streams.
use Rattle.std.proofs.Common.{◌≡◌, ◌≢◌, ℕ, ◌+◌, ◌-◌, ◌<◌, ◌≤◌, ◌∙◌, Bool, cond, List, Option, None, Some, [], ◌∷◌, ap, arith, drop, find, fold, get_or, length, max, nat_lt, subst, sym}
use Rattle.std.specs.Prelude.{AllPairs, Contains, if◌then◌else◌}
use Rattle.std.proofs.lemmas.Bool.{le-ltb, lt-ltb}
use Rattle.std.proofs.lemmas.List.{at_drop_more}
use Rattle.std.proofs.lemmas.List.Elements.{Contains-get_or}
use Rattle.cqf_lists.proofs.EachBelow.{same_below}
use Rattle.cqf_lists.proofs.Made.{contains_if}
use Rattle.cqf_lists.proofs.Members.{contains_one}
use Rattle.cqf_model.specs.declared.history.Refused.{Refused}
use Rattle.cqf_model.specs.declared.history.Refused.TheVariants.{BudgetShort}
use Rattle.cqf_model.specs.declared.topology.Hop.{Hop}
use Rattle.cqf_model.specs.declared.topology.Pace.{Pace}
use Rattle.cqf_model.specs.Domain.{Domain, budget}
use Rattle.cqf_model.specs.History.{refused_at}
use Rattle.cqf_model.specs.Limits.{most_every}
use Rattle.cqf_model.specs.Paces.{is_active}
use Rattle.cqf_model.specs.Table.{links_in, uses}
use Rattle.cqf_admission.proofs.ActiveCycleLemmas.{uses_of_hop}
use Rattle.cqf_admission.specs.Holdings.{Standing, held_cost, held_most, held_most_at}
use Rattle.cqf_admission.specs.Weighing.{left_at, left_by, short_among}
use Rattle.cqf_admission.proofs.Most.{most_within}

-- the default hop for an index without one
abbrev pub no_hop : Hop
no_hop = record { link = 0; hop_number = 0; from = None }

-- the greatest of some costs is within a bound of these costs
pub fits_in : (taken most greatest bound : ℕ) → taken ≡ greatest → most ≡ bound → greatest ≤ bound → taken ≤ most
fits_in taken most greatest bound is are within = omega (arith, is, are, within)

-- nothing more fits
pub none_over : (taken most : ℕ) → taken ≤ most → most < taken → ⊥
none_over taken most within over = omega (arith, within, over)

-- costs within a bound in each cycle are within it at most, and in the cycles of a pace
module _ (stands : List Standing) (l bound : ℕ) (within : (cycle : ℕ) → held_cost stands l cycle ≤ bound) where
  one_within : (cycle x : ℕ) → Contains (held_cost stands l cycle ∷ []) x → x ≤ bound
  one_within cycle x among = subst (λ (n : ℕ). n ≤ bound) (contains_one (held_cost stands l cycle) x among) (within cycle)

  pub all_within : held_most stands l ≤ bound
  all_within = most_within (λ cycle. held_cost stands l cycle ∷ []) most_every bound one_within

  pub active_cycles_within : (pace : Pace) (hop_number : ℕ) → held_most_at stands l pace hop_number ≤ bound
  active_cycles_within pace hop_number =
      most_within (λ cycle. if is_active pace hop_number cycle then held_cost stands l cycle ∷ [] else []) most_every bound
      (λ cycle x among. one_within cycle x (contains_if (is_active pace hop_number cycle) (held_cost stands l cycle ∷ []) x among))

module _ (d : Domain) (stands : List Standing) (cost : ℕ) (pace : Pace) (tree : List Hop) where
  -- what is left at a hop is what is left of its link
  pub left_of_hop : (hop : Hop) → AllPairs (λ (a b : ℕ). a ≢ b) (links_in tree) → Contains tree hop → left_at d stands pace hop ≡ left_by d stands tree pace hop.link
  left_of_hop hop apart there =
      ap (λ (taken : List ℕ). budget d hop.link - fold max 0 taken)
      (same_below (λ cycle. if is_active pace hop.hop_number cycle then held_cost stands hop.link cycle ∷ [] else [])
      (λ cycle. if uses tree pace hop.link cycle then held_cost stands hop.link cycle ∷ [] else []) most_every
      (λ cycle below. ap (λ (b : Bool). if b then held_cost stands hop.link cycle ∷ [] else []) (sym (uses_of_hop tree pace hop cycle apart there))))

  -- for the hops from one on: if its link is short, and if it isn't
  abbrev short_from : ℕ → Option Refused
  short_from index = short_among d stands cost pace tree (links_in (drop index tree))

  module _ (index left : ℕ) (none : Hop) (inside : index < length tree) (apart : AllPairs (λ (a b : ℕ). a ≢ b) (links_in tree))
      (is : left ≡ left_at d stands pace (get_or tree index none)) where
    abbrev hop : Hop
    hop = get_or tree index none

    left_is : left ≡ left_by d stands tree pace hop.link
    left_is = is ∙ left_of_hop hop apart (Contains-get_or tree index none inside)

    step : short_from index
        ≡ refused_at (λ l. BudgetShort l (left_by d stands tree pace l))
        (cond (nat_lt (left_by d stands tree pace hop.link) cost) (Some hop.link)
        (find (λ l. nat_lt (left_by d stands tree pace l) cost) (links_in (drop (index + 1) tree))))
    step = at_drop_more (λ hops. short_among d stands cost pace tree (links_in hops)) tree index none inside

    pub short_here : left < cost → short_from index ≡ Some (BudgetShort hop.link left)
    short_here less =
        step
        ∙ ap (λ (b : Bool). refused_at (λ l. BudgetShort l (left_by d stands tree pace l))
        (cond b (Some hop.link) (find (λ l. nat_lt (left_by d stands tree pace l) cost) (links_in (drop (index + 1) tree)))))
        (ap (λ (n : ℕ). nat_lt n cost) (sym left_is) ∙ lt-ltb left cost less)
        ∙ ap (λ (n : ℕ). Some (BudgetShort hop.link n)) (sym left_is)

    pub short_later : cost ≤ left → short_from index ≡ short_from (index + 1)
    short_later enough =
        step
        ∙ ap (λ (b : Bool). refused_at (λ l. BudgetShort l (left_by d stands tree pace l))
        (cond b (Some hop.link) (find (λ l. nat_lt (left_by d stands tree pace l) cost) (links_in (drop (index + 1) tree)))))
        (ap (λ (n : ℕ). nat_lt n cost) (sym left_is) ∙ le-ltb left cost enough)
