-- A request of good form, compared with the figures.
use Rattle.std.proofs.Common.{◌*◌, ◌≡◌, ◌≢◌, ℕ, ◌+◌, ◌-◌, ◌<◌, ◌≤◌, ◌^◌, Bool, true, false, List, Option, None, length, refl, sym, ap, ◌∙◌, subst, arith}
use Rattle.std.specs.Prelude.{All, AllPairs, if◌then◌else◌}
use Rattle.std.proofs.Math.Nat.{div-le_self}
use Rattle.std.proofs.lemmas.List.{length-map}
use Rattle.cqf_lists.specs.Lists.{or_else}
use Rattle.cqf_units.specs.Timing.{cost_of}
use Rattle.cqf_units.specs.declared.reservations.Cycle.{Cycle}
use Rattle.cqf_model.specs.declared.history.Refused.{Refused}
use Rattle.cqf_model.specs.declared.history.Refused.TheVariants.{NameHeld}
use Rattle.cqf_model.specs.declared.topology.Hop.{Hop}
use Rattle.cqf_model.specs.Domain.{Domain, IsAccepted, budget, guard_of}
use Rattle.cqf_model.proofs.Links.{budget_within}
use Rattle.cqf_model.specs.History.{Asked, Recorded, held_in, next_number, refusal_of, refused_if, seals, streams_of}
use Rattle.cqf_model.specs.Limits.{most_hops}
use Rattle.cqf_model.specs.Table.{cost_on, links_in, uses}
use Rattle.cqf_model.proofs.Hops.{hops_apart, hops_inside}
use Rattle.cqf_laws_history.specs.StateLaws.{HeldAreSound, granted_row}
use Rattle.cqf_laws_history.proofs.Granted.{granted_fits_a_row}
use Rattle.cqf_admission.specs.ActiveCycles.{IsGoodPace}
use Rattle.cqf_admission.proofs.ActiveCycleLemmas.{asked_is_good}
use Rattle.cqf_admission.specs.declared.state.GoodForm.{GoodForm}
use Rattle.cqf_admission.specs.Holdings.{IsFree, Standing, held_cost}
use Rattle.cqf_admission.specs.Rows.{IsSummable}
use Rattle.cqf_admission.specs.State.{Figures, IsGoodFormOf, IsStateOf}
use Rattle.cqf_admission.specs.Streams.{stand_of}
use Rattle.cqf_admission.specs.Weighing.{is_taken, row_by, stand_refusal}
use Rattle.cqf_units.proofs.Costs.{cost_within}
use Rattle.cqf_admission.proofs.GrantLemmas.{form_paced, granted_countable, refusal_later}
use Rattle.cqf_admission.proofs.Reported.{costs, free_where_none, state_reported}

-- one more stream, from a request with no reason against it
pub record IsNew (d : Domain) (entries : List Recorded) (before : Figures) (asked : Asked) (form : GoodForm) : Type 0 where
  pub none : refusal_of d (held_in d entries (seals entries)) asked ≡ None
  pub few_hops : length form.tree.now ≤ most_hops
  pub is : row_by form (length before.stands) (record { 0 = before.sealed }) ≡ granted_row d (next_number d entries) (seals entries) asked
  pub free : IsFree before.stands form.name.now
  pub summable : (number : ℕ) (effect : Cycle) → IsSummable (length d.links) (row_by form number effect)
  pub fits : (l cycle number : ℕ) (effect : Cycle) → held_cost before.stands l cycle + cost_on (row_by form number effect) l cycle < 2 ^ 64

-- the first reason isn't due
first_not_due : (b : Bool) (rest : Option Refused) → or_else (refused_if b NameHeld) rest ≡ None → b ≡ false
first_not_due true rest e = absurd cc
first_not_due false rest e = refl

-- a part of a cost is at most the cost
part_within : (b : Bool) (cost : ℕ) → (if b then cost else 0) ≤ cost
part_within true cost = omega arith
part_within false cost = omega arith

module _ (d : Domain) (entries : List Recorded) (before : Figures) (r : IsStateOf d entries before) (sound : HeldAreSound) where
  -- no link is over its budget in a cycle
  pub within : (l cycle : ℕ) → held_cost before.stands l cycle ≤ budget d l
  within l cycle =
      let held = sound d entries (held_in d entries (seals entries)) (next_number d entries) r.0.running.legal (record { held = refl; number = refl }) in
      omega (arith, ap (λ (ss : List Standing). held_cost ss l cycle) r.0.are_streams, costs d entries l cycle, held.loads l cycle)

module _ (d : Domain) (asked : Asked) (form : GoodForm) (g : IsGoodFormOf d asked form) where
  -- its links are the domain's
  pub inside : All (λ (hop : Hop). hop.link < length d.links) form.tree.now
  inside = subst (All (λ (hop : Hop). hop.link < length d.links)) (sym g.tree) (hops_inside d asked.paths)

  -- each link occurs once
  pub apart : AllPairs (λ (a b : ℕ). a ≢ b) (links_in form.tree.now)
  apart = subst (λ (hops : List Hop). AllPairs (λ (a b : ℕ). a ≢ b) (links_in hops)) (sym g.tree) (hops_apart d asked.paths)

  -- its pace is good
  pub good : IsGoodPace form.pace
  good = subst IsGoodPace (sym g.paced) (asked_is_good asked (form_paced d asked g.none))

  -- its row is the one that is granted
  pub form_row : (number cycle : ℕ) → row_by form number (record { 0 = cycle }) ≡ granted_row d number cycle asked
  form_row number cycle =
      let effect : Cycle = record { 0 = cycle } in
      λ i. record {
        no = number;
        name = g.name i;
        octets = g.octets i;
        overhead = g.overhead i;
        pace = g.paced i;
        tree = record { items = g.tree i };
        admitted = effect;
        withdrawn = None;
      }

  -- its cost can be added to sums by link
  form_summable : IsAccepted d → (number : ℕ) (effect : Cycle) → IsSummable (length d.links) (row_by form number effect)
  form_summable ok number effect = record {
    countable = granted_countable d (row_by form number effect) asked number effect.0 ok.overhead_short (form_row number effect.0) g.most_octets;
    paced = good;
  }

module _ (d : Domain) (entries : List Recorded) (before : Figures) (r : IsStateOf d entries before) (asked : Asked) (form : GoodForm)
    (g : IsGoodFormOf d asked form) where
  -- the reasons against it are those that the figures give
  pub refusal_reported : refusal_of d (held_in d entries (seals entries)) asked
      ≡ stand_refusal d before.stands form.name.now (cost_of d.overhead form.octets) form.pace form.tree.now
  refusal_reported =
      refusal_later d (held_in d entries (seals entries)) asked g.none
      ∙ sym (state_reported d entries asked before.stands form.name.now (cost_of d.overhead form.octets) form.pace form.tree.now r.0.are_streams g.name
      (ap (cost_of d.overhead) g.octets) g.paced g.tree)

  -- there is room for its cost in a sum
  fits : HeldAreSound → IsAccepted d → (l cycle number : ℕ) (effect : Cycle) →
      held_cost before.stands l cycle + cost_on (row_by form number effect) l cycle < 2 ^ 64
  fits sound ok l cycle number effect =
      let own : cost_of form.overhead form.octets ≡ cost_of d.overhead form.octets = ap (λ o. cost_of o form.octets) g.overhead in
      let part : cost_on (row_by form number effect) l cycle ≤ cost_of form.overhead form.octets =
      part_within (uses form.tree.now form.pace l cycle) (cost_of form.overhead form.octets) in
      let most : budget d l ≤ 11 * (d.cycle_time - guard_of d l) = budget_within d l in
      omega (
        arith,
        within d entries before r sound l cycle,
        most,
        ok.cycle_most,
        part,
        own,
        cost_within d.overhead form.octets ok.overhead_short,
        g.octets,
        g.most_octets,
      )

  -- if the figures give no reason against it, it is one more stream
  pub is_new : HeldAreSound → IsAccepted d → stand_refusal d before.stands form.name.now (cost_of d.overhead form.octets) form.pace form.tree.now ≡ None → IsNew d entries before asked form
  is_new sound ok free =
      let none : refusal_of d (held_in d entries (seals entries)) asked ≡ None = refusal_reported ∙ free in
      record {
        none = none;
        few_hops = omega (arith, granted_fits_a_row d (held_in d entries (seals entries)) asked none, ap (λ (hops : List Hop). length hops) g.tree);
        is = (λ i. row_by form (numbers i) (record { 0 = r.0.running.counted i })) ∙ form_row d asked form g (next_number d entries) (seals entries);
        free = free_where_none before.stands form.name.now (first_not_due (is_taken before.stands form.name.now) _ free);
        summable = form_summable d asked form g ok;
        fits = fits sound ok;
      }
    where
      numbers : length before.stands ≡ next_number d entries
      numbers = ap (λ (ss : List Standing). length ss) r.0.are_streams ∙ length-map (streams_of d entries) (stand_of (seals entries))
