use Rattle.std.proofs.Common.{◌≡◌, ◌≢◌, ◌<◌, ◌≤◌, ◌∙◌, ◌+◌, ◌%◌, ℕ, All, List, None, Option, arith, ap, false, get_or, length, map, set, subst, subst₂, sym, true}
use Rattle.std.specs.Arc.{arc_value}
use Rattle.std.specs.Prelude.{AllPairs, Contains}
use Rattle.std.specs.BTreeMap.{UpdatesBy}
use Rattle.std.specs.Cmp.Lexicographic.{slice_cmp}
use Rattle.std.specs.Ordering.{nat_cmp}
use Rattle.std.proofs.lemmas.List.{length-map}
use Rattle.cqf_units.specs.Timing.{cost_of}
use Rattle.cqf_units.proofs.Costs.{cost_within}
use Rattle.cqf_model.specs.declared.topology.Hop.{Hop}
use Rattle.cqf_model.specs.declared.topology.Pace.{Pace}
use Rattle.cqf_model.specs.declared.topology.Row.{Row}
use Rattle.cqf_model.specs.Limits.{most_every, most_overhead, most_reserved}
use Rattle.cqf_model.specs.Table.{links_in}
use Rattle.cqf_admission.specs.ActiveCycles.{AreLessIn, HasIn, SumsByCycle}
use Rattle.cqf_admission.specs.Rows.{IsSummable}
use Rattle.cqf_admission.specs.Holdings.{HaveFigures, IsHeldAt, Standing, Stands, held_under, released, standing_of}
use Rattle.cqf_admission.specs.declared.holdings.Stand.{Stand}
use Rattle.cqf_admission.proofs.Figures.{figures_less, goes_within, others_stay, own_along}
use Rattle.cqf_admission.proofs.HeldNumbers.{number_of_held, numbers_ascend, without}
use Rattle.cqf_admission.proofs.Lists.{map_set, mapped_there, read_same}
use Rattle.cqf_admission.proofs.holdings.Holdings.let_go.Goals as goal

-- what is known of a held stream
module _ (stands : List Stand) (under : List ℕ → Option ℕ) (held : List ℕ) (sums : SumsByCycle) (h : HaveFigures (map standing_of stands) under held sums) (number : ℕ)
    (at : IsHeldAt (map standing_of stands) number) (old : Stand) (is : old ≡ get_or stands number old) where
  low : number < length stands
  low = omega (arith, at.inside, length-map stands standing_of)

  there : standing_of old ≡ get_or (map standing_of stands) number (standing_of old)
  there = sym (mapped_there standing_of stands number old (standing_of old) low is)

  is_held : old.held ≡ true
  is_held = ap (λ (x : Standing). x.held) there ∙ at.held (standing_of old)

  summable : IsSummable sums.links (arc_value old.row)
  summable = own_along (map standing_of stands) under held sums h number (standing_of old) at.inside there

  within : HasIn sums (arc_value old.row).tree.items (arc_value old.row).pace (cost_of (arc_value old.row).overhead (arc_value old.row).octets)
  within = goes_within (map standing_of stands) under held sums h number (standing_of old) at.inside there is_held

  -- the figures without it
  without_it : (left : Stand) (next : List ℕ → Option ℕ) (numbers : List ℕ) (less : SumsByCycle) → left ≡ old → next (arc_value old.row).name ≡ None →
      ((name : List ℕ) → name ≢ (arc_value old.row).name → next name ≡ under name) → numbers ≡ without number held →
      AreLessIn sums (arc_value old.row).tree.items (arc_value old.row).pace (cost_of (arc_value old.row).overhead (arc_value old.row).octets) less →
      HaveFigures (map standing_of (set stands number (record left { held = false }))) next numbers less
  without_it left next numbers less same own others listed by =
      subst (λ (rs : List Standing). HaveFigures rs next numbers less)
      (sym (ap (λ (x : Stand). map standing_of (set stands number (record x { held = false }))) same
      ∙ map_set standing_of stands number (record old { held = false })))
      (figures_less (map standing_of stands) under held sums h number (standing_of old) at.inside there is_held next own others numbers less listed by)

pub cost-cost-requires-clause-less : goal.cost-cost-requires-clause-less
cost-cost-requires-clause-less c =
    let at : IsHeldAt (map standing_of c.self.inside.rows.items) c.args.number = subst (λ (h : Stands). IsHeldAt h.rows c.args.number) (sym c.self.view_is)
    (record { inside = c.requires.inside; held = c.requires.held }) in
    let own = summable c.self.inside.rows.items (held_under c.self.inside.by_name) c.self.inside.held.items c.self.inside.sums c.self.invariant
    c.args.number at c.index.result.now c.index.ensures in
    let short : c.deref.result.now.overhead ≤ most_overhead = subst (λ (r : Row). r.overhead ≤ most_overhead) (sym c.deref.ensures) own.countable.overhead in
    omega (arith, short)

pub cost-cost-requires-clause-fits : goal.cost-cost-requires-clause-fits
cost-cost-requires-clause-fits c =
    let at : IsHeldAt (map standing_of c.self.inside.rows.items) c.args.number = subst (λ (h : Stands). IsHeldAt h.rows c.args.number) (sym c.self.view_is)
    (record { inside = c.requires.inside; held = c.requires.held }) in
    let own = summable c.self.inside.rows.items (held_under c.self.inside.by_name) c.self.inside.held.items c.self.inside.sums c.self.invariant
    c.args.number at c.index.result.now c.index.ensures in
    let row = arc_value c.index.result.now.row in
    let few : row.octets ≤ most_reserved = own.countable.octets in
    let costs : cost_of c.deref.result.now.overhead c.deref-2.result.now.octets ≡ cost_of row.overhead row.octets =
    λ i. cost_of (c.deref.ensures i).overhead (c.deref-2.ensures i).octets in
    omega (arith, costs, few, cost_within row.overhead row.octets own.countable.overhead)

pub take-requires-clause-inside : goal.take-requires-clause-inside
take-requires-clause-inside c =
    let at : IsHeldAt (map standing_of c.self.inside.rows.items) c.args.number = subst (λ (h : Stands). IsHeldAt h.rows c.args.number) (sym c.self.view_is)
    (record { inside = c.requires.inside; held = c.requires.held }) in
    let own = summable c.self.inside.rows.items (held_under c.self.inside.by_name) c.self.inside.held.items c.self.inside.sums c.self.invariant
    c.args.number at c.index.result.now c.index.ensures in
    let hops : c.as_slice.result.now ≡ (arc_value c.index.result.now.row).tree.items = c.as_slice.ensures.value ∙ ap (λ (r : Row). r.tree.items) c.deref-3.ensures in
    subst (λ (tree : List Hop). All (λ (l : ℕ). l < c.self.inside.sums.links) (links_in tree)) (sym hops) own.countable.inside

pub take-requires-clause-apart : goal.take-requires-clause-apart
take-requires-clause-apart c =
    let at : IsHeldAt (map standing_of c.self.inside.rows.items) c.args.number = subst (λ (h : Stands). IsHeldAt h.rows c.args.number) (sym c.self.view_is)
    (record { inside = c.requires.inside; held = c.requires.held }) in
    let own = summable c.self.inside.rows.items (held_under c.self.inside.by_name) c.self.inside.held.items c.self.inside.sums c.self.invariant
    c.args.number at c.index.result.now c.index.ensures in
    let hops : c.as_slice.result.now ≡ (arc_value c.index.result.now.row).tree.items = c.as_slice.ensures.value ∙ ap (λ (r : Row). r.tree.items) c.deref-3.ensures in
    subst (λ (tree : List Hop). AllPairs (λ (a b : ℕ). a ≢ b) (links_in tree)) (sym hops) own.countable.apart

pub take-requires-clause-good : goal.take-requires-clause-good
take-requires-clause-good c =
    let at : IsHeldAt (map standing_of c.self.inside.rows.items) c.args.number = subst (λ (h : Stands). IsHeldAt h.rows c.args.number) (sym c.self.view_is)
    (record { inside = c.requires.inside; held = c.requires.held }) in
    let own = summable c.self.inside.rows.items (held_under c.self.inside.by_name) c.self.inside.held.items c.self.inside.sums c.self.invariant
    c.args.number at c.index.result.now c.index.ensures in
    subst (λ (r : Row). most_every % (r.pace.pause + 1) ≡ 0) (sym c.deref-4.ensures) own.paced.divides

pub take-requires-clause-held : goal.take-requires-clause-held
take-requires-clause-held c =
    let at : IsHeldAt (map standing_of c.self.inside.rows.items) c.args.number = subst (λ (h : Stands). IsHeldAt h.rows c.args.number) (sym c.self.view_is)
    (record { inside = c.requires.inside; held = c.requires.held }) in
    let hops : c.as_slice.result.now ≡ (arc_value c.index.result.now.row).tree.items = c.as_slice.ensures.value ∙ ap (λ (r : Row). r.tree.items) c.deref-3.ensures in
    let costs : c.cost-cost.result.0 ≡ cost_of (arc_value c.index.result.now.row).overhead (arc_value c.index.result.now.row).octets =
    c.cost-cost.ensures ∙ (λ i. cost_of (c.deref.ensures i).overhead (c.deref-2.ensures i).octets) in
    let paced : c.deref-4.result.now.pace ≡ (arc_value c.index.result.now.row).pace = ap (λ (r : Row). r.pace) c.deref-4.ensures in
    subst (λ (pace : Pace). HasIn c.self.inside.sums c.as_slice.result.now pace c.cost-cost.result.0) (sym paced)
    (subst₂ (λ (tree : List Hop) (n : ℕ). HasIn c.self.inside.sums tree (arc_value c.index.result.now.row).pace n) (sym hops) (sym costs)
    (within c.self.inside.rows.items (held_under c.self.inside.by_name) c.self.inside.held.items c.self.inside.sums c.self.invariant c.args.number at
    c.index.result.now c.index.ensures))

pub take_out-requires-clause-order : goal.take_out-requires-clause-order
take_out-requires-clause-order c =
    subst (AllPairs (λ (a b : ℕ). a < b)) (sym c.self.invariant.numbers) (numbers_ascend 0 (map standing_of c.self.inside.rows.items))

pub take_out-requires-clause-there : goal.take_out-requires-clause-there
take_out-requires-clause-there c =
    let at : IsHeldAt (map standing_of c.self.inside.rows.items) c.args.number = subst (λ (h : Stands). IsHeldAt h.rows c.args.number) (sym c.self.view_is)
    (record { inside = c.requires.inside; held = c.requires.held }) in
    subst (λ (ns : List ℕ). Contains ns c.args.number) (sym c.self.invariant.numbers) (number_of_held (map standing_of c.self.inside.rows.items) c.args.number at)

pub invariant_of-self : goal.invariant_of-self
invariant_of-self c =
    let stands = c.self.inside.rows.items in
    let old = c.index.result.now in
    let at : IsHeldAt (map standing_of stands) c.args.number = subst (λ (h : Stands). IsHeldAt h.rows c.args.number) (sym c.self.view_is)
    (record { inside = c.requires.inside; held = c.requires.held }) in
    let low : c.args.number < length stands = omega (arith, at.inside, length-map stands standing_of) in
    let hops : c.as_slice.result.now ≡ (arc_value old.row).tree.items = c.as_slice.ensures.value ∙ ap (λ (r : Row). r.tree.items) c.deref-3.ensures in
    let costs : c.cost-cost.result.0 ≡ cost_of (arc_value old.row).overhead (arc_value old.row).octets =
    c.cost-cost.ensures ∙ (λ i. cost_of (c.deref.ensures i).overhead (c.deref-2.ensures i).octets) in
    let by : UpdatesBy (slice_cmp nat_cmp) (slice_cmp nat_cmp (arc_value old.row).name) c.self.inside.by_name c.remove.new.self None =
    subst (λ (r : Row). UpdatesBy (slice_cmp nat_cmp) (slice_cmp nat_cmp r.name) c.self.inside.by_name c.remove.new.self None) c.deref-5.ensures
    c.remove.ensures.updates in
    let paced : c.deref-4.result.now.pace ≡ (arc_value old.row).pace = ap (λ (r : Row). r.pace) c.deref-4.ensures in
    without_it stands (held_under c.self.inside.by_name) c.self.inside.held.items c.self.inside.sums c.self.invariant c.args.number at old c.index.ensures
    c.index_mut.result.now (held_under c.remove.new.self) c.take_out.new.held.items c.take.new.self
    (read_same stands c.args.number c.index_mut.result.now old low c.index_mut.ensures.value c.index.ensures) by.1
    (others_stay c.self.inside.by_name c.remove.new.self (arc_value old.row).name None by) c.take_out.ensures
    (subst (λ (pace : Pace). AreLessIn c.self.inside.sums (arc_value old.row).tree.items pace (cost_of (arc_value old.row).overhead (arc_value old.row).octets) c.take.new.self) paced
    (subst₂ (λ (tree : List Hop) (n : ℕ). AreLessIn c.self.inside.sums tree c.deref-4.result.now.pace n c.take.new.self) hops costs c.take.ensures))

pub returns-clause-rows : goal.returns-clause-rows
returns-clause-rows c = λ d.
    let stands = c.self.inside.rows.items in
    let rows : List Standing = map standing_of stands in
    let number = c.args.number in
    let old = c.index_mut.result.now in
    let low : number < length stands = omega (arith, c.requires.inside, ap (λ (h : Stands). length h.rows) c.self.view_is, length-map stands standing_of) in
    map_set standing_of stands number (record old { held = false })
    ∙ ap (λ (s : Standing). set rows number (released s)) (sym (mapped_there standing_of stands number old d low c.index_mut.ensures.value))
    ∙ ap (λ (h : Stands). set h.rows number (released (get_or h.rows number d))) c.self.view_is
