use Rattle.std.proofs.Common.{◌≡◌, ◌≢◌, ◌+◌, ◌<◌, ◌≤◌, ◌^◌, ◌%◌, ◌++◌, ◌∷◌, [], All, arith, ap, refl, sym, subst, subst₂, true, ℕ, length, map, List, Some, ◌∙◌}
use Rattle.std.specs.Prelude.{AllPairs}
use Rattle.std.specs.BTreeMap.{UpdatesBy}
use Rattle.std.specs.Cmp.Lexicographic.{slice_cmp}
use Rattle.std.specs.Ordering.{nat_cmp}
use Rattle.std.proofs.lemmas.List.{length-map, map-append}
use Rattle.cqf_units.specs.Timing.{cost_of}
use Rattle.cqf_units.proofs.Costs.{cost_within}
use Rattle.cqf_model.specs.declared.topology.Hop.{Hop}
use Rattle.cqf_model.specs.declared.topology.Pace.{Pace}
use Rattle.cqf_model.specs.declared.topology.Row.{Row}
use Rattle.cqf_model.specs.Limits.{most_every, most_overhead, most_reserved}
use Rattle.cqf_model.specs.Table.{cost_on, links_in}
use Rattle.cqf_admission.specs.ActiveCycles.{AreMoreIn, HasRoomFor}
use Rattle.cqf_admission.specs.Rows.{IsSummable}
use Rattle.cqf_admission.specs.Holdings.{IsFree, Standing, Stands, held_by, held_cost, held_under, standing_of}
use Rattle.cqf_admission.specs.declared.holdings.Stand.{Stand}
use Rattle.cqf_admission.proofs.Figures.{figures_more, figures_same, has_room, others_stay}
use Rattle.cqf_admission.proofs.holdings.Holdings.push.Goals as goal

pub cost-cost-requires-clause-less : goal.cost-cost-requires-clause-less
cost-cost-requires-clause-less c =
    let is : c.deref.result.now ≡ c.args.row = c.deref.ensures ∙ c.in_ok-row.ensures.ok in
    let short : c.deref.result.now.overhead ≤ most_overhead =
    subst (λ (r : Row). r.overhead ≤ most_overhead) (sym is) c.requires.summable.countable.overhead in
    omega (arith, short)

pub cost-cost-requires-clause-fits : goal.cost-cost-requires-clause-fits
cost-cost-requires-clause-fits c =
    let row = c.args.row in
    let counted : c.deref.result.now.overhead ≡ row.overhead = ap (λ (r : Row). r.overhead) (c.deref.ensures ∙ c.in_ok-row.ensures.ok) in
    let reserved : c.deref-2.result.now.octets ≡ row.octets = ap (λ (r : Row). r.octets) (c.deref-2.ensures ∙ c.in_ok-row.ensures.ok) in
    let few : row.octets ≤ most_reserved = c.requires.summable.countable.octets in
    let costs : cost_of c.deref.result.now.overhead c.deref-2.result.now.octets ≡ cost_of row.overhead row.octets =
    λ i. cost_of (counted i) (reserved i) in
    omega (arith, costs, few, cost_within row.overhead row.octets c.requires.summable.countable.overhead)

pub add-requires-clause-inside : goal.add-requires-clause-inside
add-requires-clause-inside c =
    let own = (subst (λ (h : Stands). IsSummable h.links c.args.row) (sym c.self.view_is) c.requires.summable).countable in
    let hops : c.as_slice.result.now ≡ c.args.row.tree.items = c.as_slice.ensures.value ∙ ap (λ (r : Row). r.tree.items) (c.deref-3.ensures ∙ c.in_ok-row.ensures.ok) in
    subst (λ (tree : List Hop). All (λ (l : ℕ). l < c.self.inside.sums.links) (links_in tree)) (sym hops) own.inside

pub add-requires-clause-apart : goal.add-requires-clause-apart
add-requires-clause-apart c =
    let hops : c.as_slice.result.now ≡ c.args.row.tree.items = c.as_slice.ensures.value ∙ ap (λ (r : Row). r.tree.items) (c.deref-3.ensures ∙ c.in_ok-row.ensures.ok) in
    subst (λ (tree : List Hop). AllPairs (λ (a b : ℕ). a ≢ b) (links_in tree)) (sym hops) c.requires.summable.countable.apart

pub add-requires-clause-good : goal.add-requires-clause-good
add-requires-clause-good c =
    subst (λ (r : Row). most_every % (r.pace.pause + 1) ≡ 0) (sym (c.deref-4.ensures ∙ c.in_ok-row.ensures.ok)) c.requires.summable.paced.divides

pub add-requires-clause-room : goal.add-requires-clause-room
add-requires-clause-room c =
    let row = c.args.row in
    let hops : c.as_slice.result.now ≡ row.tree.items = c.as_slice.ensures.value ∙ ap (λ (r : Row). r.tree.items) (c.deref-3.ensures ∙ c.in_ok-row.ensures.ok) in
    let costs : c.cost-cost.result.0 ≡ cost_of row.overhead row.octets =
    c.cost-cost.ensures ∙ (λ i. cost_of ((c.deref.ensures ∙ c.in_ok-row.ensures.ok) i).overhead ((c.deref-2.ensures ∙ c.in_ok-row.ensures.ok) i).octets) in
    let paced : c.deref-4.result.now.pace ≡ row.pace = ap (λ (r : Row). r.pace) (c.deref-4.ensures ∙ c.in_ok-row.ensures.ok) in
    subst (λ (pace : Pace). HasRoomFor c.self.inside.sums c.as_slice.result.now pace c.cost-cost.result.0) (sym paced)
    (subst₂ (λ (tree : List Hop) (n : ℕ). HasRoomFor c.self.inside.sums tree row.pace n) (sym hops) (sym costs)
    (has_room (map standing_of c.self.inside.rows.items) (held_under c.self.inside.by_name) c.self.inside.held.items c.self.inside.sums c.self.invariant row
    (subst (λ (h : Stands). (l cycle : ℕ) → l < h.links → held_cost h.rows l cycle + cost_on row l cycle < 2 ^ 64) (sym c.self.view_is) c.requires.fits)))

pub invariant_of-self : goal.invariant_of-self
invariant_of-self c =
    let rows : List Standing = map standing_of c.self.inside.rows.items in
    figures_same rows rows c.self.inside.by_name c.insert.new.self c.self.inside.held.items c.self.inside.held.items c.self.inside.sums
    c.self.inside.sums c.self.invariant refl c.in_err-insert.ensures.err refl refl

pub invariant_of-self-2 : goal.invariant_of-self-2
invariant_of-self-2 c =
    let stands = c.self.inside.rows.items in
    let rows : List Standing = map standing_of stands in
    let held = c.self.inside.held.items in
    let row = c.args.row in
    let stand : Standing = held_by row in
    let new : Stand = record { row = c.in_ok-row.row; held = true } in
    let grown : map standing_of c.push-2.new.self.items ≡ rows ++ stand ∷ [] =
    ap (map standing_of) (rw c.unwrap-2.ensures at c.push-2.ensures.items) ∙ map-append standing_of stands (new ∷ [])
    ∙ ap (λ (r : Row). rows ++ held_by r ∷ []) c.in_ok-row.ensures.ok in
    let few : length rows + 1 < 2 ^ 32 = omega (arith, c.requires.few, ap (λ (h : Stands). length h.rows) c.self.view_is) in
    let free : IsFree rows row.name = subst (λ (h : Stands). IsFree h.rows row.name) (sym c.self.view_is) c.requires.free in
    let own : IsSummable c.self.inside.sums.links row = subst (λ (h : Stands). IsSummable h.links row) (sym c.self.view_is) c.requires.summable in
    let count : c.len-number.result ≡ length rows = omega (arith, c.len-number.ensures, length-map stands standing_of) in
    let by : UpdatesBy (slice_cmp nat_cmp) (slice_cmp nat_cmp row.name) c.self.inside.by_name c.insert.new.self (Some (length rows)) =
    subst₂ (λ (name : List ℕ) (n : ℕ). UpdatesBy (slice_cmp nat_cmp) (slice_cmp nat_cmp name) c.self.inside.by_name c.insert.new.self (Some n))
    c.copied-name.ensures count c.in_ok-insert.ensures.updates in
    let listed : c.push.new.self.items ≡ held ++ length rows ∷ [] =
    (rw c.unwrap.ensures at c.push.ensures.items) ∙ ap (λ (n : ℕ). held ++ n ∷ []) count in
    let hops : c.as_slice.result.now ≡ row.tree.items = c.as_slice.ensures.value ∙ ap (λ (r : Row). r.tree.items) (c.deref-3.ensures ∙ c.in_ok-row.ensures.ok) in
    let costs : c.cost-cost.result.0 ≡ cost_of row.overhead row.octets =
    c.cost-cost.ensures ∙ (λ i. cost_of ((c.deref.ensures ∙ c.in_ok-row.ensures.ok) i).overhead ((c.deref-2.ensures ∙ c.in_ok-row.ensures.ok) i).octets) in
    let paced : c.deref-4.result.now.pace ≡ row.pace = ap (λ (r : Row). r.pace) (c.deref-4.ensures ∙ c.in_ok-row.ensures.ok) in
    figures_more rows (held_under c.self.inside.by_name) held c.self.inside.sums c.self.invariant stand (map standing_of c.push-2.new.self.items) refl free few
    grown (held_under c.insert.new.self) by.1 (others_stay c.self.inside.by_name c.insert.new.self row.name (Some (length rows)) by) c.push.new.self.items
    c.add.new.self listed own
    (subst (λ (pace : Pace). AreMoreIn c.self.inside.sums row.tree.items pace (cost_of row.overhead row.octets) c.add.new.self) paced
    (subst₂ (λ (tree : List Hop) (n : ℕ). AreMoreIn c.self.inside.sums tree c.deref-4.result.now.pace n c.add.new.self) hops costs c.add.ensures))

pub returns-clause-rows : goal.returns-clause-rows
returns-clause-rows c =
    let stands = c.self.inside.rows.items in
    let rows : List Standing = map standing_of stands in
    let new : Stand = record { row = c.in_ok-row.row; held = true } in
    ap (map standing_of) (rw c.unwrap-2.ensures at c.push-2.ensures.items) ∙ map-append standing_of stands (new ∷ [])
    ∙ ap (λ (r : Row). rows ++ held_by r ∷ []) c.in_ok-row.ensures.ok ∙ ap (λ (h : Stands). h.rows ++ held_by c.args.row ∷ []) c.self.view_is
