use Rattle.std.proofs.Common.{◌≡◌, ◌<◌, ◌∙◌, List, arith, ap, get_or, length, map, set, subst, sym}
use Rattle.std.specs.Arc.{arc_value}
use Rattle.std.proofs.lemmas.List.{length-map}
use Rattle.cqf_admission.specs.Holdings.{HaveFigures, IsEnded, Standing, Stands, held_under, standing_of, with_row}
use Rattle.cqf_admission.proofs.Figures.{figures_ended}
use Rattle.cqf_admission.proofs.Lists.{map_set, mapped_there}
use Rattle.cqf_admission.proofs.holdings.Holdings.end.Goals as goal

pub invariant_of-self : goal.invariant_of-self
invariant_of-self c =
    let stands = c.self.inside.rows.items in
    let rows : List Standing = map standing_of stands in
    let number = c.args.number in
    let old = c.index_mut.result.now in
    let stand : Standing = standing_of old in
    let inside : number < length rows = omega (arith, c.requires.inside, ap (λ (h : Stands). length h.rows) c.self.view_is) in
    let low : number < length stands = omega (arith, inside, length-map stands standing_of) in
    let is : stand ≡ get_or rows number stand = sym (mapped_there standing_of stands number old stand low c.index_mut.ensures.value) in
    let ended : IsEnded (get_or rows number stand).row (arc_value c.args.row) =
    subst (λ (h : Stands). IsEnded (get_or h.rows number stand).row (arc_value c.args.row)) (sym c.self.view_is) (c.requires.ended stand) in
    subst (λ (rs : List Standing). HaveFigures rs (held_under c.self.inside.by_name) c.self.inside.held.items c.self.inside.sums)
    (sym (map_set standing_of stands number (record old { row = c.args.row })))
    (figures_ended rows (held_under c.self.inside.by_name) c.self.inside.held.items c.self.inside.sums c.self.invariant number stand inside is
    (arc_value c.args.row) (subst (λ (x : Standing). IsEnded x.row (arc_value c.args.row)) (sym is) ended))

pub returns-clause-rows : goal.returns-clause-rows
returns-clause-rows c = λ d.
    let stands = c.self.inside.rows.items in
    let rows : List Standing = map standing_of stands in
    let number = c.args.number in
    let old = c.index_mut.result.now in
    let low : number < length stands = omega (arith, c.requires.inside, ap (λ (h : Stands). length h.rows) c.self.view_is, length-map stands standing_of) in
    map_set standing_of stands number (record old { row = c.args.row })
    ∙ ap (λ (s : Standing). set rows number (with_row s (arc_value c.args.row))) (sym (mapped_there standing_of stands number old d low c.index_mut.ensures.value))
    ∙ ap (λ (h : Stands). set h.rows number (with_row (get_or h.rows number d) (arc_value c.args.row))) c.self.view_is
