use Rattle.std.proofs.Common.{◌≡◌, ◌∙◌, Some, None, List, ap, map, option_copied, sym, subst}
use Rattle.std.specs.Arc.{arc_value}
use Rattle.cqf_model.specs.declared.topology.Row.{Row}
use Rattle.cqf_model.specs.Table.{row_named}
use Rattle.cqf_admission.specs.Numbers.{row_numbered}
use Rattle.cqf_admission.specs.Tables.{AreInOrder}
use Rattle.cqf_admission.proofs.MappedRows.{mapped_last}
use Rattle.cqf_admission.proofs.SharedRows.{named_among_last, numbered_is_named}
use Rattle.cqf_admission.proofs.listed.ListedRows.row_named.Goals as goal

pub returns-in-Some : goal.returns-in-Some
returns-in-Some c =
    let rows : List Row = map (λ row. arc_value row) c.self.inside.rows.items in
    let list = arc_value c.self.inside.numbers in
    let found : row_numbered rows list c.args.name.now ≡ Some c.in-Some.row.now =
    rw (c.deref.ensures, c.as_slice-rows.ensures.value) at (sym c.find_numbered.ensures ∙ ap option_copied c.in-Some.is) in
    sym (numbered_is_named rows list c.args.name.now (subst AreInOrder (sym c.self.view_is) c.requires) c.in-Some.row.now found)
    ∙ ap (λ (rs : List Row). row_named rs c.args.name.now) c.self.view_is

pub returns-in-None : goal.returns-in-None
returns-in-None c =
    let rows : List Row = map (λ row. arc_value row) c.self.inside.rows.items in
    let list = arc_value c.self.inside.numbers in
    let none : row_numbered rows list c.args.name.now ≡ None =
    rw (c.deref.ensures, c.as_slice-rows.ensures.value) at (sym c.find_numbered.ensures ∙ ap option_copied c.in-None.is) in
    c.find_named.ensures
    ∙ ap (λ (rs : List Row). row_named rs c.args.name.now) (mapped_last (λ row. arc_value row) c.as_slice-rows.result.now c.self.inside.numbered)
    ∙ rw c.as_slice-rows.ensures.value
    (named_among_last rows list c.args.name.now (subst AreInOrder (sym c.self.view_is) c.requires) c.self.inside.numbered c.self.invariant none)
    ∙ ap (λ (rs : List Row). row_named rs c.args.name.now) c.self.view_is
