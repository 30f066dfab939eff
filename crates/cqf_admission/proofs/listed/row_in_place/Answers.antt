use Rattle.std.proofs.Common.{◌∙◌, Some, ap, sym}
use Rattle.std.specs.Arc.{arc_value}
use Rattle.cqf_model.specs.declared.topology.Row.{Row}
use Rattle.cqf_admission.proofs.TableLemmas.{row_at}
use Rattle.cqf_admission.proofs.listed.row_in_place.Goals as goal

pub returns-then-deref-no : goal.returns-then-deref-no
returns-then-deref-no c =
    let found = c.in_ok-row.ensures.lookup in
    row_at (λ row. arc_value row) c.args.rows.now c.args.no c.requires c.args.no c.in_ok-row.row.now found.0 found.1
    (sym (ap (λ (r : Row). r.no) c.deref.ensures) ∙ c.if-deref-no.true)
    ∙ ap (λ (r : Row). Some r) (sym c.deref-then-deref-no.ensures)
