use Rattle.std.proofs.Common.{◌≡◌, ◌∙◌, ap, sym, subst, List, Option}
use Rattle.std.specs.Arc.{arc_value}
use Rattle.std.specs.Prelude.{option_copied}
use Rattle.cqf_model.specs.declared.topology.Row.{Row}
use Rattle.cqf_model.specs.Table.{row_of}
use Rattle.cqf_admission.specs.Tables.{CycleTable, IsRowOf}
use Rattle.cqf_admission.proofs.TableLemmas.{the_row_of}
use Rattle.cqf_admission.proofs.table.Table.row_of.Goals as goal

pub returns-clause-the_row : goal.returns-clause-the_row
returns-clause-the_row c =
    let rows = arc_value c.self.inside.listed in
    let found : option_copied c.row_of.result ≡ row_of rows c.args.no = c.row_of.ensures
    ∙ ap (λ (rs : List Row). row_of rs c.args.no) c.deref.ensures in
    subst (λ (t : CycleTable). IsRowOf t.rows c.args.no (option_copied c.row_of.result)) c.self.view_is
    (subst (λ (o : Option Row). IsRowOf rows c.args.no o) (sym found) (the_row_of rows c.args.no c.self.invariant.0))
