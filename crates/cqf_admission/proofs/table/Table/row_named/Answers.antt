use Rattle.std.proofs.Common.{◌≡◌, ◌∙◌, ap, sym, subst, List, Option}
use Rattle.std.specs.Arc.{arc_value}
use Rattle.std.specs.Prelude.{option_copied}
use Rattle.cqf_model.specs.declared.topology.Row.{Row}
use Rattle.cqf_model.specs.Table.{row_named}
use Rattle.cqf_admission.specs.Tables.{CycleTable, IsRowNamed}
use Rattle.cqf_admission.proofs.TableLemmas.{the_row_named}
use Rattle.cqf_admission.proofs.table.Table.row_named.Goals as goal

pub returns-clause-the_row : goal.returns-clause-the_row
returns-clause-the_row c =
    let rows = arc_value c.self.inside.listed in
    let found : option_copied c.row_named.result ≡ row_named rows c.args.name.now = c.row_named.ensures
    ∙ ap (λ (rs : List Row). row_named rs c.args.name.now) c.deref.ensures in
    subst (λ (t : CycleTable). IsRowNamed t.rows c.args.name.now (option_copied c.row_named.result)) c.self.view_is
    (subst (λ (o : Option Row). IsRowNamed rows c.args.name.now o) (sym found) (the_row_named rows c.args.name.now c.self.invariant.0))
