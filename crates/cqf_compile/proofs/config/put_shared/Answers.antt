-- A row of the table has a good pace.
use Rattle.std.proofs.Common.{map, subst, sym}
use Rattle.std.specs.Arc.{arc_value}
use Rattle.std.specs.Prelude.{Contains}
use Rattle.cqf_lists.proofs.Members.{contains_map}
use Rattle.cqf_model.specs.declared.topology.Row.{Row}
use Rattle.cqf_compile.proofs.config.put_shared.Goals as goal

pub put_row-requires-clause-paced : goal.put_row-requires-clause-paced
put_row-requires-clause-paced g c =
    let member = contains_map (λ row. arc_value row) c.args.rows.now c.shared-item.result (c.loop-shared.shared-index, c.loop-shared-test.true, sym c.shared-item.is) in
    c.requires.paced c.deref.result.now
    (subst (λ (r : Row). Contains (map (λ row. arc_value row) c.args.rows.now) r) (sym c.deref.ensures) member)
