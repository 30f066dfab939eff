use Rattle.std.proofs.Common.{◌+◌, ◌∙◌, Some, ap, arith, sym}
use Rattle.std.specs.Arc.{arc_value}
use Rattle.cqf_model.specs.declared.topology.Row.{Row}
use Rattle.cqf_model.specs.Domain.{is_text}
use Rattle.cqf_admission.proofs.SharedRows.{found_next, none_next}
use Rattle.cqf_admission.proofs.listed.find_named.Goals as goal

pub returns-then-is_named : goal.returns-then-is_named
returns-then-is_named c =
    let named = ap (λ (r : Row). is_text r.name c.args.name.now) (sym c.deref.ensures) ∙ sym c.is_named.ensures ∙ c.if-is_named.true in
    ap (λ (r : Row). Some r) c.deref-then-is_named.ensures
    ∙ found_next (λ row. arc_value row) (λ (r : Row). is_text r.name c.args.name.now) c.args.rows.now c.loop-row.row-index c.row-item.result
    c.loop-row-test.true c.row-item.is c.loop-row.invariant named

pub loop-row-preserved : goal.loop-row-preserved
loop-row-preserved c =
    let other = ap (λ (r : Row). is_text r.name c.args.name.now) (sym c.deref.ensures) ∙ sym c.is_named.ensures ∙ c.if-is_named.false in
    none_next (λ row. arc_value row) (λ (r : Row). is_text r.name c.args.name.now) c.args.rows.now c.loop-row.row-index
    (c.loop-row.row-index + 1) c.row-item.result (omega arith) c.loop-row-test.true c.row-item.is c.loop-row.invariant other
