use Rattle.std.proofs.Common.{◌≡◌, ◌∙◌, ◌<◌, ℕ, List, Some, map, length, ap, arith, subst₂}
use Rattle.std.specs.Arc.{arc_value}
use Rattle.std.specs.BTreeMap.{UpdatesBy}
use Rattle.std.specs.Cmp.Lexicographic.{slice_cmp}
use Rattle.std.specs.Ordering.{nat_cmp}
use Rattle.std.proofs.lemmas.List.{length-map}
use Rattle.cqf_model.specs.declared.topology.Row.{Row}
use Rattle.cqf_admission.proofs.MappedRows.{mapped_at}
use Rattle.cqf_admission.proofs.SharedRows.{one_numbered}
use Rattle.cqf_admission.proofs.numbers.Numbers.new.Goals as goal

pub loop-row-preserved : goal.loop-row-preserved
loop-row-preserved c =
    let rows : List Row = map (λ row. arc_value row) c.args.rows.now in
    let row : Row = arc_value c.row-item.result in
    let low : c.loop-row.row-index < length rows = omega (arith, c.loop-row-test.true, length-map c.args.rows.now (λ row. arc_value row)) in
    let name : c.copied.result ≡ row.name = c.copied.ensures ∙ ap (λ (r : Row). r.name) c.deref.ensures in
    let number : c.deref-in-loop-row.result.now.no ≡ row.no = ap (λ (r : Row). r.no) c.deref-in-loop-row.ensures in
    one_numbered c.loop-row.numbers c.insert.new.self c.loop-row.row-index rows row c.requires low
    (mapped_at (λ row. arc_value row) c.args.rows.now c.loop-row.row-index c.row-item.result c.row-item.is)
    (subst₂ (λ (n : List ℕ) (no : ℕ). UpdatesBy (slice_cmp nat_cmp) (slice_cmp nat_cmp n) c.loop-row.numbers c.insert.new.self (Some no)) name number
    c.in_ok-insert.ensures.updates) c.loop-row.invariant
