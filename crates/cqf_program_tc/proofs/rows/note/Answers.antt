use Rattle.std.proofs.Common.{◌∙◌, ap, arith, sym}
use Rattle.cqf_program_tc.specs.Rows.{is_last}
use Rattle.cqf_program_tc.proofs.NotedRows.{noted_before, noted_now}
use Rattle.cqf_program_tc.proofs.rows.note.Goals as goal

pub returns-then-ends_in : goal.returns-then-ends_in
returns-then-ends_in c =
    noted_before c.args.lists.now.items c.from.result c.args.bridge c.index.result.now _ c.from.ensures (omega (arith, c.requires, c.from.ensures))
    c.index.ensures c.args.index (ap (is_last c.args.index) (sym c.as_slice.ensures.value) ∙ sym c.ends_in.ensures ∙ c.if-ends_in.true)

pub returns : goal.returns
returns c =
    noted_now c.args.lists.now.items c.from.result c.args.bridge c.index.result.now _ c.from.ensures (omega (arith, c.requires, c.from.ensures))
    c.index.ensures c.args.index _ (ap (is_last c.args.index) (sym c.as_slice.ensures.value) ∙ sym c.ends_in.ensures ∙ c.if-ends_in.false)
    c.in_ok-put_index.ensures
