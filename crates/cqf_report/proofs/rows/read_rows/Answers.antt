use Rattle.std.proofs.Common.{◌+◌, List, Some, length, arith}
use Rattle.cqf_report.specs.Records.{Fields, StillGives}
use Rattle.cqf_report.specs.Table.{IsFaultOf, rows_from}
use Rattle.cqf_report.specs.declared.tables.TableFault.{TableFault}
use Rattle.cqf_report.specs.declared.tables.TableFault.TheVariants.{TooMany}
use Rattle.cqf_report.proofs.TableLemmas.{next-beyond, passed-on, taken-end, taken-fault, taken-more}
use Rattle.cqf_report.proofs.rows.read_rows.Goals as goal

pub returns-in_err-row-clause-err : goal.returns-in_err-row-clause-err
returns-in_err-row-clause-err g c =
    passed-on c.from_residual.result c.in_err-row.field-0.0
    (λ (fault : TableFault). (rows : List Fields) → StillGives g.R.Read.remaining (Some (length g.F.RowFormat.header)) c.args.reader.now rows →
    IsFaultOf (rows_from c.args.most (g.F.RowFormat.row_of c.args.format.now) g.F.RowFormat.instant_of 1 0 rows) fault)
    c.from_residual.ensures.1
    (λ rows gives other. taken-fault c.args.most (length g.F.RowFormat.header)
    (g.F.RowFormat.row_of c.args.format.now) g.F.RowFormat.instant_of g.R.Read.remaining c.args.reader.now (c.loop-index.index + 1) c.loop-index.before.0
    c.loop-index.rows.items c.loop-index.reader
    c.in_err-row.field-0.0 c.loop-index.invariant.taken (λ rest still. c.in_err-row.ensures.taken rest still other) rows gives)

pub returns-in_default-clause-ok : goal.returns-in_default-clause-ok
returns-in_default-clause-ok g c =
    taken-end c.args.most (length g.F.RowFormat.header)
    (g.F.RowFormat.row_of c.args.format.now) g.F.RowFormat.instant_of g.R.Read.remaining c.args.reader.now (c.loop-index.index + 1) c.loop-index.before.0
    c.loop-index.rows.items c.loop-index.reader
    c.loop-index.invariant.taken (λ rest still. rw c.in_default.is at (c.in_ok-row.ensures.taken rest still))

pub loop-index-preserved : goal.loop-index-preserved
loop-index-preserved g c = record {
  ready = rw c.in-Some.is at c.in_ok-row.ensures.ready;
  taken = rw (c.in_ok-push.ensures.items, c.instant-before.ensures) (
      taken-more c.args.most (length g.F.RowFormat.header)
      (g.F.RowFormat.row_of c.args.format.now) g.F.RowFormat.instant_of g.R.Read.remaining c.args.reader.now (c.loop-index.index + 1) c.loop-index.before.0
      c.loop-index.rows.items c.loop-index.reader c.next_row.new.reader c.in-Some.row
      c.loop-index.invariant.taken (λ rest still. rw c.in-Some.is at (c.in_ok-row.ensures.taken rest still)));
}

pub returns-in-End-clause-ok : goal.returns-in-End-clause-ok
returns-in-End-clause-ok g c =
    taken-end c.args.most (length g.F.RowFormat.header)
    (g.F.RowFormat.row_of c.args.format.now) g.F.RowFormat.instant_of g.R.Read.remaining c.args.reader.now (c.loop-index.index + 1) c.loop-index.before.0
    c.loop-index.rows.items c.loop-index.reader
    c.loop-index.invariant.taken (λ rest still. rw c.in-End.is at (c.in_ok-take_record.ensures.taken (Some (length g.F.RowFormat.header)) rest still))

pub returns-in-Row-clause-err : goal.returns-in-Row-clause-err
returns-in-Row-clause-err g c rows gives other =
    taken-fault c.args.most (length g.F.RowFormat.header)
    (g.F.RowFormat.row_of c.args.format.now) g.F.RowFormat.instant_of g.R.Read.remaining c.args.reader.now (c.loop-index.index + 1) c.loop-index.before.0
    c.loop-index.rows.items c.loop-index.reader TooMany
    c.loop-index.invariant.taken
    (λ rest still. let row = rw c.in-Row.is at (c.in_ok-take_record.ensures.taken (Some (length g.F.RowFormat.header)) rest still) in
    next-beyond c.args.most (g.F.RowFormat.row_of c.args.format.now) g.F.RowFormat.instant_of (c.loop-index.index + 1) c.loop-index.before.0 _ row.rest rest
    (omega arith) row.first)
    rows gives

pub returns-in-Refused-clause-err : goal.returns-in-Refused-clause-err
returns-in-Refused-clause-err g c rows gives other =
    taken-fault c.args.most (length g.F.RowFormat.header)
    (g.F.RowFormat.row_of c.args.format.now) g.F.RowFormat.instant_of g.R.Read.remaining c.args.reader.now (c.loop-index.index + 1) c.loop-index.before.0
    c.loop-index.rows.items c.loop-index.reader TooMany
    c.loop-index.invariant.taken
    (λ rest still. let row = rw c.in-Refused.is at (c.in_ok-take_record.ensures.taken (Some (length g.F.RowFormat.header)) rest still) in
    next-beyond c.args.most (g.F.RowFormat.row_of c.args.format.now) g.F.RowFormat.instant_of (c.loop-index.index + 1) c.loop-index.before.0 row.fields row.rest rest
    (omega arith) row.first)
    rows gives
