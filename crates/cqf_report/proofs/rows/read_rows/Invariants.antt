use Rattle.std.proofs.Common.{◌+◌, length}
use Rattle.csv.specs.Reading.{Ready}
use Rattle.cqf_report.proofs.TableLemmas.{Taken}
use Rattle.cqf_report.proofs.rows.read_rows.Given as goal

-- each row so far was taken, and the reader returns the others
abbrev pub invariant-loop-index : goal.invariant-loop-index
invariant-loop-index g l = record {
  ready : Ready l.reader;
  taken : Taken l.most (length g.F.RowFormat.header)
      (g.F.RowFormat.row_of l.format) g.F.RowFormat.instant_of g.R.Read.remaining l.fn.reader (l.index + 1) l.before.0 l.rows.items l.reader;
}
