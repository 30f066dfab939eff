use Rattle.std.proofs.Common.{◌∙◌, None, refl, sym}
use Rattle.csv.specs.Records.{fields_of}
use Rattle.cqf_report.proofs.TableLemmas.{header-other, header-taken, header-unrefused}
use Rattle.cqf_report.proofs.rows.take_header.Goals as goal

pub returns-then-names_columns-clause-ok : goal.returns-then-names_columns-clause-ok
returns-then-names_columns-clause-ok g c rows gives =
    header-taken g.R.Read.remaining g.F.RowFormat.header (fields_of c.take_record.new.row) rows c.take_record.new.reader
    (rw c.in-Row.is at (c.in_ok-take_record.ensures.taken None rows gives)) (sym c.names_columns.ensures ∙ c.if-names_columns.true)

pub returns-else-names_columns-clause-err : goal.returns-else-names_columns-clause-err
returns-else-names_columns-clause-err g c rows gives other = (
  refl,
  header-other g.R.Read.remaining g.F.RowFormat.header (fields_of c.take_record.new.row) rows c.take_record.new.reader
      (rw c.in-Row.is at (c.in_ok-take_record.ensures.taken None rows gives)) (sym c.names_columns.ensures ∙ c.if-names_columns.false),
)

pub returns-in-End-clause-err : goal.returns-in-End-clause-err
returns-in-End-clause-err g c rows gives other = (refl, rw (rw c.in-End.is at (c.in_ok-take_record.ensures.taken None rows gives)) refl)

pub returns-in-Refused-clause-err : goal.returns-in-Refused-clause-err
returns-in-Refused-clause-err g c rows gives other =
    absurd (header-unrefused rows (rw c.in-Refused.is at (c.in_ok-take_record.ensures.taken None rows gives)))
