use Rattle.std.proofs.Common.{◌<◌, ◌≤◌, ◌∙◌, Some, length, sym, rules}
use Rattle.csv.specs.Records.{fields_of}
use Rattle.cqf_report.proofs.TableLemmas.{next-bad, next-refused, next-back, next-good}
use Rattle.cqf_report.proofs.rows.next_row.Goals as goal

pub returns-in_default-clause-taken : goal.returns-in_default-clause-taken
returns-in_default-clause-taken g c rows gives other =
    next-bad c.args.most (length g.F.RowFormat.header) (g.F.RowFormat.row_of c.args.format.now) g.F.RowFormat.instant_of g.R.Read.remaining c.args.number c.args.before.0
    (fields_of c.take_record.new.row) rows c.take_record.new.reader
    c.requires.few (rw c.in-Row.is at (c.in_ok-take_record.ensures.taken (Some (length g.F.RowFormat.header)) rows gives))
    (sym c.read_row.ensures ∙ c.in_default.is)

pub returns-in-End-clause-taken : goal.returns-in-End-clause-taken
returns-in-End-clause-taken g c rows gives = rw c.in-End.is at (c.in_ok-take_record.ensures.taken (Some (length g.F.RowFormat.header)) rows gives)

pub returns-in-Refused-clause-taken : goal.returns-in-Refused-clause-taken
returns-in-Refused-clause-taken g c rows gives other =
    next-refused c.args.most (length g.F.RowFormat.header)
    (g.F.RowFormat.row_of c.args.format.now) g.F.RowFormat.instant_of c.args.number c.args.before.0 rows c.requires.few
    (rw c.in-Refused.is at (c.in_ok-take_record.ensures.taken (Some (length g.F.RowFormat.header)) rows gives))
    (g.met.F.RowFormat.no_row_of_others c.args.format.now)

pub returns-then-lt-clause-taken : goal.returns-then-lt-clause-taken
returns-then-lt-clause-taken g c rows gives other =
    let back : c.instant.result.0 < c.args.before.0 = search rules in
    next-back c.args.most (length g.F.RowFormat.header) (g.F.RowFormat.row_of c.args.format.now) g.F.RowFormat.instant_of g.R.Read.remaining c.args.number c.args.before.0
    (fields_of c.take_record.new.row) rows c.take_record.new.reader c.in-Some.row
    c.requires.few (rw c.in-Row.is at (c.in_ok-take_record.ensures.taken (Some (length g.F.RowFormat.header)) rows gives))
    (sym c.read_row.ensures ∙ c.in-Some.is)
    (rw c.instant.ensures at back)

pub returns-else-lt-clause-taken : goal.returns-else-lt-clause-taken
returns-else-lt-clause-taken g c rows gives =
    let in_order : c.args.before.0 ≤ c.instant.result.0 = search rules in
    next-good c.args.most (length g.F.RowFormat.header) (g.F.RowFormat.row_of c.args.format.now) g.F.RowFormat.instant_of g.R.Read.remaining c.args.number c.args.before.0
    (fields_of c.take_record.new.row) rows c.take_record.new.reader c.in-Some.row
    c.requires.few (rw c.in-Row.is at (c.in_ok-take_record.ensures.taken (Some (length g.F.RowFormat.header)) rows gives))
    (sym c.read_row.ensures ∙ c.in-Some.is)
    (rw c.instant.ensures at in_order)
