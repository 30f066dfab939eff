use Rattle.std.proofs.Common.{List, ℕ, Bor, Some, refl}
use Rattle.cqf_report.specs.Records.{records_of}
use Rattle.cqf_report.proofs.TableLemmas.{table-err, table-ok}
use Rattle.cqf_report.proofs.rows.read_table.Goals as goal

pub returns-clause-err : goal.returns-clause-err
returns-clause-err g c =
    table-err c.args.most (g.F.RowFormat.row_of c.args.format.now) g.F.RowFormat.instant_of (λ (s : Bor (List ℕ)). Some s.now) g.F.RowFormat.header
    (records_of c.args.text.now) c.take_header.new.reader c.read_rows.result
    (c.in_ok-take_header.ensures.ok (records_of c.args.text.now) (c.open_table-reader.ensures.gives c.args.text.now refl)) c.read_rows.ensures.err

pub returns-clause-ok : goal.returns-clause-ok
returns-clause-ok g c =
    table-ok c.args.most (g.F.RowFormat.row_of c.args.format.now) g.F.RowFormat.instant_of (λ (s : Bor (List ℕ)). Some s.now) (λ v. v.items) g.F.RowFormat.header
    (records_of c.args.text.now) c.take_header.new.reader c.read_rows.result
    (c.in_ok-take_header.ensures.ok (records_of c.args.text.now) (c.open_table-reader.ensures.gives c.args.text.now refl)) c.read_rows.ensures.ok
