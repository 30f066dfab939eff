use Rattle.std.proofs.Common.{refl, sym, ◌∙◌}
use Rattle.csv.specs.Records.{fields_of}
use Rattle.cqf_report.proofs.ActiveCycles.{takes-row, takes-none, refuses-row}
use Rattle.cqf_report.proofs.records.take_record.Goals as goal

pub returns-in-Ok-true-clause-taken : goal.returns-in-Ok-true-clause-taken
returns-in-Ok-true-clause-taken g c expected rows gives =
    let read = c.in-Ok-true.ensures in
    takes-row g.R.Read.remaining expected c.args.reader.now c.read_byte_record.new.self (fields_of c.read_byte_record.new.row) rows gives
    (rw c.in-Ok-true.field-0-test at (read.reads gives.untrimmed gives.ready)) (read.ready gives.untrimmed) read.flexible

pub returns-in-Ok-false-clause-taken : goal.returns-in-Ok-false-clause-taken
returns-in-Ok-false-clause-taken g c expected rows gives =
    takes-none g.R.Read.remaining expected c.args.reader.now c.read_byte_record.new.self (fields_of c.read_byte_record.new.row) rows gives
    (rw c.in-Ok-false.field-0-test at (c.in-Ok-false.ensures.reads gives.untrimmed gives.ready))

pub returns-in-UnequalLengths-clause-taken : goal.returns-in-UnequalLengths-clause-taken
returns-in-UnequalLengths-clause-taken g c expected rows gives =
    let why = rw (sym c.kind.ensures ∙ c.in-UnequalLengths.is) at (c.in-Err.ensures.why gives.ready) in
    refuses-row g.R.Read.remaining expected c.args.reader.now c.read_byte_record.new.self rows _ _ gives why.1 why.2 why.3 why.4 why.5

pub returns-in-Ok-true-clause-ready : goal.returns-in-Ok-true-clause-ready
returns-in-Ok-true-clause-ready g c = ((c.in-Ok-true.ensures.reads_on c.in-Ok-true.field-0-test).4 c.requires).0

pub returns-in-UnequalLengths-clause-ready : goal.returns-in-UnequalLengths-clause-ready
returns-in-UnequalLengths-clause-ready g c =
    let on = c.in-Err.ensures.goes_on (rw (sym c.kind.ensures ∙ c.in-UnequalLengths.is) refl) in
    (on.4 c.requires).0
