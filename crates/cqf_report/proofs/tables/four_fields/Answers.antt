use Rattle.std.proofs.Common.{sym, arith}
use Rattle.csv.specs.Records.{fields_of}
use Rattle.cqf_report.proofs.FieldFacts.{field_at-inside, four_of-indices}
use Rattle.cqf_report.proofs.tables.four_fields.Goals as goal

pub returns-in_default : goal.returns-in_default
returns-in_default c = absurd (field_at-inside (fields_of c.args.row.now) 0 (omega arith) (rw c.in_default.is at (sym c.get.ensures.value)))

pub returns-in_default-get : goal.returns-in_default-get
returns-in_default-get c = absurd (field_at-inside (fields_of c.args.row.now) 1 (omega arith) (rw c.in_default-get.is at (sym c.get-2.ensures.value)))

pub returns-in_default-get-2 : goal.returns-in_default-get-2
returns-in_default-get-2 c = absurd (field_at-inside (fields_of c.args.row.now) 2 (omega arith) (rw c.in_default-get-2.is at (sym c.get-3.ensures.value)))

pub returns-in_default-get-3 : goal.returns-in_default-get-3
returns-in_default-get-3 c = absurd (field_at-inside (fields_of c.args.row.now) 3 (omega arith) (rw c.in_default-get-3.is at (sym c.get-4.ensures.value)))

pub returns : goal.returns
returns c = four_of-indices (fields_of c.args.row.now) c.in-Some.first.now c.in-Some-get.second.now c.in-Some-get-2.third.now c.in-Some-get-3.fourth.now
    (omega arith)
    (rw c.in-Some.is at c.get.ensures.value) (rw c.in-Some-get.is at c.get-2.ensures.value)
    (rw c.in-Some-get-2.is at c.get-3.ensures.value) (rw c.in-Some-get-3.is at c.get-4.ensures.value)
