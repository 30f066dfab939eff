-- An order's name is the end of its line.
use Rattle.std.proofs.Common.{◌≡◌, arith, Result, Some, false, map, refl, subst, sym}
use Rattle.cqf_admission.specs.Asking.{asked_paced}
use Rattle.cqf_topology.specs.Fields.{Gives}
use Rattle.cqf_admission.specs.Orders.{ordered_in}
use Rattle.cqf_admission.specs.declared.faults.ScriptFault.{ScriptFault}
use Rattle.cqf_admission.specs.declared.faults.ScriptFault.TheVariants as script_fault
use Rattle.cqf_admission.specs.Lines.{is_seal_line, order_of_line}
use Rattle.cqf_admission.specs.Script.{Called, call_of_line, call_of_order}
use Rattle.cqf_admission.specs.Written.{written}
use Rattle.cqf_admission.proofs.NameIndices.{name_at, name_ends, name_shorter, word_short}
use Rattle.cqf_admission.proofs.calls.place_line.Goals as goal

pub place_order-requires-clause-short : goal.place_order-requires-clause-short
place_order-requires-clause-short c =
    let ends = name_ends c.args.line.now (written c.in-Some.order) (sym c.in-Some.ensures.value) in
    word_short c.in-Some.order.name.now ends.word

pub place_order-requires-clause-long : goal.place_order-requires-clause-long
place_order-requires-clause-long c =
    let ends = name_ends c.args.line.now (written c.in-Some.order) (sym c.in-Some.ensures.value) in
    omega (arith, c.requires, name_shorter c.args.line.now c.in-Some.order.name.now ends)

pub returns-in-Some-clause-value : goal.returns-in-Some-clause-value
returns-in-Some-clause-value c = λ text at.
    let ends = name_ends c.args.line.now (written c.in-Some.order) (sym c.in-Some.ensures.value) in
    let placed = name_at text c.args.end c.args.line.now c.in-Some.order.name.now at ends in
    let requests = map asked_paced c.args.names.now in
    let order = written c.in-Some.order in
    let position = c.args.position in
    let off : is_seal_line c.args.line.now ≡ false = sym c.if-is_seal_line.ensures in
    let is : order_of_line c.args.line.now ≡ Some order = sym c.in-Some.ensures.value in
    let same : call_of_line requests c.args.seat c.args.cycles position.line position.sealed position.called c.args.line.now
    ≡ call_of_order requests position.line position.called order = rw (off, is) refl in
    subst (λ (wanted : Result Called ScriptFault). Gives script_fault.Memory (ordered_in requests text) c.place_order.result wanted) (sym same)
    (c.place_order.ensures.value text placed)

pub returns-in-Some-clause-stands : goal.returns-in-Some-clause-stands
returns-in-Some-clause-stands c = λ text at.
    let ends = name_ends c.args.line.now (written c.in-Some.order) (sym c.in-Some.ensures.value) in
    let placed = name_at text c.args.end c.args.line.now c.in-Some.order.name.now at ends in
    c.place_order.ensures.stands text placed
