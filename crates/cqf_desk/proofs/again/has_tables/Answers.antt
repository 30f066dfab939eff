use Rattle.std.proofs.Common.{◌∙◌, ℕ, Option, arith, eq-eqb, length, subst, sym, true≢false}
use Rattle.cqf_admission.specs.Admission.{recorded_of}
use Rattle.cqf_desk.specs.Again.{FollowerComesTo}
use Rattle.cqf_desk.proofs.Nowhere.{stops_so, too_many}
use Rattle.cqf_desk.proofs.Steps.{steps_on}
use Rattle.cqf_desk.proofs.again.has_tables.Goals as goal

pub loop-entry-preserved : goal.loop-entry-preserved
loop-entry-preserved c = steps_on c.closed_tables_stay.ensures c.state_follows_history.ensures.counted c.state_follows_history.ensures.closes
    c.args.again.now c.loop-entry.again c.step.new.again c.args.rest.now c.args.number c.args.tables.now c.loop-entry.next
    c.in-Ok-Some.after c.loop-entry.entry-index c.entry-item.result c.loop-entry.invariant c.loop-entry-test.true c.entry-item.is
    (subst (λ (o : Option ℕ). FollowerComesTo c.loop-entry.again c.step.new.again (recorded_of c.entry-item.result) c.args.number
    c.args.tables.now c.loop-entry.next o)
    c.in-Ok-Some.field-0-is c.in-Ok-Some.ensures)

pub returns-in-Ok-None-clause-differs : goal.returns-in-Ok-None-clause-differs
returns-in-Ok-None-clause-differs c = λ _.
    stops_so c.closed_tables_stay.ensures c.state_follows_history.ensures.counted c.state_follows_history.ensures.closes c.args.again.now c.loop-entry.again
    c.args.rest.now c.args.number c.args.tables.now c.loop-entry.next c.loop-entry.entry-index c.entry-item.result c.loop-entry.invariant
    c.loop-entry-test.true c.entry-item.is
    (subst (λ (o : Option ℕ). FollowerComesTo c.loop-entry.again c.step.new.again (recorded_of c.entry-item.result) c.args.number
    c.args.tables.now c.loop-entry.next o)
    c.in-Ok-None.field-0-is c.in-Ok-None.ensures)

pub returns-clause-differs : goal.returns-clause-differs
returns-clause-differs c = λ other legal.
    too_many c.args.again.now c.loop-entry.again c.args.rest.now c.args.number c.args.tables.now c.loop-entry.next c.loop-entry.entry-index
    c.loop-entry.invariant
    (omega (arith, c.loop-entry-test.false, c.loop-entry.auto.entry-index-end))
    (λ same. true≢false (sym (eq-eqb c.loop-entry.next (length c.args.tables.now) same) ∙ other))
