use Rattle.std.proofs.Common.{Option, subst}
use Rattle.cqf_bridge.specs.Quiet.{IsNextStartOf}
use Rattle.cqf_plain.specs.Due.{Moment}
use Rattle.cqf_plain.proofs.Noted.{none_noted, one_noted}
use Rattle.cqf_plain.proofs.due.note.Goals as goal

-- one more is recorded
pub returns-in_ok-insert-in-Some : goal.returns-in_ok-insert-in-Some
returns-in_ok-insert-in-Some c = λ ports r so next.
    one_noted c.in-Some.moment c.args.bridge c.args.due.now c.insert.new.self c.in_ok-insert-in-Some.ensures.updates ports r so
    (subst (λ (o : Option Moment). IsNextStartOf r o) c.in-Some.is next)

-- or none
pub returns-in-None : goal.returns-in-None
returns-in-None c = λ ports r so next. none_noted c.args.due.now.entries ports r so (subst (λ (o : Option Moment). IsNextStartOf r o) c.in-None.is next)
