use Rattle.std.proofs.Common.{◌+◌, subst, List, arith}
use Rattle.cqf_model.specs.GateList.{Entry, IsOpenThrough}
use Rattle.cqf_port.proofs.Fitting.{nowhere_after, nowhere_ever}
use Rattle.cqf_port.proofs.spans.Schedule.next_fit.Goals as goal

-- it doesn't fit into the rest of the entry in force, nor after that until it does
pub returns-then-fit-ahead-clause-nowhere : goal.returns-then-fit-ahead-clause-nowhere
returns-then-fit-ahead-clause-nowhere c = nowhere_after c.self.inside.list c.args.self.now c.args.t.0 c.args.ahead.index c.args.ahead.begins
    c.args.ahead.again c.args.class c.args.need c.fit_from-fit.result
    c.self.view_is c.requires.ahead c.requires.some c.requires.waits c.fit_from-fit.ensures.nowhere

-- it fits nowhere in a round
pub returns-else-fit-ahead-clause-nowhere : goal.returns-else-fit-ahead-clause-nowhere
returns-else-fit-ahead-clause-nowhere c =
    nowhere_ever c.mask_is_in_force.ensures.states c.mask_is_in_force.ensures.some c.args.self.now c.args.class c.args.need c.args.t.0
    c.fit_from-fit.result _ (c.mask_is_in_force.ensures.round c.args.self.now c.args.ahead.index c.requires.ahead.force.inside
    c.requires.ahead.force.within) (omega (arith, c.requires.ahead.round, c.if-fit-ahead.false))
    (nowhere_after c.self.inside.list c.args.self.now c.args.t.0 c.args.ahead.index c.args.ahead.begins c.args.ahead.again c.args.class
    c.args.need c.fit_from-fit.result
    c.self.view_is c.requires.ahead c.requires.some c.requires.waits c.fit_from-fit.ensures.nowhere)

-- it fits there
pub returns-then-fit-ahead-clause-fits : goal.returns-then-fit-ahead-clause-fits
returns-then-fit-ahead-clause-fits c = λ soon. subst (λ (xs : List Entry). IsOpenThrough xs c.args.class c.fit_from-fit.result
    (c.fit_from-fit.result + c.args.need)) c.self.view_is (c.fit_from-fit.ensures.fits (omega (arith, c.min-end.ensures, c.if-fit-ahead.true, soon)))
