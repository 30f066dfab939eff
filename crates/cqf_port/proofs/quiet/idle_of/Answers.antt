use Rattle.std.proofs.Common.{rules, ◌≤◌, arith}
use Rattle.cqf_model.specs.Port.{instant_of}
use Rattle.cqf_port.specs.PortState.{rules_of}
use Rattle.cqf_port.proofs.Waiting.{idle_nowhere, turns_fits}
use Rattle.cqf_port.proofs.quiet.idle_of.Goals as goal

-- it fits nowhere before
pub returns-else-lt-clause-idle : goal.returns-else-lt-clause-idle
returns-else-lt-clause-idle c = idle_nowhere (rules_of c.args.egress.now.schedule.now c.args.egress.now.rate) c.args.egress.now.arrivals.now
    c.args.head c.args.class c.args.t.0 c.next_fit.result.0 c.in-Some.index c.need_of-need.result c.in-Some.is
    (c.requires.of_class c.in-Some.index c.in-Some.is) c.need_of-need.ensures.value c.next_fit.ensures.nowhere

-- and there it fits
pub returns-else-lt-clause-turns : goal.returns-else-lt-clause-turns
returns-else-lt-clause-turns c = λ soon.
    let come : instant_of c.args.egress.now.arrivals.now c.in-Some.index ≤ c.args.t.0 = search rules in
    turns_fits (rules_of c.args.egress.now.schedule.now c.args.egress.now.rate) c.args.egress.now.arrivals.now c.args.head c.args.class
    c.next_fit.result.0 c.in-Some.index c.need_of-need.result c.in-Some.is (c.requires.of_class c.in-Some.index c.in-Some.is)
    c.need_of-need.ensures.value (omega (arith, come, c.next_fit.ensures.later)) (c.next_fit.ensures.fits soon)
