use Rattle.std.proofs.Common.{rules, ◌+◌, ◌≤◌, ◌<◌, List, subst, sym}
use Rattle.cqf_model.specs.Port.{Transmission}
use Rattle.cqf_port.specs.PortState.{rules_of}
use Rattle.cqf_port.specs.Progress.{IsAbreast}
use Rattle.cqf_model.proofs.Links.{rate_positive}
use Rattle.cqf_port.proofs.Steps.{abreast_start}
use Rattle.cqf_port.proofs.Waiting.{steps_busy, steps_none, steps_start}
use Rattle.cqf_port.proofs.run.step.Goals as goal

-- the port isn't idle yet
pub returns-then-lt-clause-ok : goal.returns-then-lt-clause-ok
returns-then-lt-clause-ok c =
    let busy : c.args.t.0 < c.args.before.idle_from.0 = search rules in
    steps_busy (rules_of c.args.egress.now.schedule.now c.args.egress.now.rate) c.args.egress.now.arrivals.now c.args.t.0 c.args.starts.now.items
    c.args.before c.requires.abreast busy

-- no frame is ready
pub returns-in-None-clause-ok : goal.returns-in-None-clause-ok
returns-in-None-clause-ok c = steps_none (rules_of c.args.egress.now.schedule.now c.args.egress.now.rate) c.args.egress.now.arrivals.now
    c.args.t.0 c.idle_until.result.0 c.args.starts.now.items c.args.before c.requires.taken c.requires.abreast c.idle_until.ensures.later
    c.idle_until.ensures.idle

-- the chosen frame starts
pub returns-in_ok-push-in-Some-clause-ok : goal.returns-in_ok-push-in-Some-clause-ok
returns-in_ok-push-in-Some-clause-ok c =
    let goes_by = rules_of c.args.egress.now.schedule.now c.args.egress.now.rate in
    let index = c.in-Some.index in
    let free : c.args.before.idle_from.0 ≤ c.args.t.0 = search rules in
    let started = subst (λ (starts : List Transmission). IsAbreast goes_by c.args.egress.now.arrivals.now (c.args.t.0 + 1) starts c.after_start-after.result)
    (sym c.in_ok-push-in-Some.ensures.items)
    (abreast_start goes_by c.args.egress.now.arrivals.now c.args.t.0 c.args.starts.now.items index c.args.before c.after_start-after.result
    c.requires.taken c.requires.abreast free c.in-Some.ensures c.after_start-after.ensures) in
    steps_start goes_by c.args.egress.now.arrivals.now c.args.t.0 index c.args.starts.now.items _ c.args.before c.after_start-after.result
    (rate_positive c.args.egress.now.rate) c.requires.taken c.requires.abreast free c.in-Some.ensures c.after_start-after.ensures started
