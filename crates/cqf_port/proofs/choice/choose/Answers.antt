use Rattle.std.proofs.Common.{None, subst, sym, get_or}
use Rattle.std.specs.Prelude.{MatchOption}
use Rattle.cqf_port.specs.PortState.{rules_of}
use Rattle.cqf_port.specs.Progress.{NoneReady, IsChosen}
use Rattle.cqf_model.proofs.Links.{rate_positive}
use Rattle.cqf_port.proofs.Chosen.{none_ready, highest_is_chosen}
use Rattle.cqf_port.proofs.choice.choose.Goals as goal

-- no class is eligible
pub returns-in-None : goal.returns-in-None
returns-in-None c = none_ready (rules_of c.args.egress.now.schedule.now c.args.egress.now.rate) c.args.egress.now.arrivals.now c.args.heads.now
    c.args.t.0 c.left_at-left.result c.ask-asked.result.classes c.ask-asked.result.need c.ask-asked.result.left
    (rate_positive c.args.egress.now.rate) c.requires.inside c.left_at-left.ensures c.ask-asked.ensures c.eligible.result c.eligible.ensures c.in-None.ensures

-- the highest that is
pub returns-in-Some : goal.returns-in-Some
returns-in-Some c =
    let goes_by = rules_of c.args.egress.now.schedule.now c.args.egress.now.rate in
    subst (λ class. MatchOption (get_or c.args.heads.now class None) (NoneReady goes_by c.args.egress.now.arrivals.now c.args.heads.now c.args.t.0 0)
    (IsChosen goes_by c.args.egress.now.arrivals.now c.args.heads.now c.args.t.0)) (sym c.from.ensures)
    (highest_is_chosen goes_by c.args.egress.now.arrivals.now c.args.heads.now c.args.t.0 c.left_at-left.result c.ask-asked.result.classes
    c.ask-asked.result.need c.ask-asked.result.left (rate_positive c.args.egress.now.rate) c.requires.inside c.left_at-left.ensures
    c.ask-asked.ensures c.eligible.result c.in-Some.class c.eligible.ensures c.in-Some.ensures)
