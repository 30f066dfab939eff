use Rattle.std.proofs.Common.{◌≡◌, subst}
use Rattle.cqf_port.specs.PortState.{PortState, rules_of, waiting_of}
use Rattle.cqf_port.proofs.Counts.{waiting_as, none_as}
use Rattle.cqf_port.proofs.port.Port.waiting.Goals as goal

-- the frames of the class from its head on
pub returns-in-Some : goal.returns-in-Some
returns-in-Some c = subst (λ (p : PortState). c.count_of_class.result ≡ waiting_of p.arrivals p.starts c.args.class) c.self.view_is
    (waiting_as (rules_of c.self.inside.schedule c.self.inside.rate) c.self.inside.arrivals.items c.as_slice.result.now c.self.inside.reached.0
    c.self.inside.starts.items c.self.inside.progress c.args.class c.from.result c.in-Some.head c.count_of_class.result
    c.self.invariant.taken c.self.invariant.abreast c.requires c.from.ensures c.in-Some.is c.as_slice.ensures.value c.count_of_class.ensures)

-- no frame
pub returns-in-None : goal.returns-in-None
returns-in-None c = subst (λ (p : PortState). 0 ≡ waiting_of p.arrivals p.starts c.args.class) c.self.view_is
    (none_as (rules_of c.self.inside.schedule c.self.inside.rate) c.self.inside.arrivals.items c.self.inside.reached.0 c.self.inside.starts.items
    c.self.inside.progress c.args.class c.from.result
    c.self.invariant.abreast c.requires c.from.ensures c.in-None.is)
