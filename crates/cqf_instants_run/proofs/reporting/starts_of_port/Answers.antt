use Rattle.cqf_instants_run.proofs.Tellings.{hands}
use Rattle.cqf_instants_run.proofs.reporting.starts_of_port.Goals as goal

-- it returns what is legal
pub returns : goal.returns
returns c =
    hands c.args.domain.now c.args.end.0 c.args.link c.args.arrivals.items _ c.link.result _ _ _ c.advance.new.given.items
    c.port_list_of-list.ensures
    c.link.ensures c.with_arrivals-port.ensures c.new-made.ensures.items c.in_ok-advance.ensures.facts c.in_ok-advance.ensures.only c.in_ok-advance.ensures.ok
    (λ past. let stays = c.in_ok-advance.ensures.past past in (stays.1, stays.2))
