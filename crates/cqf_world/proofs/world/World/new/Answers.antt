use Rattle.cqf_world.proofs.Starting.{is_new, is_world}
use Rattle.cqf_world.proofs.world.World.new.Goals as goal

-- what is made is a world
pub invariant_of-result : goal.invariant_of-result
invariant_of-result c =
    is_world c.args.admission c.args.plan.now c.domain-domain.result.now c.args.offers.now c.args.background.now c.args.cycles c.bridges.result
    c.in_ok-new.field-0
    c.in_ok-new_driven_bridges.field-0.items c.in_ok-new_lines.field-0.items c.requires.domain c.domain-domain.ensures.value
    c.domain-domain.ensures.accepted c.requires.no_seal
    c.bridges.ensures c.in_ok-new.ensures c.in_ok-new_driven_bridges.ensures c.in_ok-new_lines.ensures c.know.ensures.legal
    c.requires.offers c.requires.background
    c.requires.few_cycles c.legal_network_exists.ensures c.new_bridge_follows.ensures.follows c.new.result.items c.new.ensures.items

-- and it begins with the admission, and no page
pub returns : goal.returns
returns c =
    is_new c.args.admission c.args.plan.now c.domain-domain.result.now c.args.offers.now c.args.background.now c.args.cycles c.bridges.result
    c.in_ok-new.field-0
    c.in_ok-new_driven_bridges.field-0.items c.in_ok-new_lines.field-0.items c.requires.domain c.domain-domain.ensures.value
    c.domain-domain.ensures.accepted c.requires.no_seal
    c.bridges.ensures c.in_ok-new.ensures c.in_ok-new_driven_bridges.ensures c.in_ok-new_lines.ensures
