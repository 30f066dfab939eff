use Rattle.cqf_program_plans.proofs.AccessLoads.{link_there}
use Rattle.cqf_program_plans.proofs.load.access.all_unloaded.Goals as goal

pub unloaded-requires-clause-station : goal.unloaded-requires-clause-station
unloaded-requires-clause-station c =
    (link_there c.args.network.now c.talkers-links.result.now c.loop-link.link-index _ c.talkers-links.ensures.there c.talkers-links.ensures.value
    c.loop-link-test.true).station_there

pub unloaded-requires-clause-bridge : goal.unloaded-requires-clause-bridge
unloaded-requires-clause-bridge c =
    (link_there c.args.network.now c.talkers-links.result.now c.loop-link.link-index _ c.talkers-links.ensures.there c.talkers-links.ensures.value
    c.loop-link-test.true).bridge_there
