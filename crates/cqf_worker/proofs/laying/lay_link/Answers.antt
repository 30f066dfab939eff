use Rattle.std.proofs.Common.{◌<◌, arith, length, subst}
use Rattle.cqf_model.specs.Domain.{IsNode}
use Rattle.cqf_worker.proofs.Wiring.{bridge_laid, station_laid}
use Rattle.cqf_worker.proofs.laying.lay_link.Goals as goal

-- the link's ends are bridges of the domain
pub lay_pipe-requires-clause-from : goal.lay_pipe-requires-clause-from
lay_pipe-requires-clause-from c =
    let good = c.know.ensures.accepted.links_good c.args.link c.link-between.result c.link-between.ensures in
    omega (arith, good.from_bridge, c.requires.workers)

pub lay_pipe-requires-clause-to : goal.lay_pipe-requires-clause-to
lay_pipe-requires-clause-to c =
    let good = c.know.ensures.accepted.links_good c.args.link c.link-between.result c.link-between.ensures in
    let inside : c.in-Bridge.to < length c.args.domain.now.bridges = subst (IsNode c.args.domain.now) c.in-Bridge.is good.to_node in
    omega (arith, inside, c.requires.workers)

-- a link between two bridges
pub returns-in_ok-lay_pipe-in-Bridge-clause-laid : goal.returns-in_ok-lay_pipe-in-Bridge-clause-laid
returns-in_ok-lay_pipe-in-Bridge-clause-laid c =
    bridge_laid c.args.domain.now c.args.link c.link-between.result c.in-Bridge.to c.args.workers.now.items c.lay_pipe.new.workers.items c.link-between.ensures
    c.in-Bridge.is c.in_ok-lay_pipe-in-Bridge.ensures.laid

-- a link to a station
pub returns-in-Station-clause-laid : goal.returns-in-Station-clause-laid
returns-in-Station-clause-laid c =
    station_laid c.args.domain.now c.args.link c.link-between.result c.in-Station.field-0 c.args.workers.now.items c.link-between.ensures c.in-Station.is
