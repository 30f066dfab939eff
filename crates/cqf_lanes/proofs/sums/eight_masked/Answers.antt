use Rattle.cqf_lanes.proofs.Masked.{selected_in, selected_small}
use Rattle.cqf_lanes.proofs.sums.eight_masked.Goals as goal

-- the bit of its mask selects each cost
pub returns-clause-lanes : goal.returns-clause-lanes
returns-clause-lanes c =
    selected_in c.args.bit c.args.index c.args.costs.now c.args.masks.now c.eight_from.result c.requires.low c.requires.inside
    c.requires.side_by_side c.eight_from.ensures.lanes

-- and the sum is small
pub returns-clause-small : goal.returns-clause-small
returns-clause-small c =
    selected_small c.args.bit c.args.index c.args.costs.now c.args.masks.now c.eight_from.result c.requires.low c.requires.inside
    c.requires.side_by_side c.eight_from.ensures.lanes c.eight_from.ensures.small
