use Rattle.cqf_world.proofs.Giving.{given_alone, given_world}
use Rattle.cqf_world.proofs.world.World.give.Goals as goal

pub invariant_of-self : goal.invariant_of-self
invariant_of-self c =
    rw c.from.ensures (given_world _ c.self.inside.tables.items c.self.inside.driven.items c.self.inside.lines.items c.args.bridge c.from.result
    c.index_mut-bridge_driven.result.now _ c.self.view_is c.self.invariant c.requires.goes_on c.requires.may c.from.ensures
    c.index_mut-bridge_driven.ensures.value)

pub returns : goal.returns
returns c =
    rw c.from.ensures (given_alone _ c.self.inside.tables.items c.self.inside.driven.items c.self.inside.lines.items c.args.bridge c.from.result
    c.index_mut-bridge_driven.result.now _ c.self.view_is c.self.invariant c.requires.goes_on c.requires.may c.from.ensures
    c.index_mut-bridge_driven.ensures.value)
