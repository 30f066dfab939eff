use Rattle.std.proofs.Common.{arith, rules}
use Rattle.cqf_world.proofs.Taking.{counts_so, may_so}
use Rattle.cqf_world.proofs.world.World.may_take.Goals as goal

pub returns-clause-yes : goal.returns-clause-yes
returns-clause-yes c = λ some.
    may_so _ c.self.inside.tables.items c.self.inside.driven.items c.self.inside.lines.items _ c.self.view_is c.self.invariant c.requires c.args.link
    c.in-Some.bridge c.from.result c.from-2.result c.index-bridge_driven.result.now c.index-line.result.now _ c.domain.ensures
    c.in-Some.ensures.some.0 c.from.ensures
    c.from-2.ensures c.index-bridge_driven.ensures c.index-line.ensures
    c.if-bridge_driven.false c.if-line-bridge_driven.false (c.is_quiet.ensures.no (search (rules, some)))

pub returns-clause-no : goal.returns-clause-no
returns-clause-no c = λ none may.
    let k = counts_so _ c.self.inside.tables.items c.self.inside.driven.items c.self.inside.lines.items _ c.self.view_is c.self.invariant c.requires c.args.link
    c.in-Some.bridge c.from.result c.from-2.result c.index-bridge_driven.result.now c.index-line.result.now _ c.domain.ensures
    c.in-Some.ensures.some.0 c.from.ensures
    c.from-2.ensures c.index-bridge_driven.ensures c.index-line.ensures may in
    omega (arith, k.2, c.is_quiet.ensures.yes (search (rules, none)))
