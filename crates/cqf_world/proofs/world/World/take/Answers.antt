use Rattle.cqf_world.proofs.Taking.{counts_so, few_so, refused_alone, taken_alone, taken_world}
use Rattle.cqf_world.proofs.Keeping.{on_err}
use Rattle.cqf_world.proofs.world.World.take.Goals as goal

pub move_batch-requires-clause-some : goal.move_batch-requires-clause-some
move_batch-requires-clause-some c =
    (counts_so _ c.self.inside.tables.items c.self.inside.driven.items c.self.inside.lines.items _ c.self.view_is c.self.invariant
    c.requires.goes_on c.args.link
    c.in-Some.bridge c.from.result c.from-2.result c.index_mut-bridge_driven.result.now c.index_mut-line.result.now _ c.domain.ensures
    c.in-Some.ensures.some.0 c.from.ensures c.from-2.ensures
    c.index_mut-bridge_driven.ensures.value c.index_mut-line.ensures.value c.requires.may).2

pub move_batch-requires-clause-few : goal.move_batch-requires-clause-few
move_batch-requires-clause-few c =
    few_so _ c.self.inside.tables.items c.self.inside.driven.items c.self.inside.lines.items _ c.self.view_is c.self.invariant c.requires.goes_on c.args.link
    c.in-Some.bridge c.from.result c.from-2.result c.index_mut-bridge_driven.result.now c.index_mut-line.result.now _ c.domain.ensures
    c.in-Some.ensures.some.0 c.from.ensures c.from-2.ensures
    c.index_mut-bridge_driven.ensures.value c.index_mut-line.ensures.value c.requires.may

pub invariant_of-self-2 : goal.invariant_of-self-2
invariant_of-self-2 c =
    rw (c.from.ensures, c.from-2.ensures) (taken_world _ c.self.inside.tables.items c.self.inside.driven.items c.self.inside.lines.items _
    c.self.view_is c.self.invariant c.requires.goes_on c.args.link
    c.in-Some.bridge c.from.result c.from-2.result c.index_mut-bridge_driven.result.now c.index_mut-line.result.now _ c.domain.ensures
    c.in-Some.ensures.some.0 c.from.ensures c.from-2.ensures
    c.index_mut-bridge_driven.ensures.value c.index_mut-line.ensures.value c.requires.may
    c.move_batch.new.line c.move_batch.new.bridge_driven c.in_ok-move_batch.ensures.ok)

pub returns-clause-ok : goal.returns-clause-ok
returns-clause-ok c =
    rw (c.from.ensures, c.from-2.ensures) (taken_alone _ c.self.inside.tables.items c.self.inside.driven.items c.self.inside.lines.items _
    c.self.view_is c.self.invariant c.requires.goes_on c.args.link
    c.in-Some.bridge c.from.result c.from-2.result c.index_mut-bridge_driven.result.now c.index_mut-line.result.now _ c.domain.ensures
    c.in-Some.ensures.some.0 c.from.ensures c.from-2.ensures
    c.index_mut-bridge_driven.ensures.value c.index_mut-line.ensures.value c.requires.may
    c.move_batch.new.line c.move_batch.new.bridge_driven c.in_ok-move_batch.ensures.ok)

pub returns-in_err-move_batch-clause-err : goal.returns-in_err-move_batch-clause-err
returns-in_err-move_batch-clause-err c =
    rw (c.from.ensures, c.from-2.ensures) (on_err _ (refused_alone _ c.self.inside.tables.items c.self.inside.driven.items
    c.self.inside.lines.items _ c.self.view_is c.self.invariant c.requires.goes_on c.args.link
    c.in-Some.bridge c.from.result c.from-2.result c.index_mut-bridge_driven.result.now c.index_mut-line.result.now _ c.domain.ensures
    c.in-Some.ensures.some.0 c.from.ensures c.from-2.ensures
    c.index_mut-bridge_driven.ensures.value c.index_mut-line.ensures.value
    c.move_batch.new.line c.move_batch.new.bridge_driven c.in_err-move_batch.ensures.err_line c.in_err-move_batch.ensures.err_driven))
