use Rattle.std.proofs.Common.{subst}
use Rattle.cqf_model.specs.Domain.{Domain}
use Rattle.cqf_world.specs.Parts.{SendsOut}
use Rattle.cqf_world.proofs.Stepping.{backed_so, early_so, goes_on_so, next_so, sent_alone, sent_world, unsent_alone}
use Rattle.cqf_world.proofs.Keeping.{on_err}
use Rattle.cqf_world.proofs.world.World.step.Goals as goal

pub send_all-requires-clause-early : goal.send_all-requires-clause-early
send_all-requires-clause-early c =
    early_so _ c.self.inside.tables.items c.self.inside.driven.items c.self.inside.lines.items _ c.self.view_is c.self.invariant c.requires.goes_on
    c.args.bridge c.from.result c.index_mut-bridge_driven.result.now c.requires.may c.from.ensures c.index_mut-bridge_driven.ensures.value

pub send_all-requires-clause-next : goal.send_all-requires-clause-next
send_all-requires-clause-next c =
    next_so _ c.self.inside.tables.items c.self.inside.driven.items c.self.inside.lines.items _ c.self.view_is c.self.invariant c.requires.goes_on
    c.args.bridge c.from.result c.index_mut-bridge_driven.result.now c.requires.may c.from.ensures c.index_mut-bridge_driven.ensures.value

pub send_all-requires-clause-goes_on : goal.send_all-requires-clause-goes_on
send_all-requires-clause-goes_on c =
    goes_on_so _ c.self.inside.tables.items c.self.inside.driven.items c.self.inside.lines.items _ c.self.view_is c.self.invariant c.requires.goes_on
    c.args.bridge c.from.result c.index_mut-bridge_driven.result.now c.requires.may c.from.ensures c.index_mut-bridge_driven.ensures.value

pub send_all-requires-clause-backed : goal.send_all-requires-clause-backed
send_all-requires-clause-backed c =
    backed_so _ c.self.inside.tables.items c.self.inside.driven.items c.self.inside.lines.items _ c.self.view_is c.self.invariant c.requires.goes_on
    c.args.bridge c.from.result c.index_mut-bridge_driven.result.now c.requires.may c.from.ensures c.index_mut-bridge_driven.ensures.value
    c.new_bridge_follows.ensures.background

pub invariant_of-self-2 : goal.invariant_of-self-2
invariant_of-self-2 c =
    let out : SendsOut c.self.inside.admission.domain c.index_mut-bridge_driven.result.now c.send_all.new.bridge_driven c.self.inside.lines.items
    c.send_all.new.lines.items =
    subst (λ (d : Domain). SendsOut d c.index_mut-bridge_driven.result.now c.send_all.new.bridge_driven c.self.inside.lines.items c.send_all.new.lines.items)
    c.domain.ensures
    c.in_ok-send_all.ensures.ok in
    rw c.from.ensures (sent_world _ c.self.inside.tables.items c.self.inside.driven.items c.self.inside.lines.items _ c.self.view_is
    c.self.invariant c.requires.goes_on
    c.args.bridge c.from.result c.index_mut-bridge_driven.result.now c.requires.may c.from.ensures c.index_mut-bridge_driven.ensures.value
    c.send_all.new.bridge_driven c.send_all.new.lines.items out c.sending_follows.ensures)

pub returns-clause-ok : goal.returns-clause-ok
returns-clause-ok c =
    let out : SendsOut c.self.inside.admission.domain c.index_mut-bridge_driven.result.now c.send_all.new.bridge_driven c.self.inside.lines.items
    c.send_all.new.lines.items =
    subst (λ (d : Domain). SendsOut d c.index_mut-bridge_driven.result.now c.send_all.new.bridge_driven c.self.inside.lines.items c.send_all.new.lines.items)
    c.domain.ensures
    c.in_ok-send_all.ensures.ok in
    rw c.from.ensures (sent_alone _ c.self.inside.tables.items c.self.inside.driven.items c.self.inside.lines.items _ c.self.view_is
    c.self.invariant c.requires.goes_on
    c.args.bridge c.from.result c.index_mut-bridge_driven.result.now c.requires.may c.from.ensures c.index_mut-bridge_driven.ensures.value
    c.send_all.new.bridge_driven c.send_all.new.lines.items out c.sending_follows.ensures)

pub returns-in_err-send_all-clause-err : goal.returns-in_err-send_all-clause-err
returns-in_err-send_all-clause-err c =
    rw c.from.ensures (on_err _ (unsent_alone _ c.self.inside.tables.items c.self.inside.driven.items c.self.inside.lines.items _
    c.self.view_is c.self.invariant c.requires.goes_on
    c.args.bridge c.from.result c.index_mut-bridge_driven.result.now c.requires.may c.from.ensures c.index_mut-bridge_driven.ensures.value
    c.send_all.new.bridge_driven c.send_all.new.lines.items c.in_err-send_all.ensures.err_driven c.in_err-send_all.ensures.err_sent
    c.in_err-send_all.ensures.err_lines))
