use Rattle.std.proofs.Common.{◌<◌, append-nil, arith, length, subst, sym}
use Rattle.cqf_plain.specs.Due.{AreNextStarts}
use Rattle.cqf_plain.proofs.Noted.{all_noted, next_noted}
use Rattle.cqf_plain.proofs.due.note_starts.Goals as goal

pub loop-index-init : goal.loop-index-init
loop-index-init c = λ ports so. subst (AreNextStarts c.args.due.now.entries) (sym (append-nil ports)) so

pub loop-index-preserved : goal.loop-index-preserved
loop-index-preserved c = λ ports so.
    let inside : c.loop-index.index < length c.args.bridge.now.ports = omega (arith, c.loop-index-test.true, c.links-index-end.ensures) in
    next_noted c.note.new.due.entries ports c.args.bridge.now.ports c.loop-index.index inside
    (λ e. c.in_ok-note.ensures _ _ (c.loop-index.invariant ports so) (c.next_start.ensures e))

pub returns : goal.returns
returns c = λ ports so.
    all_noted c.loop-index.due.entries ports c.args.bridge.now.ports c.loop-index.index (omega (arith, c.loop-index-test.false, c.links-index-end.ensures))
    (c.loop-index.invariant ports so)
