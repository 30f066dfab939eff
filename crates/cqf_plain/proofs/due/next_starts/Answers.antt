use Rattle.std.proofs.Common.{List, arith, subst}
use Rattle.std.proofs.lemmas.List.{take_all}
use Rattle.cqf_plain.specs.declared.driven.RunBridge.{RunBridge}
use Rattle.cqf_plain.specs.Due.{AreNextStarts, ports_of}
use Rattle.cqf_plain.proofs.Noted.{bridge_noted, nothing_due}
use Rattle.cqf_plain.proofs.due.next_starts.Goals as goal

pub loop-index-init : goal.loop-index-init
loop-index-init c = nothing_due c.new-due.result.entries c.new-due.ensures.empty

pub loop-index-preserved : goal.loop-index-preserved
loop-index-preserved c =
    bridge_noted c.note_starts.new.due.entries c.args.bridges.now c.loop-index.index c.index-bridges-index.result c.loop-index-test.true
    (c.in_ok-note_starts.ensures _ c.loop-index.invariant)

pub returns : goal.returns
returns c =
    subst (λ (xs : List RunBridge). AreNextStarts c.loop-index.due.entries (ports_of xs))
    (take_all c.loop-index.index c.args.bridges.now (omega (arith, c.loop-index-test.false)))
    c.loop-index.invariant
