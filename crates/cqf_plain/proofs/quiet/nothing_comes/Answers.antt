use Rattle.std.proofs.Common.{List, arith, refl, subst}
use Rattle.std.proofs.lemmas.List.{take_all}
use Rattle.cqf_lists.proofs.Members.{contains_none}
use Rattle.cqf_plain.specs.declared.driven.RunBridge.{RunBridge}
use Rattle.cqf_plain.specs.Due.{NothingComes}
use Rattle.cqf_plain.proofs.Noted.{nothing_more}
use Rattle.cqf_plain.proofs.quiet.nothing_comes.Goals as goal

pub loop-index-init : goal.loop-index-init
loop-index-init c = λ s held. absurd (contains_none s held)

pub loop-index-preserved : goal.loop-index-preserved
loop-index-preserved c =
    nothing_more c.args.cycle.0 c.args.bridges.now c.loop-index.index c.index-bridges-index.result c.loop-index-test.true c.index-bridges-index.is
    c.loop-index.invariant (c.if-not-has_nothing.ensures refl)

pub returns : goal.returns
returns c = λ yes.
    subst (λ (xs : List RunBridge). NothingComes c.args.cycle.0 xs) (take_all c.loop-index.index c.args.bridges.now (omega (arith, c.loop-index-test.false)))
    c.loop-index.invariant
