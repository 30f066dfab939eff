use Rattle.std.proofs.Common.{subst, sym, take}
use Rattle.std.specs.List.{All}
use Rattle.std.proofs.lemmas.List.{take_all, take_more}
use Rattle.std.proofs.lemmas.List.Elements.{All-push}
use Rattle.cqf_model.specs.Run.{IsBackground}
use Rattle.cqf_test_fixtures.proofs.given.are_background.Goals as goal

-- one more may be given to a run
pub loop-frame-preserved : goal.loop-frame-preserved
loop-frame-preserved c =
    let frames = c.args.frames.now in
    let k = c.loop-frame.frame-index in
    subst (All (IsBackground c.args.domain.now)) (sym (take_more frames k _ c.loop-frame-test.true))
    (All-push (IsBackground c.args.domain.now) (take k frames) _ c.loop-frame.invariant (c.is_background.ensures c.if-not-is_background.false))

-- at the end all may be given to a run
pub returns : goal.returns
returns c = λ _. subst (All (IsBackground c.args.domain.now)) (take_all c.loop-frame.frame-index c.args.frames.now c.loop-frame-test.false)
    c.loop-frame.invariant
