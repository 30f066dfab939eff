use Rattle.std.proofs.Common.{ℕ, ◌≤◌, arith, subst, sym}
use Rattle.std.proofs.lemmas.Bool.{true≢false}
use Rattle.cqf_program_summary.proofs.Pushing.{room_for_leg}
use Rattle.cqf_program_summary.proofs.hops.steps.take_up_to.Goals as goal

pub returns-in_err-push-clause-succeeds : goal.returns-in_err-push-clause-succeeds
returns-in_err-push-clause-succeeds c = λ fits.
    let here = c.loop-leg.here in
    absurd (true≢false (sym (c.in_err-push.ensures.succeeds
    (omega (
      arith,
      here.ok.0,
      room_for_leg c.args.frames c.args.kept.now c.loop-leg.leg-index _ here.items c.loop-leg-test.true c.loop-leg.invariant.legs
          (subst (λ (n : ℕ). n ≤ c.args.frames) c.frame.ensures c.if-frame-frames.true),
      fits,
      c.loop-leg.invariant.room,
      c.clear.ensures.capacity,
    )))))
