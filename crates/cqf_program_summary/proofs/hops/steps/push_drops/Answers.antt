use Rattle.std.proofs.Common.{sym}
use Rattle.std.proofs.lemmas.Bool.{true≢false}
use Rattle.cqf_program_summary.specs.Hops.Rounds.{source_of}
use Rattle.cqf_program_summary.proofs.Pushing.{room_for_drop}
use Rattle.cqf_program_summary.proofs.hops.steps.push_drops.Goals as goal

pub returns-in_err-push_wanted-clause-succeeds : goal.returns-in_err-push_wanted-clause-succeeds
returns-in_err-push_wanted-clause-succeeds c = λ fits.
    absurd (true≢false (sym (c.in_err-push_wanted.ensures.succeeds
    (room_for_drop (source_of c.args.run.now) c.args.drops.now c.loop-dropped.dropped-index _ c.args.legs.now.items c.loop-dropped.legs.items _ _
    c.loop-dropped-test.true c.loop-dropped.invariant.legs fits c.loop-dropped.invariant.room))))
