use Rattle.std.proofs.Common.{◌∙◌, ap, arith, sym}
use Rattle.std.proofs.lemmas.Bool.{true≢false}
use Rattle.cqf_program_summary.specs.Hops.Rounds.{source_of}
use Rattle.cqf_program_summary.proofs.Pushing.{kept_one_more, none_kept, room_for_start}
use Rattle.cqf_program_summary.proofs.hops.steps.push_starts.Goals as goal
use Rattle.cqf_program_summary.proofs.hops.steps.push_starts.Goals.{then-started-frames+in_ok-push_wanted, else-started-frames}

pub returns-in_err-push_wanted-clause-succeeds : goal.returns-in_err-push_wanted-clause-succeeds
returns-in_err-push_wanted-clause-succeeds c = λ fits.
    absurd (true≢false (sym (c.in_err-push_wanted.ensures.succeeds
    (room_for_start (source_of c.args.run.now) c.args.frames c.args.starts.now c.loop-started.started-index _ c.args.legs.now.items c.loop-started.legs.items
    _ _ c.loop-started-test.true c.if-started-frames.true c.loop-started.invariant.legs fits c.loop-started.invariant.room))))

pub loop-started-preserved : goal.loop-started-preserved
loop-started-preserved c =
    let source = source_of c.args.run.now in
    elim c.if-started-frames.branch [
      | then-started-frames+in_ok-push_wanted w ↦ record {
        legs = ap (λ (v : _). v.items) w.legs-is
            ∙ kept_one_more source c.args.frames c.args.starts.now c.loop-started.started-index _ c.args.legs.now.items c.loop-started.legs.items _
            c.loop-started-test.true w.if-started-frames.true c.loop-started.invariant.legs w.in_ok-push_wanted.ensures.ok;
        room = omega (arith, c.loop-started.invariant.room, w.in_ok-push_wanted.ensures.capacity, ap (λ (v : _). v.cap) w.legs-is);
      }
      | else-started-frames w ↦ record {
        legs = ap (λ (v : _). v.items) w.legs-is ∙ c.loop-started.invariant.legs
            ∙ none_kept source c.args.frames c.args.starts.now c.loop-started.started-index _ c.args.legs.now.items c.loop-started-test.true
            w.if-started-frames.false;
        room = omega (arith, c.loop-started.invariant.room, ap (λ (v : _). v.cap) w.legs-is);
      }
    ]
