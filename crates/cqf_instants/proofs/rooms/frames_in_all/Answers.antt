use Rattle.std.proofs.Common.{arith}
use Rattle.cqf_instants.proofs.Reporting.{frames_next}
use Rattle.cqf_instants.proofs.rooms.frames_in_all.Goals as goal

pub loop-index-preserved : goal.loop-index-preserved
loop-index-preserved c = record {
  sum = frames_next c.args.links.now c.args.cycle_time c.args.guard c.args.offers c.loop-index.index c.loop-index.frames c.frames_in-frames.result _ c.loop-index-test.true
      c.loop-index.invariant.sum c.frames_in-frames.ensures.value;
  few = omega (arith, c.loop-index.invariant.few, c.frames_in-frames.ensures.few);
}
