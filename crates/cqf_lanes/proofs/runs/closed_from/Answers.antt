use Rattle.std.proofs.Common.{◌*◌, ◌^◌, ◌%◌, arith}
use Rattle.std.specs.Simd.Lanes.{chunk}
use Rattle.std.proofs.lemmas.Nat.{one_shl}
use Rattle.std.proofs.lemmas.Simd.{length-chunk}
use Rattle.cqf_lanes.proofs.OpenRuns.{closed_mask}
use Rattle.cqf_lanes.proofs.runs.closed_from.Goals as goal

-- each lane gives its bit
pub returns : goal.returns
returns c = closed_mask c.args.class (1 * 2 ^ c.args.class % 256) (chunk c.args.index 16 c.args.states.now) (one_shl c.args.class 8 (omega arith))
    (length-chunk c.args.index 16 c.args.states.now c.requires.inside)
