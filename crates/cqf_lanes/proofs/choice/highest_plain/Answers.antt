use Rattle.std.proofs.Common.{◌-◌, ◌*◌, ◌^◌, ◌%◌, arith}
use Rattle.std.proofs.lemmas.Nat.{one_shl}
use Rattle.cqf_lanes.proofs.Bits.{highest_by_search, none_by_search, search_goes_on}
use Rattle.cqf_lanes.proofs.choice.highest_plain.Goals as goal

-- the first set bit from above
pub returns-then-mask-bit-ne0 : goal.returns-then-mask-bit-ne0
returns-then-mask-bit-ne0 c = highest_by_search c.args.mask c.loop-above.above (1 * 2 ^ (7 - c.loop-above.above) % 256) c.ranges.mask.fits
    (omega arith) c.loop-above.invariant (one_shl (7 - c.loop-above.above) 8 (omega arith)) c.if-mask-bit-ne0.true

-- one more bit isn't set
pub loop-above-preserved : goal.loop-above-preserved
loop-above-preserved c = search_goes_on c.args.mask c.loop-above.above (1 * 2 ^ (7 - c.loop-above.above) % 256) (omega arith)
    c.loop-above.invariant (one_shl (7 - c.loop-above.above) 8 (omega arith)) c.if-mask-bit-ne0.false

-- no bit is set
pub returns : goal.returns
returns c = none_by_search c.args.mask c.loop-above.above c.ranges.mask.fits (omega arith) c.loop-above.invariant
