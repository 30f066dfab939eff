use Rattle.std.proofs.Common.{refl}
use lib.Count.{count_leading_zeros}
use Rattle.cqf_lanes.proofs.Bits.{highest_by_leading}
use Rattle.cqf_lanes.proofs.choice.highest.Goals as goal

-- the bits above the result are the leading zeros
pub returns : goal.returns
returns c = highest_by_leading c.args.mask (count_leading_zeros 8 c.args.mask) c.if-mask-eq0.false c.ranges.mask.fits refl
