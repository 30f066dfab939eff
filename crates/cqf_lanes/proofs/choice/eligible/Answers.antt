use Rattle.std.proofs.Common.{◌<◌, subst, sym}
use Rattle.cqf_lanes.proofs.Bits.{compared_mask, compared_small, eligible_from_mask}
use Rattle.cqf_lanes.proofs.choice.eligible.Goals as goal

-- a mask of eight lanes has eight bits
pub overflow_cast-result : goal.overflow_cast-result
overflow_cast-result c = record {
  fits = subst (λ m. m < 256) (sym (compared_mask c.args.need.now c.args.left.now c.told-need c.told-left))
      (compared_small c.args.need.now c.args.left.now c.told-need c.told-left);
}

-- the classes with an open gate whose comparison holds remain
pub returns : goal.returns
returns c = eligible_from_mask c.args.gates _ c.args.need.now c.args.left.now c.told-need c.told-left
    (compared_mask c.args.need.now c.args.left.now c.told-need c.told-left)
