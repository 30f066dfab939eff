use Rattle.std.proofs.Common.{◌≡◌, ◌+◌, ◌*◌, ◌%◌, ◌^◌, cond, get_or, sym, ap, ◌∙◌, arith}
use Rattle.std.proofs.lemmas.Nat.{one_shl}
use Rattle.cqf_lanes.proofs.Bits.{has_from_nonzero, lacks_from_zero}
use Rattle.cqf_lanes.proofs.Masked.{masked_more, masked_all}
use Rattle.cqf_lanes.proofs.sums.masked_sum_plain.Goals as goal
use Rattle.cqf_lanes.proofs.sums.masked_sum_plain.Goals.{then-masks-index-ne0, else-masks-index-ne0}

-- one more index
pub loop-index-preserved : goal.loop-index-preserved
loop-index-preserved c = elim c.if-masks-index-ne0.branch [
  | then-masks-index-ne0 w ↦
      let set = has_from_nonzero _ c.args.bit (1 * 2 ^ c.args.bit % 2 ^ 64) (one_shl c.args.bit 64 (omega arith)) w.if-masks-index-ne0.true in
      let grown : c.if-masks-index-ne0.total ≡ c.loop-index.total + get_or c.args.costs.now c.loop-index.index 0 =
      omega (arith, w.total-is, w.from-total.ensures) in
      let small = (c.type_inv.costs c.loop-index.index).fits in
      record {
        value = masked_more c.args.bit c.args.costs.now c.args.masks.now c.loop-index.index c.loop-index.total c.if-masks-index-ne0.total
            c.requires.side_by_side c.loop-index-test.true c.loop-index.invariant.value
            (grown ∙ ap (λ b. c.loop-index.total + cond b (get_or c.args.costs.now c.loop-index.index 0) 0) (sym set));
        short = omega (arith, grown);
      }
  | else-masks-index-ne0 w ↦
      let unset = lacks_from_zero _ c.args.bit (1 * 2 ^ c.args.bit % 2 ^ 64) (one_shl c.args.bit 64 (omega arith)) w.if-masks-index-ne0.false in
      let nothing : c.if-masks-index-ne0.total ≡ c.loop-index.total + 0 = omega (arith, w.total-is) in
      record {
        value = masked_more c.args.bit c.args.costs.now c.args.masks.now c.loop-index.index c.loop-index.total c.if-masks-index-ne0.total
            c.requires.side_by_side c.loop-index-test.true c.loop-index.invariant.value
            (nothing ∙ ap (λ b. c.loop-index.total + cond b (get_or c.args.costs.now c.loop-index.index 0) 0) (sym unset));
        short = omega (arith, w.total-is);
      }
]

-- all indices are summed
pub returns : goal.returns
returns c = masked_all c.args.bit c.args.costs.now c.args.masks.now c.loop-index.index c.loop-index.total c.requires.side_by_side (omega arith)
    c.loop-index.invariant.value
