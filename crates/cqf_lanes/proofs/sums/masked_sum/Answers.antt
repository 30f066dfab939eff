use Rattle.std.proofs.Common.{◌≡◌, length, w64, sym, ap, ◌∙◌, arith}
use Rattle.std.proofs.lemmas.Simd.{adds_fit, sum_fits, sum-zip2}
use Rattle.cqf_lanes.proofs.Masked.{length-masked_chunk, masked_eight_more, masked_of_all, masked_of_all_fits}
use Rattle.cqf_lanes.proofs.sums.masked_sum.Goals as goal

-- the sums of the lanes fit
pub overflow_add-lanes : goal.overflow_add-lanes
overflow_add-lanes c = adds_fit w64 c.loop-done.lanes c.eight_masked-lanes.result (omega arith)

-- eight more indices
pub loop-done-preserved : goal.loop-done-preserved
loop-done-preserved c =
    let long : length c.loop-done.lanes ≡ length c.eight_masked-lanes.result =
    c.loop-done.auto.lanes.0 ∙ sym (ap length c.eight_masked-lanes.ensures.lanes ∙ length-masked_chunk c.args.bit 8 c.loop-done.done
    c.args.costs.now c.args.masks.now c.requires.side_by_side (omega arith)) in
    record {
      inside = omega arith;
      value = masked_eight_more c.args.bit c.args.costs.now c.args.masks.now c.loop-done.lanes c.eight_masked-lanes.result c.loop-done.done
          long c.eight_masked-lanes.ensures.lanes c.loop-done.invariant.value;
      short = omega (arith, sum-zip2 c.loop-done.lanes c.eight_masked-lanes.result long);
    }

-- the sum over the lanes fits
pub overflow_add-result : goal.overflow_add-result
overflow_add-result c = sum_fits w64 0 c.loop-done.lanes (omega arith)

-- with the rest it fits too
pub overflow_add-result-2 : goal.overflow_add-result-2
overflow_add-result-2 c = masked_of_all_fits c.args.bit c.args.costs.now c.args.masks.now c.loop-done.lanes c.loop-done.done
    c.masked_sum_plain.result c.requires.few c.type_inv.costs c.loop-done.invariant.value c.masked_sum_plain.ensures

-- all indices are summed
pub returns : goal.returns
returns c = masked_of_all c.args.bit c.args.costs.now c.args.masks.now c.loop-done.lanes c.loop-done.done c.masked_sum_plain.result
    c.loop-done.invariant.value c.masked_sum_plain.ensures
