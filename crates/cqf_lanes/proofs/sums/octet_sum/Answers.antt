use Rattle.std.proofs.Common.{◌≡◌, length, w64, sym, ap, ◌∙◌, arith}
use Rattle.std.proofs.lemmas.Simd.{adds_fit, sum_fits, sum-zip2, length-chunk}
use Rattle.cqf_lanes.proofs.Chunks.{sum_eight_more, sum_of_all, sum_of_all_fits}
use Rattle.cqf_lanes.proofs.sums.octet_sum.Goals as goal

-- the sums of the lanes fit
pub overflow_add-lanes : goal.overflow_add-lanes
overflow_add-lanes c = adds_fit w64 c.loop-done.lanes c.eight_from-lanes.result (omega arith)

-- eight more values
pub loop-done-preserved : goal.loop-done-preserved
loop-done-preserved c =
    let long : length c.loop-done.lanes ≡ length c.eight_from-lanes.result =
    c.loop-done.auto.lanes.0 ∙ sym (ap length c.eight_from-lanes.ensures.lanes ∙ length-chunk c.loop-done.done 8 c.args.octets.now (omega arith)) in
    record {
      inside = omega arith;
      value = sum_eight_more c.args.octets.now c.loop-done.lanes c.eight_from-lanes.result c.loop-done.done long c.eight_from-lanes.ensures.lanes
          c.loop-done.invariant.value;
      short = omega (arith, sum-zip2 c.loop-done.lanes c.eight_from-lanes.result long);
    }

-- the sum over the lanes fits
pub overflow_add-result : goal.overflow_add-result
overflow_add-result c = sum_fits w64 0 c.loop-done.lanes (omega arith)

-- with the rest it fits too
pub overflow_add-result-2 : goal.overflow_add-result-2
overflow_add-result-2 c = sum_of_all_fits c.args.octets.now c.loop-done.lanes c.loop-done.done c.octet_sum_plain.result c.requires
    c.type_inv.octets c.loop-done.invariant.value c.octet_sum_plain.ensures

-- all values are summed
pub returns : goal.returns
returns c = sum_of_all c.args.octets.now c.loop-done.lanes c.loop-done.done c.octet_sum_plain.result c.loop-done.invariant.value c.octet_sum_plain.ensures
