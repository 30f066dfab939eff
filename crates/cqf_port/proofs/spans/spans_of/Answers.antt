use Rattle.std.proofs.Common.{◌^◌, [], List, take, length, refl, sym, ap, subst, ◌∙◌, arith}
use Rattle.std.proofs.lemmas.List.{length-set}
use Rattle.std.proofs.lemmas.List.Sums.{sum_by_more}
use Rattle.cqf_model.specs.GateList.{Entry, round_of}
use Rattle.cqf_port.specs.Spans.{AreSpansAt}
use Rattle.cqf_port.proofs.Written.{each_written}
use Rattle.cqf_port.proofs.spans.spans_of.Goals as goal

-- one more entry has its spans
pub loop-index-preserved : goal.loop-index-preserved
loop-index-preserved c =
    let entries = c.entries-entries.result.now in
    let index = c.loop-index.index in
    let more = sum_by_more (λ (entry : Entry). entry.1) entries index (0, 0) c.loop-index-test.true in
    let row : AreSpansAt entries (round_of (take index entries)) (2 ^ 63) c.row_at.result =
    subst (λ t. AreSpansAt entries t (2 ^ 63) c.row_at.result) c.loop-index.invariant.begun
    (subst (λ (xs : List Entry). AreSpansAt xs c.loop-index.begun (2 ^ 63) c.row_at.result) (sym c.entries-entries.ensures.value) c.row_at.ensures) in
    record {
      sixteen = length-set c.loop-index.spans index c.row_at.result ∙ c.loop-index.invariant.sixteen;
      begun = omega (arith, more, c.widened-begun.ensures.value, c.loop-index.invariant.begun);
      short = omega (arith, c.widened-begun.ensures.short, c.loop-index.invariant.short);
      rows = each_written (λ k spans. AreSpansAt entries (round_of (take k entries)) (2 ^ 63) spans) c.loop-index.spans index index
          c.row_at.result [] refl (omega (
            arith,
            c.entries-entries.ensures.facts.few,
            ap length c.entries-entries.ensures.value,
            c.loop-index.invariant.sixteen,
          )) c.loop-index.invariant.rows row;
    }

pub overflow_add-begun : goal.overflow_add-begun
overflow_add-begun c = record {
  fits = omega (
    arith,
    c.widened-begun.ensures.short,
    c.loop-index.invariant.short,
    c.entries-entries.ensures.facts.few,
    ap length c.entries-entries.ensures.value,
  );
}
