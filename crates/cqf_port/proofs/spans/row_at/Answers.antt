use Rattle.std.proofs.Common.{◌^◌, ◌∙◌, arith}
use Rattle.std.proofs.lemmas.List.{length-set}
use Rattle.cqf_port.specs.Spans.{IsSpan}
use Rattle.cqf_port.proofs.Written.{each_written}
use Rattle.cqf_port.proofs.spans.row_at.Goals as goal

-- one more class has its span
pub loop-class-preserved : goal.loop-class-preserved
loop-class-preserved c = record {
  eight = length-set c.loop-class.row c.from.result c.span_at.result ∙ c.loop-class.invariant.eight;
  each = each_written (λ k span. IsSpan c.args.list.now k c.args.t (2 ^ 63) span) c.loop-class.row c.loop-class.class c.from.result
      c.span_at.result 0 c.from.ensures (omega arith) c.loop-class.invariant.each c.span_at.ensures;
}

-- all eight have
pub returns : goal.returns
returns c = record {
  eight = c.loop-class.invariant.eight;
  each = λ class low. c.loop-class.invariant.each class (omega arith);
}
