-- The law of the spans.
use Rattle.cqf_gates.proofs.SpanPasses.{spans_pass}
use Rattle.cqf_gates.proofs.compiled.spans_pass_the_same.Goals as goal

pub returns : goal.returns
returns c = spans_pass
