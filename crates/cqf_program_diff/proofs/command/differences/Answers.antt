use Rattle.std.proofs.Common.{◌∙◌}
use Rattle.std.proofs.lemmas.Result.{IfOk-weaker}
use Rattle.cqf_program_diff.specs.Output.{element_header, latency_header, load_header, table_after}
use Rattle.cqf_program_diff.proofs.command.differences.Goals as goal

pub returns : goal.returns
returns c =
    let elements = c.as_str.ensures.value ∙ c.in_ok-elements.ensures in
    let latencies = c.as_str-2.ensures.value ∙ c.in_ok-latencies.ensures in
    let loads = c.as_str-3.ensures.value ∙ c.in_ok-loads.ensures in
    let first = c.in_ok-first.ensures ∙ (λ i. table_after (c.new.ensures.bytes i) element_header (elements i)) in
    let second = c.in_ok-second.ensures ∙ (λ i. table_after (first i) latency_header (latencies i)) in
    IfOk-weaker c.table_after-3.result _ _ (λ text is. is ∙ (λ i. table_after (second i) load_header (loads i))) c.table_after-3.ensures
