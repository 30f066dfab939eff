use Rattle.std.proofs.Common.{◌∙◌, ◌++◌, ◌-◌, List, ap, drop, map, take}
use Rattle.std.proofs.lemmas.List.{take_all}
use Rattle.cqf_model.specs.declared.frames.Started.{Started}
use Rattle.cqf_trace.specs.declared.trace.Mark.{Mark}
use Rattle.cqf_trace.specs.Traces.{started_in}
use Rattle.cqf_trace.proofs.Reported.{reported_segment}
use Rattle.cqf_trace.proofs.reporting.add_on_link.Goals as goal

-- the marks of the segment are those of the cycle
pub returns-clause-more : goal.returns-clause-more
returns-clause-more c =
    let marks = c.args.marks.now in
    let own : List Mark = take (c.end_of-end.result - c.args.from) (drop c.args.from marks) in
    c.loop-mark.invariant
    ∙ ap (λ (ms : List Mark). c.args.reported.now.items ++ map (started_in c.args.cycle.0 c.args.link) ms)
    (take_all c.loop-mark.mark-index own c.loop-mark-test.false)
    ∙ ap (λ (starts : List Started). c.args.reported.now.items ++ starts)
    (reported_segment c.args.domain.now c.args.cycle.0 c.args.link marks own c.end_of-end.ensures.of_cycle)
