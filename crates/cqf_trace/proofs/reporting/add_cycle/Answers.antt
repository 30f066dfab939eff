use Rattle.std.proofs.Common.{ℕ, ◌∙◌, ◌++◌, List, ap, arith}
use Rattle.cqf_model.specs.declared.frames.Started.{Started}
use Rattle.cqf_trace.specs.Traces.{marks_at, reported_on}
use Rattle.cqf_trace.proofs.Reported.{link_placed, many_traces, reported_further, stand_by_number}
use Rattle.cqf_trace.proofs.reporting.add_cycle.Goals as goal

pub marks-marks-requires-clause-inside : goal.marks-marks-requires-clause-inside
marks-marks-requires-clause-inside c =
    omega (arith, c.loop-link-test.true, c.links-link-end.ensures, many_traces c.args.domain.now c.args.traces.now c.requires.traces)

pub marks-marks-requires-clause-by_number : goal.marks-marks-requires-clause-by_number
marks-marks-requires-clause-by_number c = stand_by_number c.args.domain.now c.args.traces.now c.requires.traces

-- one more link is done
pub loop-link-preserved : goal.loop-link-preserved
loop-link-preserved c =
    let d = c.args.domain.now in
    let traces = c.args.traces.now in
    let cycle = c.args.cycle.0 in
    let link = c.loop-link.link in
    let reported = c.loop-link.reported.items in (
      link_placed d c.args.kind traces cycle link c.from-index.result c.loop-link.indices _ c.marks-marks.result.now c.loop-link.invariant.0 c.from-index.ensures
          (omega (arith, c.loop-link-test.true, c.links-link-end.ensures))
          c.marks-marks.ensures c.in_ok-indices.ensures.following,
      reported_further (λ (l : ℕ). reported_on d cycle l (marks_at c.args.kind traces l)) link c.args.reported.now.items reported c.add_on_link.new.reported.items
          c.loop-link.invariant.1
          (c.in_ok-indices.ensures.more
          ∙ ap (λ (starts : List Started). reported ++ starts) (ap (reported_on d cycle link) c.marks-marks.ensures)),
    )
