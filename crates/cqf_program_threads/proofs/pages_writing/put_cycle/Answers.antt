use Rattle.std.proofs.Common.{◌+◌, ℕ, List, ap, arith, length, refl, set, subst, sym}
use Rattle.cqf_output.proofs.WriterLemmas.{Puts-as, Puts-nothing, Puts-then}
use Rattle.cqf_report.specs.Books.{lines_of_starts}
use Rattle.cqf_trace.specs.declared.trace.Mark.{Mark}
use Rattle.cqf_trace.specs.Traces.{IsEndBefore, marks_at, reported_on, reported_on_links}
use Rattle.cqf_program_threads.proofs.PageLines.{starts_more}
use Rattle.cqf_program_threads.proofs.Indices.{AreAfterLinks, as_many_traces, by_number, ends_by_link, links_begin, one_gone}
use Rattle.cqf_program_threads.proofs.pages_writing.put_cycle.Goals as goal

-- at first no line is put
pub loop-link-init : goal.loop-link-init
loop-link-init g c = record {
  indices = links_begin c.args.part.domain.now c.args.part.kind c.args.part.traces.now c.args.indices.now c.args.cycle.0 c.requires.before;
  puts = Puts-nothing _ refl;
}

-- there is a trace for each link, by number
pub marks-marks-requires-clause-inside : goal.marks-marks-requires-clause-inside
marks-marks-requires-clause-inside g c =
    omega (arith, c.loop-link-test.true, c.links-link-end.ensures, as_many_traces c.args.part.domain.now c.args.part.traces.now c.requires.traces)

pub marks-marks-requires-clause-by_number : goal.marks-marks-requires-clause-by_number
marks-marks-requires-clause-by_number g c = by_number c.args.part.domain.now c.args.part.traces.now c.requires.traces

-- the link's lines are appended, and its index is after the cycle
pub loop-link-preserved : goal.loop-link-preserved
loop-link-preserved g c =
    let part = c.args.part in
    let d = part.domain.now in
    let traces = part.traces.now in
    let cycle = c.args.cycle.0 in
    let link = c.loop-link.link in
    let end = c.put_on_link.result in
    let placed : AreAfterLinks d part.kind traces cycle (link + 1) (set c.loop-link.indices link end) =
    one_gone (ends_by_link d part.kind traces cycle) (ends_by_link d part.kind traces (cycle + 1)) (length d.links) c.loop-link.indices link end
    (omega (arith, c.loop-link-test.true, c.links-link-end.ensures)) c.loop-link.invariant.indices
    (subst (λ (marks : List Mark). IsEndBefore d (cycle + 1) marks end) c.marks-marks.ensures c.put_on_link.ensures.following) in
    record {
      indices = subst (λ (index : ℕ). AreAfterLinks d part.kind traces cycle (link + 1) (set c.loop-link.indices index end))
          (sym c.from-index.ensures) placed;
      puts = Puts-as _ (lines_of_starts part.what.now d (reported_on_links d part.kind traces cycle (link + 1)))
          (starts_more part.what.now d d (λ (l : ℕ). reported_on d cycle l (marks_at part.kind traces l)) link _ refl
          (ap (reported_on d cycle link) c.marks-marks.ensures))
          (Puts-then _ _ c.loop-link.invariant.puts c.put_on_link.ensures.puts);
    }
