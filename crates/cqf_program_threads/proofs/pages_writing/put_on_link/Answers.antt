use Rattle.std.proofs.Common.{List, [], ◌∷◌, ◌+◌, ◌-◌, ◌∙◌, ap, drop, map, take, take_all}
use Rattle.cqf_output.proofs.WriterLemmas.{Puts-as, Puts-then}
use Rattle.cqf_report.specs.Books.{lines_of_starts}
use Rattle.cqf_trace.specs.declared.trace.Mark.{Mark}
use Rattle.cqf_trace.specs.Traces.{reported_on, started_in}
use Rattle.cqf_program_threads.proofs.Marks.{marks_more, written_of_own}
use Rattle.cqf_program_threads.proofs.pages_writing.put_on_link.Goals as goal

-- the next mark's line is appended
pub loop-mark-preserved : goal.loop-mark-preserved
loop-mark-preserved g c =
    let part = c.args.part in
    let lines = lines_of_starts part.what.now part.domain.now in
    let started = started_in c.args.cycle.0 c.args.link in
    let own : List Mark = take (c.end_of-end.result - c.args.from) (drop c.args.from c.args.marks.now) in
    let k = c.loop-mark.mark-index in
    Puts-as _ (lines (map started (take (k + 1) own)))
    (marks_more part.what.now part.domain.now started own k _ c.started_on.result c.loop-mark-test.true c.started_on.ensures)
    (Puts-then (lines (map started (take k own))) (lines (c.started_on.result ∷ [])) c.loop-mark.invariant c.put_starts.ensures)

-- the lines of the cycle's marks are put
pub returns-clause-puts : goal.returns-clause-puts
returns-clause-puts g c =
    let part = c.args.part in
    let d = part.domain.now in
    let cycle = c.args.cycle.0 in
    let link = c.args.link in
    let marks = c.args.marks.now in
    let started = started_in cycle link in
    let own : List Mark = take (c.end_of-end.result - c.args.from) (drop c.args.from marks) in
    Puts-as _ (lines_of_starts part.what.now d (reported_on d cycle link marks))
    (ap (λ (xs : List Mark). lines_of_starts part.what.now d (map started xs)) (take_all c.loop-mark.mark-index own c.loop-mark-test.false)
    ∙ ap (lines_of_starts part.what.now d) (written_of_own d cycle link marks own c.end_of-end.ensures.of_cycle))
    c.loop-mark.invariant
