use Rattle.std.proofs.Common.{map, subst}
use Rattle.cqf_program_engine.specs.Edge.{reading}
use Rattle.cqf_output.specs.Edge.{writing}
use Rattle.cqf_program_engine.specs.Prepared.{Begins, HasResult, is_of_diff}
use Rattle.cqf_program_engine.specs.Run.{HasRun, LeavesThreads}
use Rattle.cqf_program_engine.specs.declared.begun.Begun.{Begun}
use Rattle.cqf_program_engine.proofs.RunLemmas.{Ends-ran, Ends-stopped}
use Rattle.cqf_program_engine.proofs.runs.run_unless_threaded.Goals as goal

pub returns-in-Ok-Ready-clause-ended : goal.returns-in-Ok-Ready-clause-ended
returns-in-Ok-Ready-clause-ended g c =
    let words = map (λ word. word.now) c.args.words.now in
    let input = reading g.R.Read.remaining c.args.input.now c.run.new.input in
    let reported : HasResult (HasRun words input) c.in-Ok-Ready.prepared =
    subst (λ (begun : Begun). Begins (HasRun words input) (LeavesThreads words input) begun) c.in-Ok-Ready.field-0-is c.in-Ok-Ready.ensures.ok in
    Ends-ran g.R.Source.fails g.O.Sink.refuses words input (writing g.O.Write.contents c.args.output.now c.write_output.new.output)
    (writing g.F.Write.contents c.args.faults.now c.write_output.new.faults) c.run.new.input.may_fail c.write_output.new.output.may_refuse
    (is_of_diff c.in-Ok-Ready.prepared) reported.0 c.write_output.result c.run.ensures.heard c.run.ensures.after_words reported.2 (c.write_output.ensures reported.0 reported.1)

pub returns-in-Ok-Threads-clause-ends : goal.returns-in-Ok-Threads-clause-ends
returns-in-Ok-Threads-clause-ends g c =
    let words = map (λ word. word.now) c.args.words.now in
    let input = reading g.R.Read.remaining c.args.input.now c.run.new.input in
    let left : LeavesThreads words input c.in-Ok-Threads.threaded =
    subst (λ (begun : Begun). Begins (HasRun words input) (LeavesThreads words input) begun) c.in-Ok-Threads.field-0-is c.in-Ok-Threads.ensures.ok in
    λ none. absurd (none c.in-Ok-Threads.threaded.cycles left.is_run.means)

pub returns-in-Err-clause-ended : goal.returns-in-Err-clause-ended
returns-in-Err-clause-ended g c = Ends-stopped g.R.Source.fails g.O.Sink.refuses (map (λ word. word.now) c.args.words.now)
    (reading g.R.Read.remaining c.args.input.now c.run.new.input) (writing g.O.Write.contents c.args.output.now c.write.new.output)
    (writing g.F.Write.contents c.args.faults.now c.write.new.faults) c.run.new.input.may_fail c.write.new.output.may_refuse
    c.in-Err.stop c.write.result c.run.ensures.heard c.run.ensures.after_words c.in-Err.ensures.err c.write.ensures
