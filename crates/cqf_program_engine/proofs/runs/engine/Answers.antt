use Rattle.std.proofs.Common.{◌∙◌, Bool, List, ℕ, ap, false, map, subst}
use Rattle.cqf_program_engine.specs.Edge.{reading}
use Rattle.cqf_output.specs.Edge.{writing}
use Rattle.cqf_program_engine.specs.Prepared.{status_after}
use Rattle.cqf_program_engine.specs.Run.{HandsOver, WritesStop, input_of}
use Rattle.cqf_program_threads.specs.ThreadsOutput.{EndsThreads, IsThreadsOutput}
use Rattle.cqf_program_engine.proofs.RunLemmas.{Ends-ran, Ends-stopped, HasRun-threads, IsStopped-threads, threads_within}
use Rattle.cqf_program_engine.proofs.runs.engine.Goals as goal

pub prepare_threads-requires-after_bounds : goal.prepare_threads-requires-after_bounds
prepare_threads-requires-after_bounds g c κs within =
    let input = reading g.R.Read.remaining c.args.input.now c.run_unless_threaded.new.input in
    threads_within (map (λ word. word.now) c.args.words.now) input.bytes c.in-Err.threaded c.in-Err.ensures.left.is_run

pub returns-in-Ok-prepare_threads : goal.returns-in-Ok-prepare_threads
returns-in-Ok-prepare_threads g c =
    let words = map (λ word. word.now) c.args.words.now in
    let input = reading g.R.Read.remaining c.args.input.now c.run_unless_threaded.new.input in
    let threaded = c.in-Err.threaded in
    let reported = c.in-Ok-prepare_threads.ensures.ok in
    let of_input = subst (λ (bytes : List ℕ). IsThreadsOutput threaded.limits threaded.cycles bytes reported.0) (c.input_of.ensures ∙ ap (input_of words) c.bytes.ensures) reported.2 in
    let written_with = subst (λ (of_diff : Bool). HandsOver (status_after of_diff reported.0) reported.0
    (writing g.O.Write.contents c.run_unless_threaded.new.output c.write_output.new.output)
    (writing g.F.Write.contents c.run_unless_threaded.new.faults c.write_output.new.faults) c.write_output.result)
    c.in-Ok-prepare_threads.ensures.of_diff (c.write_output.ensures reported.0 reported.1) in
    let written = subst (λ before. HandsOver 0 reported.0 (writing g.O.Write.contents before c.write_output.new.output)
    (writing g.F.Write.contents c.run_unless_threaded.new.faults c.write_output.new.faults) c.write_output.result)
    c.in-Err.ensures.output written_with in
    let all_written = subst (λ before. HandsOver 0 reported.0 (writing g.O.Write.contents c.args.output.now c.write_output.new.output)
    (writing g.F.Write.contents before c.write_output.new.faults) c.write_output.result)
    c.in-Err.ensures.faults written in
    Ends-ran g.R.Source.fails g.O.Sink.refuses words input (writing g.O.Write.contents c.args.output.now c.write_output.new.output)
    (writing g.F.Write.contents c.args.faults.now c.write_output.new.faults) c.run_unless_threaded.new.input.may_fail c.write_output.new.output.may_refuse
    false reported.0 c.write_output.result c.run_unless_threaded.ensures.heard c.run_unless_threaded.ensures.after_words
    (HasRun-threads words input threaded reported.0 c.in-Err.ensures.left of_input) all_written

pub returns-in-Err-prepare_threads : goal.returns-in-Err-prepare_threads
returns-in-Err-prepare_threads g c =
    let words = map (λ word. word.now) c.args.words.now in
    let input = reading g.R.Read.remaining c.args.input.now c.run_unless_threaded.new.input in
    let threaded = c.in-Err.threaded in
    let stop = c.in-Err-prepare_threads.stop in
    let of_input = subst (λ (bytes : List ℕ). EndsThreads threaded.limits threaded.cycles bytes stop) (c.input_of.ensures ∙ ap (input_of words) c.bytes.ensures) c.in-Err-prepare_threads.ensures.err in
    let written = subst (λ before. WritesStop stop (writing g.O.Write.contents before c.write.new.output)
    (writing g.F.Write.contents c.run_unless_threaded.new.faults c.write.new.faults) c.write.result)
    c.in-Err.ensures.output c.write.ensures in
    let all_written = subst (λ before. WritesStop stop (writing g.O.Write.contents c.args.output.now c.write.new.output)
    (writing g.F.Write.contents before c.write.new.faults) c.write.result)
    c.in-Err.ensures.faults written in
    Ends-stopped g.R.Source.fails g.O.Sink.refuses words input (writing g.O.Write.contents c.args.output.now c.write.new.output)
    (writing g.F.Write.contents c.args.faults.now c.write.new.faults) c.run_unless_threaded.new.input.may_fail c.write.new.output.may_refuse
    stop c.write.result c.run_unless_threaded.ensures.heard c.run_unless_threaded.ensures.after_words
    (IsStopped-threads words input threaded stop c.in-Err.ensures.left of_input) all_written
