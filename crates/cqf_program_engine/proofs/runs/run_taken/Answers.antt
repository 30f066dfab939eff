use Rattle.std.proofs.Common.{List, [], ℕ, subst}
use Rattle.std.proofs.lemmas.Result.{IfErr-weaker, IfOk-weaker}
use Rattle.cqf_program_engine.specs.Edge.{reading}
use Rattle.cqf_program_engine.specs.Run.{HasCause, HasRun, IsDone, IsThreadedRun, LeavesThreads}
use Rattle.cqf_program_engine.proofs.RunLemmas.{Begins-weaker, IsStopped-by_cause}
use Rattle.cqf_program_engine.proofs.runs.run_taken.Goals as goal

pub returns-clause-ok : goal.returns-clause-ok
returns-clause-ok g c =
    let input = reading g.R.Read.remaining c.args.input.now c.read_input.new.input in
    IfOk-weaker c.run_line.result _ _
    (λ begun reported. Begins-weaker {B = HasRun [] input} {Q = LeavesThreads [] input} begun
    (λ text status done. record {
      is_done = subst (λ (bytes : List ℕ). IsDone [] bytes text status) c.bytes.ensures done;
      at_end = c.in_default.ensures.end;
      sound = c.in_default.ensures.sound;
    })
    (λ threaded is. record {
      is_run = subst (λ (bytes : List ℕ). IsThreadedRun [] bytes threaded) c.bytes.ensures is;
      at_end = c.in_default.ensures.end;
      sound = c.in_default.ensures.sound;
    })
    reported)
    c.run_line.ensures.ok

pub returns-clause-err : goal.returns-clause-err
returns-clause-err g c = IfErr-weaker c.run_line.result _ _
    (λ stop cause. IsStopped-by_cause [] (reading g.R.Read.remaining c.args.input.now c.read_input.new.input) stop
    c.in_default.ensures.sound c.in_default.ensures.end (subst (λ (bytes : List ℕ). HasCause [] bytes stop) c.bytes.ensures cause))
    c.run_line.ensures.err
