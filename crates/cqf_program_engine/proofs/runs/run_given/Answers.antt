use Rattle.std.proofs.Common.{◌≤◌, Bool, List, ℕ, inl, length, map, subst, subst₂}
use Rattle.std.proofs.lemmas.Result.{IfErr-weaker, IfOk-weaker}
use Rattle.cqf_program_engine.specs.Edge.{reading}
use Rattle.cqf_program_engine.specs.Run.{IsAsking, IsRefusal, IsResult}
use Rattle.cqf_model.specs.declared.limits.Limits.{Limits}
use Rattle.cqf_program_engine.proofs.RunLemmas.{Begins-weaker, HasRun-given, IsStopped-by_given, IsStopped-by_words, IsWithin-means, LeavesThreads-given}
use Rattle.cqf_program_engine.proofs.runs.run_given.Goals as goal

pub returns-in-Err-clause-err : goal.returns-in-Err-clause-err
returns-in-Err-clause-err g c = IsStopped-by_words (map (λ word. word.now) c.args.words.now) (reading g.R.Read.remaining c.args.input.now c.args.input.now)
    c.in-Err.stop c.requires.given c.requires.unheard.sound c.in-Err.ensures.err
    (subst (λ (asking : Bool). IsAsking asking (map (λ word. word.now) c.args.words.now)) c.if-ask_for_version.false c.ask_for_version.ensures)
    c.in-Err.ensures.own c.in-Err.ensures.line

pub returns-clause-ok : goal.returns-clause-ok
returns-clause-ok g c =
    let words = map (λ word. word.now) c.args.words.now in
    let input = reading g.R.Read.remaining c.args.input.now c.read_input.new.input in
    let short = subst (λ (most : ℕ). length c.read_input.new.input.bytes ≤ most) c.most_bytes.ensures.value c.in_default.ensures.short in
    IfOk-weaker c.output_of.result _ _
    (λ begun reported. Begins-weaker begun
    (λ text status is. HasRun-given words input text status c.in-Ok.job c.requires.given c.in_default.ensures.sound c.in_default.ensures.end short c.in-Ok.ensures.ok
    (subst₂ (λ (limits : Limits) (bytes : List ℕ). IsResult limits c.in-Ok.job bytes text status) c.limits_of.ensures c.bytes.ensures is))
    (λ threaded is. LeavesThreads-given words input c.limits_of.result c.in-Ok.job threaded c.requires.given c.in_default.ensures.sound c.in_default.ensures.end
    short c.in-Ok.ensures.ok c.limits_of.ensures is)
    reported)
    c.output_of.ensures.ok

pub output_of-requires-after_bounds : goal.output_of-requires-after_bounds
output_of-requires-after_bounds g c = λ _ _. IsWithin-means (map (λ word. word.now) c.args.words.now) c.in-Ok.job c.in-Ok.ensures.ok

pub returns-clause-err : goal.returns-clause-err
returns-clause-err g c =
    let short = subst (λ (most : ℕ). length c.read_input.new.input.bytes ≤ most) c.most_bytes.ensures.value c.in_default.ensures.short in
    IfErr-weaker c.output_of.result _ _
    (λ stop h. IsStopped-by_given (map (λ word. word.now) c.args.words.now)
    (reading g.R.Read.remaining c.args.input.now c.read_input.new.input) c.in-Ok.job stop
    c.requires.given c.in_default.ensures.sound c.in_default.ensures.end short c.in-Ok.ensures.ok
    (inl (subst₂ (λ (limits : Limits) (input : List ℕ). IsRefusal limits c.in-Ok.job input stop) c.limits_of.ensures c.bytes.ensures h)))
    c.output_of.ensures.err
