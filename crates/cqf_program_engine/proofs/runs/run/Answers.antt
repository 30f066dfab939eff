use Rattle.std.proofs.Common.{◌∙◌, IfOk, List, ℕ, eqb-true, length, subst, sym}
use Rattle.cqf_program_engine.specs.Edge.{reading}
use Rattle.cqf_program_engine.specs.Prepared.{Begins}
use Rattle.cqf_program_engine.specs.Run.{HasRun, LeavesThreads}
use Rattle.cqf_program_engine.proofs.RunLemmas.{no_words}
use Rattle.cqf_program_engine.proofs.runs.run.Goals as goal

pub returns-then-is_empty-clause-ok : goal.returns-then-is_empty-clause-ok
returns-then-is_empty-clause-ok g c =
    let input = reading g.R.Read.remaining c.args.input.now c.run_taken.new.input in
    let none = no_words c.args.words.now (eqb-true (length c.args.words.now) 0 (sym c.is_empty.ensures ∙ c.if-is_empty.true)) in
    subst (λ (words : List (List ℕ)). IfOk c.run_taken.result (Begins (HasRun words input) (LeavesThreads words input))) (sym none) c.run_taken.ensures.ok
