use Rattle.std.proofs.Common.{◌≡◌, ◌++◌, ◌∙◌, ap, append_assoc, arith, length, sym}
use Rattle.std.proofs.lemmas.List.{length-append}
use Rattle.cqf_worker_loops.specs.PipeEnds.{handed_by, put_by}
use Rattle.cqf_worker_loops.specs.PipeRule.{items_of}
use Rattle.cqf_worker_loops.proofs.PipeSteps.{merges}
use Rattle.cqf_worker_loops.proofs.pipe_ends.PipeIn.close.Goals as goal

-- one pass may put, and the other take
pub absorb-requires-clause-rule : goal.absorb-requires-clause-rule
absorb-requires-clause-rule g c = merges _ _ _ _ (ap (λ v. v.puts) c.self.invariant.1) (ap (λ v. v.takes) c.out.invariant.1)

-- what waits at the taking end is under way, followed by what the channel holds
pub returns : goal.returns
returns g c =
    let waiting = c.out.inside.waiting.items in
    let handed = handed_by c.out.inside.pass waiting in
    let held = items_of c.learn_as.ensures.rule.0 in
    let taken = ap (λ v. v.taken) c.absorb.ensures.rule ∙ c.out.invariant.3 in
    let put : put_by c.self.inside.pass ≡ handed ++ (waiting ++ held) = sym (ap (λ v. v.put) c.absorb.ensures.rule) ∙ c.learn_as.ensures.rule.1
    ∙ ap (λ l. l ++ held) taken ∙ append_assoc handed waiting held in (
      waiting ++ held,
      sym (ap (λ e. e.items) c.self.view_is) ∙ put ∙ ap (λ l. l ++ (waiting ++ held)) (ap (λ e. e.items) c.out.view_is),
      omega (arith, ap length put, length-append handed (waiting ++ held), c.self.invariant.2, c.out.invariant.4),
    )
