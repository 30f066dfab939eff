use Rattle.std.proofs.Common.{◌∙◌, ◌++◌, ℕ, List, ap, ap₂, subst, sym}
use Rattle.cqf_model.specs.Book.{starts_of}
use Rattle.cqf_model.specs.declared.frames.Started.{Started}
use Rattle.cqf_instants.specs.Progress.{IsBasisOf}
use Rattle.cqf_instants.proofs.Steps.{starts_more}
use Rattle.cqf_instants.proofs.pass.gather_starts.Goals as goal

pub loop-starts-preserved : goal.loop-starts-preserved
loop-starts-preserved c =
    let next = c.next_cycle.ensures.next c.loop-starts-test.true in
    let so_far = c.loop-starts.invariant in
    record {
      basis = next.basis ∙ so_far.basis;
      gathered = λ given is.
          c.in_ok-extend_from_slice.ensures.items
          ∙ ap₂ (λ (xs ys : List Started). xs ++ ys) (so_far.gathered given is)
          (c.starts.ensures ∙ next.starts given (subst (IsBasisOf given) (sym so_far.basis) is))
          ∙ starts_more given c.loop-starts.pass.reported
          ∙ ap (λ (n : ℕ). starts_of given.run.domain n given.net.carried) (sym next.reported);
    }
