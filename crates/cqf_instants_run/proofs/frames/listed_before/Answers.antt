use Rattle.std.proofs.Common.{ℕ, ◌∙◌, ◌++◌, ◌∷◌, [], ap, refl, sym}
use Rattle.cqf_model.specs.declared.frames.Backed.{Backed}
use Rattle.cqf_model.specs.declared.frames.Background.{Background}
use Rattle.cqf_lists.proofs.Numbered.{one_kept, one_passed}
use Rattle.cqf_instants_run.specs.Frames.{is_early}
use Rattle.cqf_instants_run.proofs.frames.listed_before.Goals as goal
use Rattle.cqf_instants_run.proofs.frames.listed_before.Goals.{then-is_early+in_ok-push, else-is_early}

-- a frame that arrives before the end is listed, and another one is skipped
pub loop-index-preserved : goal.loop-index-preserved
loop-index-preserved c =
    let named : ℕ × Background → Backed = λ x. record { frame = x.0; background = x.1 } in
    elim c.if-is_early.branch [
      | then-is_early+in_ok-push w ↦
          one_kept named (is_early c.args.end.0) c.args.background.now c.loop-index.index _ _ c.loop-index-test.true refl
          c.loop-index.frames.items _ (sym c.is_early.ensures ∙ w.if-is_early.true) c.loop-index.invariant
          (ap (λ v. v.items) w.frames-is ∙ w.in_ok-push.ensures.items ∙ ap (λ (x : Backed). c.loop-index.frames.items ++ x ∷ []) w.numbered_frame.ensures)
      | else-is_early w ↦
          ap (λ v. v.items) w.frames-is
          ∙ one_passed named (is_early c.args.end.0) c.args.background.now c.loop-index.index _ _ c.loop-index-test.true refl
          c.loop-index.frames.items (sym c.is_early.ensures ∙ w.if-is_early.false) c.loop-index.invariant
    ]
