use Rattle.std.proofs.Common.{ℕ, ◌∙◌, ◌++◌, ◌∷◌, [], ap, refl, sym}
use Rattle.cqf_model.specs.declared.frames.Backed.{Backed}
use Rattle.cqf_model.specs.declared.frames.Background.{Background}
use Rattle.cqf_agenda.specs.Picking.{is_backed_from}
use Rattle.cqf_lists.proofs.Numbered.{one_kept, one_passed}
use Rattle.cqf_agenda.proofs.picking.listed_background.Goals as goal
use Rattle.cqf_agenda.proofs.picking.listed_background.Goals.{then-is_from+in_ok-push, else-is_from}

-- a frame of the bridge is listed, and another one is skipped
pub loop-index-preserved : goal.loop-index-preserved
loop-index-preserved c =
    let named : ℕ × Background → Backed = λ x. record { frame = x.0; background = x.1 } in
    elim c.if-is_from.branch [
      | then-is_from+in_ok-push w ↦
          one_kept named (is_backed_from c.args.domain.now c.args.bridge) c.args.background.now c.loop-index.index _ _ c.loop-index-test.true refl
          c.loop-index.list.items _ (sym c.is_from.ensures ∙ w.if-is_from.true) c.loop-index.invariant
          (ap (λ v. v.items) w.list-is ∙ w.in_ok-push.ensures.items ∙ ap (λ (x : Backed). c.loop-index.list.items ++ x ∷ []) w.numbered_frame.ensures)
      | else-is_from w ↦
          ap (λ v. v.items) w.list-is
          ∙ one_passed named (is_backed_from c.args.domain.now c.args.bridge) c.args.background.now c.loop-index.index _ _ c.loop-index-test.true refl
          c.loop-index.list.items (sym c.is_from.ensures ∙ w.if-is_from.false) c.loop-index.invariant
    ]
