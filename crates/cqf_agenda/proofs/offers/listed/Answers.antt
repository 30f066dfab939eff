use Rattle.std.proofs.Common.{ℕ, ◌∙◌, ◌++◌, ◌∷◌, [], ap, sym}
use Rattle.cqf_model.specs.declared.frames.Offer.{Offer}
use Rattle.cqf_model.specs.declared.frames.Offered.{Offered}
use Rattle.cqf_laws_cycle.specs.Gathered.{is_offered_in}
use Rattle.cqf_lists.proofs.Numbered.{one_kept, one_passed}
use Rattle.cqf_agenda.proofs.offers.listed.Goals as goal
use Rattle.cqf_agenda.proofs.offers.listed.Goals.{then-is_offered+in_ok-push, else-is_offered}

-- an offer at the bridge in the cycle is listed, and another one is skipped
pub loop-index-preserved : goal.loop-index-preserved
loop-index-preserved c =
    let named : ℕ × Offer → Offered = λ x. record { frame = x.0; offer = x.1 } in
    elim c.if-is_offered.branch [
      | then-is_offered+in_ok-push w ↦
          one_kept named (is_offered_in c.args.domain.now c.args.bridge c.args.cycle.0) c.args.offers.now c.loop-index.index
          c.index-offers-index.result c.index-offers-index.result c.loop-index-test.true c.index-offers-index.is
          c.loop-index.list.items _ (sym c.is_offered.ensures ∙ w.if-is_offered.true) c.loop-index.invariant
          (ap (λ v. v.items) w.list-is ∙ w.in_ok-push.ensures.items ∙ ap (λ (x : Offered). c.loop-index.list.items ++ x ∷ []) w.numbered_offer.ensures)
      | else-is_offered w ↦
          ap (λ v. v.items) w.list-is
          ∙ one_passed named (is_offered_in c.args.domain.now c.args.bridge c.args.cycle.0) c.args.offers.now c.loop-index.index
          c.index-offers-index.result c.index-offers-index.result c.loop-index-test.true c.index-offers-index.is
          c.loop-index.list.items (sym c.is_offered.ensures ∙ w.if-is_offered.false) c.loop-index.invariant
    ]
