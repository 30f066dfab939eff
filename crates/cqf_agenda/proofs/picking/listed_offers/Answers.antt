use Rattle.std.proofs.Common.{ℕ, ◌∙◌, ◌++◌, ◌∷◌, [], ap}
use Rattle.std.proofs.lemmas.Bool.{eq-eqb, ne_eqb}
use Rattle.cqf_model.specs.declared.frames.Offer.{Offer}
use Rattle.cqf_model.specs.declared.frames.Offered.{Offered}
use Rattle.cqf_agenda.specs.Picking.{is_offered_to}
use Rattle.cqf_lists.proofs.Numbered.{one_kept, one_passed}
use Rattle.cqf_agenda.proofs.picking.listed_offers.Goals as goal
use Rattle.cqf_agenda.proofs.picking.listed_offers.Goals.{then-offer-bridge+in_ok-push, else-offer-bridge}

-- an offer at the bridge is listed, and another one is skipped
pub loop-index-preserved : goal.loop-index-preserved
loop-index-preserved c =
    let named : ℕ × Offer → Offered = λ x. record { frame = x.0; offer = x.1 } in
    elim c.if-offer-bridge.branch [
      | then-offer-bridge+in_ok-push w ↦
          one_kept named (is_offered_to c.args.bridge) c.args.offers.now c.loop-index.index c.index-offers-index.result
          c.index-offers-index.result c.loop-index-test.true c.index-offers-index.is
          c.loop-index.list.items _ (eq-eqb c.index-offers-index.result.bridge c.args.bridge w.if-offer-bridge.true) c.loop-index.invariant
          (ap (λ v. v.items) w.list-is ∙ w.in_ok-push.ensures.items ∙ ap (λ (x : Offered). c.loop-index.list.items ++ x ∷ []) w.numbered_offer.ensures)
      | else-offer-bridge w ↦
          ap (λ v. v.items) w.list-is
          ∙ one_passed named (is_offered_to c.args.bridge) c.args.offers.now c.loop-index.index c.index-offers-index.result
          c.index-offers-index.result c.loop-index-test.true c.index-offers-index.is
          c.loop-index.list.items (ne_eqb c.index-offers-index.result.bridge c.args.bridge w.if-offer-bridge.false) c.loop-index.invariant
    ]
