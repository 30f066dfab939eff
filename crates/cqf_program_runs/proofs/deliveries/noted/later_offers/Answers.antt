use Rattle.std.proofs.Common.{◌≡◌, ◌∙◌, Bool, List, Some, ap, arith, count_by, length, nat_le, refl, sym}
use Rattle.std.specs.Prelude.{slice_get}
use Rattle.std.proofs.lemmas.List.{take_all}
use Rattle.std.proofs.lemmas.Option.{slice_get_read}
use Rattle.cqf_model.specs.declared.frames.Offered.{Offered}
use Rattle.cqf_model.specs.Shift.{offer_cycle}
use Rattle.cqf_model.specs.Policing.{numbered}
use Rattle.cqf_instants_run.proofs.Offers.{numbered_all}
use Rattle.cqf_program_runs.proofs.Later.{none_later, one_later}
use Rattle.cqf_program_runs.proofs.deliveries.noted.later_offers.Goals as goal
use Rattle.cqf_program_runs.proofs.deliveries.noted.later_offers.Goals.{else-is_later, then-is_later}

pub loop-index-preserved : goal.loop-index-preserved
loop-index-preserved c =
    let offers = c.args.offers.now in
    let index = c.loop-index.index in
    let offer = c.index-offers-index.result in
    let late : Offered → Bool = λ x. nat_le c.args.cycles (offer_cycle c.args.domain.now x) in
    let at : slice_get offers index ≡ Some offer =
    slice_get_read offers (length offers) index offer refl c.loop-index-test.true c.index-offers-index.is in
    elim c.if-is_later.branch [
      | then-is_later w ↦ (
        w.later-is ∙ one_later late offers index offer at (sym c.is_later.ensures ∙ w.if-is_later.true) c.loop-index.later c.loop-index.invariant.0,
        omega (arith, w.later-is, c.loop-index.invariant.1),
      )
      | else-is_later w ↦ (
        w.later-is ∙ none_later late offers index offer at (sym c.is_later.ensures ∙ w.if-is_later.false) c.loop-index.later c.loop-index.invariant.0,
        omega (arith, w.later-is, c.loop-index.invariant.1),
      )
    ]

pub returns : goal.returns
returns c =
    let offers = c.args.offers.now in
    c.loop-index.invariant.0
    ∙ ap (λ (xs : List Offered). count_by (λ (x : Offered). nat_le c.args.cycles (offer_cycle c.args.domain.now x)) xs)
    (take_all c.loop-index.index (numbered offers) (omega (arith, c.loop-index-test.false, numbered_all offers)))
