use Rattle.std.proofs.Common.{◌≡◌, ◌∙◌, List, subst, sym}
use Rattle.cqf_model.specs.declared.frames.Offer.{Offer}
use Rattle.cqf_model.specs.declared.topology.Row.{Row}
use Rattle.cqf_model.specs.Run.{AreOffers}
use Rattle.cqf_program_runs.specs.Check.Checked.{offer_counts}
use Rattle.cqf_program_runs.proofs.deliveries.command.check_frames.Goals as goal

pub offer_counts-counts-requires : goal.offer_counts-counts-requires
offer_counts-counts-requires c =
    subst (λ (os : List Offer). AreOffers c.args.planned.now.given.domain os) (sym c.as_slice-offers.ensures.value) c.requires.may.offers

pub check_noted-requires-clause-counted : goal.check_noted-requires-clause-counted
check_noted-requires-clause-counted c =
    let d = c.args.planned.now.given.domain in
    c.offer_counts-counts.ensures
    ∙ (λ i. offer_counts d c.args.cycles ((c.as_slice.ensures.value ∙ sym c.requires.outcome.history.streams) i) (c.as_slice-offers.ensures.value i))
