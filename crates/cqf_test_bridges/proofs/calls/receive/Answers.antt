use Rattle.std.proofs.Common.{◌∙◌, ℕ, ap, subst}
use Rattle.cqf_model.specs.Domain.{Domain}
use Rattle.cqf_model.specs.Run.{AreOffers}
use Rattle.cqf_laws_cycle.specs.Gathered.{offered_for}
use Rattle.cqf_bridge.proofs.OfferedRuns.{run_of_offers}
use Rattle.cqf_test_bridges.proofs.calls.receive.Goals as goal

pub receive-requires : goal.receive-requires
receive-requires c =
    let b = c.args.bridge.now in
    let offers = c.args.offers.now in
    record {
      offers = run_of_offers b.domain b.number c.args.cycle.0 c.args.table.now.rows offers c.as_slice.result.now
          (subst (λ (d : Domain). AreOffers d offers) c.domain.ensures.value (c.are_offers.ensures c.if-not-are_offers.false))
          (c.as_slice.ensures.value ∙ c.in-Ok.ensures
          ∙ ap (λ (d : Domain). offered_for d offers c.number.result c.args.cycle.0) c.domain-2.ensures.value
          ∙ ap (λ (n : ℕ). offered_for b.domain offers n c.args.cycle.0) c.number.ensures);
    }
