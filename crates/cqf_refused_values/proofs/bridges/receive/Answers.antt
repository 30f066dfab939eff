use Rattle.std.proofs.Common.{◌∙◌}
use Rattle.cqf_bridge.proofs.OfferedRuns.{run_of_offers}
use Rattle.cqf_refused_values.proofs.bridges.receive.Goals as goal

-- there is a run with these offers
pub receive-requires : goal.receive-requires
receive-requires c =
    let b = c.args.bridge.now in
    record {
      offers = run_of_offers b.domain b.number c.cycle-cycle.result.0 c.args.table.now.rows c.args.offers.now c.as_slice.result.now c.in-Some.ensures.offers
          (c.as_slice.ensures.value ∙ c.in-Some.ensures.own);
    }
