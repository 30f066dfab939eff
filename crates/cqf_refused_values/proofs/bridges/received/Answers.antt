use Rattle.std.proofs.Common.{◌∙◌}
use Rattle.cqf_bridge.proofs.OfferedRuns.{run_of_offers}
use Rattle.cqf_refused_values.proofs.bridges.received.Goals as goal

-- there is a run with these offers
pub receive-first-requires : goal.receive-first-requires
receive-first-requires c =
    let b = c.args.bridge.now in
    record {
      offers = run_of_offers b.domain b.number 1 c.args.handed.now.table.now.rows c.args.handed.now.offers.now c.as_slice.result.now c.in-Some.ensures.offers
          (c.as_slice.ensures.value ∙ c.in-Some.ensures.own);
    }
