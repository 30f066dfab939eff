use Rattle.std.proofs.Common.{subst, sym}
use Rattle.cqf_laws_coverage.specs.Judged.{StandInOrder}
use Rattle.cqf_test_runs.proofs.cases.comes_out.Goals as goal

pub comes_out_with-requires-clause-order : goal.comes_out_with-requires-clause-order
comes_out_with-requires-clause-order c =
    subst StandInOrder (sym c.as_slice.ensures.value)
    (c.offers_are_read_in_order.ensures c.domain.result.now c.as_bytes.result.now c.in-Ok-read_offers.offers.items c.in-Ok-read_offers.ensures.ok)
