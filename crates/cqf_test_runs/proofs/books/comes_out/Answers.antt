use Rattle.std.proofs.Common.{subst, sym}
use Rattle.cqf_laws_coverage.specs.Judged.{StandInOrder}
use Rattle.cqf_test_runs.proofs.books.comes_out.Goals as goal

pub reports-requires-clause-order : goal.reports-requires-clause-order
reports-requires-clause-order c =
    subst StandInOrder (sym c.as_slice.ensures.value)
    (c.offers_are_read_in_order.ensures c.domain.result.now c.as_bytes.result.now c.in-Ok.offers.items c.in-Ok.ensures.ok)
