-- The offers so far are judged.
use Rattle.std.specs.BTreeMap.{get}
use Rattle.std.specs.Cmp.Lexicographic.{slice_cmp}
use Rattle.std.specs.Ordering.{nat_cmp}
use Rattle.cqf_instants_run.proofs.Covers.{CoversTo}
use Rattle.cqf_instants_run.proofs.judged.cover.Given as goal

abbrev pub invariant-loop-offer : goal.invariant-loop-offer
invariant-loop-offer l =
    CoversTo l.domain l.rows l.offers l.offer-index l.count (λ name. get (slice_cmp nat_cmp) l.last name) l.used.items l.edge_verdicts.items
