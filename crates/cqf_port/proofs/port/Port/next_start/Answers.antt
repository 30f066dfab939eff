use Rattle.std.proofs.Common.{List, subst}
use Rattle.std.specs.Prelude.{MatchOption}
use Rattle.cqf_model.specs.declared.ports.Arrival.{Arrival}
use Rattle.cqf_port.specs.PortState.{PortState, rules_of}
use Rattle.cqf_port.specs.NextStart.{StartsNext, StartsNoMore, NeverReady, IsNextReady}
use Rattle.cqf_port.proofs.Coming.{starts_next}
use Rattle.cqf_port.proofs.port.Port.next_start.Goals as goal

-- what is ready first starts next
pub returns : goal.returns
returns c =
    let goes_by = rules_of c.self.inside.schedule c.self.inside.rate in
    let from = c.max.result in
    let next = subst (λ (xs : List Arrival). MatchOption c.next_ready.result (NeverReady goes_by xs c.self.inside.progress.heads from)
    (λ t. IsNextReady goes_by xs c.self.inside.progress.heads from t.0)) c.as_slice.ensures.value c.next_ready.ensures in
    subst (λ (p : PortState). MatchOption c.next_ready.result (StartsNoMore p) (λ t. StartsNext p t.0)) c.self.view_is
    (starts_next goes_by c.self.inside.arrivals.items c.self.inside.reached.0 from c.self.inside.starts.items c.self.inside.progress
    c.self.invariant.taken c.self.invariant.abreast c.max.ensures c.next_ready.result next)
