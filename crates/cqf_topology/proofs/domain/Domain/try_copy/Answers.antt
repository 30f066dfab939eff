use Rattle.std.proofs.Common.{◌∙◌, sym, subst}
use Rattle.cqf_topology.specs.DomainText.{IsDomain}
use Rattle.cqf_topology.proofs.Copies.{same-domain}
use Rattle.cqf_topology.proofs.domain.Domain.try_copy.Goals as goal

pub invariant_of-result : goal.invariant_of-result
invariant_of-result c =
    subst IsDomain
    (sym (same-domain c.self.inside.limits c.self.inside.cycle_time c.self.inside.guard c.self.inside.sync c.self.inside.overhead _ _ _ _ _ _ c.in_ok-bridges.ensures c.in_ok-stations.ensures
    c.in_ok-links.ensures))
    c.self.invariant

pub returns : goal.returns
returns c =
    same-domain c.self.inside.limits c.self.inside.cycle_time c.self.inside.guard c.self.inside.sync c.self.inside.overhead _ _ _ _ _ _ c.in_ok-bridges.ensures c.in_ok-stations.ensures
    c.in_ok-links.ensures
    ∙ c.self.view_is
