use Rattle.std.proofs.Common.{subst, sym}
use Rattle.cqf_topology.specs.DomainText.{IsDomain}
use Rattle.cqf_topology.proofs.Copies.{same-domain}
use Rattle.cqf_network.specs.NetworkDomain.{IsOpenCycle}
use Rattle.cqf_network.proofs.domain.NetworkDomain.at.Goals as goal

pub of_parts-requires : goal.of_parts-requires
of_parts-requires c =
    let cycle = c.args.cycle_time in
    let network = c.self.inside in
    let own = c.self.invariant.domains cycle (subst (λ network. IsOpenCycle network cycle) (sym c.self.view_is) c.requires) in
    subst IsDomain
    (sym (same-domain network.limits cycle network.guard network.sync network.overhead _ _ _ _ _ _ c.in_ok-bridges.ensures c.in_ok-stations.ensures c.in_ok-links.ensures))
    own
