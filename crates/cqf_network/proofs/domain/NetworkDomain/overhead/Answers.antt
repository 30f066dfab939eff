use Rattle.std.proofs.Common.{◌≤◌, ap, arith, subst}
use Rattle.cqf_model.specs.Limits.{most_overhead}
use Rattle.cqf_network.specs.NetworkDomain.{IsNetwork, NetworkDomain, open_cycle}
use Rattle.cqf_network.proofs.OpenLemmas.{open_is_open}
use Rattle.cqf_network.proofs.domain.NetworkDomain.overhead.Goals as goal

pub returns-clause-short : goal.returns-clause-short
returns-clause-short c =
    let network : NetworkDomain = c.args.self.now in
    let is : IsNetwork network = subst IsNetwork c.self.view_is c.self.invariant in
    let short : network.overhead ≤ most_overhead = (is.domains (open_cycle network) (open_is_open network is)).accepted.overhead_short in
    omega (arith, short, ap (λ (n : NetworkDomain). n.overhead) c.self.view_is)
