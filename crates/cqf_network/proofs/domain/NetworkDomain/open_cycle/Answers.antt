use Rattle.std.proofs.Common.{◌∙◌, ap, nat_lt, rules, subst, sym}
use Rattle.std.specs.Prelude.{find}
use Rattle.cqf_network.specs.NetworkDomain.{IsOpenCycle, IsNetwork, longest_of}
use Rattle.cqf_network.proofs.OpenLemmas.{one_above, open_is_open}
use Rattle.cqf_network.proofs.domain.NetworkDomain.open_cycle.Goals as goal

pub unreachable-requires : goal.unreachable-requires
unreachable-requires c =
    let guard = c.self.inside.guard in
    one_above _ c.self.invariant
    ((λ i. find (nat_lt (longest_of guard (sym c.as_slice-links.ensures i))) (sym c.as_slice-candidates.ensures.value i))
    ∙ ap (λ n. find (nat_lt n) c.as_slice-candidates.result.now) (sym c.longest_of-longest.ensures) ∙ sym c.first_above.ensures ∙ c.in-None.is)

pub returns-clause-first : goal.returns-clause-first
returns-clause-first c = search rules

pub returns-clause-is_open : goal.returns-clause-is_open
returns-clause-is_open c =
    let network = c.args.self.now in
    subst (IsOpenCycle network) (sym (returns-clause-first c)) (open_is_open network (subst IsNetwork c.self.view_is c.self.invariant))
