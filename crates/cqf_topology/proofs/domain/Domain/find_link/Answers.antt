use Rattle.std.proofs.Common.{subst, sym, rules}
use Rattle.cqf_topology.specs.DomainText.{IsDomain, IsOnlyLink}
use Rattle.cqf_topology.proofs.Written.{only-link}
use Rattle.cqf_topology.proofs.domain.Domain.find_link.Goals as goal

pub returns-in_err-link-clause-number : goal.returns-in_err-link-clause-number
returns-in_err-link-clause-number c = search rules

pub returns-in_err-link-clause-only : goal.returns-in_err-link-clause-only
returns-in_err-link-clause-only c =
    let d = c.args.self.now in
    let good = subst IsDomain c.self.view_is c.self.invariant in
    subst (IsOnlyLink d c.args.from c.args.to) (sym (returns-in_err-link-clause-number c)) (only-link d good.no_link_twice c.args.from c.args.to)

pub returns-clause-number : goal.returns-clause-number
returns-clause-number c = search rules

pub returns-clause-only : goal.returns-clause-only
returns-clause-only c =
    let d = c.args.self.now in
    let good = subst IsDomain c.self.view_is c.self.invariant in
    subst (IsOnlyLink d c.args.from c.args.to) (sym (returns-clause-number c)) (only-link d good.no_link_twice c.args.from c.args.to)
