use Rattle.std.proofs.Common.{◌≡◌, ◌∙◌, sym, subst}
use Rattle.cqf_model.specs.Domain.{Domain}
use Rattle.cqf_topology.specs.declared.faults.DomainFault.TheVariants.{Memory}
use Rattle.cqf_topology.specs.DomainText.{IsDomain, domain_with, with_these}
use Rattle.cqf_topology.proofs.Accepted.{checked-accepted, checked-numbered}
use Rattle.cqf_topology.proofs.Passed.{passes}
use Rattle.cqf_topology.proofs.Refusals.{Gives-residual}
use Rattle.cqf_topology.proofs.Written.{no-link-twice}
use Rattle.cqf_topology.proofs.domain.Domain.of_names.Goals as goal

pub returns-in_err-listed : goal.returns-in_err-listed
returns-in_err-listed c =
    Gives-residual Memory c.in_err-listed.field-0.0 (λ domain. domain) c.from_residual.result _ c.from_residual.ensures.1 c.in_err-listed.ensures.given

-- the checks have passed them
pub new-requires : goal.new-requires
new-requires c =
    let t = c.args.draft.now in
    let links = c.in_ok-listed.listed.items in
    let n = c.in_ok-listed.ensures.numbered in
    let p = passes t links (with_these t links) (sym (checked-numbered t c.args.bridges.keys c.args.stations.keys links n) ∙ c.in_ok-listed.ensures.given) in
    no-link-twice links p.no_twice

pub invariant_of-result : goal.invariant_of-result
invariant_of-result c =
    let t = c.args.draft.now in
    let links = c.in_ok-listed.listed.items in
    let bridges = c.args.bridges.keys in
    let stations = c.args.stations.keys in
    let n = c.in_ok-listed.ensures.numbered in
    let p = passes t links (with_these t links) (sym (checked-numbered t bridges stations links n) ∙ c.in_ok-listed.ensures.given) in
    let made : Domain =
    domain_with c.limits.result c.cycle_time.result c.guard.result c.sync.result c.overhead.result bridges stations c.in_ok-links.links.items in
    let same : with_these t links ≡ made = λ i. record {
      limits = sym c.limits.ensures i;
      cycle_time = sym c.cycle_time.ensures i;
      guard = sym c.guard.ensures i;
      sync = sym c.sync.ensures i;
      overhead = sym c.overhead.ensures i;
      bridges = sym n.bridges_are i;
      stations = sym n.stations_are i;
      links = sym c.in_ok-links.ensures i;
    } in
    subst IsDomain same (checked-accepted t bridges stations links n (no-link-twice links p.no_twice) p)
