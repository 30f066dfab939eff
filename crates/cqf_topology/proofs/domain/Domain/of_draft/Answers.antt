use Rattle.std.proofs.Common.{[], Ok, Err}
use Rattle.cqf_topology.specs.declared.faults.DomainFault.TheVariants.{Memory}
use Rattle.cqf_topology.proofs.Refusals.{Gives-residual}
use Rattle.cqf_topology.proofs.Accepted.{taken-at, checked-bridge_taken}
use Rattle.cqf_topology.proofs.domain.Domain.of_draft.Goals as goal

pub returns-in_err-bridges : goal.returns-in_err-bridges
returns-in_err-bridges c =
    let d = c.args.draft.now in
    let e = c.in_err-bridges.field-0.0 in
    Gives-residual Memory e (λ domain. domain) c.from_residual.result _ c.from_residual.ensures.1
    (λ known. checked-bridge_taken d e
    (taken-at c.new-none.result.keys [] c.bridges.result.now d.bridges c.new-none.ensures c.bridges.ensures (Err e) (c.in_err-bridges.ensures known)))

pub of_bridges-requires : goal.of_bridges-requires
of_bridges-requires c =
    let d = c.args.draft.now in
    let numbered = c.in_ok-bridges.ensures in
    record {
      readable = c.requires;
      bridges_are = taken-at c.new-none.result.keys [] c.bridges.result.now d.bridges c.new-none.ensures c.bridges.ensures (Ok _) numbered;
    }
