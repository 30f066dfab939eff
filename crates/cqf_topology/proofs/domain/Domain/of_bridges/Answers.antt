use Rattle.std.proofs.Common.{Ok, Err, refl}
use Rattle.cqf_topology.specs.declared.faults.DomainFault.TheVariants.{Memory}
use Rattle.cqf_topology.proofs.Refusals.{Gives-residual}
use Rattle.cqf_topology.proofs.Accepted.{taken-at, checked-station_taken}
use Rattle.cqf_topology.proofs.domain.Domain.of_bridges.Goals as goal

pub returns-in_err-stations : goal.returns-in_err-stations
returns-in_err-stations c =
    let d = c.args.draft.now in
    let e = c.in_err-stations.field-0.0 in
    let bridges = c.args.bridges.keys in
    Gives-residual Memory e (λ domain. domain) c.from_residual.result _ c.from_residual.ensures.1
    (λ known. checked-station_taken d bridges e c.requires.bridges_are
    (taken-at bridges bridges c.stations.result.now d.stations refl c.stations.ensures (Err e) (c.in_err-stations.ensures known)))

pub of_names-requires : goal.of_names-requires
of_names-requires c =
    let d = c.args.draft.now in
    let bridges = c.args.bridges.keys in
    let stations = c.in_ok-stations.stations.keys in
    record {
      has_bridges = c.requires;
      stations_are = taken-at bridges bridges c.stations.result.now d.stations refl c.stations.ensures (Ok stations) c.in_ok-stations.ensures;
    }
