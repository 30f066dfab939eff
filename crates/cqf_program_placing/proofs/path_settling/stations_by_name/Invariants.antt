-- The stations so far come before those of the other names.
use Rattle.std.proofs.Common.{◌≡◌, drop}
use Rattle.cqf_topology.specs.DomainText.{with_front}
use Rattle.cqf_program_placing.specs.Settled.{stations_by_name}
use Rattle.cqf_program_placing.proofs.path_settling.stations_by_name.Given as goal

abbrev pub invariant-loop-name : goal.invariant-loop-name
invariant-loop-name l = with_front l.stations.items (stations_by_name l.plan (drop l.name-index l.names)) ≡ stations_by_name l.plan l.names
