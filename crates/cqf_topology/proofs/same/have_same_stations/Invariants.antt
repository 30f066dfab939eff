-- The stations so far are the same.
use Rattle.std.proofs.Common.{◌≡◌, take}
use Rattle.cqf_topology.proofs.same.have_same_stations.Given as goal

abbrev pub invariant-loop-station : goal.invariant-loop-station
invariant-loop-station l = take l.station l.one.stations ≡ take l.station l.other.stations
