use Rattle.std.proofs.Common.{sym, ◌∙◌}
use Rattle.cqf_topology.proofs.Alike.{alike_in, one_more_same}
use Rattle.cqf_topology.proofs.same.have_same_stations.Goals as goal

pub loop-station-preserved : goal.loop-station-preserved
loop-station-preserved c =
    one_more_same c.args.one.now.stations c.args.other.now.stations c.loop-station.station c.station_name.result.now
    c.station_name-in-loop-station.result.now c.loop-station.invariant
    c.station_name.ensures c.station_name-in-loop-station.ensures (c.is_same_name.ensures.0 c.if-not-is_same_name.false)

pub returns-then-not-is_same_name : goal.returns-then-not-is_same_name
returns-then-not-is_same_name c = (
  λ none. absurd cc,
  λ same. sym c.if-not-is_same_name.true ∙ c.is_same_name.ensures.1 (alike_in c.args.one.now.stations c.args.other.now.stations c.loop-station.station
      c.station_name.result.now c.station_name-in-loop-station.result.now c.station_name.ensures c.station_name-in-loop-station.ensures same),
)
