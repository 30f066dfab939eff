-- An accepted domain has no more than can be represented, regardless of the limits that are set.
use Rattle.std.proofs.Common.{◌≤◌, length, arith}
use Rattle.std.proofs.Math.Nat.{min-le_right}
use Rattle.cqf_model.specs.Domain.{Domain, IsAccepted}
use Rattle.cqf_model.specs.Limits.{most_bridges, most_links, most_stations}

-- no more bridges, stations and links
pub few_bridges : (d : Domain) → IsAccepted d → length d.bridges ≤ most_bridges
few_bridges d accepted = omega (arith, accepted.few_bridges, min-le_right d.limits.bridges most_bridges)

pub few_stations : (d : Domain) → IsAccepted d → length d.stations ≤ most_stations
few_stations d accepted = omega (arith, accepted.few_stations, min-le_right d.limits.stations most_stations)

pub few_links : (d : Domain) → IsAccepted d → length d.links ≤ most_links
few_links d accepted = omega (arith, accepted.few_links, min-le_right d.limits.links most_links)
