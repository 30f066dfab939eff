use Rattle.std.proofs.Common.{arith}
use Rattle.cqf_port.proofs.Wire.{idles_in_time}
use Rattle.cqf_port.proofs.progress.idle_since.Goals as goal

-- instants and frames are small enough
pub idle_from-requires : goal.idle_from-requires
idle_from-requires c = omega (arith, idles_in_time c.args.rate c.args.start.0 c.args.octets c.requires c.ranges.octets.fits)

-- so the port is idle before long
pub returns-clause-soon : goal.returns-clause-soon
returns-clause-soon c = omega (arith, idles_in_time c.args.rate c.args.start.0 c.args.octets c.requires c.ranges.octets.fits, c.idle_from.ensures)
