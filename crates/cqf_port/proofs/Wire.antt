-- The time that frames take on the wire.
use Rattle.std.proofs.Common.{ℕ, ◌^◌, ◌<◌, arith}
use Rattle.cqf_units.specs.declared.timing.Rate.{Rate}
use Rattle.cqf_units.specs.declared.timing.Rate.TheVariants.{Mb10, Mb100, Mb1000, Mb2500, Mb5000, Mb10000, Mb25000, Mb40000, Mb100000}
use Rattle.cqf_units.specs.Timing.{ticks_of_octet, idle_after}

-- what starts early enough is over in time, and so is its gap
pub idles_in_time : (rate : Rate) (t octets : ℕ) → t < 2 ^ 62 → octets < 2 ^ 32 → idle_after t octets (ticks_of_octet rate) < 2 ^ 63
idles_in_time Mb10 t octets early small = omega arith
idles_in_time Mb100 t octets early small = omega arith
idles_in_time Mb1000 t octets early small = omega arith
idles_in_time Mb2500 t octets early small = omega arith
idles_in_time Mb5000 t octets early small = omega arith
idles_in_time Mb10000 t octets early small = omega arith
idles_in_time Mb25000 t octets early small = omega arith
idles_in_time Mb40000 t octets early small = omega arith
idles_in_time Mb100000 t octets early small = omega arith
