-- What a link's table says besides its ends, and the values that no network can have.
use Rattle.std.specs.Prelude.{ℕ, ◌≤◌, ◌+◌, ℤ, pos, negsuc, ◌==◌, Bool, if◌then◌else◌, nat_le, nat_lt, Option, Some, None, option_and_then, option_map, Result, Ok}
use Rattle.std.specs.Option.{unwrap_or}
use Rattle.toml.specs.Data.{Data, Items, no_items, item, Members, as_array, as_integer}
use Rattle.cqf_lists.specs.Results.{and_then}
use Rattle.cqf_units.specs.Timing.{ticks_of_octet, time_of}
use Rattle.cqf_units.specs.declared.timing.Rate.{Rate as LinkRate}
use Rattle.cqf_units.specs.declared.timing.Rate.TheVariants.{Mb10, Mb100, Mb1000, Mb2500, Mb5000, Mb10000, Mb25000, Mb40000, Mb100000}
use Rattle.cqf_model.specs.declared.topology.Link.{Link}
use Rattle.cqf_model.specs.Limits.{longest_cycle}
use Rattle.cqf_topology.specs.declared.keys.Key.TheVariants.{Guard, Rate, Delay}
use Rattle.cqf_topology.specs.declared.times.LinkTimes.{LinkTimes}
use Rattle.cqf_topology.specs.declared.toml_faults.TomlFault.{TomlFault}
use Rattle.cqf_topology.specs.Fields.{number_from, number_if, read_at}

-- a rate, written in Mb/s
abbrev pub rate_of : ℤ → Option LinkRate
rate_of (negsuc n) = None
rate_of (pos n) =
    if n == 10 then Some Mb10
    else (if n == 100 then Some Mb100
    else (if n == 1000 then Some Mb1000
    else (if n == 2500 then Some Mb2500
    else (if n == 5000 then Some Mb5000
    else (if n == 10000 then Some Mb10000
    else (if n == 25000 then Some Mb25000
    else (if n == 40000 then Some Mb40000
    else (if n == 100000 then Some Mb100000
    else None))))))))

abbrev pub rate_from : Data → Option LinkRate
rate_from d = option_and_then rate_of (as_integer d)

-- the least and the greatest delay that two values mean: the greatest isn't below the least; and those of an array, which must have two
-- elements
abbrev pub delays_in_order : Data → Data → Option (ℕ × ℕ)
delays_in_order a b =
    option_and_then (λ least. option_map (λ most. (least, most)) (number_from least 10000000 b)) (number_from 0 10000000 a)

abbrev pub delays_of_two : Items → Option (ℕ × ℕ)
delays_of_two no_items = None
delays_of_two (item a no_items) = None
delays_of_two (item a (item b no_items)) = delays_in_order a b
delays_of_two (item a (item b (item c more))) = None

-- the least and the greatest delay that a value means: one number, which is both, or an array of both
abbrev pub delays_by : Option Items → Data → Option (ℕ × ℕ)
delays_by None d = option_map (λ delay. (delay, delay)) (number_from 0 10000000 d)
delays_by (Some items) d = delays_of_two items

abbrev pub delays_from : Data → Option (ℕ × ℕ)
delays_from d = delays_by (as_array d) d

-- what a link's table says besides its ends
abbrev pub times_read : Members → Result LinkTimes TomlFault
times_read table =
    and_then (read_at Rate rate_from table) (λ rate.
    and_then (read_at Delay delays_from table) (λ delays.
    and_then (number_if Guard 1 10000000 table) (λ guard.
    Ok (record { rate = rate; delay = delays.1; least = delays.0; guard = guard }))))

-- the facts that the forms of these values give
pub record AreReadTimes (times : LinkTimes) : Type 0 where
  pub ordered : times.least ≤ times.delay
  pub delay_most : times.delay ≤ longest_cycle

-- the rate and times of a link
abbrev pub times_of : Link → LinkTimes
times_of link = record { rate = link.rate; delay = link.delay; least = link.least; guard = link.guard }

-- a link's guard band: its own if it has one, else the domain's
abbrev pub guard_within : ℕ → LinkTimes → ℕ
guard_within guard times = unwrap_or times.guard guard

-- the guard band isn't shorter than the cycle
abbrev pub has_long_guard : ℕ → ℕ → LinkTimes → Bool
has_long_guard cycle_time guard times = nat_le cycle_time (guard_within guard times)

-- the greatest delay plus the distance of clocks isn't less than the guard band
abbrev pub has_long_delay : ℕ → ℕ → LinkTimes → Bool
has_long_delay sync guard times = nat_le (guard_within guard times) (times.delay + sync)

-- the gap of 12 octets after a frame takes longer than the guard band
abbrev pub has_long_gap : ℕ → LinkTimes → Bool
has_long_gap guard times = nat_lt (guard_within guard times) (time_of 12 (ticks_of_octet times.rate))

-- clocks can be further apart than a shortest frame, with its preamble, and the least delay take together
abbrev pub has_long_sync : ℕ → LinkTimes → Bool
has_long_sync sync times = nat_lt (time_of 72 (ticks_of_octet times.rate) + times.least) sync
