-- The rates and streams of links, and the greatest reservation that still fits a link.
use Rattle.std.specs.Prelude.{ℕ, ◌+◌, ◌-◌, ◌*◌, ◌/◌, List, count_by, if◌then◌else◌, min, nat_lt, slice_get, suc, zero}
use Rattle.std.specs.Option.{option_map_or}
use Rattle.cqf_units.specs.declared.timing.Rate.{Rate}
use Rattle.cqf_units.specs.declared.timing.Rate.TheVariants.{Mb10, Mb100, Mb1000, Mb2500, Mb5000, Mb10000, Mb25000, Mb40000, Mb100000}
use Rattle.cqf_model.specs.declared.topology.Link.{Link}
use Rattle.cqf_model.specs.declared.topology.Row.{Row}
use Rattle.cqf_model.specs.Domain.{Domain}
use Rattle.cqf_model.specs.Table.{crosses}
use Rattle.cqf_admission.specs.Costs.{left_beside}
use Rattle.cqf_model.specs.Limits.{least_reserved, most_reserved}

-- a rate in Mb/s
abbrev pub megabits_of : Rate → ℕ
megabits_of Mb10 = 10
megabits_of Mb100 = 100
megabits_of Mb1000 = 1000
megabits_of Mb2500 = 2500
megabits_of Mb5000 = 5000
megabits_of Mb10000 = 10000
megabits_of Mb25000 = 25000
megabits_of Mb40000 = 40000
megabits_of Mb100000 = 100000

-- a link's rate
abbrev pub rate_on : Domain → ℕ → ℕ
rate_on d l = option_map_or (λ (link : Link). megabits_of link.rate) (slice_get d.links l) 0

-- how many of these streams use a link
abbrev pub streams_on : List Row → ℕ → ℕ
streams_on rows l = count_by (λ (row : Row). crosses row l) rows

-- a reservation, or 0 if it has fewer octets than a stream may reserve
abbrev pub if_allowed : ℕ → ℕ
if_allowed reserved = if nat_lt reserved least_reserved then 0 else reserved

-- the greatest reservation that costs no more than what is left, given the gate overhead, or 0 if there is none. It is computed from the
-- number of frames of 64 octets that fit
abbrev pub fits_by : ℕ → ℕ → ℕ → ℕ
fits_by overhead zero left = 0
fits_by overhead (suc frames) left =
    if_allowed (min (min (left - (overhead + 20) * suc frames) ((64 - overhead) * suc frames + (63 - overhead))) most_reserved)

abbrev pub fits_in : ℕ → ℕ → ℕ
fits_in overhead left = fits_by overhead (left / 84) left

abbrev pub fits_on : Domain → List Row → ℕ → ℕ
fits_on d rows l = fits_in d.overhead (left_beside d rows l)
