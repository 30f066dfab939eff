-- What a reservation costs of a link.
use Rattle.std.specs.Prelude.{ℕ, ◌≤◌, List, All, sum_by}
use Rattle.cqf_units.specs.Timing.{counted_of, cost_of, wire_of}
use Rattle.cqf_model.specs.Limits.{most_overhead}

-- frames of at least 64 octets whose octets, as gates with this overhead count them, are within a reservation take no more of the wire than its
-- cost
abbrev pub WireWithinCost : Type 0
WireWithinCost = (overhead : ℕ) (frames : List ℕ) (reserved : ℕ) → overhead ≤ most_overhead → All (λ octets. 64 ≤ octets) frames →
    sum_by (counted_of overhead) frames ≤ reserved → sum_by wire_of frames ≤ cost_of overhead reserved
