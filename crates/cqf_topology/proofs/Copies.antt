-- A domain whose names and links are another's.
use Rattle.std.proofs.Common.{◌≡◌, ℕ, List}
use Rattle.cqf_model.specs.declared.limits.Limits.{Limits}
use Rattle.cqf_model.specs.declared.topology.Link.{Link}
use Rattle.cqf_model.specs.Domain.{Domain}

-- it is the other domain, if the limits and times are the same too
pub same-domain : (limits : Limits) (cycle_time guard sync overhead : ℕ) (bridges bridges' stations stations' : List (List ℕ)) (links links' : List Link)
    → bridges ≡ bridges' → stations ≡ stations' → links ≡ links'
    → ◌≡◌ {A = Domain} (record { limits = limits; cycle_time = cycle_time; guard = guard; sync = sync; overhead = overhead; bridges = bridges; stations = stations; links = links })
    (record { limits = limits; cycle_time = cycle_time; guard = guard; sync = sync; overhead = overhead; bridges = bridges'; stations = stations'; links = links' })
same-domain limits cycle_time guard sync overhead bridges bridges' stations stations' links links' b s l =
    λ i. record { limits = limits; cycle_time = cycle_time; guard = guard; sync = sync; overhead = overhead; bridges = b i; stations = s i; links = l i }
