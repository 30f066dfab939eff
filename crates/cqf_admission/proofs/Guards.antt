-- The guard band of a link.
use Rattle.std.proofs.Common.{◌≡◌, ◌∙◌, ◌<◌, ℕ, Option, Some, ap, arith, slice_get, sym}
use Rattle.std.specs.Option.{option_map_or}
use Rattle.cqf_model.specs.declared.topology.Link.{Link}
use Rattle.cqf_model.specs.Domain.{Domain, IsAccepted, guard_by, guard_of}

-- the value is the link's guard band
pub own_guard : (d : Domain) (l : ℕ) (link : Link) (guard own : ℕ) → slice_get d.links l ≡ Some link → guard ≡ d.guard → own ≡ guard_by guard link →
    own ≡ guard_of d l
own_guard d l link guard own found is reported =
    reported ∙ ap (λ (g : ℕ). guard_by g link) is ∙ ap (λ (o : Option Link). option_map_or (guard_by d.guard) o d.guard) (sym found)

-- it is longer than 0 and shorter than the cycle
pub guard_in_cycle : (d : Domain) (l : ℕ) (link : Link) (guard own : ℕ) → IsAccepted d → slice_get d.links l ≡ Some link → guard ≡ d.guard →
    own ≡ guard_by guard link → (0 < own) × (own < d.cycle_time)
guard_in_cycle d l link guard own accepted found is reported =
    let good = accepted.links_good l link found in
    let same : own ≡ guard_by d.guard link = reported ∙ ap (λ (g : ℕ). guard_by g link) is in
    (omega (arith, same, good.delay_short), omega (arith, same, good.guard_short))
