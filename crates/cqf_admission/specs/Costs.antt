-- The most that streams cost on a link.
use Rattle.std.specs.Prelude.{ℕ, ◌-◌, List, [], ◌∷◌, if◌then◌else◌, fold, max}
use Rattle.cqf_lists.specs.Lists.{each_below}
use Rattle.cqf_model.specs.declared.topology.Hop.{Hop}
use Rattle.cqf_model.specs.declared.topology.Pace.{Pace}
use Rattle.cqf_model.specs.declared.topology.Row.{Row}
use Rattle.cqf_model.specs.Domain.{Domain, budget}
use Rattle.cqf_model.specs.Limits.{most_every}
use Rattle.cqf_model.specs.Paces.{is_active}
use Rattle.cqf_model.specs.Table.{link_cost}

-- the most that the streams cost on a link in any cycle
abbrev pub most_cost : List Row → ℕ → ℕ
most_cost rows l = fold max 0 (each_below (λ cycle. link_cost rows l cycle ∷ []) most_every)

-- what the link has left besides this in each cycle, in octets
abbrev pub left_beside : Domain → List Row → ℕ → ℕ
left_beside d rows l = budget d l - most_cost rows l

-- the most that the streams cost on a hop's link in the cycles in which frames of a pace use the hop; and what the link has left besides
-- this
abbrev pub most_in_active_cycles : List Row → Pace → Hop → ℕ
most_in_active_cycles rows pace hop =
    fold max 0 (each_below (λ cycle. if is_active pace hop.hop_number cycle then link_cost rows hop.link cycle ∷ [] else []) most_every)

abbrev pub left_in_active_cycles : Domain → List Row → Pace → Hop → ℕ
left_in_active_cycles d rows pace hop = budget d hop.link - most_in_active_cycles rows pace hop
