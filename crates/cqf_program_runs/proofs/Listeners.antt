-- Listeners with the same name are the same.
use Rattle.std.proofs.Common.{◌≡◌, ◌≢◌, ◌∙◌, ◌<◌, [], ℕ, true, List, Option, Some, None, inl, inr, arith, ap, sym, subst, refl, length}
use Rattle.std.specs.Prelude.{option_map, slice_get, slice_index_or}
use Rattle.std.specs.Option.{option_map_or}
use Rattle.std.proofs.lemmas.Bool.{cases_lt}
use Rattle.std.proofs.lemmas.Option.{same_Some}
use Rattle.cqf_lists.proofs.Pairs.{pairs_second}
use Rattle.cqf_model.specs.declared.topology.Link.{Link}
use Rattle.cqf_model.specs.declared.topology.Node.{Node}
use Rattle.cqf_model.specs.declared.topology.Node.TheVariants.{Bridge, Station}
use Rattle.cqf_model.specs.Domain.{Domain, IsAccepted, IsNode, end_of}
use Rattle.cqf_topology.specs.DomainText.{IsDomain}
use Rattle.cqf_topology.specs.NodeNames.{name_of_node}
use Rattle.cqf_program_plans.specs.EndNames.{name_of_end}
use Rattle.cqf_program_plans.specs.Latency.Text.{is_station}

-- a link's station is one of the domain's
station_inside : (d : Domain) (link station : ℕ) → IsAccepted d → end_of d link ≡ Some (Station station) → station < length d.stations
station_inside d link station accepted is = by_link (slice_get d.links link) refl is
  where
    by_link : (o : Option Link) → slice_get d.links link ≡ o → option_map (λ (l : Link). l.to) o ≡ Some (Station station) → station < length d.stations
    by_link None e h = absurd (cc)
    by_link (Some l) e h = subst (IsNode d) (same_Some l.to (Station station) h) (accepted.links_good link l e).to_node

-- stations with the same name are the same
one_station : (d : Domain) → IsDomain d → (a b : ℕ) → a < length d.stations → b < length d.stations →
    slice_index_or d.stations a [] ≡ slice_index_or d.stations b [] → a ≡ b
one_station d domain a b low high same =
    let apart = pairs_second (λ (x y : List ℕ). x ≢ y) d.bridges d.stations domain.distinct in
    elim (cases_lt a b) [
      | inl less ↦ absurd (apart a b [] less high same)
      | inr more ↦ elim (cases_lt b a) [
        | inl less ↦ absurd (apart b a [] less low (sym same))
        | inr least ↦ omega (arith, more, least)
      ]
    ]

-- so links that end in stations with the same name end in the same station
pub one_listener : (d : Domain) (link other : ℕ) → IsDomain d → is_station (end_of d link) ≡ true → is_station (end_of d other) ≡ true →
    name_of_end d link ≡ name_of_end d other → end_of d link ≡ end_of d other
one_listener d link other domain first second same = by_ends (end_of d link) (end_of d other) refl refl first second same
  where
    by_ends : (a b : Option Node) → end_of d link ≡ a → end_of d other ≡ b → is_station a ≡ true → is_station b ≡ true →
        option_map_or (name_of_node d) a [] ≡ option_map_or (name_of_node d) b [] → end_of d link ≡ end_of d other
    by_ends None b e f first second same = absurd (cc)
    by_ends (Some (Bridge s)) b e f first second same = absurd (cc)
    by_ends (Some (Station s)) None e f first second same = absurd (cc)
    by_ends (Some (Station s)) (Some (Bridge t)) e f first second same = absurd (cc)
    by_ends (Some (Station s)) (Some (Station t)) e f first second same =
        let one : s ≡ t = one_station d domain s t (station_inside d link s domain.accepted e) (station_inside d other t domain.accepted f) same in
        e ∙ ap (λ (n : ℕ). Some (Station n)) one ∙ sym f
