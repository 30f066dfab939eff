-- A link that leaves a bridge, or ends in one, is one of the domain's.
use Rattle.std.proofs.Common.{◌≡◌, ◌<◌, ℕ, true, ◌∙◌, inl, inr, sym, ap, length}
use Rattle.std.specs.Prelude.{◌==◌, Option, false}
use Rattle.std.specs.Option.{option_map_or}
use Rattle.std.proofs.lemmas.Bool.{true≢false}
use Rattle.std.proofs.lemmas.Option.{slice_get_cases, slice_get_within}
use Rattle.cqf_model.specs.declared.topology.Link.{Link}
use Rattle.cqf_model.specs.Domain.{Domain, enters, leaves, node_is}

-- a link that leaves a bridge is the domain's
pub leaves_inside : (d : Domain) (l bridge : ℕ) → leaves d l bridge ≡ true → l < length d.links
leaves_inside d l bridge is = elim (slice_get_cases d.links l).1 [
  | inl w ↦ slice_get_within d.links l w.0 w.2
  | inr w ↦ absurd (true≢false (sym is ∙ ap (λ (o : Option Link). option_map_or (λ (link : Link). link.from == bridge) o false) w.1))
]

-- and so is one that ends in it
pub enters_inside : (d : Domain) (l bridge : ℕ) → enters d l bridge ≡ true → l < length d.links
enters_inside d l bridge is = elim (slice_get_cases d.links l).1 [
  | inl w ↦ slice_get_within d.links l w.0 w.2
  | inr w ↦ absurd (true≢false (sym is ∙ ap (λ (o : Option Link). option_map_or (λ (link : Link). node_is link.to bridge) o false) w.1))
]
