-- The links that leave a bridge.
use Rattle.std.proofs.Common.{◌≡◌, ◌==◌, ◌∷◌, [], ℕ, Contains, List, length, inl, inr, ap, ◌∙◌, subst, sym, eqb-true}
use Rattle.std.specs.Prelude.{Option, true, false}
use Rattle.std.specs.Option.{option_map_or}
use Rattle.std.proofs.lemmas.Bool.{cond-true}
use Rattle.std.proofs.lemmas.Option.{slice_get_cases}
use Rattle.cqf_lists.proofs.EachBelow.{contains_below}
use Rattle.cqf_lists.proofs.Members.{contains_here}
use Rattle.cqf_model.specs.declared.topology.Link.{Link}
use Rattle.cqf_model.specs.Domain.{Domain, bridge_of, leaves}
use Rattle.cqf_model.proofs.LinkEnds.{leaves_inside}
use Rattle.cqf_trace.specs.BridgeTraces.{links_leaving, with_link}

-- a link that leaves a bridge is listed among the links that do
pub leaving_listed : (d : Domain) (bridge link : ℕ) → leaves d link bridge ≡ true → Contains (links_leaving d bridge) link
leaving_listed d bridge link here =
    contains_below (with_link d bridge) (length d.links) link link (leaves_inside d link bridge here)
    (subst (λ (links : List ℕ). Contains links link) (sym (cond-true (leaves d link bridge) (link ∷ []) [] here)) (contains_here link []))

-- a link leaves only one bridge
pub leaves_one : (d : Domain) (l bridge : ℕ) → leaves d l bridge ≡ true → bridge_of d l ≡ bridge
leaves_one d l bridge here =
    elim (slice_get_cases d.links l).1 [
      | inl w ↦
          ap (λ (o : Option Link). option_map_or (λ (link : Link). link.from) o 0) w.2
          ∙ eqb-true w.0.from bridge (sym (ap (λ (o : Option Link). option_map_or (λ (link : Link). link.from == bridge) o false) w.2) ∙ here)
      | inr w ↦
          let none : leaves d l bridge ≡ false = ap (λ (o : Option Link). option_map_or (λ (link : Link). link.from == bridge) o false) w.1 in
          absurd (cc (none, here))
    ]
