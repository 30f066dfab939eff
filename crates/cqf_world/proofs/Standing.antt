-- A part at its index among others.
use Rattle.std.proofs.Common.{◌≡◌, ℕ, ◌<◌, List, get_or, length, map, set, sym, ap, ◌∙◌, arith, inl, inr, subst}
use Rattle.std.proofs.lemmas.Bool.{cases_eq}
use Rattle.std.proofs.lemmas.List.{get_or-map, get_or-set_other, get_or-set_same, length-set, map-set, set-get_or}
use Rattle.cqf_model.specs.History.{seals}
use Rattle.cqf_admission.specs.Tables.{CycleTable}
use Rattle.cqf_world.specs.declared.parts.Line.{Line}
use Rattle.cqf_world.specs.declared.parts.WorldBridge.{WorldBridge}
use Rattle.cqf_world.specs.Parts.{IsRunningWorld, IsDriven, given_of, links_taken, sent_of_driven}
use Rattle.cqf_world.specs.World.{WorldState, cycle_of_bridge, given_to, sealed_run, sent_by_driven}

module _ {X : Type 0} (count : X → ℕ) where
  -- the count of one part
  pub count_at : (counts : List ℕ) (xs : List X) (k : ℕ) (x : X) → counts ≡ map count xs → k < length xs → get_or counts k 0 ≡ count (get_or xs k x)
  count_at counts xs k x are inside =
      ap (λ (ns : List ℕ). get_or ns k 0) are ∙ get_or-map count xs k x 0 inside

  -- a part with the same count doesn't change the counts
  pub count_kept : (xs : List X) (k : ℕ) (x y : X) → x ≡ get_or xs k x → count y ≡ count x → map count (set xs k y) ≡ map count xs
  count_kept xs k x y there same =
      map-set count xs k y
      ∙ ap (set (map count xs) k) (same ∙ ap count there)
      ∙ sym (map-set count xs k (get_or xs k x))
      ∙ ap (map count) (set-get_or xs k x)

-- if one part is replaced, what holds of the new part, and held of the others, holds of each
pub each_with : {X : Type 0} (P : ℕ → X → Type 0) (xs : List X) (k : ℕ) (y : X) → k < length xs → P k y →
    ((other : ℕ) (d : X) → other < length xs → (other ≡ k → ⊥) → P other (get_or xs other d)) →
    (other : ℕ) (d : X) → other < length (set xs k y) → P other (get_or (set xs k y) other d)
each_with {X} P xs k y inside new others other d within = elim (cases_eq other k) [
  | inl e ↦
      let same : get_or (set xs k y) other d ≡ y = ap (λ (m : ℕ). get_or (set xs k y) m d) e ∙ get_or-set_same xs k y d inside in
      subst (λ (x : X). P other x) (sym same) (subst (λ (m : ℕ). P m y) (sym e) new)
  | inr differ ↦
      subst (λ (x : X). P other x) (sym (get_or-set_other xs k other y d differ)) (others other d (omega (arith, within, length-set xs k y)) differ)
]

-- a bridge at its index, and its counts
module _ (v : WorldState) (tables : List CycleTable) (driven : List WorldBridge) (lines : List Line) (is : IsRunningWorld v tables driven lines) (bridge : ℕ)
    (s : WorldBridge) (inside : bridge < length driven) (here : s ≡ get_or driven bridge s) where
  pub driven_at : IsDriven (sealed_run v) (seals v.entries) is.net bridge (cycle_of_bridge v bridge) (links_taken v bridge) s
  driven_at =
      subst (IsDriven (sealed_run v) (seals v.entries) is.net bridge (cycle_of_bridge v bridge) (links_taken v bridge)) (sym here)
      (is.bridge_driven bridge s inside)

  pub sent_at : sent_by_driven v bridge ≡ s.sent
  sent_at = count_at sent_of_driven v.sent driven bridge s is.sent_are inside ∙ ap sent_of_driven (sym here)

  pub given_at : given_to v bridge ≡ s.given
  given_at = count_at given_of v.given driven bridge s is.given_are inside ∙ ap given_of (sym here)
