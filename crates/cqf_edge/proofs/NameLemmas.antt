-- Where branches begin and end.
use Rattle.std.proofs.Common.{◌≡◌, ◌≢◌, ℕ, suc, zero, ◌+◌, ◌<◌, ◌∷◌, [], ◌∙◌, Bool, true, false, List, ap, arith, refl, sym}
use Rattle.std.proofs.Common.{◌&&◌, add-one, drop, drop-cons, get_or, length, map}
use Rattle.std.proofs.Common.{Ok, Err, not}
use Rattle.std.specs.List.{list_all}
use Rattle.std.proofs.lemmas.List.Folds.{list_all-map}
use Rattle.std.proofs.Math.Bool.{and-false}
use Rattle.cqf_lists.specs.Results.{refuse}
use Rattle.cqf_model.specs.Domain.{is_text}
use Rattle.cqf_topology.specs.DomainText.{if_so}
use Rattle.cqf_network.specs.NetworkDomain.{NetworkDomain}
use Rattle.cqf_edge.specs.declared.entrances.Entrance.{Entrance}
use Rattle.cqf_edge.specs.declared.faults.TalkerFault.TheVariants.{OtherEdge}
use Rattle.cqf_edge.specs.Entrances.{agrees_with, begins_with, edge_name, end_at, ends_with}

-- a branch ends with its last text
pub ends_last : (name : List ℕ) (path : List (List ℕ)) (k : ℕ) (d : List ℕ) → suc k ≡ length path → ends_with name path ≡ is_text name (get_or path k d)
ends_last name [] k d e = absurd (omega (arith, e))
ends_last name (last ∷ []) zero d e = refl
ends_last name (last ∷ []) (suc k) d e = absurd (omega (arith, e))
ends_last name (first ∷ second ∷ rest) zero d e = absurd (omega (arith, e))
ends_last name (first ∷ second ∷ rest) (suc k) d e = ends_last name (second ∷ rest) k d (omega (arith, e))

-- branches of another number don't end at the names
pub end_differs : {X : Type 0} (f : X → List (List ℕ)) (names : List (List ℕ)) (paths : List X) → length paths ≢ length names →
    end_at names (map f paths) ≡ false
end_differs f [] [] apart = absurd (apart refl)
end_differs f [] (path ∷ paths) apart = refl
end_differs f (name ∷ names) [] apart = refl
end_differs f (name ∷ names) (path ∷ paths) apart =
    ap (λ (b : Bool). ends_with name (f path) && b) (end_differs f names paths (λ same. apart (ap (λ (n : ℕ). suc n) same)))
    ∙ and-false (ends_with name (f path))

-- whether all begin there
module _ {X : Type 0} (f : X → List (List ℕ)) (network : NetworkDomain) (entrance : Entrance) (paths : List X) (name : List ℕ)
    (is : name ≡ edge_name network entrance) where
  by_test : (b : Bool) → list_all (λ path. begins_with name (f path)) paths ≡ b →
      refuse (if_so (not b)) (λ _. OtherEdge) (Ok tt) ≡ agrees_with network (map f paths) entrance
  by_test b e =
      ap (λ (a : Bool). refuse (if_so (not a)) (λ _. OtherEdge) (Ok tt))
      (sym e ∙ ap (λ (n : List ℕ). list_all (λ path. begins_with n (f path)) paths) is ∙ sym (list_all-map (begins_with (edge_name network entrance)) f paths))

  pub all_agree : list_all (λ path. begins_with name (f path)) paths ≡ true → Ok tt ≡ agrees_with network (map f paths) entrance
  all_agree e = by_test true e

  pub one_differs : list_all (λ path. begins_with name (f path)) paths ≡ false → Err OtherEdge ≡ agrees_with network (map f paths) entrance
  one_differs e = by_test false e

module _ {X : Type 0} (f : X → List (List ℕ)) (names : List (List ℕ)) (paths : List X) (k : ℕ) (name : List ℕ) (path : X)
    (inside : k < length names) (within : k < length paths) (is_name : name ≡ get_or names k name) (is_path : path ≡ get_or paths k path) where
  -- from an index on the branch there decides, and then the others
  from_index : end_at (drop k names) (map f (drop k paths)) ≡ (ends_with name (f path) && end_at (drop (k + 1) names) (map f (drop (k + 1) paths)))
  from_index =
      (λ i. end_at (drop-cons names k name inside i) (map f (drop-cons paths k path within i)))
      ∙ (λ i. ends_with (sym is_name i) (f (sym is_path i)) && end_at (drop (sym (add-one k) i) names) (map f (drop (sym (add-one k) i) paths)))

  pub end_next : ends_with name (f path) ≡ true → end_at (drop (k + 1) names) (map f (drop (k + 1) paths)) ≡ end_at (drop k names) (map f (drop k paths))
  end_next e = sym (from_index ∙ ap (λ (b : Bool). b && end_at (drop (k + 1) names) (map f (drop (k + 1) paths))) e)

  pub end_fails : ends_with name (f path) ≡ false → false ≡ end_at (drop k names) (map f (drop k paths))
  end_fails e = sym (from_index ∙ ap (λ (b : Bool). b && end_at (drop (k + 1) names) (map f (drop (k + 1) paths))) e)
