-- The links that end in a bridge.
use Rattle.std.proofs.Common.{◌≡◌, ◌∷◌, [], ℕ, ◌<◌, AllPairs, Contains, List, length, subst, sym}
use Rattle.std.specs.Prelude.{if◌then◌else◌, true}
use Rattle.std.proofs.lemmas.Bool.{cond-true}
use Rattle.cqf_lists.proofs.EachBelow.{contains_below}
use Rattle.cqf_lists.proofs.Members.{contains_here}
use Rattle.cqf_lists.proofs.Numbers.{kept_number, numbers_ascend}
use Rattle.cqf_model.specs.Domain.{Domain, enters}
use Rattle.cqf_model.proofs.LinkEnds.{enters_inside}
use Rattle.cqf_agenda.specs.Links.{links_into}

-- a link among those that end in a bridge is one of the domain's, and ends in the bridge
pub link_into : (d : Domain) (bridge l : ℕ) → Contains (links_into d bridge) l → (l < length d.links) × (enters d l bridge ≡ true)
link_into d bridge l h = kept_number (λ k. enters d k bridge) (length d.links) l h

-- a link that ends in a bridge is one of the domain's
pub link_ending : (d : Domain) (bridge l : ℕ) → enters d l bridge ≡ true → l < length d.links
link_ending d bridge l here = enters_inside d l bridge here

-- a link that ends in a bridge is among those
pub link_listed : (d : Domain) (bridge l : ℕ) → enters d l bridge ≡ true → Contains (links_into d bridge) l
link_listed d bridge l ends =
    contains_below (λ k. if enters d k bridge then k ∷ [] else []) (length d.links) l l (link_ending d bridge l ends)
    (subst (λ (ks : List ℕ). Contains ks l) (sym (cond-true (enters d l bridge) (l ∷ []) [] ends)) (contains_here l []))

-- the links that end in a bridge ascend
pub links_ascend : (d : Domain) (bridge : ℕ) → AllPairs (λ (a b : ℕ). a < b) (links_into d bridge)
links_ascend d bridge = numbers_ascend (λ k. enters d k bridge) (length d.links)
