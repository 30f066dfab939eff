-- Ends of links in a set, compared.
use Rattle.std.proofs.Common.{◌≡◌, ℕ, List, [], ◌∷◌, ◌++◌, true, false, ◌==◌, ◌&&◌, ◌||◌, map, cond, refl, ap, sym, ◌∙◌, Option, Some, ◌+◌, ◌<◌, length, take}
use Rattle.std.proofs.Common.{drop, get_or, arith}
use Rattle.std.proofs.lemmas.List.{take_more, drop_more, length-take-le, map-append}
use Rattle.std.specs.List.{list_any}
use Rattle.std.specs.contracts.prelude.UsizePartialEq.TheImpl.{ghosts as number}
use Rattle.cqf_model.specs.declared.topology.Link.{Link}
use Rattle.cqf_model.specs.declared.topology.Node.{Node}
use Rattle.cqf_model.specs.Domain.{same_node}
use Rattle.cqf_topology.specs.declared.joined.End.{End}
use Rattle.cqf_topology.specs.declared.joined.End.TheVariants.{Bridge, Station}
use Rattle.cqf_topology.specs.contracts.joined.EndPartialEq.TheImpl.{ghosts as end}
use Rattle.cqf_topology.specs.DomainText.{same_ends, first_twice}
use Rattle.cqf_topology.specs.JoinedLink.{node_of, ends_held, ends_of, are_same_ends}

-- two ends are equal if their nodes are the same
pub end_eq-node : (a b : End) → end.eq a b ≡ same_node (node_of a) (node_of b)
end_eq-node (Bridge a) (Bridge b) = refl
end_eq-node (Bridge a) (Station b) = refl
end_eq-node (Station a) (Bridge b) = refl
end_eq-node (Station a) (Station b) = refl

-- what the set of ends finds
pub list_any-held : (from : ℕ) (to : End) (keys : List (ℕ × End))
    → list_any (λ y. number.eq from y.0 && end.eq to y.1) keys ≡ list_any (are_same_ends (from, node_of to)) (map ends_held keys)
list_any-held from to [] = refl
list_any-held from to (key ∷ keys) = (λ i. ((from == key.0) && end_eq-node to key.1 i) || list_any-held from to keys i)

-- the links whose ends those are
pub list_any-ends : (link : Link) (links : List Link) → list_any (are_same_ends (ends_of link)) (map ends_of links) ≡ list_any (same_ends link) links
list_any-ends link [] = refl
list_any-ends link (other ∷ links) = ap (λ b. same_ends link other || b) (list_any-ends link links)

module _ (links : List Link) (i : ℕ) (link : Link) (held : List (ℕ × Node)) (all : Option ℕ) (inside : i < length links)
    (is : link ≡ get_or links i link) (holds : held ≡ map ends_of (take i links))
    (before : first_twice (take i links) (drop i links) ≡ all) where
  -- a question to the set of ends is a question to the links so far
  asked : list_any (are_same_ends (ends_of link)) held ≡ list_any (same_ends link) (take i links)
  asked = ap (list_any (are_same_ends (ends_of link))) holds ∙ list_any-ends link (take i links)

  -- the link is the next one
  next_is : drop i links ≡ link ∷ drop (i + 1) links
  next_is = drop_more links i link inside ∙ ap (λ l. l ∷ drop (i + 1) links) (sym is)

  -- what is left to look through is this link and those after it
  opened : first_twice (take i links) (link ∷ drop (i + 1) links) ≡ all
  opened = ap (first_twice (take i links)) (sym next_is) ∙ before

  -- a link whose ends are held is the first of its kind
  pub first_twice-held : list_any (are_same_ends (ends_of link)) held ≡ true → Some i ≡ all
  first_twice-held there =
      sym (ap Some (length-take-le i links (omega arith)))
      ∙ sym (ap (λ b. cond b (Some (length (take i links))) (first_twice (take i links ++ link ∷ []) (drop (i + 1) links))) (sym asked ∙ there))
      ∙ opened

  -- if the link's ends aren't held, the first of its kind is among the rest
  pub first_twice-next : list_any (are_same_ends (ends_of link)) held ≡ false → first_twice (take (i + 1) links) (drop (i + 1) links) ≡ all
  first_twice-next absent =
      ap (λ front. first_twice front (drop (i + 1) links)) one_more
      ∙ sym (ap (λ b. cond b (Some (length (take i links))) (first_twice (take i links ++ link ∷ []) (drop (i + 1) links))) (sym asked ∙ absent))
      ∙ opened
    where
      one_more : take (i + 1) links ≡ take i links ++ link ∷ []
      one_more = take_more links i link inside ∙ ap (λ l. take i links ++ l ∷ []) (sym is)

  -- and its ends are held with the others
  pub held-next : held ++ ends_of link ∷ [] ≡ map ends_of (take (i + 1) links)
  held-next =
      ap (λ front. front ++ ends_of link ∷ []) holds
      ∙ sym (map-append ends_of (take i links) (link ∷ []))
      ∙ ap (map ends_of) (sym (take_more links i link inside ∙ ap (λ l. take i links ++ l ∷ []) (sym is)))
