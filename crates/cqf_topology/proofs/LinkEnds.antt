-- Links by their ends: if no two links have the same ends, the ends of each are new, and the index of its ends is its own.
use Rattle.std.proofs.Common.{◌≡◌, ℕ, ◌+◌, List, [], ◌∷◌, ◌++◌, Bool, true, false, ◌==◌, ◌&&◌, ◌||◌, ◌∙◌, map, refl, ap, sym, cond, ◌<◌, length, take}
use Rattle.std.proofs.Common.{get_or, arith, eqb-true, eq-eqb}
use Rattle.std.proofs.lemmas.List.{get_or-take, get_or_default, length-take-le}
use Rattle.std.proofs.lemmas.List.Folds.{list_any_none}
use Rattle.std.specs.List.{list_any}
use Rattle.std.specs.Prelude.{position}
use Rattle.std.specs.contracts.prelude.U16PartialEq.TheImpl.{ghosts as number}
use Rattle.cqf_lists.proofs.Mapped.{position-map}
use Rattle.cqf_model.specs.contracts.topology.NodePartialEq.TheImpl.{ghosts as node}
use Rattle.cqf_model.specs.declared.topology.Link.{Link}
use Rattle.cqf_model.specs.declared.topology.Node.{Node}
use Rattle.cqf_model.specs.declared.topology.Node.TheVariants.{Bridge, Station}
use Rattle.cqf_model.specs.Domain.{same_node}
use Rattle.cqf_topology.specs.DomainText.{NoLinkTwice, same_ends}
use Rattle.cqf_topology.specs.JoinedLink.{are_same_ends, ends_of}
use Rattle.cqf_topology.proofs.HeldEnds.{held-next, list_any-ends}
use Rattle.cqf_topology.proofs.Written.{leads-only}

-- nodes are compared as the definitions compare them
node_eq-same : (a b : Node) → node.eq a b ≡ same_node a b
node_eq-same (Bridge a) (Bridge b) = refl
node_eq-same (Bridge a) (Station b) = refl
node_eq-same (Station a) (Bridge b) = refl
node_eq-same (Station a) (Station b) = refl

-- what a set of ends finds
list_any-keys : (from : ℕ) (to : Node) (keys : List (ℕ × Node))
    → list_any (λ y. number.eq from y.0 && node.eq to y.1) keys ≡ list_any (are_same_ends (from, to)) keys
list_any-keys from to [] = refl
list_any-keys from to (key ∷ keys) = (λ i. ((from == key.0) && node_eq-same to key.1 i) || list_any-keys from to keys i)

-- links that don't have the same ends
other-ends : (a b : Link) (same : Bool) → same_ends a b ≡ same → ¬ ((b.from ≡ a.from) × (b.to ≡ a.to)) → same ≡ false
other-ends a b true e apart = let both = leads-only a.from b.from a.to b.to e in absurd (apart (sym both.0, sym both.1))
other-ends a b false e apart = refl

module _ (links : List Link) (i : ℕ) (link : Link) (held : List (ℕ × Node)) (once : NoLinkTwice links) (inside : i < length links)
    (is : link ≡ get_or links i link) (holds : held ≡ map ends_of (take i links)) where
  -- no earlier link has this one's ends
  absent : list_any (same_ends link) (take i links) ≡ false
  absent = list_any_none (same_ends link) (take i links) (λ k d below.
      let before : k < i = omega (arith, below, length-take-le i links (omega arith)) in
      let other = get_or links k d in
      let same : get_or (take i links) k d ≡ other = get_or-take i links k d before in
      let this : get_or links i d ≡ link = get_or_default links i d link inside ∙ sym is in
      other-ends link (get_or (take i links) k d) _ refl (λ both. once k i d before inside (ap (λ (l : Link). l.from) (sym same) ∙ both.0 ∙ ap (λ (l : Link). l.from) (sym this), ap (λ (l : Link). l.to) (sym same) ∙ both.1 ∙ ap (λ (l : Link). l.to) (sym this))))

  -- so its ends come after those that are held
  ends-next : (keys : List (ℕ × Node))
      → keys ≡ cond (list_any (λ y. number.eq link.from y.0 && node.eq link.to y.1) held) held (held ++ ends_of link ∷ []) → keys ≡ map ends_of (take (i + 1) links)
  ends-next keys e =
      e ∙ ap (λ b. cond b held (held ++ ends_of link ∷ [])) (list_any-keys link.from link.to held
      ∙ ap (list_any (are_same_ends (ends_of link))) holds ∙ list_any-ends link (take i links) ∙ absent)
      ∙ held-next links i link held _ inside is holds refl

-- the same, read with any default
pub ends-next-read : (links : List Link) (i : ℕ) (default : Link) (held keys : List (ℕ × Node)) → NoLinkTwice links → i < length links → held ≡ map ends_of (take i links)
    → keys ≡ cond (list_any (λ y. number.eq (get_or links i default).from y.0 && node.eq (get_or links i default).to y.1) held) held (held ++ ends_of (get_or links i default) ∷ [])
    → keys ≡ map ends_of (take (i + 1) links)
ends-next-read links i default held keys once inside holds =
    ends-next links i (get_or links i default) held once inside (get_or_default links i default (get_or links i default) inside) holds keys

-- numbers are compared alike in either order
turned-number : (a b : ℕ) → (a == b) ≡ (b == a)
turned-number a b = by (a == b) (b == a) refl refl
  where
    by : (there back : Bool) → (a == b) ≡ there → (b == a) ≡ back → there ≡ back
    by true true e f = refl
    by true false e f = let is : (b == a) ≡ true = eq-eqb b a (sym (eqb-true a b e)) in absurd cc
    by false true e f = let is : (a == b) ≡ true = eq-eqb a b (sym (eqb-true b a f)) in absurd cc
    by false false e f = refl

-- the index of ends among those of links
pub index-of-ends : (from : ℕ) (to : Node) (links : List Link)
    → position (λ y. number.eq from y.0 && node.eq to y.1) (map ends_of links) ≡ position (λ (link : Link). (link.from == from) && same_node link.to to) links
index-of-ends from to links =
    position-map (λ y. number.eq from y.0 && node.eq to y.1) ends_of links ∙ ap (λ test. position test links) (λ i. λ (link : Link). same link i)
  where
    turned : (a b : Node) → node.eq a b ≡ same_node b a
    turned (Bridge a) (Bridge b) = turned-number a b
    turned (Bridge a) (Station b) = refl
    turned (Station a) (Bridge b) = refl
    turned (Station a) (Station b) = turned-number a b

    same : (link : Link) → ((from == link.from) && node.eq to link.to) ≡ ((link.from == from) && same_node link.to to)
    same link = λ i. turned-number from link.from i && turned to link.to i
