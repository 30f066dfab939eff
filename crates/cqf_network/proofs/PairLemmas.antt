-- Pairs of ends in a set, compared.
use Rattle.std.proofs.Common.{◌≡◌, ◌∙◌, ◌+◌, ◌<◌, ℕ, true, false, List, [], ◌∷◌, ◌++◌, ◌&&◌, ◌||◌, Option, Some, cond, drop, get_or, length, map, take, ap, arith, refl, sym}
use Rattle.std.proofs.lemmas.List.{drop_more, length-map, length-take-le, map-append, take_more}
use Rattle.std.specs.List.{list_any}
use Rattle.cqf_model.specs.declared.topology.Node.{Node}
use Rattle.cqf_topology.specs.declared.joined.End.{End}
use Rattle.cqf_topology.specs.contracts.joined.EndPartialEq.TheImpl.{ghosts as end}
use Rattle.cqf_topology.specs.JoinedLink.{node_of}
use Rattle.cqf_topology.proofs.HeldEnds.{end_eq-node}
use Rattle.cqf_network.specs.Edges.{first_repeat, pair_of, same_pair}

-- what the set of pairs finds
pub list_any-held : (from to : End) (keys : List (End × End)) →
    list_any (λ y. end.eq from y.0 && end.eq to y.1) keys ≡ list_any (same_pair (node_of from, node_of to)) (map pair_of keys)
list_any-held from to [] = refl
list_any-held from to (key ∷ keys) = (λ i. (end_eq-node from key.0 i && end_eq-node to key.1 i) || list_any-held from to keys i)

module _ (pairs : List (End × End)) (i : ℕ) (pair : End × End) (held : List (Node × Node)) (all : Option ℕ) (inside : i < length pairs)
    (is : pair ≡ get_or pairs i pair) (holds : held ≡ map pair_of (take i pairs))
    (before : first_repeat (map pair_of (take i pairs)) (map pair_of (drop i pairs)) ≡ all) where
  -- the pair comes next
  next_is : drop i pairs ≡ pair ∷ drop (i + 1) pairs
  next_is = drop_more pairs i pair inside ∙ ap (λ p. p ∷ drop (i + 1) pairs) (sym is)

  one_more : map pair_of (take (i + 1) pairs) ≡ map pair_of (take i pairs) ++ pair_of pair ∷ []
  one_more =
      ap (map pair_of) (take_more pairs i pair inside ∙ ap (λ p. take i pairs ++ p ∷ []) (sym is)) ∙ map-append pair_of (take i pairs) (pair ∷ [])

  so_many : length (map pair_of (take i pairs)) ≡ i
  so_many = length-map (take i pairs) pair_of ∙ length-take-le i pairs (omega arith)

  -- what is left to search is this pair and those after it
  opened : cond (list_any (same_pair (pair_of pair)) held) (Some (length (map pair_of (take i pairs))))
      (first_repeat (map pair_of (take (i + 1) pairs)) (map pair_of (drop (i + 1) pairs))) ≡ all
  opened =
      ap (λ (front : List (Node × Node)). cond (list_any (same_pair (pair_of pair)) front) (Some (length (map pair_of (take i pairs))))
      (first_repeat (map pair_of (take (i + 1) pairs)) (map pair_of (drop (i + 1) pairs)))) holds
      ∙ ap (λ (front : List (Node × Node)). cond (list_any (same_pair (pair_of pair)) (map pair_of (take i pairs))) (Some (length (map pair_of (take i pairs))))
      (first_repeat front (map pair_of (drop (i + 1) pairs)))) one_more
      ∙ sym (ap (λ (rest : List (End × End)). first_repeat (map pair_of (take i pairs)) (map pair_of rest)) next_is)
      ∙ before

  -- a pair that is held is the first that repeats
  pub repeat_here : list_any (same_pair (pair_of pair)) held ≡ true → Some i ≡ all
  repeat_here there =
      sym (ap (λ k. Some k) so_many)
      ∙ sym (ap (λ b. cond b (Some (length (map pair_of (take i pairs)))) (first_repeat (map pair_of (take (i + 1) pairs)) (map pair_of (drop (i + 1) pairs)))) there)
      ∙ opened

  -- if the pair isn't held, the result is that of the rest
  pub repeat_later : list_any (same_pair (pair_of pair)) held ≡ false → first_repeat (map pair_of (take (i + 1) pairs)) (map pair_of (drop (i + 1) pairs)) ≡ all
  repeat_later absent =
      sym (ap (λ b. cond b (Some (length (map pair_of (take i pairs)))) (first_repeat (map pair_of (take (i + 1) pairs)) (map pair_of (drop (i + 1) pairs)))) absent)
      ∙ opened

  -- and is held with the others
  pub held_more : held ++ pair_of pair ∷ [] ≡ map pair_of (take (i + 1) pairs)
  held_more = ap (λ front. front ++ pair_of pair ∷ []) holds ∙ sym one_more
