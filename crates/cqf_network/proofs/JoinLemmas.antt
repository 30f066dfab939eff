-- Links joined to their ends one after the other.
use Rattle.std.proofs.Common.{◌≡◌, ◌∙◌, ◌+◌, ◌<◌, ◌≤◌, ℕ, List, ◌∷◌, ◌++◌, Result, Ok, Err, drop, get_or, length, ap, refl, sym, append_assoc, arith}
use Rattle.std.specs.Prelude.{suc}
use Rattle.std.proofs.lemmas.List.{append-nil, drop_all, drop_more}
use Rattle.cqf_lists.specs.Results.{and_then}
use Rattle.cqf_topology.specs.DomainText.{with_front}
use Rattle.cqf_network.specs.declared.draft.NetworkLink.{NetworkLink}
use Rattle.cqf_network.specs.declared.faults.NetworkFault.{NetworkFault}
use Rattle.cqf_network.specs.Edges.{Edge, edges_of, joined, joined_edge}

-- lists read before the rest of what is read
fronts : {A E : Type 0} (done xs : List A) (rest : Result (List A) E) → with_front done (with_front xs rest) ≡ with_front (done ++ xs) rest
fronts done xs (Ok ys) = ap Ok (sym (append_assoc done xs ys))
fronts done xs (Err e) = refl

module _ (bridges stations : List (List ℕ)) (links : List NetworkLink) (i : ℕ) (link : NetworkLink) (inside : i < length links)
    (is : link ≡ get_or links i link) where
  next_is : drop i links ≡ link ∷ drop (i + 1) links
  next_is = drop_more links i link inside ∙ ap (λ l. l ∷ drop (i + 1) links) (sym is)

  opened : joined bridges stations i (drop i links)
      ≡ and_then (joined_edge bridges stations i link.other link.there) (λ edge. with_front (edges_of link.duplex edge) (joined bridges stations (i + 1) (drop (i + 1) links)))
  opened =
      let next : suc i ≡ i + 1 = omega arith in
      ap (joined bridges stations i) next_is
      ∙ ap (λ k. and_then (joined_edge bridges stations i link.other link.there) (λ edge. with_front (edges_of link.duplex edge) (joined bridges stations k (drop (i + 1) links)))) next

  -- a link with its ends found comes before the rest
  pub joined_more : (done : List Edge) (edge : Edge) → joined_edge bridges stations i link.other link.there ≡ Ok edge →
      with_front (done ++ edges_of link.duplex edge) (joined bridges stations (i + 1) (drop (i + 1) links)) ≡ with_front done (joined bridges stations i (drop i links))
  joined_more done edge found =
      sym (fronts done (edges_of link.duplex edge) (joined bridges stations (i + 1) (drop (i + 1) links)))
      ∙ sym (ap (with_front done) (opened ∙ ap (λ r. and_then r (λ e. with_front (edges_of link.duplex e) (joined bridges stations (i + 1) (drop (i + 1) links)))) found))

  -- and if its ends aren't found, that is the fault
  pub joined_fault : (done : List Edge) (fault : NetworkFault) → joined_edge bridges stations i link.other link.there ≡ Err fault →
      with_front done (joined bridges stations i (drop i links)) ≡ Err fault
  joined_fault done fault found =
      ap (with_front done) (opened ∙ ap (λ r. and_then r (λ e. with_front (edges_of link.duplex e) (joined bridges stations (i + 1) (drop (i + 1) links)))) found)

-- after the last link nothing is left
pub joined_all : (bridges stations : List (List ℕ)) (links : List NetworkLink) (i : ℕ) → length links ≤ i → (done : List Edge) →
    with_front done (joined bridges stations i (drop i links)) ≡ Ok done
joined_all bridges stations links i all done =
    ap (λ rest. with_front done (joined bridges stations i rest)) (drop_all i links all) ∙ ap Ok (append-nil done)
