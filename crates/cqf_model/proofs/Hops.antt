-- The hops of a tree are by links of the domain.
use Rattle.std.proofs.Common.{◌≡◌, ◌≢◌, ℕ, ◌+◌, ◌-◌, ◌<◌, List, Option, Some, None, [], ◌∷◌, ◌==◌, length, get_or, refl}
use Rattle.std.specs.Prelude.{All, AllPairs, zero, suc}
use Rattle.std.specs.List.{flat_map}
use Rattle.std.proofs.lemmas.Bool.{eqb-false}
use Rattle.std.proofs.lemmas.List.Elements.{All-append, All-contains, All-nil, All-push, Contains-get_or}
use Rattle.cqf_lists.specs.Lists.{each_below}
use Rattle.cqf_lists.proofs.EachOnce.{once_apart, once_from}
use Rattle.cqf_lists.proofs.Pairs.{pairs_map}
use Rattle.cqf_model.proofs.Links.{link_inside}
use Rattle.cqf_model.specs.declared.topology.Hop.{Hop}
use Rattle.cqf_model.specs.Domain.{Domain}
use Rattle.cqf_model.specs.History.{Branch, node_at, tree_of, hop_to, hops_along, link_before, link_at}
use Rattle.cqf_model.specs.Table.{links_in}

-- a hop by a link of the domain is inside the domain
hop_inside : (d : Domain) (hop_number : ℕ) (from o : Option ℕ) → ((l : ℕ) → o ≡ Some l → l < length d.links) →
    All (λ (hop : Hop). hop.link < length d.links) (hop_to hop_number from o)
hop_inside d hop_number from None h = All-nil (λ (hop : Hop). hop.link < length d.links)
hop_inside d hop_number from (Some l) h =
    All-push (λ (hop : Hop). hop.link < length d.links) [] (record { link = l; hop_number = hop_number; from = from })
    (All-nil (λ (hop : Hop). hop.link < length d.links)) (h l refl)

-- the links along a branch are the domain's
along_inside : (d : Domain) (branch : Branch) (n : ℕ) →
    All (λ (hop : Hop). hop.link < length d.links) (each_below (λ k. hop_to (k + 1) (link_before d branch k) (link_at d branch k)) n)
along_inside d branch zero = All-nil (λ (hop : Hop). hop.link < length d.links)
along_inside d branch (suc n) =
    All-append (λ (hop : Hop). hop.link < length d.links) (each_below (λ k. hop_to (k + 1) (link_before d branch k) (link_at d branch k)) n)
    (hop_to (n + 1) (link_before d branch n) (link_at d branch n)) (along_inside d branch n)
    (hop_inside d (n + 1) (link_before d branch n) (link_at d branch n) (λ l e. link_inside d (node_at d branch n) (node_at d branch (n + 1)) l e))

-- and so are those along all branches
all_inside : (d : Domain) (paths : List Branch) → All (λ (hop : Hop). hop.link < length d.links) (flat_map (hops_along d) paths)
all_inside d [] = All-nil (λ (hop : Hop). hop.link < length d.links)
all_inside d (branch ∷ paths) =
    All-append (λ (hop : Hop). hop.link < length d.links) (hops_along d branch) (flat_map (hops_along d) paths) (along_inside d branch (length branch - 1))
    (all_inside d paths)

-- so the tree's links are the domain's
pub hops_inside : (d : Domain) (paths : List Branch) → All (λ (hop : Hop). hop.link < length d.links) (tree_of d paths)
hops_inside d paths k e h =
    let tree = tree_of d paths in
    let there = once_from (λ (a b : Hop). a.link == b.link) (flat_map (hops_along d) paths) (get_or tree k e) (Contains-get_or tree k e h) in
    All-contains (λ (hop : Hop). hop.link < length d.links) (flat_map (hops_along d) paths) (get_or tree k e) (all_inside d paths) there

-- and each occurs once
pub hops_apart : (d : Domain) (paths : List Branch) → AllPairs (λ (a b : ℕ). a ≢ b) (links_in (tree_of d paths))
hops_apart d paths =
    let tree = tree_of d paths in
    pairs_map (λ (a b : ℕ). a ≢ b) (λ (hop : Hop). hop.link) tree (λ i j e l m.
    eqb-false (get_or tree i e).link (get_or tree j e).link
    (once_apart (λ (a b : Hop). a.link == b.link) (flat_map (hops_along d) paths) i j e l m))
