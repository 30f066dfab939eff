-- A tree has each link once, so no more links than its domain.
use Rattle.std.proofs.Common.{◌≡◌, ℕ, ◌<◌, false, List, length, get_or, ap, arith, eqb, map}
use Rattle.std.specs.Prelude.{AllPairs}
use Rattle.std.proofs.lemmas.Bool.{eqb-true, ne_eqb}
use Rattle.std.proofs.lemmas.List.{length-map}
use Rattle.std.proofs.lemmas.List.Elements.{All-contains}
use Rattle.std.proofs.lemmas.Map.Keys.{IsDistinct-from_apart}
use Rattle.std.proofs.lemmas.Map.Steps.{length-le_from_distinct_below}
use Rattle.cqf_lists.proofs.Members.{any_member, contains_from_map}
use Rattle.cqf_lists.proofs.Pairs.{pairs_map}
use Rattle.cqf_model.specs.declared.topology.Hop.{Hop}
use Rattle.cqf_model.specs.Domain.{end_of}
use Rattle.cqf_laws_history.specs.HistoryLaws.{TreesHaveFewLinks}

-- a tree has no more links than its domain
pub trees_have_few_links : TreesHaveFewLinks
trees_have_few_links d tree good =
    let links : List ℕ = map (λ (hop : Hop). hop.link) tree in
    let count : length links ≡ length tree = length-map tree (λ (hop : Hop). hop.link) in
    let apart : AllPairs (λ (a b : ℕ). eqb a b ≡ false) links =
    pairs_map (λ (a b : ℕ). eqb a b ≡ false) (λ (hop : Hop). hop.link) tree (λ i j e l m.
    ne_eqb (get_or tree i e).link (get_or tree j e).link (λ same. good.reached_once i j e l m (ap (end_of d) same))) in
    let few = length-le_from_distinct_below links (length d.links) (IsDistinct-from_apart eqb links apart) (λ q h.
    let x = any_member (eqb q) links h in
    let hop = contains_from_map (λ (hop : Hop). hop.link) tree x.0 x.1 in
    omega (arith, All-contains (λ (hop : Hop). hop.link < length d.links) tree hop.0 good.inside hop.1, hop.2, eqb-true q x.0 x.2)) in
    omega (arith, few, count)
