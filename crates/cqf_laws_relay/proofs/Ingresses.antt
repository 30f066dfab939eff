-- How the frames of a row that go on by a link arrive, by the first hop of its tree that has the link and by all hops.
use Rattle.std.proofs.Common.{◌≡◌, ◌≢◌, ℕ, Bool, true, false, cond, List, filter, refl, sym, ap, ◌∙◌, AllPairs, Contains, eqb-true, ne_eqb}
use Rattle.std.specs.Prelude.{[], ◌∷◌, ◌==◌, ◌&&◌, ◌||◌, Option, Some, None}
use Rattle.std.specs.List.{list_any}
use Rattle.std.proofs.lemmas.Bool.{and_right}
use Rattle.std.proofs.lemmas.List.Folds.{list_any_none}
use Rattle.cqf_lists.proofs.Any.{list_any-filter, list_any-map}
use Rattle.cqf_lists.proofs.Members.{all_from_members}
use Rattle.cqf_lists.proofs.Pairs.{pairs_head, pairs_tail, pairs_weaker}
use Rattle.cqf_model.specs.declared.topology.Hop.{Hop}
use Rattle.cqf_model.specs.Domain.{Domain, end_of}
use Rattle.cqf_model.specs.Table.{IsTree, links_in, same_ingress}
use Rattle.cqf_relay.specs.Leading.{by_hops, by_ingress, same_by}
use Rattle.cqf_relay.specs.declared.leads.By.TheVariants.{Nothing}

-- ingresses are the same if and only if the links before are
same_ingresses : (from ingress : Option ℕ) → same_by (by_ingress from) (by_ingress ingress) ≡ same_ingress from ingress
same_ingresses None None = refl
same_ingresses None (Some m) = refl
same_ingresses (Some k) None = refl
same_ingresses (Some k) (Some m) = refl

-- what goes on by no link arrives in no way
comes_no_way : (ingress : Option ℕ) → same_by Nothing (by_ingress ingress) ≡ false
comes_no_way None = refl
comes_no_way (Some m) = refl

-- a test of the first or of others, if none of the others passes
first_alone : (b others : Bool) → others ≡ false → b ≡ ((b && true) || others)
first_alone true others none = refl
first_alone false others none = sym none

-- and of others alone
others_alone : (b others : Bool) → others ≡ ((b && false) || others)
others_alone true others = refl
others_alone false others = refl

module _ (l : ℕ) (ingress : Option ℕ) where
  -- whether a hop is of the link and follows the ingress
  abbrev leads_on : Hop → Bool
  leads_on hop = same_ingress hop.from ingress && (hop.link == l)

  -- the first hop of a link decides as all hops do if no two are of one link
  by_first : (tree : List Hop) → AllPairs (λ (a b : Hop). a.link ≢ b.link) tree → same_by (by_hops l tree) (by_ingress ingress) ≡ list_any leads_on tree
  by_first [] apart = comes_no_way ingress
  by_first (hop ∷ hops) apart = by_test (hop.link == l) refl (by_first hops (pairs_tail (λ (a b : Hop). a.link ≢ b.link) hop hops apart))
    where
      -- no other is of the link
      no_other : hop.link ≡ l → (other : Hop) → Contains hops other → leads_on other ≡ false
      no_other is other c =
          and_right (same_ingress other.from ingress) (other.link == l)
          (ne_eqb other.link l (λ same. pairs_head (λ (a b : Hop). a.link ≢ b.link) hop hops other apart c (is ∙ sym same)))

      by_test : (b : Bool) → (hop.link == l) ≡ b → same_by (by_hops l hops) (by_ingress ingress) ≡ list_any leads_on hops →
          same_by (cond b (by_ingress hop.from) (by_hops l hops)) (by_ingress ingress) ≡ ((same_ingress hop.from ingress && b) || list_any leads_on hops)
      by_test true is others =
          same_ingresses hop.from ingress
          ∙ first_alone (same_ingress hop.from ingress) (list_any leads_on hops)
          (list_any_none leads_on hops (all_from_members (λ (other : Hop). leads_on other ≡ false) hops (no_other (eqb-true hop.link l is))))
      by_test false is others = others ∙ others_alone (same_ingress hop.from ingress) (list_any leads_on hops)

  -- so it is in a tree, in which no link occurs twice
  pub by_tree : (d : Domain) (tree : List Hop) → IsTree d tree →
      same_by (by_hops l tree) (by_ingress ingress) ≡ list_any (λ next. next == l) (links_in (filter (λ (hop : Hop). same_ingress hop.from ingress) tree))
  by_tree d tree is =
      by_first tree
      (pairs_weaker (λ (a b : Hop). end_of d a.link ≢ end_of d b.link) (λ (a b : Hop). a.link ≢ b.link) tree
      (λ a b ca cb ends same. ends (ap (end_of d) same)) is.reached_once)
      ∙ sym (list_any-filter (λ (hop : Hop). hop.link == l) (λ (hop : Hop). same_ingress hop.from ingress) tree)
      ∙ sym (list_any-map (λ next. next == l) (λ (hop : Hop). hop.link) (filter (λ (hop : Hop). same_ingress hop.from ingress) tree))
