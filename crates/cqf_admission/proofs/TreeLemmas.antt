-- Hops added to a tree one by one.
use Rattle.std.proofs.Common.{◌≡◌, ℕ, ◌+◌, ◌<◌, ◌≤◌, Bool, true, false, cond, List, Option, Some, None, [], ◌∷◌, ◌++◌, ◌==◌, length, fold}
use Rattle.std.proofs.Common.{get_or, refl, ap, ◌∙◌, sym, arith, inl, inr, length-append, subst}
use Rattle.std.specs.Prelude.{All, String, Vec, string_bytes, suc}
use Rattle.std.specs.List.{list_any}
use Rattle.std.specs.declared.alloc.Global.{Global}
use Rattle.std.proofs.lemmas.Bool.{cases_Bool}
use Rattle.std.proofs.lemmas.List.{length-map}
use Rattle.std.proofs.lemmas.List.Elements.{All-cons, All-head, All-tail, All-nil}
use Rattle.std.proofs.lemmas.List.Sums.{fold-append}
use Rattle.cqf_lists.specs.Lists.{each_below}
use Rattle.cqf_model.specs.declared.topology.Hop.{Hop}
use Rattle.cqf_model.specs.Domain.{Domain}
use Rattle.cqf_model.specs.History.{Branch, hop_to, link_before, link_at}
use Rattle.cqf_model.specs.Limits.{most_hops}
use Rattle.cqf_admission.specs.Branches.{AreAsFarAsRoom, branch_of, branches_of, keep_link}

-- a hop whose link is new is added
pub keep_new : (tree : List Hop) (hop : Hop) → list_any (λ (kept : Hop). kept.link == hop.link) tree ≡ false → keep_link tree hop ≡ tree ++ hop ∷ []
keep_new tree hop e = ap (λ (b : Bool). cond b tree (tree ++ hop ∷ [])) e

-- a link that the tree has is not added again
pub keep_old : (tree : List Hop) (hop : Hop) → list_any (λ (kept : Hop). kept.link == hop.link) tree ≡ true → keep_link tree hop ≡ tree
keep_old tree hop e = ap (λ (b : Bool). cond b tree (tree ++ hop ∷ [])) e

-- a tree never gets shorter
keep_grows : (tree : List Hop) (hop : Hop) → length tree ≤ length (keep_link tree hop)
keep_grows tree hop = elim (cases_Bool (list_any (λ (kept : Hop). kept.link == hop.link) tree)) [
  | inl t ↦ omega (arith, ap length (keep_old tree hop t))
  | inr f ↦ omega (arith, ap length (keep_new tree hop f), length-append tree (hop ∷ []))
]

-- one more hop, if there is no room, if its link is there, and if it is added
pub far_full : (tree whole : List Hop) (hop : Hop) → most_hops < length tree → AreAsFarAsRoom tree whole → AreAsFarAsRoom tree (keep_link whole hop)
far_full tree whole hop full (inl e) = inr (full, omega (arith, full, ap length e, keep_grows whole hop))
far_full tree whole hop full (inr more) = inr (full, omega (arith, more.1, keep_grows whole hop))

pub far_kept : (tree whole : List Hop) (hop : Hop) → list_any (λ (kept : Hop). kept.link == hop.link) tree ≡ true → AreAsFarAsRoom tree whole →
    AreAsFarAsRoom tree (keep_link whole hop)
far_kept tree whole hop there (inl e) = inl (sym (keep_old tree hop there) ∙ ap (λ (t : List Hop). keep_link t hop) e)
far_kept tree whole hop there (inr more) = inr (more.0, omega (arith, more.1, keep_grows whole hop))

pub far_added : (tree after whole : List Hop) (hop : Hop) → list_any (λ (kept : Hop). kept.link == hop.link) tree ≡ false → after ≡ tree ++ hop ∷ [] →
    AreAsFarAsRoom tree whole → AreAsFarAsRoom after (keep_link whole hop)
far_added tree after whole hop none is (inl e) = inl (is ∙ sym (keep_new tree hop none) ∙ ap (λ (t : List Hop). keep_link t hop) e)
far_added tree after whole hop none is (inr more) =
    inr (omega (arith, more.0, ap length is, length-append tree (hop ∷ [])), omega (arith, more.1, keep_grows whole hop))

-- a tree built as far as there is room has too many hops if it has more than allowed; otherwise it is the whole tree
pub too_many : (tree whole : List Hop) (most : ℕ) → AreAsFarAsRoom tree whole → most < length tree → most ≤ most_hops → most < length whole
too_many tree whole most (inl e) many within = omega (arith, many, ap length e)
too_many tree whole most (inr more) many within = omega (arith, more.1, within)

pub all_of_it : (tree whole : List Hop) (most : ℕ) → AreAsFarAsRoom tree whole → length tree ≤ most → most ≤ most_hops → tree ≡ whole
all_of_it tree whole most (inl e) few within = e
all_of_it tree whole most (inr more) few within = absurd (omega (arith, more.0, few, within))

-- the first hops of a branch have been added to a tree
pub record AreAdded (d : Domain) (branch : Branch) (first tree : List Hop) (index : ℕ) (before : Option ℕ) : Type 0 where
  pub added : (whole : List Hop) → AreAsFarAsRoom first whole →
      AreAsFarAsRoom tree (fold keep_link whole (each_below (λ k. hop_to (k + 1) (link_before d branch k) (link_at d branch k)) index))
  pub following : before ≡ link_before d branch index

-- before the first index nothing is added
pub none_added : (d : Domain) (branch : Branch) (first : List Hop) → AreAdded d branch first first 0 None
none_added d branch first = record { added = λ whole far. far; following = refl }

-- one more index, with a link and without one
module _ (d : Domain) (branch : Branch) (first tree after : List Hop) (index : ℕ) (before : Option ℕ)
    (h : AreAdded d branch first tree index before) where
  -- one more index adds its hop if there is a link
  grown : (whole : List Hop) (o : Option ℕ) → link_at d branch index ≡ o →
      fold keep_link whole (each_below (λ k. hop_to (k + 1) (link_before d branch k) (link_at d branch k)) (suc index))
      ≡ fold keep_link (fold keep_link whole (each_below (λ k. hop_to (k + 1) (link_before d branch k) (link_at d branch k)) index))
      (hop_to (index + 1) before o)
  grown whole o e =
      let hops = each_below (λ k. hop_to (k + 1) (link_before d branch k) (link_at d branch k)) index in
      fold-append keep_link whole hops (hop_to (index + 1) (link_before d branch index) (link_at d branch index))
      ∙ ap (λ (b : Option ℕ). fold keep_link (fold keep_link whole hops) (hop_to (index + 1) b (link_at d branch index))) (sym h.following)
      ∙ ap (λ (p : Option ℕ). fold keep_link (fold keep_link whole hops) (hop_to (index + 1) before p)) e

  -- a link is added
  pub one_added : (l : ℕ) → link_at d branch index ≡ Some l →
      ((whole : List Hop) → AreAsFarAsRoom tree whole → AreAsFarAsRoom after (keep_link whole (record { link = l; hop_number = index + 1; from = before }))) →
      AreAdded d branch first after (suc index) (Some l)
  one_added l e adds = record {
    added = λ whole far.
        subst (AreAsFarAsRoom after) (sym (grown whole (Some l) e))
        (adds (fold keep_link whole (each_below (λ k. hop_to (k + 1) (link_before d branch k) (link_at d branch k)) index)) (h.added whole far));
    following = sym e;
  }

  -- nothing is added if there is no link
  pub none_more : link_at d branch index ≡ None → AreAdded d branch first tree (suc index) None
  none_more e = record {
    added = λ whole far. subst (AreAsFarAsRoom tree) (sym (grown whole None e)) (h.added whole far);
    following = sym e;
  }

-- any of the branches has at most 65 nodes
pub few_here : (paths : List (Vec (String Global) Global)) (index : ℕ) (branch : Vec (String Global) Global) →
    All (λ (b : Branch). length b ≤ 65) (branches_of paths) → index < length paths → get_or paths index branch ≡ branch → length branch.items ≤ 65
few_here paths index branch few inside is =
    let there : All (λ (b : Vec (String Global) Global). length (branch_of b.items) ≤ 65) paths = unmapped paths few in
    omega (arith, there index branch inside, ap (λ (b : Vec (String Global) Global). length (branch_of b.items)) is, length-map branch.items string_bytes)
  where
    -- if no branch has more than 65 nodes, neither has the path from which it is read
    unmapped : (ps : List (Vec (String Global) Global)) → All (λ (b : Branch). length b ≤ 65) (branches_of ps) →
        All (λ (b : Vec (String Global) Global). length (branch_of b.items) ≤ 65) ps
    unmapped [] h = All-nil (λ (b : Vec (String Global) Global). length (branch_of b.items) ≤ 65)
    unmapped (p ∷ ps) h =
        All-cons (λ (b : Vec (String Global) Global). length (branch_of b.items) ≤ 65) p ps
        (All-head (λ (b : Branch). length b ≤ 65) (branch_of p.items) (branches_of ps) h)
        (unmapped ps (All-tail (λ (b : Branch). length b ≤ 65) (branch_of p.items) (branches_of ps) h))
