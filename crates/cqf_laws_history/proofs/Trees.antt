-- The hops of the branches of a request that isn't refused are a tree.
use Rattle.std.proofs.Common.{◌≡◌, ℕ, ◌+◌, ◌<◌, ◌↔◌, Bool, true, false, List, Option, Some, None, length, get_or, sym, refl, ap, ◌∙◌, inl, inr, arith, subst}
use Rattle.std.specs.Prelude.{[], ◌∷◌, ◌==◌, if◌then◌else◌, not, slice_get, take, zero, suc, Contains}
use Rattle.std.specs.Option.{option_map_or}
use Rattle.std.specs.List.{flat_map, list_any}
use Rattle.std.proofs.lemmas.Bool.{and_parts, both_ways, cases_Bool, cases_lt, eq-eqb, eqb-true, not-false}
use Rattle.std.proofs.lemmas.List.Elements.{Contains-get_or}
use Rattle.std.proofs.lemmas.Option.{same_Some, slice_get_within}
use Rattle.cqf_lists.specs.Lists.{each_once}
use Rattle.cqf_lists.proofs.Any.{none_member}
use Rattle.cqf_lists.proofs.EachOnce.{flat_index, once_apart, once_covers, once_from, once_index}
use Rattle.cqf_lists.proofs.Members.{contains_at, contains_flat, contains_from_flat, contains_from_take, index_of_member}
use Rattle.cqf_lists.proofs.Indices.{slice_get-take}
use Rattle.cqf_model.specs.declared.topology.Hop.{Hop}
use Rattle.cqf_model.specs.declared.topology.Node.{Node}
use Rattle.cqf_model.specs.declared.topology.Node.TheVariants.{Bridge, Station}
use Rattle.cqf_model.specs.Domain.{Domain, end_of, enters, is_text, leaves, node_is, node_named}
use Rattle.cqf_model.specs.History.{Branch, are_apart, hops_along, is_bridge, is_stray, make_a_tree, node_at, part, tree_of}
use Rattle.cqf_model.specs.Table.{Follows, IsTree}
use Rattle.cqf_model.proofs.Texts.{is_text_itself, is_text_same, named_once}
use Rattle.cqf_laws_history.proofs.Branches.{Between, IsBranch, NoRepeat, few_nodes, follows_on, hop_front, hop_is, hop_made, hop_there, link_is, name_at}
use Rattle.cqf_laws_history.proofs.Branches.{no_repeat, stands, two_at_least}

-- ---- branches that make a tree

-- if two branches have a common name, they are the same up to it
abbrev pub Agree : Branch → Branch → Type 0
Agree xs ys = (p q : ℕ) (name : List ℕ) → slice_get xs p ≡ Some name → slice_get ys q ≡ Some name → (p ≡ q) × (take (suc p) xs ≡ take (suc p) ys)

-- a rest repeats no name either
rest_no_repeat : (x : List ℕ) (xs : Branch) → NoRepeat (x ∷ xs) → NoRepeat xs
rest_no_repeat x xs h i j name e f = omega (arith, h (suc i) (suc j) name e f)

-- branches that agree, with one more name at their beginning
agree_cons : (x y : List ℕ) (xs ys : Branch) → x ≡ y → Agree xs ys → NoRepeat (x ∷ xs) → NoRepeat (y ∷ ys) → Agree (x ∷ xs) (y ∷ ys)
agree_cons x y xs ys same rest no_x no_y zero zero name e f = (refl, ap (λ (z : List ℕ). z ∷ []) same)
agree_cons x y xs ys same rest no_x no_y zero (suc q) name e f =
    absurd (omega (arith, no_y 0 (suc q) name (ap (λ (z : List ℕ). Some z) (sym same) ∙ e) f))
agree_cons x y xs ys same rest no_x no_y (suc p) zero name e f =
    absurd (omega (arith, no_x (suc p) 0 name e (ap (λ (z : List ℕ). Some z) same ∙ f)))
agree_cons x y xs ys same rest no_x no_y (suc p) (suc q) name e f =
    let r = rest p q name e f in
    (ap suc r.0, λ i. same i ∷ r.1 i)

-- parts that share no name agree
apart_agree : (xs ys : Branch) → are_apart xs ys ≡ true → Agree xs ys
apart_agree xs ys e p q name f g =
    let none : list_any (λ x. list_any (λ y. is_text x y) ys) xs ≡ false = none_of (list_any (λ x. list_any (λ y. is_text x y) ys) xs) e in
    let not_in : list_any (λ y. is_text name y) ys ≡ false = none_member (λ x. list_any (λ y. is_text x y) ys) xs name none (contains_at xs p name f) in
    absurd (both_ways (is_text name name) (none_member (λ y. is_text name y) ys name not_in (contains_at ys q name g)) (is_text_itself name))
  where
    -- if the negation of a test holds, the test fails
    none_of : (b : Bool) → not b ≡ true → b ≡ false
    none_of true h = absurd cc
    none_of false h = refl

-- branches that part agree
part_agree : (xs ys : Branch) → part xs ys ≡ true → NoRepeat xs → NoRepeat ys → Agree xs ys
part_agree [] ys e no_x no_y = absurd cc
part_agree (x ∷ xs) [] e no_x no_y = absurd cc
part_agree (x ∷ xs) (y ∷ ys) e no_x no_y =
    by_test (is_text x y) refl e (λ t. part_agree xs ys t (rest_no_repeat x xs no_x) (rest_no_repeat y ys no_y))
  where
    -- branches that part agree, whether they begin with one name or not
    by_test : (b : Bool) → is_text x y ≡ b → (if b then part xs ys else are_apart (x ∷ xs) (y ∷ ys)) ≡ true → (part xs ys ≡ true → Agree xs ys) →
        Agree (x ∷ xs) (y ∷ ys)
    by_test true t f rest = agree_cons x y xs ys (is_text_same x y t) (rest f) no_x no_y
    by_test false t f rest = apart_agree (x ∷ xs) (y ∷ ys) f

-- they also begin alike
pub record MakeATree (xs ys : Branch) : Type 0 where
  pub begin : slice_get xs 0 ≡ slice_get ys 0
  pub agree : Agree xs ys

-- if the test says that branches make a tree, they do
pub make_tree : (xs ys : Branch) → make_a_tree xs ys ≡ true → NoRepeat xs → NoRepeat ys → MakeATree xs ys
make_tree [] ys e no_x no_y = absurd cc
make_tree (x ∷ xs) [] e no_x no_y = absurd cc
make_tree (x ∷ xs) (y ∷ ys) e no_x no_y =
    let parts = and_parts (is_text x y) (part xs ys) e in
    let same = is_text_same x y parts.0 in
    record {
      begin = ap (λ (z : List ℕ). Some z) same;
      agree = agree_cons x y xs ys same (part_agree xs ys parts.1 (rest_no_repeat x xs no_x) (rest_no_repeat y ys no_y)) no_x no_y;
    }

-- and conversely
agree_sym : (xs ys : Branch) → Agree xs ys → Agree ys xs
agree_sym xs ys h p q name e f =
    let r = h q p name f e in
    (sym r.0, ap (λ (k : ℕ). take (suc k) ys) (sym r.0) ∙ sym r.1 ∙ ap (λ (k : ℕ). take (suc k) xs) r.0)

-- if no branch is stray, any two branches make a tree
pub all_make_a_tree : (paths : List Branch) → ((branch : Branch) → Contains paths branch → NoRepeat branch) →
    ((k : ℕ) → k < length paths → is_stray paths k ≡ false) → (xs ys : Branch) → Contains paths xs → Contains paths ys → MakeATree xs ys
all_make_a_tree paths once none xs ys cx cy =
    let i = index_of_member paths xs cx in
    let j = index_of_member paths ys cy in
    elim (cases_lt i.0 j.0) [
      | inl l ↦ make_tree xs ys (before i.0 j.0 xs ys l i.1 j.1) (once xs cx) (once ys cy)
      | inr g ↦ elim (cases_lt j.0 i.0) [
        | inl l ↦ (let r = make_tree ys xs (before j.0 i.0 ys xs l j.1 i.1) (once ys cy) (once xs cx) in
            record { begin = sym r.begin; agree = agree_sym ys xs r.agree })
        | inr k ↦ (let index : i.0 ≡ j.0 = omega (arith, g, k) in
            itself (same_Some xs ys (sym i.1 ∙ ap (λ (n : ℕ). slice_get paths n) index ∙ j.1)))
      ]
    ]
  where
    -- of two branches at different indices, the earlier makes a tree with the later
    before : (i j : ℕ) (x y : Branch) → i < j → slice_get paths i ≡ Some x → slice_get paths j ≡ Some y → make_a_tree x y ≡ true
    before i j x y l e f =
        let here : list_any (λ b. not (make_a_tree b y)) (take j paths) ≡ false =
        sym (ap (λ (o : Option Branch). option_map_or (λ branch. list_any (λ b. not (make_a_tree b branch)) (take j paths)) o false) f)
        ∙ none j (slice_get_within paths j y f) in
        not-false (make_a_tree x y) (none_member (λ b. not (make_a_tree b y)) (take j paths) x here
        (contains_at (take j paths) i x (slice_get-take paths j i l ∙ e)))

    -- a branch makes a tree with itself
    itself : xs ≡ ys → MakeATree xs ys
    itself e = record {
      begin = ap (λ (b : Branch). slice_get b 0) e;
      agree = λ p q name f g.
          let index = once xs cx p q name f (ap (λ (b : Branch). slice_get b q) e ∙ g) in
          (index, ap (λ (b : Branch). take (suc p) b) e);
    }

-- ---- the tree

-- a hop of one of the branches
record Of (d : Domain) (paths : List Branch) (hop : Hop) : Type 0 where
  branch : Branch
  of_paths : Contains paths branch
  k : ℕ
  inside : k + 1 < length branch
  is : hop_made d branch k ≡ hop

-- a hop that follows no link has no link before it
no_some : {X : Type 0} (x : X) (o : Option X) → o ≡ None → o ≡ Some x → ⊥
no_some x o e f = absurd cc

-- a node that is a bridge
is_bridge_node : (node : Node) (bridge : ℕ) → node_is node bridge ≡ true → node ≡ Bridge bridge
is_bridge_node (Bridge b) bridge e = ap (λ (n : ℕ). Bridge n) (eqb-true b bridge e)
is_bridge_node (Station s) bridge e = absurd cc

module _ (d : Domain) (paths : List Branch) (branches : (branch : Branch) → Contains paths branch → IsBranch d branch)
    (trees : (xs ys : Branch) → Contains paths xs → Contains paths ys → MakeATree xs ys) where
  -- a hop of all branches is a hop of one
  of_all : (hop : Hop) → Contains (flat_map (hops_along d) paths) hop → Of d paths hop
  of_all hop c =
      let b = contains_from_flat (hops_along d) paths hop c in
      let index = index_of_member (hops_along d b.0) hop b.2 in
      let is = hop_is d b.0 (branches b.0 b.1) index.0 hop index.1 in
      record { branch = b.0; of_paths = b.1; k = index.0; inside = is.0; is = is.1 }

  -- and a hop of one is a hop of all
  all_of : (branch : Branch) (k : ℕ) → Contains paths branch → k + 1 < length branch → Contains (flat_map (hops_along d) paths) (hop_made d branch k)
  all_of branch k c h =
      contains_flat (hops_along d) paths branch (hop_made d branch k) c
      (contains_at (hops_along d branch) k (hop_made d branch k) (hop_there d branch (branches branch c) k h))

  -- where a hop's link goes
  goes_at : (branch : Branch) (k : ℕ) → Contains paths branch → k + 1 < length branch →
      Between d (node_at d branch k) (node_at d branch (k + 1)) (hop_made d branch k).link
  goes_at branch k c h = stands d branch (branches branch c) k h

  -- hops to the same node are the same hop
  same_end : (xs ys : Branch) (j k : ℕ) → Contains paths xs → Contains paths ys → j + 1 < length xs → k + 1 < length ys →
      end_of d (hop_made d xs j).link ≡ end_of d (hop_made d ys k).link → hop_made d xs j ≡ hop_made d ys k
  same_end xs ys j k cx cy hx hy e =
      let a = goes_at xs j cx hx in
      let b = goes_at ys k cy hy in
      let node : a.node ≡ b.node = same_Some a.node b.node (sym a.goes.end_is ∙ e ∙ b.goes.end_is) in
      let m = name_at d xs (j + 1) a.node a.to_is in
      let n = name_at d ys (k + 1) b.node b.to_is in
      let name : m.0 ≡ n.0 = named_once d m.0 n.0 b.node (m.2 ∙ ap (λ (v : Node). Some v) node) n.2 in
      let r = (trees xs ys cx cy).agree (j + 1) (k + 1) n.0 (m.1 ∙ ap (λ (v : List ℕ). Some v) name) n.1 in
      let index : j ≡ k = omega (arith, r.0) in
      sym (hop_front d xs (suc (j + 1)) j (omega arith))
      ∙ ap (λ (b : Branch). hop_made d b j) r.1
      ∙ hop_front d ys (suc (j + 1)) j (omega arith)
      ∙ ap (hop_made d ys) index

  -- a link is in one hop only
  one_hop : (a b : Hop) → Of d paths a → Of d paths b → end_of d a.link ≡ end_of d b.link → a ≡ b
  one_hop a b x y e =
      let ends : Hop → Option Node = λ (h : Hop). end_of d h.link in
      sym x.is ∙ same_end x.branch y.branch x.k y.k x.of_paths y.of_paths x.inside y.inside (ap ends x.is ∙ e ∙ ap ends (sym y.is)) ∙ y.is

  -- so each of these hops is kept
  kept : (hops : List Hop) → ((hop : Hop) → Contains hops hop → Of d paths hop) → (hop : Hop) → Contains hops hop →
      Contains (each_once (λ (a b : Hop). a.link == b.link) hops) hop
  kept hops of hop c =
      let same : Hop → Hop → Bool = λ (a b : Hop). a.link == b.link in
      let y = once_covers same (λ (h : Hop). eq-eqb h.link h.link refl) hops hop c in
      let is : y.0 ≡ hop = one_hop y.0 hop (of y.0 (once_from same hops y.0 y.1)) (of hop c) (ap (end_of d) (eqb-true y.0.link hop.link y.2)) in
      subst (λ (h : Hop). Contains (each_once same hops) h) is y.1

  -- each hop of a branch is in the tree
  in_tree : (branch : Branch) (k : ℕ) → Contains paths branch → k + 1 < length branch → Contains (tree_of d paths) (hop_made d branch k)
  in_tree branch k c h = kept (flat_map (hops_along d) paths) of_all (hop_made d branch k) (all_of branch k c h)

  -- and each of the tree is of a branch
  of_tree : (hop : Hop) → Contains (tree_of d paths) hop → Of d paths hop
  of_tree hop c = of_all hop (once_from (λ (a b : Hop). a.link == b.link) (flat_map (hops_along d) paths) hop c)

  -- the tree is its branches
  pub tree_is_branches : (hop : Hop) → Contains (tree_of d paths) hop ↔ ((branch : Branch) × Contains paths branch × Contains (hops_along d branch) hop)
  tree_is_branches hop = (
    λ c. contains_from_flat (hops_along d) paths hop (once_from (λ (a b : Hop). a.link == b.link) (flat_map (hops_along d) paths) hop c),
    λ w. kept (flat_map (hops_along d) paths) of_all hop (contains_flat (hops_along d) paths w.0 hop w.1 w.2),
  )

  -- ---- what holds for a tree

  -- each hop comes after the hop that it follows
  following : (index m : ℕ) (hop : Hop) → slice_get (tree_of d paths) index ≡ Some hop → hop.from ≡ Some m → (before : Hop) ×
      Contains (take index (tree_of d paths)) before × Follows d before hop
  following index m hop at from =
      let same : Hop → Hop → Bool = λ (a b : Hop). a.link == b.link in
      let hops = flat_map (hops_along d) paths in
      let w = once_index same hops index hop at in
      let s = flat_index (hops_along d) paths w.0 hop w.1 in
      let good = branches s.x s.of_list in
      let is = hop_is d s.x good s.k hop s.at in
      before_it s.x good s.k is.0 is.1 (λ j h.
      subst (λ (xs : List Hop). Contains xs (hop_made d s.x j)) (sym w.2)
      (kept (take w.0 hops) (λ x c. of_all x (contains_from_take hops w.0 x c)) (hop_made d s.x j)
      (s.before (hop_made d s.x j) j h (hop_there d s.x good j (omega (arith, h, is.0))))))
    where
      before_it : (branch : Branch) (good : IsBranch d branch) (k : ℕ) → k + 1 < length branch → hop_made d branch k ≡ hop →
          ((j : ℕ) → j < k → Contains (take index (tree_of d paths)) (hop_made d branch j)) → (before : Hop) × Contains (take index (tree_of d paths)) before ×
          Follows d before hop
      before_it branch good zero h e f = absurd (no_some m hop.from (sym (ap (λ (x : Hop). x.from) e)) from)
      before_it branch good (suc k) h e f =
          (hop_made d branch k, f k (omega arith), subst (λ (x : Hop). Follows d (hop_made d branch k) x) e (follows_on d branch good k h))

  module _ (one : Branch) (is_one : Contains paths one) (first : ℕ) (begins_here : node_at d one 0 ≡ Some (Bridge first)) where
    -- each branch begins at the first bridge
    first_is : (branch : Branch) → Contains paths branch → node_at d branch 0 ≡ Some (Bridge first)
    first_is branch c = ap (λ (o : Option (List ℕ)). option_map_or (λ name. node_named d name) o None) (trees branch one c is_one).begin ∙ begins_here

    -- a hop that follows no link has hop number 1, and its link leaves the first bridge
    begin : (hop : Hop) → Contains (tree_of d paths) hop → hop.from ≡ None → (hop.hop_number ≡ 1) × (leaves d hop.link first ≡ true)
    begin hop c none = let w = of_tree hop c in at_first w.branch w.of_paths w.k w.inside w.is
      where
        at_first : (branch : Branch) → Contains paths branch → (k : ℕ) → k + 1 < length branch → hop_made d branch k ≡ hop → (hop.hop_number ≡ 1) ×
            (leaves d hop.link first ≡ true)
        at_first branch b zero h e =
            let g = goes_at branch 0 b h in
            let bridge : Bridge g.bridge ≡ Bridge first = same_Some (Bridge g.bridge) (Bridge first) (sym g.from_is ∙ first_is branch b) in (
              sym (ap (λ (x : Hop). x.hop_number) e),
              ap (λ (x : Hop). leaves d x.link first) (sym e) ∙ g.goes.leaves_is first ∙ ap (λ (n : Node). node_is n first) bridge ∙ eq-eqb first first refl,
            )
        at_first branch b (suc k) h e =
            absurd (no_some (hop_made d branch k).link hop.from none
            (ap (λ (x : Hop). x.from) (sym e) ∙ link_is d branch (branches branch b) k (omega (arith, h))))

    never_back : (hop : Hop) → Of d paths hop → enters d hop.link first ≡ false
    never_back hop w = elim (cases_Bool (enters d hop.link first)) [
      | inr f ↦ f
      | inl t ↦ absurd (let g = goes_at w.branch w.k w.of_paths w.inside in
          let node : g.node ≡ Bridge first = is_bridge_node g.node first (sym (g.goes.enters_is first) ∙ ap (λ (h : Hop). enters d h.link first) w.is ∙ t) in
          let a = name_at d w.branch (w.k + 1) g.node g.to_is in
          let b = name_at d w.branch 0 (Bridge first) (first_is w.branch w.of_paths) in
          let name : a.0 ≡ b.0 = named_once d a.0 b.0 (Bridge first) (a.2 ∙ ap (λ (n : Node). Some n) node) b.2 in
          let index = no_repeat d w.branch (branches w.branch w.of_paths) (w.k + 1) 0 b.0 (a.1 ∙ ap (λ (n : List ℕ). Some n) name) b.1 in
          omega (arith, index))
    ]

    goes_on_from : (hop : Hop) (bridge : ℕ) → Contains (tree_of d paths) hop → enters d hop.link bridge ≡ true → (next : Hop) ×
        Contains (tree_of d paths) next × Follows d hop next
    goes_on_from hop bridge c t =
        let w = of_tree hop c in
        let good = branches w.branch w.of_paths in
        let g = goes_at w.branch w.k w.of_paths w.inside in
        let node : g.node ≡ Bridge bridge = is_bridge_node g.node bridge (sym (g.goes.enters_is bridge) ∙ ap (λ (h : Hop). enters d h.link bridge) w.is ∙ t) in
        let bridge_there : is_bridge (node_at d w.branch (w.k + 1)) ≡ true = ap is_bridge (g.to_is ∙ ap (λ (n : Node). Some n) node) in
        let more : suc w.k + 1 < length w.branch = elim (cases_lt (suc w.k + 1) (length w.branch)) [
          | inl l ↦ l
          | inr e ↦ absurd (both_ways (is_bridge (node_at d w.branch (w.k + 1)))
              ((good.whole (w.k + 1) (omega (arith, w.inside))).last (omega (arith, e, w.inside))) bridge_there)
        ] in (
          hop_made d w.branch (suc w.k),
          in_tree w.branch (suc w.k) w.of_paths more,
          subst (λ (h : Hop). Follows d h (hop_made d w.branch (suc w.k))) w.is (follows_on d w.branch good w.k more),
        )

    pub tree_from : IsTree d (tree_of d paths)
    tree_from =
        let tree = tree_of d paths in
        let same : Hop → Hop → Bool = λ (a b : Hop). a.link == b.link in
        let of_index : (k : ℕ) (e : Hop) → k < length tree → Of d paths (get_or tree k e) = λ k e h. of_tree (get_or tree k e) (Contains-get_or tree k e h) in
        let some = in_tree one 0 is_one (two_at_least d one (branches one is_one)) in
        record {
          first = first;
          some = omega (arith, some.1);
          inside = λ k e h. let w = of_index k e h in
              subst (λ (x : Hop). x.link < length d.links) w.is (goes_at w.branch w.k w.of_paths w.inside).goes.inside;
          deep = λ k e h. let w = of_index k e h in
              omega (arith, ap (λ (x : Hop). x.hop_number) w.is, w.inside, few_nodes d w.branch (branches w.branch w.of_paths));
          begins = begin;
          follows = following;
          reached_once = λ i j e l m same_ends.
              let a = get_or tree i e in
              let b = get_or tree j e in
              let is : a ≡ b = one_hop a b (of_index i e (omega (arith, l, m))) (of_index j e m) same_ends in
              both_ways (a.link == b.link) (once_apart same (flat_map (hops_along d) paths) i j e l m) (eq-eqb a.link b.link (ap (λ (x : Hop). x.link) is));
          first_not_reached = λ k e h. never_back (get_or tree k e) (of_index k e h);
          ends = goes_on_from;
        }
