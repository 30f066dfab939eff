-- What holds for a branch that isn't refused: its nodes are known, a link goes from each to the next, and no node occurs twice.
use Rattle.std.proofs.Common.{◌≡◌, ℕ, ◌+◌, ◌-◌, ◌<◌, ◌≤◌, Bool, true, false, List, Option, Some, None, length, get_or, sym, refl, ap, ◌∙◌, inl, inr, arith}
use Rattle.std.proofs.Common.{subst}
use Rattle.std.specs.Prelude.{[], ◌∷◌, ◌==◌, ◌&&◌, ◌||◌, is_none, nat_le, nat_lt, not, option_map, slice_get, take, unwrap_or, zero, suc, Contains}
use Rattle.std.specs.Option.{option_map_or}
use Rattle.std.proofs.lemmas.Bool.{and_from, and_parts, both_ways, cases_lt, eq-eqb, eqb-true, le-leb, lt-ltb, ltb-false, not-false, or_parts}
use Rattle.std.proofs.Math.Nat.{min-le_right}
use Rattle.std.proofs.lemmas.List.Quantifiers.{position-Some}
use Rattle.std.proofs.lemmas.Option.{same_Some, slice_get-get_or, slice_get_within}
use Rattle.cqf_units.specs.declared.timing.Rate.TheVariants.{Mb10}
use Rattle.cqf_lists.specs.Lists.{each_below}
use Rattle.cqf_lists.proofs.Any.{none_member}
use Rattle.cqf_lists.proofs.EachBelow.{get_or-singles, length-singles, same_below}
use Rattle.cqf_lists.proofs.Members.{contains_at}
use Rattle.cqf_lists.proofs.Indices.{slice_get-take}
use Rattle.cqf_model.proofs.Links.{same_node_itself, same_node_true}
use Rattle.cqf_model.specs.declared.topology.Hop.{Hop}
use Rattle.cqf_model.specs.declared.topology.Link.{Link}
use Rattle.cqf_model.specs.declared.topology.Node.{Node}
use Rattle.cqf_model.specs.declared.topology.Node.TheVariants.{Bridge, Station}
use Rattle.cqf_model.specs.Domain.{Domain, end_of, enters, joins, leaves, link_between, node_is, node_named, same_node}
use Rattle.cqf_model.specs.History.{Branch, hop_to, hops_along, is_bridge, is_broken_at, is_loop_at, is_same, link_at, link_before, link_from, node_at}
use Rattle.cqf_model.specs.Limits.{nodes_within}
use Rattle.cqf_model.specs.Table.{Follows}

-- ---- a link between two nodes

-- a link goes from a bridge to a node
pub record Goes (d : Domain) (l bridge : ℕ) (to : Node) : Type 0 where
  pub inside : l < length d.links
  pub leaves_is : (x : ℕ) → leaves d l x ≡ (bridge == x)
  pub enters_is : (x : ℕ) → enters d l x ≡ node_is to x
  pub joins_is : (m : ℕ) → joins d m l ≡ enters d m bridge
  pub end_is : end_of d l ≡ Some to

-- a link to read past the end of a list
some_link : Link
some_link = record { from = 0; to = Bridge 0; rate = Mb10; delay = 0; least = 0; guard = None }

-- a link that is found between two ends goes there
between_goes : (d : Domain) (bridge : ℕ) (to : Node) (l : ℕ) → link_between d bridge to ≡ Some l → Goes d l bridge to
between_goes d bridge to l e =
    let test : Link → Bool = λ (link : Link). (link.from == bridge) && same_node link.to to in
    let found = position-Some test d.links l some_link e in
    let link = get_or d.links l some_link in
    let is : slice_get d.links l ≡ Some link = slice_get-get_or d.links l some_link found.0 in
    let ends = and_parts (link.from == bridge) (same_node link.to to) found.1 in
    let from_is : link.from ≡ bridge = eqb-true link.from bridge ends.0 in
    let to_is : link.to ≡ to = same_node_true link.to to ends.1 in
    record {
      inside = found.0;
      leaves_is = λ x. ap (λ (o : Option Link). option_map_or (λ (y : Link). y.from == x) o false) is ∙ ap (λ (b : ℕ). b == x) from_is;
      enters_is = λ x. ap (λ (o : Option Link). option_map_or (λ (y : Link). node_is y.to x) o false) is ∙ ap (λ (n : Node). node_is n x) to_is;
      joins_is = λ m. ap (λ (o : Option Link). option_map_or (λ (y : Link). enters d m y.from) o false) is ∙ ap (λ (b : ℕ). enters d m b) from_is;
      end_is = ap (λ (o : Option Link). option_map (λ (y : Link). y.to) o) is ∙ ap (λ (n : Node). Some n) to_is;
    }

-- a link between two nodes of a branch
pub record Between (d : Domain) (from to : Option Node) (l : ℕ) : Type 0 where
  pub bridge : ℕ
  pub node : Node
  pub from_is : from ≡ Some (Bridge bridge)
  pub to_is : to ≡ Some node
  pub goes : Goes d l bridge node

-- a link that is found between two nodes of a branch goes between them
between : (d : Domain) (from to : Option Node) (l : ℕ) → link_from d from to ≡ Some l → Between d from to l
between d None to l e = absurd cc
between d (Some (Bridge b)) None l e = absurd cc
between d (Some (Station s)) None l e = absurd cc
between d (Some (Station s)) (Some n) l e = absurd cc
between d (Some (Bridge b)) (Some n) l e = record { bridge = b; node = n; from_is = refl; to_is = refl; goes = between_goes d b n l e }

-- ---- what isn't broken

-- if the conjunction is false and the first is true, the second is false
and_then_false : (x y : Bool) → (x && y) ≡ false → x ≡ true → y ≡ false
and_then_false true y e t = e
and_then_false false y e t = absurd cc

-- what it means that a branch isn't broken at an index
pub record NotBroken (d : Domain) (branch : Branch) (k : ℕ) : Type 0 where
  pub first : k ≡ 0 → is_bridge (node_at d branch 0) ≡ true
  pub linked : 1 ≤ k → k < length branch → is_none (link_at d branch (k - 1)) ≡ false
  pub last : k + 1 ≡ length branch → is_bridge (node_at d branch k) ≡ false
  pub few : k ≡ nodes_within d.limits → length branch ≤ k

-- each part of it holds
not_broken : (d : Domain) (branch : Branch) (k : ℕ) → is_broken_at d branch k ≡ false → NotBroken d branch k
not_broken d branch k e =
    let no_bridge_first = (k == 0) && not (is_bridge (node_at d branch 0)) in
    let no_link = nat_le 1 k && nat_lt k (length branch) && is_none (link_at d branch (k - 1)) in
    let bridge_last = (k + 1 == length branch) && is_bridge (node_at d branch k) in
    let too_many = (k == nodes_within d.limits) && nat_lt k (length branch) in
    let a = or_parts (no_bridge_first || no_link || bridge_last) too_many e in
    let b = or_parts (no_bridge_first || no_link) bridge_last a.0 in
    let c = or_parts no_bridge_first no_link b.0 in
    record {
      first = λ z. not-false (is_bridge (node_at d branch 0)) (and_then_false (k == 0) (not (is_bridge (node_at d branch 0))) c.0 (eq-eqb k 0 z));
      linked = λ some inside. and_then_false (nat_le 1 k && nat_lt k (length branch)) (is_none (link_at d branch (k - 1))) c.1
          (and_from (nat_le 1 k) (nat_lt k (length branch)) (le-leb 1 k some) (lt-ltb k (length branch) inside));
      last = λ z. and_then_false (k + 1 == length branch) (is_bridge (node_at d branch k)) b.1 (eq-eqb (k + 1) (length branch) z);
      few = λ z. ltb-false k (length branch) (and_then_false (k == nodes_within d.limits) (nat_lt k (length branch)) a.1 (eq-eqb k (nodes_within d.limits) z));
    }

-- what holds for a branch that isn't refused
pub record IsBranch (d : Domain) (branch : Branch) : Type 0 where
  pub known : (name : List ℕ) → Contains branch name → is_none (node_named d name) ≡ false
  pub whole : (k : ℕ) → k < length branch + 1 → NotBroken d branch k
  pub simple : (k : ℕ) → k < length branch + 1 → is_loop_at d branch k ≡ false

-- a branch is such if its names are known and it is whole and simple
pub is_branch : (d : Domain) (branch : Branch) → ((name : List ℕ) → Contains branch name → is_none (node_named d name) ≡ false) →
    ((k : ℕ) → k < length branch + 1 → is_broken_at d branch k ≡ false) → ((k : ℕ) → k < length branch + 1 → is_loop_at d branch k ≡ false) → IsBranch d branch
is_branch d branch known whole simple = record { known = known; whole = λ k h. not_broken d branch k (whole k h); simple = simple }

-- an option that isn't `None` has a value
pub some_from : {X : Type 0} (o : Option X) → is_none o ≡ false → (x : X) × (o ≡ Some x)
some_from None e = absurd cc
some_from (Some x) e = (x, refl)

-- the name at an index, if there is a node
pub name_at : (d : Domain) (branch : Branch) (k : ℕ) (node : Node) → node_at d branch k ≡ Some node → (name : List ℕ) × (slice_get branch k ≡ Some name) ×
    (node_named d name ≡ Some node)
name_at d branch k node e = by_name (slice_get branch k) refl e
  where
    -- if there is a node, there is a name, and the node is the name's
    by_name : (o : Option (List ℕ)) → slice_get branch k ≡ o → option_map_or (λ name. node_named d name) o None ≡ Some node → (name : List ℕ) ×
        (slice_get branch k ≡ Some name) × (node_named d name ≡ Some node)
    by_name None f g = absurd cc
    by_name (Some name) f g = (name, f, g)

-- the node at an index is that of the name there
pub node_of_name : (d : Domain) (branch : Branch) (k : ℕ) (name : List ℕ) → slice_get branch k ≡ Some name → node_at d branch k ≡ node_named d name
node_of_name d branch k name e = ap (λ (o : Option (List ℕ)). option_map_or (λ n. node_named d n) o None) e

-- no name occurs twice
abbrev pub NoRepeat : Branch → Type 0
NoRepeat branch = (i j : ℕ) (name : List ℕ) → slice_get branch i ≡ Some name → slice_get branch j ≡ Some name → i ≡ j

module _ (d : Domain) (branch : Branch) (good : IsBranch d branch) where
  -- a name occurs at no two indices
  not_before : (i j : ℕ) (name : List ℕ) → i < j → slice_get branch i ≡ Some name → slice_get branch j ≡ Some name → ⊥
  not_before i j name before e f =
      let inside = slice_get_within branch j name f in
      let node = some_from (node_named d name) (good.known name (contains_at branch j name f)) in
      let there : node_at d branch j ≡ Some node.0 = node_of_name d branch j name f ∙ node.1 in
      let other : is_same (node_named d name) (node_at d branch j) ≡ false =
      none_member (λ n. is_same (node_named d n) (node_at d branch j)) (take j branch) name (good.simple j (omega (arith, inside)))
      (contains_at (take j branch) i name (slice_get-take branch j i before ∙ e)) in
      let itself : is_same (node_named d name) (node_at d branch j) ≡ true = ap (λ (o : Option Node). is_same o (node_at d branch j)) node.1
      ∙ ap (λ (o : Option Node). is_same (Some node.0) o) there ∙ same_node_itself node.0 in
      both_ways (is_same (node_named d name) (node_at d branch j)) other itself

  -- so a branch repeats no name
  pub no_repeat : NoRepeat branch
  no_repeat i j name e f = elim (cases_lt i j) [
    | inl l ↦ absurd (not_before i j name l e f)
    | inr g ↦ elim (cases_lt j i) [
      | inl l ↦ absurd (not_before j i name l f e)
      | inr k ↦ omega (arith, g, k)
    ]
  ]

  -- it begins with a bridge
  pub first_is_bridge : is_bridge (node_at d branch 0) ≡ true
  first_is_bridge = (good.whole 0 (omega arith)).first refl

  -- it has a node
  some_node : 0 < length branch
  some_node = by_list branch first_is_bridge
    where
      by_list : (b : Branch) → is_bridge (node_at d b 0) ≡ true → 0 < length b
      by_list [] e = absurd cc
      by_list (name ∷ b) e = omega arith

  -- it has two nodes at least
  pub two_at_least : 1 < length branch
  two_at_least = elim (cases_lt 1 (length branch)) [
    | inl l ↦ l
    | inr g ↦ absurd (both_ways (is_bridge (node_at d branch 0)) ((good.whole 0 (omega arith)).last (omega (arith, some_node, g))) first_is_bridge)
  ]

  -- and 65 at most
  pub few_nodes : length branch ≤ 65
  few_nodes = elim (cases_lt (nodes_within d.limits) (length branch)) [
    | inl l ↦ absurd (omega (arith, l, (good.whole (nodes_within d.limits) (omega (arith, l))).few refl))
    | inr g ↦ omega (arith, g, min-le_right d.limits.nodes 65)
  ]

  linked : (k : ℕ) → k + 1 < length branch → is_none (link_at d branch k) ≡ false
  linked k h =
      let back : k + 1 - 1 ≡ k = omega arith in
      subst (λ (j : ℕ). is_none (link_at d branch j) ≡ false) back ((good.whole (k + 1) (omega (arith, h))).linked (omega arith) h)

-- ---- the hops of a branch

-- the hop at an index
abbrev pub hop_made : Domain → Branch → ℕ → Hop
hop_made d branch k = record { link = unwrap_or (link_at d branch k) 0; hop_number = k + 1; from = link_before d branch k }

-- a hop by a link that exists
hop_to_made : (hop_number : ℕ) (from o : Option ℕ) → is_none o ≡ false → hop_to hop_number from o ≡ record { link = unwrap_or o 0; hop_number = hop_number; from = from } ∷ []
hop_to_made hop_number from None e = absurd cc
hop_to_made hop_number from (Some l) e = refl

-- an option that isn't `None` has its unwrapped value
there_is : (o : Option ℕ) → is_none o ≡ false → o ≡ Some (unwrap_or o 0)
there_is None e = absurd cc
there_is (Some l) e = refl

module _ (d : Domain) (branch : Branch) (good : IsBranch d branch) where
  -- a branch has one hop for each index but the last
  made : hops_along d branch ≡ each_below (λ k. hop_made d branch k ∷ []) (length branch - 1)
  made =
      same_below (λ k. hop_to (k + 1) (link_before d branch k) (link_at d branch k)) (λ k. hop_made d branch k ∷ []) (length branch - 1)
      (λ k h. hop_to_made (k + 1) (link_before d branch k) (link_at d branch k) (linked d branch good k (omega (arith, h))))

  -- each index but the last has its hop
  pub hop_there : (k : ℕ) → k + 1 < length branch → slice_get (hops_along d branch) k ≡ Some (hop_made d branch k)
  hop_there k h =
      let hops = each_below (λ j. hop_made d branch j ∷ []) (length branch - 1) in
      ap (λ (xs : List Hop). slice_get xs k) made
      ∙ slice_get-get_or hops k (hop_made d branch k) (omega (arith, h, length-singles (hop_made d branch) (length branch - 1)))
      ∙ ap (λ (hop : Hop). Some hop) (get_or-singles (hop_made d branch) (length branch - 1) k (hop_made d branch k) (omega (arith, h)))

  -- and the hops are exactly these
  pub hop_is : (k : ℕ) (hop : Hop) → slice_get (hops_along d branch) k ≡ Some hop → (k + 1 < length branch) × (hop_made d branch k ≡ hop)
  hop_is k hop e =
      let inside = slice_get_within (hops_along d branch) k hop e in
      let count : length (hops_along d branch) ≡ length branch - 1 = ap (λ (xs : List Hop). length xs) made
      ∙ length-singles (hop_made d branch) (length branch - 1) in
      let h : k + 1 < length branch = omega (arith, inside, count) in
      (h, same_Some (hop_made d branch k) hop (sym (hop_there k h) ∙ e))

  -- the hop at an index is by the link there
  pub link_is : (k : ℕ) → k + 1 < length branch → link_at d branch k ≡ Some (hop_made d branch k).link
  link_is k h = there_is (link_at d branch k) (linked d branch good k h)

  -- and that link goes from this node to the next
  pub stands : (k : ℕ) → k + 1 < length branch → Between d (node_at d branch k) (node_at d branch (k + 1)) (hop_made d branch k).link
  stands k h = between d (node_at d branch k) (node_at d branch (k + 1)) (hop_made d branch k).link (link_is k h)

  -- each follows the one before it
  pub follows_on : (k : ℕ) → suc k + 1 < length branch → Follows d (hop_made d branch k) (hop_made d branch (suc k))
  follows_on k h =
      let inside : k + 1 < length branch = omega (arith, h) in
      let early = stands k inside in
      let late = stands (suc k) h in
      let next : k + 1 ≡ suc k = omega arith in
      let node : early.node ≡ Bridge late.bridge = same_Some early.node (Bridge late.bridge) (sym early.to_is ∙ ap (node_at d branch) next ∙ late.from_is) in
      record {
        from = link_is k inside;
        joined = late.goes.joins_is (hop_made d branch k).link ∙ early.goes.enters_is late.bridge ∙ ap (λ (n : Node). node_is n late.bridge) node
            ∙ eq-eqb late.bridge late.bridge refl;
        deeper = omega arith;
      }

-- ---- a hop depends only on the nodes up to its end

-- a prefix of a branch has the same links
link_front : (d : Domain) (branch : Branch) (n k : ℕ) → k + 1 < n → link_at d (take n branch) k ≡ link_at d branch k
link_front d branch n k h =
    let node : (j : ℕ) → j < n → node_at d (take n branch) j ≡ node_at d branch j =
    λ j l. ap (λ (o : Option (List ℕ)). option_map_or (λ name. node_named d name) o None) (slice_get-take branch n j l) in
    ap (λ (o : Option Node). link_from d o (node_at d (take n branch) (k + 1))) (node k (omega (arith, h)))
    ∙ ap (link_from d (node_at d branch k)) (node (k + 1) h)

-- and the same links before them
before_front : (d : Domain) (branch : Branch) (n k : ℕ) → k + 1 < n → link_before d (take n branch) k ≡ link_before d branch k
before_front d branch n zero h = refl
before_front d branch n (suc k) h = link_front d branch n k (omega (arith, h))

-- so it has the same hops
pub hop_front : (d : Domain) (branch : Branch) (n k : ℕ) → k + 1 < n → hop_made d (take n branch) k ≡ hop_made d branch k
hop_front d branch n k h =
    let link = link_front d branch n k h in
    let from = before_front d branch n k h in
    λ i. record { link = unwrap_or (link i) 0; hop_number = k + 1; from = from i }
