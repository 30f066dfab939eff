-- Links along a tree: which follows which, and their hop numbers.
use Rattle.std.proofs.Common.{◌≡◌, ℕ, zero, suc, ◌+◌, ◌<◌, ◌≤◌, ◌∷◌, [], List, true, false, Option, Some, None, option_map, inl, inr, sym, ap, ◌∙◌, subst}
use Rattle.std.proofs.Common.{arith, refl, max, fold, filter, take, slice_get, length, eq-eqb, eqb-true, ◌==◌, ◌&&◌, Contains}
use Rattle.std.specs.Option.{option_map_or}
use Rattle.std.proofs.lemmas.Bool.{and_from, false≢true}
use Rattle.std.proofs.lemmas.List.Elements.{All-contains}
use Rattle.std.proofs.lemmas.Option.{slice_get_read}
use Rattle.cqf_model.proofs.Links.{same_ingress_true}
use Rattle.cqf_model.specs.declared.topology.Hop.{Hop}
use Rattle.cqf_model.specs.declared.topology.Link.{Link}
use Rattle.cqf_model.specs.declared.topology.Node.{Node}
use Rattle.cqf_model.specs.declared.topology.Node.TheVariants.{Bridge, Station}
use Rattle.cqf_model.specs.declared.topology.Row.{Row}
use Rattle.cqf_model.specs.Domain.{Domain, bridge_of, end_of, enters, joins, leaves, node_is}
use Rattle.cqf_model.specs.Table.{Follows, IsHop, IsTree, crosses, goes_on, goes_to, hop_number_after, residence, same_ingress, uses}
use Rattle.cqf_model.specs.Paces.{is_active}
use Rattle.cqf_model.proofs.Paces.{active_cycle_on}
use Rattle.cqf_lists.proofs.Members.{any_member, member_any, contains_map, contains_from_map, contains_filter, contains_from_filter, contains_here}
use Rattle.cqf_lists.proofs.Members.{contains_later, contains_cases, contains_none, find_member, find_some}
use Rattle.cqf_lists.proofs.Pairs.{one_of_pairs}

-- a link leaves one bridge
pub its_bridge : (d : Domain) (m bridge : ℕ) → leaves d m bridge ≡ true → bridge_of d m ≡ bridge
its_bridge d m bridge here = go (slice_get d.links m) here
  where
    -- the bridge that a link leaves is the one at which it begins
    go : (o : Option Link) → option_map_or (λ (k : Link). k.from == bridge) o false ≡ true → option_map_or (λ (k : Link). k.from) o 0 ≡ bridge
    go None e = absurd (cc)
    go (Some link) e = eqb-true link.from bridge e

-- a link ends in one bridge
pub enters_one : (d : Domain) (m one two : ℕ) → enters d m one ≡ true → enters d m two ≡ true → one ≡ two
enters_one d m one two = go (slice_get d.links m)
  where
    -- a node is at most one bridge
    node : (to : Node) → node_is to one ≡ true → node_is to two ≡ true → one ≡ two
    node (Bridge b) first second = sym (eqb-true b one first) ∙ eqb-true b two second
    node (Station s) first second = absurd (cc)

    -- the node in which a link ends is at most one bridge
    go : (o : Option Link) → option_map_or (λ (link : Link). node_is link.to one) o false ≡ true →
        option_map_or (λ (link : Link). node_is link.to two) o false ≡ true → one ≡ two
    go None first second = absurd (cc)
    go (Some link) first second = node link.to first second

-- a link that enters a bridge ends in that node
enters_end : (d : Domain) (m bridge : ℕ) → enters d m bridge ≡ true → end_of d m ≡ Some (Bridge bridge)
enters_end d m bridge = go (slice_get d.links m)
  where
    -- a node with the number of a bridge is that bridge
    node : (to : Node) → node_is to bridge ≡ true → to ≡ Bridge bridge
    node (Bridge b) e = ap Bridge (eqb-true b bridge e)
    node (Station s) e = absurd (cc)

    -- the node in which a link ends is the bridge that it enters
    go : (o : Option Link) → option_map_or (λ (link : Link). node_is link.to bridge) o false ≡ true →
        option_map (λ (link : Link). link.to) o ≡ Some (Bridge bridge)
    go None e = absurd (cc)
    go (Some link) e = ap Some (node link.to e)

-- what joins a link that ends in a bridge leaves that bridge
pub joined_leaves : (d : Domain) (m l bridge : ℕ) → joins d m l ≡ true → enters d m bridge ≡ true → leaves d l bridge ≡ true
joined_leaves d m l bridge joined here = go (slice_get d.links l) joined
  where
    -- a link that begins at a bridge in which the other ends leaves this bridge
    go : (o : Option Link) → option_map_or (λ (link : Link). enters d m link.from) o false ≡ true →
        option_map_or (λ (link : Link). link.from == bridge) o false ≡ true
    go None e = absurd (cc)
    go (Some link) e = eq-eqb link.from bridge (enters_one d m link.from bridge e here)

-- a link that joins another ends in the bridge that this one leaves
pub joined_enters : (d : Domain) (m l : ℕ) → joins d m l ≡ true → enters d m (bridge_of d l) ≡ true
joined_enters d m l joined = go (slice_get d.links l) joined
  where
    -- the other link ends in the bridge at which this one begins
    go : (o : Option Link) → option_map_or (λ (link : Link). enters d m link.from) o false ≡ true →
        enters d m (option_map_or (λ (link : Link). link.from) o 0) ≡ true
    go None e = absurd (cc)
    go (Some link) e = e

-- and conversely
true_same_ingress : (a b : Option ℕ) → a ≡ b → same_ingress a b ≡ true
true_same_ingress None None e = refl
true_same_ingress None (Some m) e = absurd (cc)
true_same_ingress (Some l) None e = absurd (cc)
true_same_ingress (Some l) (Some m) e = eq-eqb l m (cc)

-- the first elements of a list are members of it
contains_take : {X : Type 0} (n : ℕ) (xs : List X) (x : X) → Contains (take n xs) x → Contains xs x
contains_take zero xs x c = absurd (contains_none x c)
contains_take (suc n) [] x c = absurd (contains_none x c)
contains_take (suc n) (y ∷ xs) x c = elim (contains_cases y (take n xs) x c) [
  | inl e ↦ subst (λ z. Contains (y ∷ xs) z) e (contains_here y xs)
  | inr h ↦ contains_later y xs x (contains_take n xs x h)
]

-- no hop has a greater hop number than the deepest
greatest_hop_number : (most : ℕ) (tree : List Hop) → most ≤ fold (λ most (hop : Hop). max most hop.hop_number) most tree
greatest_hop_number most [] = omega arith
greatest_hop_number most (hop ∷ tree) = omega (arith, greatest_hop_number (max most hop.hop_number) tree)

-- so each is within the residence
within_deepest : (most : ℕ) (tree : List Hop) (hop : Hop) → Contains tree hop → hop.hop_number ≤ fold (λ most (hop : Hop). max most hop.hop_number) most tree
within_deepest most [] hop c = absurd (contains_none hop c)
within_deepest most (one ∷ tree) hop c = elim (contains_cases one tree hop c) [
  | inl e ↦ omega (arith, greatest_hop_number (max most one.hop_number) tree, ap (λ (z : Hop). z.hop_number) e)
  | inr h ↦ within_deepest (max most one.hop_number) tree hop h
]

-- a stream goes on by a link, after the link before or from the edge, by a hop of its tree
pub record GoesBy (row : Row) (ingress : Option ℕ) (l : ℕ) : Type 0 where
  pub hop : Hop
  pub of_tree : Contains row.tree.items hop
  pub from : hop.from ≡ ingress
  pub is_link : hop.link ≡ l

-- a frame goes on only by such links
pub goes_by : (row : Row) (ingress : Option ℕ) (l : ℕ) → Contains (goes_to row ingress) l → GoesBy row ingress l
goes_by row ingress l c =
    let hop = contains_from_map (λ (hop : Hop). hop.link) (filter (λ (hop : Hop). same_ingress hop.from ingress) row.tree.items) l c in
    let kept = contains_from_filter (λ (hop : Hop). same_ingress hop.from ingress) row.tree.items hop.0 hop.1 in
    record { hop = hop.0; of_tree = kept.0; from = same_ingress_true hop.0.from ingress kept.1; is_link = hop.2 }

-- and all of them
pub by_goes : (row : Row) (ingress : Option ℕ) (l : ℕ) → GoesBy row ingress l → Contains (goes_to row ingress) l
by_goes row ingress l by =
    let kept = contains_filter (λ (hop : Hop). same_ingress hop.from ingress) row.tree.items by.hop by.of_tree (true_same_ingress by.hop.from ingress by.from) in
    subst (λ z. Contains (goes_to row ingress) z) by.is_link
    (contains_map (λ (hop : Hop). hop.link) (filter (λ (hop : Hop). same_ingress hop.from ingress) row.tree.items) by.hop kept)

-- if it goes on from a bridge, it does so by a link that leaves the bridge
pub goes_on_by : (d : Domain) (row : Row) (ingress : Option ℕ) (bridge : ℕ) → goes_on d row ingress bridge ≡ true → (l : ℕ) × GoesBy row ingress l ×
    (leaves d l bridge ≡ true)
goes_on_by d row ingress bridge e =
    let r = any_member (λ l. leaves d l bridge) (goes_to row ingress) e in
    (r.0, goes_by row ingress r.0 r.1, r.2)

-- and if there is such a link, it goes on
pub by_goes_on : (d : Domain) (row : Row) (ingress : Option ℕ) (l bridge : ℕ) → GoesBy row ingress l → leaves d l bridge ≡ true → goes_on d row ingress bridge ≡ true
by_goes_on d row ingress l bridge by here = member_any (λ l. leaves d l bridge) (goes_to row ingress) l (by_goes row ingress l by) here

-- rows with the same tree go by the same links
pub same_goes : (early late : Row) (ingress : Option ℕ) (l : ℕ) → early.tree.items ≡ late.tree.items → GoesBy early ingress l → GoesBy late ingress l
same_goes early late ingress l tree by = record { hop = by.hop; of_tree = subst (λ z. Contains z by.hop) tree by.of_tree; from = by.from; is_link = by.is_link }

-- they go on from the same bridges
pub same_goes_on : (d : Domain) (early late : Row) (ingress : Option ℕ) (bridge : ℕ) → early.tree.items ≡ late.tree.items → goes_on d early ingress bridge ≡ true →
    goes_on d late ingress bridge ≡ true
same_goes_on d early late ingress bridge tree e =
    let r = goes_on_by d early ingress bridge e in
    by_goes_on d late ingress r.0 bridge (same_goes early late ingress r.0 tree r.1) r.2

-- and have the same hop numbers
pub same_hop : (early late : Row) (hop_number l : ℕ) → early.tree.items ≡ late.tree.items → IsHop early hop_number l → IsHop late hop_number l
same_hop early late hop_number l tree at =
    record { hop = at.hop; of_tree = subst (λ z. Contains z at.hop) tree at.of_tree; is_hop_number = at.is_hop_number; is_link = at.is_link }

-- a link that is on the tree is crossed
pub hop_crosses : (row : Row) (hop_number l : ℕ) → IsHop row hop_number l → crosses row l ≡ true
hop_crosses row hop_number l at =
    let on = contains_map (λ (hop : Hop). hop.link) row.tree.items at.hop at.of_tree in
    member_any (λ k. k == l) _ at.hop.link on (eq-eqb at.hop.link l at.is_link)

-- and used in its turn
pub hop_uses : (row : Row) (hop_number l cycle : ℕ) → IsHop row hop_number l → is_active row.pace hop_number cycle ≡ true → uses row.tree.items row.pace l cycle ≡ true
hop_uses row hop_number l cycle at active_cycle =
    member_any (λ (hop : Hop). (hop.link == l) && is_active row.pace hop.hop_number cycle) row.tree.items at.hop at.of_tree
    (and_from (at.hop.link == l) (is_active row.pace at.hop.hop_number cycle) (eq-eqb at.hop.link l at.is_link)
    (ap (λ k. is_active row.pace k cycle) at.is_hop_number ∙ active_cycle))

-- and its hop number is at most the residence
pub hop_within : (row : Row) (hop_number l : ℕ) → IsHop row hop_number l → hop_number ≤ residence row
hop_within row hop_number l at = omega (arith, within_deepest 0 row.tree.items at.hop at.of_tree, at.is_hop_number)

module _ (d : Domain) (row : Row) (good : IsTree d row.tree.items) where
  -- a link occurs in a tree once
  pub one_hop : (a b : Hop) → Contains row.tree.items a → Contains row.tree.items b → a.link ≡ b.link → a ≡ b
  one_hop a b ina inb same =
      one_of_pairs (λ (x y : Hop). end_of d x.link ≡ end_of d y.link → ⊥) row.tree.items a b good.reached_once ina inb
      (λ apart. apart (ap (end_of d) same)) (λ apart. apart (ap (end_of d) (sym same)))

  -- so it has one hop number
  pub one_hop_number : (j k l : ℕ) → IsHop row j l → IsHop row k l → j ≡ k
  one_hop_number j k l a b = sym a.is_hop_number ∙ ap (λ (h : Hop). h.hop_number) (one_hop a.hop b.hop a.of_tree b.of_tree (a.is_link ∙ sym b.is_link)) ∙ b.is_hop_number

  -- and frames reach it one way
  pub one_ingress : (one two : Option ℕ) (l : ℕ) → GoesBy row one l → GoesBy row two l → one ≡ two
  one_ingress one two l a b = sym a.from ∙ ap (λ (h : Hop). h.from) (one_hop a.hop b.hop a.of_tree b.of_tree (a.is_link ∙ sym b.is_link)) ∙ b.from

  -- the links of a tree are the domain's
  pub goes_inside : (ingress : Option ℕ) (l : ℕ) → GoesBy row ingress l → l < length d.links
  goes_inside ingress l by = subst (λ z. z < length d.links) by.is_link
      (All-contains (λ (hop : Hop). hop.link < length d.links) row.tree.items by.hop good.inside by.of_tree)

  -- the same by the hop number
  pub hop_inside : (hop_number l : ℕ) → IsHop row hop_number l → l < length d.links
  hop_inside hop_number l at = subst (λ z. z < length d.links) at.is_link
      (All-contains (λ (hop : Hop). hop.link < length d.links) row.tree.items at.hop good.inside at.of_tree)

  -- what follows a link follows a hop of the tree
  followed : (m : ℕ) (hop : Hop) → Contains row.tree.items hop → hop.from ≡ Some m → (before : Hop) × Contains row.tree.items before × (before.link ≡ m) ×
      Follows d before hop
  followed m hop c from =
      let r = good.follows c.0 m hop (slice_get_read row.tree.items (length row.tree.items) c.0 hop refl c.1 (sym c.2)) from in
      let same : Some r.0.link ≡ Some m = sym r.2.from ∙ from in
      (r.0, contains_take c.0 row.tree.items r.0 r.1, cc, r.2)

  -- no hop has hop number 0
  pub hop_number_some : (hop : Hop) → Contains row.tree.items hop → 0 < hop.hop_number
  hop_number_some hop c = go hop.from refl
    where
      go : (from : Option ℕ) → hop.from ≡ from → 0 < hop.hop_number
      go None e = omega (arith, (good.begins hop c e).0)
      go (Some m) e = omega (arith, (followed m hop c e).3.deeper)

  -- the first links have hop number 1
  pub first_hops_begin : (l : ℕ) → GoesBy row None l → IsHop row 1 l
  first_hops_begin l by = record { hop = by.hop; of_tree = by.of_tree; is_hop_number = (good.begins by.hop by.of_tree by.from).0; is_link = by.is_link }

  -- a link that follows another has the next hop number
  pub hops_follow : (k m l : ℕ) → IsHop row k m → GoesBy row (Some m) l → IsHop row (k + 1) l
  hops_follow k m l at by =
      let r = followed m by.hop by.of_tree by.from in
      let hop_number : r.0.hop_number ≡ k = one_hop_number r.0.hop_number k m (record { hop = r.0; of_tree = r.1; is_hop_number = refl; is_link = r.2 }) at in
      record { hop = by.hop; of_tree = by.of_tree; is_hop_number = r.3.deeper ∙ ap (λ z. z + 1) hop_number; is_link = by.is_link }

  -- and a link with a hop number greater than 1 follows a link
  pub hops_are_reached : (k l : ℕ) → 0 < k → IsHop row (k + 1) l → (m : ℕ) × IsHop row k m × GoesBy row (Some m) l
  hops_are_reached k l some at = go at.hop.from refl
    where
      go : (from : Option ℕ) → at.hop.from ≡ from → (m : ℕ) × IsHop row k m × GoesBy row (Some m) l
      go None e = absurd (omega (arith, (good.begins at.hop at.of_tree e).0, at.is_hop_number, some))
      go (Some m) e =
          let r = followed m at.hop at.of_tree e in (
            m,
            record { hop = r.0; of_tree = r.1; is_hop_number = omega (arith, r.3.deeper, at.is_hop_number); is_link = r.2 },
            record { hop = at.hop; of_tree = at.of_tree; from = e; is_link = at.is_link },
          )

  -- a link with hop number 1 is taken from the edge
  pub first_is_begun : (l : ℕ) → IsHop row 1 l → GoesBy row None l
  first_is_begun l at = go at.hop.from refl
    where
      go : (from : Option ℕ) → at.hop.from ≡ from → GoesBy row None l
      go None e = record { hop = at.hop; of_tree = at.of_tree; from = e; is_link = at.is_link }
      go (Some m) e =
          let r = followed m at.hop at.of_tree e in
          absurd (omega (arith, r.3.deeper, at.is_hop_number, hop_number_some r.0 r.1))

  -- a link that is followed ends in the bridge that the next one leaves
  pub goes_into : (m l : ℕ) → GoesBy row (Some m) l → enters d m (bridge_of d l) ≡ true
  goes_into m l by =
      let r = followed m by.hop by.of_tree by.from in
      joined_enters d m l (subst (λ z. joins d m z ≡ true) by.is_link (subst (λ z. joins d z by.hop.link ≡ true) r.2 r.3.joined))

  -- from a bridge in which a link of the tree ends, the stream goes on after that link
  pub goes_on_after : (k m bridge : ℕ) → IsHop row k m → enters d m bridge ≡ true → goes_on d row (Some m) bridge ≡ true
  goes_on_after k m bridge at here =
      let next = good.ends at.hop bridge at.of_tree (subst (λ z. enters d z bridge ≡ true) (sym at.is_link) here) in
      let from : next.0.from ≡ Some m = next.2.from ∙ ap Some at.is_link in
      let there = joined_leaves d m next.0.link bridge (subst (λ z. joins d z next.0.link ≡ true) at.is_link next.2.joined) here in
      by_goes_on d row (Some m) next.0.link bridge (record { hop = next.0; of_tree = next.1; from = from; is_link = refl }) there

  -- a link that is taken from the edge leaves the first bridge
  begins_first : (bridge : ℕ) → goes_on d row None bridge ≡ true → good.first ≡ bridge
  begins_first bridge e =
      let r = goes_on_by d row None bridge e in
      let leaving = (good.begins r.1.hop r.1.of_tree r.1.from).1 in
      sym (its_bridge d r.0 good.first (subst (λ z. leaves d z good.first ≡ true) r.1.is_link leaving)) ∙ its_bridge d r.0 bridge r.2

  -- a link that is taken after another one leaves the bridge in which that one ends, which is a link of the tree
  goes_on_enters : (m bridge : ℕ) → goes_on d row (Some m) bridge ≡ true → (before : Hop) × Contains row.tree.items before × (before.link ≡ m) ×
      (enters d before.link bridge ≡ true)
  goes_on_enters m bridge e =
      let r = goes_on_by d row (Some m) bridge e in
      let b = followed m r.1.hop r.1.of_tree r.1.from in (
        b.0,
        b.1,
        b.2,
        subst (λ z. enters d b.0.link z ≡ true) (its_bridge d r.0 bridge r.2)
            (subst (λ z. enters d z (bridge_of d r.0) ≡ true) (sym b.2) (goes_into m r.0 r.1)),
      )

  -- no link of the tree ends in the bridge at which the tree begins
  not_both : (m bridge : ℕ) → goes_on d row None bridge ≡ true → goes_on d row (Some m) bridge ≡ true → ⊥
  not_both m bridge a b =
      let e = goes_on_enters m bridge b in
      false≢true (sym (All-contains (λ (hop : Hop). enters d hop.link good.first ≡ false) row.tree.items e.0 good.first_not_reached e.1)
      ∙ subst (λ z. enters d e.0.link z ≡ true) (sym (begins_first bridge a)) e.3)

  -- frames reach a bridge one way
  pub one_ingress_at : (one two : Option ℕ) (bridge : ℕ) → goes_on d row one bridge ≡ true → goes_on d row two bridge ≡ true → one ≡ two
  one_ingress_at None None bridge a b = refl
  one_ingress_at None (Some m) bridge a b = absurd (not_both m bridge a b)
  one_ingress_at (Some m) None bridge a b = absurd (not_both m bridge b a)
  one_ingress_at (Some m) (Some k) bridge a b =
      let x = goes_on_enters m bridge a in
      let y = goes_on_enters k bridge b in
      let ends : end_of d x.0.link ≡ end_of d y.0.link = enters_end d x.0.link bridge x.3 ∙ sym (enters_end d y.0.link bridge y.3) in
      let same : x.0 ≡ y.0 = one_of_pairs (λ (x y : Hop). end_of d x.link ≡ end_of d y.link → ⊥) row.tree.items x.0 y.0 good.reached_once x.1 y.1
      (λ apart. apart ends) (λ apart. apart (sym ends)) in
      ap Some (sym x.2 ∙ ap (λ (h : Hop). h.link) same ∙ y.2)

  -- and a tree begins at one bridge
  pub one_beginning : (one two : ℕ) → goes_on d row None one ≡ true → goes_on d row None two ≡ true → one ≡ two
  one_beginning one two a b = sym (begins_first one a) ∙ begins_first two b

  -- after a link of the tree a frame has the link's hop number
  pub hop_number_is : (k m : ℕ) → IsHop row k m → hop_number_after row (Some m) ≡ k
  hop_number_is k m at =
      let found = find_some (λ (hop : Hop). hop.link == m) row.tree.items at.hop at.of_tree (eq-eqb at.hop.link m at.is_link) in
      let member = find_member (λ (hop : Hop). hop.link == m) row.tree.items found.0 found.1 in
      let same = one_hop found.0 at.hop member.0 at.of_tree (eqb-true found.0.link m member.1 ∙ sym at.is_link) in
      ap (λ (o : Option Hop). option_map_or (λ (hop : Hop). hop.hop_number) o 0) found.1 ∙ ap (λ (hop : Hop). hop.hop_number) same ∙ at.is_hop_number

  -- so the link by which it goes on has the next hop number
  pub hop_number_rises : (ingress : Option ℕ) (l : ℕ) → GoesBy row ingress l → IsHop row (hop_number_after row ingress + 1) l
  hop_number_rises None l by = first_hops_begin l by
  hop_number_rises (Some m) l by =
      let r = followed m by.hop by.of_tree by.from in
      let at : IsHop row r.0.hop_number m = record { hop = r.0; of_tree = r.1; is_hop_number = refl; is_link = r.2 } in
      subst (λ k. IsHop row (k + 1) l) (sym (hop_number_is r.0.hop_number m at)) (hops_follow r.0.hop_number m l at by)

  -- and what passes in its turn uses that link in the next cycle
  pub uses_next : (ingress : Option ℕ) (l cycle : ℕ) → GoesBy row ingress l → is_active row.pace (hop_number_after row ingress) cycle ≡ true →
      uses row.tree.items row.pace l (cycle + 1) ≡ true
  uses_next ingress l cycle by active_cycle =
      hop_uses row (hop_number_after row ingress + 1) l (cycle + 1) (hop_number_rises ingress l by) (active_cycle_on row.pace (hop_number_after row ingress) cycle 1 active_cycle)
