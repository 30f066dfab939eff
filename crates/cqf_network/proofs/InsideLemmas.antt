-- The ends of a network file's links are nodes of the file.
use Rattle.std.proofs.Common.{◌≡◌, ℕ, All, Bool, true, false, List, [], ◌∷◌, ◌++◌, Option, Some, None, Result, Ok, Err, cond, length, ok_or, arith, refl, subst}
use Rattle.std.specs.Prelude.{suc}
use Rattle.std.specs.Option.{ForSome}
use Rattle.std.proofs.lemmas.Bool.Decides.{nat_tests}
use Rattle.std.proofs.lemmas.List.Elements.{All-append, All-cons, All-nil}
use Rattle.cqf_model.specs.declared.topology.Node.{Node}
use Rattle.cqf_model.specs.declared.topology.Node.TheVariants.{Bridge, Station}
use Rattle.cqf_model.specs.Domain.{node_or}
use Rattle.cqf_topology.specs.declared.faults.DomainFault.TheVariants.{UnknownName}
use Rattle.cqf_topology.specs.DomainText.{index_of, with_front}
use Rattle.cqf_topology.specs.LinkTimes.{AreReadTimes}
use Rattle.cqf_topology.proofs.Accepted.{index-within}
use Rattle.cqf_topology.proofs.Refusals.{and_then-Ok, ok_or-Ok}
use Rattle.cqf_network.specs.declared.draft.NetworkLink.{NetworkLink}
use Rattle.cqf_network.specs.declared.draft.OneDirection.{OneDirection}
use Rattle.cqf_network.specs.declared.faults.NetworkFault.{NetworkFault}
use Rattle.cqf_network.specs.declared.faults.NetworkFault.TheVariants.{Domain}
use Rattle.cqf_network.specs.Edges.{Edge, back_of, edges_of, end_named, is_talkers, joined, joined_edge, may_lead, without_other}
use Rattle.cqf_network.specs.NetworkDomain.{EdgeInside, IsFrameSize, IsReadLink, NodeInside}

-- a node that is found is one of the file
named_inside : (bridges stations : List (List ℕ)) (name : List ℕ) (node : Node) → end_named bridges stations name ≡ Some node →
    NodeInside (length bridges) (length stations) node
named_inside bridges stations name node e = by (index_of name bridges) (index_of name stations) refl refl e
  where
    by : (b s : Option ℕ) → index_of name bridges ≡ b → index_of name stations ≡ s → node_or b s ≡ Some node → NodeInside (length bridges) (length stations) node
    by (Some b) s is_b is_s found =
        let same : Bridge b ≡ node = cc in subst (NodeInside (length bridges) (length stations)) same (index-within name bridges b is_b)
    by None (Some s) is_b is_s found =
        let same : Station s ≡ node = cc in subst (NodeInside (length bridges) (length stations)) same (index-within name stations s is_s)
    by None None is_b is_s found = absurd cc

-- what joining gives of an edge: its ends are there, it may lead from the one to the other, and its times and the size of frames beside
-- streams are such as are read
pub record IsJoinedEdge (bridges stations : ℕ) (edge : Edge) : Type 0 where
  pub inside : EdgeInside bridges stations edge
  pub may : may_lead edge.from edge.to ≡ true
  pub times_are_read : AreReadTimes edge.times
  pub other_is_read : ForSome edge.other IsFrameSize

-- so is a link that is joined
edge_joined : (bridges stations : List (List ℕ)) (element : ℕ) (other : Option ℕ) (path : OneDirection) (edge : Edge) → AreReadTimes path.times →
    ForSome other IsFrameSize → joined_edge bridges stations element other path ≡ Ok edge → IsJoinedEdge (length bridges) (length stations) edge
edge_joined bridges stations element other path edge read size e =
    let (from, from_is, rest) = and_then-Ok (ok_or (end_named bridges stations path.from) (Domain (UnknownName path.from))) _ edge e in
    let (to, to_is, last) = and_then-Ok (ok_or (end_named bridges stations path.to) (Domain (UnknownName path.to))) _ edge rest in
    by from to (may_lead from to) refl
    (named_inside bridges stations path.from from (ok_or-Ok _ (Domain (UnknownName path.from)) from from_is))
    (named_inside bridges stations path.to to (ok_or-Ok _ (Domain (UnknownName path.to)) to to_is)) last
  where
    by : (from to : Node) (may : Bool) → may_lead from to ≡ may → NodeInside (length bridges) (length stations) from →
        NodeInside (length bridges) (length stations) to →
        cond may (Ok (record { from = from; to = to; times = path.times; other = other; element = element })) (Err (Domain (UnknownName path.to))) ≡ Ok edge →
        IsJoinedEdge (length bridges) (length stations) edge
    by from to true may from_in to_in found =
        let made : Edge = record { from = from; to = to; times = path.times; other = other; element = element } in
        let same : made ≡ edge = cc in
        subst (IsJoinedEdge (length bridges) (length stations)) same
        (record { inside = record { from_inside = from_in; to_inside = to_in }; may = may; times_are_read = read; other_is_read = size })
    by from to false may from_in to_in found = absurd cc

-- a link that may lead there may lead back
may_lead_back : (from to : Node) → may_lead from to ≡ true → may_lead to from ≡ true
may_lead_back (Bridge a) (Bridge b) may = grind (arith, nat_tests)
may_lead_back (Bridge a) (Station s) may = refl
may_lead_back (Station s) (Bridge b) may = refl
may_lead_back (Station s) (Station t) may = absurd cc

module _ (bridges stations : ℕ) (edge : Edge) (is : IsJoinedEdge bridges stations edge) where
  -- so is the same link back, and the same link where nothing is said of frames beside streams
  back_joined : IsJoinedEdge bridges stations (back_of edge)
  back_joined = record {
    inside = record { from_inside = is.inside.to_inside; to_inside = is.inside.from_inside };
    may = may_lead_back edge.from edge.to is.may;
    times_are_read = is.times_are_read;
    other_is_read = is.other_is_read;
  }

  unsaid_joined : IsJoinedEdge bridges stations (without_other edge)
  unsaid_joined = record {
    inside = record { from_inside = is.inside.from_inside; to_inside = is.inside.to_inside };
    may = is.may;
    times_are_read = is.times_are_read;
    other_is_read = λ octets said. absurd cc;
  }

-- two edges that are joined
two_joined : (bridges stations : ℕ) (a b : Edge) → IsJoinedEdge bridges stations a → IsJoinedEdge bridges stations b →
    All (IsJoinedEdge bridges stations) (a ∷ b ∷ [])
two_joined bridges stations a b first second =
    All-cons (IsJoinedEdge bridges stations) a (b ∷ []) first
    (All-cons (IsJoinedEdge bridges stations) b [] second (All-nil (IsJoinedEdge bridges stations)))

-- and so are a link's directions
directions_joined : (bridges stations : ℕ) (duplex : Bool) (edge : Edge) → IsJoinedEdge bridges stations edge →
    All (IsJoinedEdge bridges stations) (edges_of duplex edge)
directions_joined bridges stations true edge is = by (is_talkers (back_of edge))
  where
    by : (talkers : Bool) →
        All (IsJoinedEdge bridges stations) (cond talkers (without_other edge ∷ back_of edge ∷ []) (edge ∷ without_other (back_of edge) ∷ []))
    by true = two_joined bridges stations (without_other edge) (back_of edge) (unsaid_joined bridges stations edge is) (back_joined bridges stations edge is)
    by false =
        two_joined bridges stations edge (without_other (back_of edge)) is
        (unsaid_joined bridges stations (back_of edge) (back_joined bridges stations edge is))
directions_joined bridges stations false edge is = All-cons (IsJoinedEdge bridges stations) edge [] is (All-nil (IsJoinedEdge bridges stations))

-- the links after the first
later_read : (link : NetworkLink) (links : List NetworkLink) → All IsReadLink (link ∷ links) → All IsReadLink links
later_read link links read k d within = read (suc k) d (omega (arith, within))

-- and of all
pub all_joined : (bridges stations : List (List ℕ)) (element : ℕ) (links : List NetworkLink) (edges : List Edge) →
    All IsReadLink links → joined bridges stations element links ≡ Ok edges →
    All (IsJoinedEdge (length bridges) (length stations)) edges
all_joined bridges stations element [] edges read e =
    let same : [] ≡ edges = cc in subst (All (IsJoinedEdge (length bridges) (length stations))) same (All-nil (IsJoinedEdge (length bridges) (length stations)))
all_joined bridges stations element (link ∷ links) edges read e =
    let (edge, edge_is, more) = and_then-Ok (joined_edge bridges stations element link.other link.there) _ edges e in
    let first : IsReadLink link = read 0 link (omega arith) in
    by (λ rest is. all_joined bridges stations (suc element) links rest (later_read link links read) is) edge
    (joined bridges stations (suc element) links) refl
    (edge_joined bridges stations element link.other link.there edge first.times_are_read first.other_is_read edge_is) more
  where
    by : ((rest : List Edge) → joined bridges stations (suc element) links ≡ Ok rest → All (IsJoinedEdge (length bridges) (length stations)) rest) →
        (edge : Edge) (r : Result (List Edge) NetworkFault) → joined bridges stations (suc element) links ≡ r →
        IsJoinedEdge (length bridges) (length stations) edge → with_front (edges_of link.duplex edge) r ≡ Ok edges →
        All (IsJoinedEdge (length bridges) (length stations)) edges
    by later edge (Ok rest) is inside whole =
        let same : edges_of link.duplex edge ++ rest ≡ edges = cc in
        subst (All (IsJoinedEdge (length bridges) (length stations))) same
        (All-append (IsJoinedEdge (length bridges) (length stations)) (edges_of link.duplex edge) rest
        (directions_joined (length bridges) (length stations) link.duplex edge inside) (later rest is))
    by later edge (Err fault) is inside whole = absurd cc

-- their ends are there
pub all_inside : (bridges stations : ℕ) (edges : List Edge) → All (IsJoinedEdge bridges stations) edges → All (EdgeInside bridges stations) edges
all_inside bridges stations edges all k d within = (all k d within).inside
