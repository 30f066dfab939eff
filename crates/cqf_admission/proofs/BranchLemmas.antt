-- The indexes of a branch.
use Rattle.std.proofs.Common.{◌≡◌, ℕ, ◌+◌, ◌-◌, ◌<◌, ◌≤◌, Bool, true, false, List, Option, Some, None, [], ◌∷◌, ◌++◌}
use Rattle.std.proofs.Common.{◌||◌, ◌&&◌, ◌==◌, not, length, get_or, refl, ap}
use Rattle.std.proofs.Common.{◌∙◌, sym, arith, inl, inr, take, length-append}
use Rattle.std.specs.Prelude.{All, String, Vec, string_bytes, map, option_map, if◌then◌else◌, zero, suc, slice_get, nat_le, nat_lt, is_none}
use Rattle.std.specs.List.{flat_map, list_any}
use Rattle.std.specs.declared.alloc.Global.{Global}
use Rattle.std.specs.Option.{option_map_or}
use Rattle.std.proofs.Math.Nat.{min-le_right}
use Rattle.std.proofs.lemmas.Bool.{and_from, both_ways, cases_lt, eq-eqb, lt-ltb, or_parts}
use Rattle.std.proofs.lemmas.List.{length-map, take-map}
use Rattle.std.proofs.lemmas.Option.{slice_get-map, slice_get_past, slice_get_read}
use Rattle.std.proofs.lemmas.List.Elements.{All-cons, All-nil}
use Rattle.cqf_model.specs.declared.topology.Node.{Node}
use Rattle.cqf_model.specs.Domain.{Domain, is_text, node_named, same_node}
use Rattle.cqf_model.proofs.Links.{same_node_itself, same_node_true}
use Rattle.cqf_model.proofs.Texts.{is_text_itself, is_text_same, named_once}
use Rattle.cqf_lists.proofs.Indices.{first_stays}
use Rattle.cqf_lists.specs.Lists.{least, each_below}
use Rattle.cqf_lists.proofs.Least.{least_none, or_else_none, unmapped_none}
use Rattle.cqf_model.specs.History.{Branch, broken_index, first_index, is_bridge, is_broken_at, is_loop_at, is_same, link_at, node_at}
use Rattle.cqf_model.specs.Limits.{nodes_within}
use Rattle.cqf_lists.proofs.Any.{list_any-map}
use Rattle.cqf_admission.specs.Branches.{branch_of, branches_of, indices_of}

-- if no number below a bound passes, there is no least one
none_listed : (test : ℕ → Bool) (n : ℕ) → ((k : ℕ) → k < n → test k ≡ false) → each_below (λ k. if test k then k ∷ [] else []) n ≡ []
none_listed test zero h = refl
none_listed test (suc n) h =
    ap (λ (xs : List ℕ). xs ++ (if test n then n ∷ [] else [])) (none_listed test n (λ k l. h k (omega (arith, l))))
    ∙ ap (λ (b : Bool). if b then n ∷ [] else []) (h n (omega arith))

-- if no number passes, there is no least one
pub least_none_from : (test : ℕ → Bool) (n : ℕ) → ((k : ℕ) → k < n → test k ≡ false) → None ≡ least test n
least_none_from test n h = sym (ap (λ (xs : List ℕ). slice_get xs 0) (none_listed test n h))

-- the first number that passes is the least one
least_is : (test : ℕ → Bool) (n k : ℕ) → k < n → test k ≡ true → ((j : ℕ) → j < k → test j ≡ false) → least test n ≡ Some k
least_is test zero k h t below = absurd (omega (arith, h))
least_is test (suc n) k h t below =
    elim (cases_lt k n) [
      | inl l ↦ first_stays (each_below (λ i. if test i then i ∷ [] else []) n) (if test n then n ∷ [] else []) k (least_is test n k l t below)
      | inr g ↦ (let same : n ≡ k = omega (arith, g, h) in
          let nothing = none_listed test n (λ j l. below j (omega (arith, l, same))) in
          ap (λ (xs : List ℕ). slice_get (xs ++ (if test n then n ∷ [] else [])) 0) nothing
          ∙ ap (λ (b : Bool). slice_get (if b then n ∷ [] else []) 0) (ap test same ∙ t) ∙ ap (λ (i : ℕ). Some i) same)
    ]

-- the first number that passes is found
pub least_found : (test : ℕ → Bool) (n k : ℕ) → k < n → test k ≡ true → ((j : ℕ) → j < k → test j ≡ false) → Some k ≡ least test n
least_found test n k h t below = sym (least_is test n k h t below)

-- whether a node occurred earlier, found by comparing names
looping_is : {S : Type 0} (bytes : S → List ℕ) (d : Domain) (path earlier : List S) (index : ℕ) (node : Option Node) (stands : Bool) →
    stands ≡ list_any (λ name. is_same (node_named d (bytes name)) node) earlier → earlier ≡ take index path → node ≡ node_at d (map bytes path) index →
    stands ≡ is_loop_at d (map bytes path) index
looping_is {S} bytes d path earlier index node stands found front here =
    found
    ∙ ap (λ (xs : List S). list_any (λ name. is_same (node_named d (bytes name)) node) xs) front
    ∙ sym (list_any-map (λ name. is_same (node_named d name) node) bytes (take index path))
    ∙ ap (λ (names : List (List ℕ)). list_any (λ name. is_same (node_named d name) node) names) (sym (take-map bytes index path))
    ∙ ap (λ (n : Option Node). list_any (λ name. is_same (node_named d name) n) (take index (map bytes path))) here

-- two names are equal if and only if their nodes are the same
same_by_name : (d : Domain) (a b : List ℕ) (node : Node) → node_named d a ≡ Some node → is_text a b ≡ is_same (node_named d b) (Some node)
same_by_name d a b node here = by (is_text a b) (node_named d b) refl refl
  where
    -- if the names differ, their nodes differ too
    apart : (other : Node) (test : Bool) → is_text a b ≡ false → node_named d b ≡ Some other → same_node other node ≡ test → false ≡ test
    apart other false differs there same = refl
    apart other true differs there same =
        let one : a ≡ b = named_once d a b node here (there ∙ ap (λ (n : Node). Some n) (same_node_true other node same)) in
        sym differs ∙ ap (λ (text : List ℕ). is_text text b) one ∙ is_text_itself b

    -- a name is this one if and only if it finds the same node
    by : (test : Bool) (found : Option Node) → is_text a b ≡ test → node_named d b ≡ found → test ≡ is_same found (Some node)
    by true found same there =
        let known : found ≡ Some node = sym there ∙ ap (node_named d) (sym (is_text_same a b same)) ∙ here in
        sym (ap (λ (o : Option Node). is_same o (Some node)) known ∙ same_node_itself node)
    by false None differs there = refl
    by false (Some other) differs there = apart other (same_node other node) differs there refl

-- no node is the same as a missing node
same_as_none : (node : Option Node) → is_same node None ≡ false
same_as_none None = refl
same_as_none (Some node) = refl

-- no node of the names is the same as a missing node
none_stand : (d : Domain) (names : List (List ℕ)) → list_any (λ name. is_same (node_named d name) None) names ≡ false
none_stand d [] = refl
none_stand d (name ∷ names) = rw (same_as_none (node_named d name), none_stand d names) refl

-- a missing node didn't occur earlier
not_looping : (d : Domain) (branch : Branch) (index : ℕ) → node_at d branch index ≡ None → false ≡ is_loop_at d branch index
not_looping d branch index none =
    sym (ap (λ (n : Option Node). list_any (λ name. is_same (node_named d name) n) (take index branch)) none ∙ none_stand d (take index branch))

-- after the last node of a path, none occurred earlier
pub not_looping_past : {S : Type 0} (bytes : S → List ℕ) (d : Domain) (path : List S) (index : ℕ) → length path ≤ index
    → false ≡ is_loop_at d (map bytes path) index
not_looping_past bytes d path index past =
    not_looping d (map bytes path) index
    (ap (λ (o : Option (List ℕ)). option_map_or (λ name. node_named d name) o None)
    (slice_get_past (map bytes path) index (omega (arith, length-map path bytes))))

-- the node at an index is that of the name there
pub node_of_name : {S : Type 0} (bytes : S → List ℕ) (d : Domain) (path : List S) (index : ℕ) (name : S) → index < length path
    → name ≡ get_or path index name → node_at d (map bytes path) index ≡ node_named d (bytes name)
node_of_name bytes d path index name inside is =
    ap (λ (o : Option (List ℕ)). option_map_or (λ text. node_named d text) o None)
    (slice_get-map bytes path index ∙ ap (option_map bytes) (slice_get_read path (length path) index name refl inside is))

-- if there is no node at an index, none occurred earlier
pub not_looping_unknown : (d : Domain) (branch : Branch) (index : ℕ) → is_none (node_at d branch index) ≡ true → false ≡ is_loop_at d branch index
not_looping_unknown d branch index unknown = not_looping d branch index (none_there (node_at d branch index) unknown)
  where
    -- if the test finds no node, there is none
    none_there : (node : Option Node) → is_none node ≡ true → node ≡ None
    none_there None h = refl
    none_there (Some node) h = absurd cc

-- a known node occurred earlier if and only if its name did
pub looping_by_name : {S : Type 0} (bytes : S → List ℕ) (d : Domain) (path earlier : List S) (index : ℕ) (name : S) (stands : Bool)
    → index < length path → name ≡ get_or path index name → is_none (node_named d (bytes name)) ≡ false
    → stands ≡ list_any (λ other. is_text (bytes name) (bytes other)) earlier → earlier ≡ take index path → stands ≡ is_loop_at d (map bytes path) index
looping_by_name {S} bytes d path earlier index name stands inside is known found front = by (node_named d (bytes name)) refl known
  where
    -- the name occurred earlier if and only if its node did
    by : (node : Option Node) → node_named d (bytes name) ≡ node → is_none node ≡ false → stands ≡ is_loop_at d (map bytes path) index
    by None here none = absurd cc
    by (Some node) here none =
        let tests : (λ (other : S). is_text (bytes name) (bytes other)) ≡ (λ (other : S). is_same (node_named d (bytes other)) (Some node)) =
        (λ i. λ (other : S). same_by_name d (bytes name) (bytes other) node here i) in
        looping_is bytes d path earlier index (Some node) stands (found ∙ ap (λ (test : S → Bool). list_any test earlier) tests) front
        (sym (node_of_name bytes d path index name inside is ∙ here))

-- a branch that isn't broken has at most 65 nodes
few_nodes : (d : Domain) (branch : Branch) → least (is_broken_at d branch) (length branch + 1) ≡ None → length branch ≤ 65
few_nodes d branch e =
    let most = nodes_within d.limits in
    elim (cases_lt most (length branch)) [
      | inr g ↦ omega (arith, g, min-le_right d.limits.nodes 65)
      | inl l ↦ (let whole = least_none (is_broken_at d branch) (length branch + 1) e most (omega (arith, l)) in
          let no_bridge_first = (most == 0) && not (is_bridge (node_at d branch 0)) in
          let no_link = nat_le 1 most && nat_lt most (length branch) && is_none (link_at d branch (most - 1)) in
          let bridge_last = (most + 1 == length branch) && is_bridge (node_at d branch most) in
          let too_many : Bool = (most == most) && nat_lt most (length branch) in
          let long : too_many ≡ true = and_from (most == most) (nat_lt most (length branch)) (eq-eqb most most refl) (lt-ltb most (length branch) l) in
          absurd (both_ways too_many (or_parts (no_bridge_first || no_link || bridge_last) too_many whole).1 long))
    ]

-- if no index is broken, each branch has at most 65 nodes
few_in_each : (d : Domain) (paths : List Branch) → first_index (is_broken_at d) paths ≡ None → All (λ (branch : Branch). length branch ≤ 65) paths
few_in_each d [] e = All-nil (λ (branch : Branch). length branch ≤ 65)
few_in_each d (x ∷ paths) e =
    let parts = or_else_none (least (is_broken_at d x) (length x + 1)) (option_map (λ index. length x + index) (first_index (is_broken_at d) paths)) e in
    All-cons (λ (branch : Branch). length branch ≤ 65) x paths (few_nodes d x parts.0)
    (few_in_each d paths (unmapped_none (λ index. length x + index) (first_index (is_broken_at d) paths) parts.1))

-- if the branches are whole, each has at most 65 nodes
pub few_in_all : (d : Domain) (paths : List Branch) → broken_index d paths ≡ None → All (λ (branch : Branch). length branch ≤ 65) paths
few_in_all d [] e = absurd cc
few_in_all d (x ∷ paths) e = few_in_each d (x ∷ paths) e

-- the number of names in a branch and in those after it
indices_more : (p : Vec (String Global) Global) (paths : List (Vec (String Global) Global)) →
    indices_of (branches_of (p ∷ paths)) ≡ length p.items + indices_of (branches_of paths)
indices_more p paths =
    length-append (branch_of p.items) (flat_map (λ b. b) (branches_of paths))
    ∙ ap (λ (n : ℕ). n + indices_of (branches_of paths)) (length-map p.items string_bytes)

-- the names in the branches before a branch, and its own, are among those of all
pub indices_within : (paths : List (Vec (String Global) Global)) (index : ℕ) (branch : Vec (String Global) Global) → index < length paths →
    get_or paths index branch ≡ branch → indices_of (branches_of (take index paths)) + length branch.items ≤ indices_of (branches_of paths)
indices_within [] index branch inside is = absurd (omega (arith, inside))
indices_within (p ∷ paths) zero branch inside is =
    omega (arith, indices_more p paths, ap (λ (b : Vec (String Global) Global). length b.items) is)
indices_within (p ∷ paths) (suc index) branch inside is =
    omega (arith, indices_more p paths, indices_more p (take index paths), indices_within paths index branch (omega (arith, inside)) is)
