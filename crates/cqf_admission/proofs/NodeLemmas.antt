-- The nodes of names, looked up once.
use Rattle.std.proofs.Common.{◌≡◌, ℕ, ◌+◌, ◌<◌, Bool, true, false, List, Option, Some, None, [], ◌∷◌, ◌++◌, length, drop, position, get_or, min}
use Rattle.std.proofs.Common.{refl, ap, ◌∙◌, sym, arith, subst, inl, inr, nat_lt, fold, take}
use Rattle.std.proofs.Math.Seq.{drop-cons, take-suc}
use Rattle.std.proofs.lemmas.List.Sums.{fold-append}
use Rattle.std.specs.Prelude.{String, Vec, if◌then◌else◌, is_none, map, option_map, string_bytes, zero, suc}
use Rattle.std.specs.List.{flat_map}
use Rattle.std.specs.declared.alloc.Global.{Global}
use Rattle.std.proofs.lemmas.Bool.{cases_Bool, cases_lt}
use Rattle.std.proofs.lemmas.List.{append_assoc, drop_all, flat_map_more, length-map, map-append}
use Rattle.cqf_model.specs.declared.topology.Hop.{Hop}
use Rattle.cqf_model.specs.declared.topology.Node.{Node}
use Rattle.cqf_model.specs.Domain.{Domain, node_named}
use Rattle.cqf_model.specs.History.{Branch, hops_along, node_at}
use Rattle.cqf_admission.specs.Branches.{AreNodes, branch_of, branches_of, keep_link, with_node}
use Rattle.cqf_admission.proofs.FaultLemmas.{position-cons}

-- if there is no room, no node is added
full : (d : Domain) (nodes : List (Option Node)) (names : List (List ℕ)) → nat_lt (length nodes) 256 ≡ false → fold (with_node d) nodes names ≡ nodes
full d nodes [] none = refl
full d nodes (x ∷ names) none =
    ap (λ (b : Bool). fold (with_node d) (if b then nodes ++ node_named d x ∷ [] else nodes) names) none ∙ full d nodes names none

-- the node of a name before others
at_each : (d : Domain) (x : List ℕ) (names more : List (List ℕ)) → AreNodes d (names ++ more) (map (node_named d) names) →
    AreNodes d (x ∷ names ++ more) (node_named d x ∷ map (node_named d) names)
at_each d x names more are zero h m = refl
at_each d x names more are (suc k) h m = are k (omega (arith, h)) (omega (arith, m))

-- the nodes of the first names are the first nodes
front : (d : Domain) (names more : List (List ℕ)) → AreNodes d (names ++ more) (map (node_named d) names)
front d [] more = λ k h m. absurd (omega (arith, h))
front d (x ∷ names) more = at_each d x names more (front d names more)

-- names looked up after others
grown : (d : Domain) (names more : List (List ℕ)) → AreNodes d (names ++ more) (fold (with_node d) (map (node_named d) names) more)
grown d names [] = front d names []
grown d names (x ∷ more) = elim (cases_Bool (nat_lt (length (map (node_named d) names)) 256)) [
  | inl t ↦ (let one : with_node d (map (node_named d) names) x ≡ map (node_named d) (names ++ x ∷ []) =
      ap (λ (b : Bool). if b then map (node_named d) names ++ node_named d x ∷ [] else map (node_named d) names) t
      ∙ sym (map-append (node_named d) names (x ∷ [])) in
      subst (λ (nodes : List (Option Node)). AreNodes d (names ++ x ∷ more) (fold (with_node d) nodes more)) (sym one)
      (subst (λ (all : List (List ℕ)). AreNodes d all (fold (with_node d) (map (node_named d) (names ++ x ∷ [])) more))
      (append_assoc names (x ∷ []) more) (grown d (names ++ x ∷ []) more)))
  | inr f ↦ subst (AreNodes d (names ++ x ∷ more)) (sym (full d (map (node_named d) names) (x ∷ more) f)) (front d names (x ∷ more))
]

-- names looked up from the first one on
pub looked_up : (d : Domain) (names : List (List ℕ)) (nodes : List (Option Node)) → nodes ≡ fold (with_node d) [] names → AreNodes d names nodes
looked_up d names nodes is = subst (AreNodes d names) (sym is) (grown d [] names)

-- the nodes of a list begin with those of its first part
of_front : (d : Domain) (names more : List (List ℕ)) (nodes : List (Option Node)) → AreNodes d (names ++ more) nodes → AreNodes d names nodes
of_front d [] more nodes are k h m = absurd (omega (arith, m))
of_front d (x ∷ names) more [] are k h m = absurd (omega (arith, h))
of_front d (x ∷ names) more (one ∷ nodes) are zero h m = are zero h (omega arith)
of_front d (x ∷ names) more (one ∷ nodes) are (suc k) h m =
    of_front d names more nodes (λ j i n. are (suc j) (omega (arith, i)) (omega (arith, n))) k (omega (arith, h)) (omega (arith, m))

-- and the rest are those of the second part
of_rest : (d : Domain) (names more : List (List ℕ)) (nodes : List (Option Node)) → AreNodes d (names ++ more) nodes →
    AreNodes d more (drop (length names) nodes)
of_rest d [] more nodes are = are
of_rest d (x ∷ names) more [] are = λ k h m. absurd (omega (arith, h))
of_rest d (x ∷ names) more (one ∷ nodes) are =
    of_rest d names more nodes (λ k h m. are (suc k) (omega (arith, h)) (omega (arith, m)))

-- nothing is left of a list from any index after its end
drop_past : {X : Type 0} (xs : List X) (n : ℕ) → drop n xs ≡ drop (min n (length xs)) xs
drop_past xs n = elim (cases_lt n (length xs)) [
  | inl t ↦ (let same : n ≡ min n (length xs) = omega (arith, t) in ap (λ (k : ℕ). drop k xs) same)
  | inr f ↦ (let same : length xs ≡ min n (length xs) = omega (arith, f) in
      drop_all n xs f ∙ sym (drop_all (length xs) xs (omega arith)) ∙ ap (λ (k : ℕ). drop k xs) same)
]

module _ (d : Domain) (paths : List (Vec (String Global) Global)) (index : ℕ) (branch : Vec (String Global) Global) (rest : List (Option Node))
    (inside : index < length paths) (is : get_or paths index branch ≡ branch)
    (are : AreNodes d (flat_map (λ b. b) (branches_of (drop index paths))) rest) where
  -- the names from a branch on are its own and those after it
  from_here : AreNodes d (branch_of branch.items ++ flat_map (λ b. b) (branches_of (drop (suc index) paths))) rest
  from_here = subst (λ (bs : List (Vec (String Global) Global)). AreNodes d (flat_map (λ b. b) (branches_of bs)) rest)
      (drop-cons paths index branch inside ∙ ap (λ (b : Vec (String Global) Global). b ∷ drop (suc index) paths) is) are

  -- so the first nodes are the branch's
  pub nodes_here : AreNodes d (branch_of branch.items) rest
  nodes_here = of_front d (branch_of branch.items) (flat_map (λ b. b) (branches_of (drop (suc index) paths))) rest from_here

  -- those after them are the next branches'
  pub nodes_next : (count : ℕ) → count ≡ length branch.items →
      AreNodes d (flat_map (λ b. b) (branches_of (drop (index + 1) paths))) (drop (min count (length rest)) rest)
  nodes_next count counted =
      let same : length (branch_of branch.items) ≡ count = length-map branch.items string_bytes ∙ sym counted in
      let next : suc index ≡ index + 1 = omega arith in
      subst (λ (k : ℕ). AreNodes d (flat_map (λ b. b) (branches_of (drop k paths))) (drop (min count (length rest)) rest)) next
      (subst (λ (n : ℕ). AreNodes d (flat_map (λ b. b) (branches_of (drop (suc index) paths))) (drop (min n (length rest)) rest)) same
      (subst (AreNodes d (flat_map (λ b. b) (branches_of (drop (suc index) paths)))) (drop_past rest (length (branch_of branch.items)))
      (of_rest d (branch_of branch.items) (flat_map (λ b. b) (branches_of (drop (suc index) paths))) rest from_here)))

-- the first name without a node
pub unknown_found : (d : Domain) (names : List (List ℕ)) (index : ℕ) → index < length names → is_none (node_at d names index) ≡ true →
    ((k : ℕ) → k < index → is_none (node_at d names k) ≡ false) → Some index ≡ position (λ name. is_none (node_named d name)) names
unknown_found d [] index h t before = absurd (omega (arith, h))
unknown_found d (x ∷ names) zero h t before =
    sym (position-cons (λ name. is_none (node_named d name)) x names
    ∙ ap (λ (b : Bool). if b then Some 0 else option_map (λ index. 1 + index) (position (λ name. is_none (node_named d name)) names)) t)
unknown_found d (x ∷ names) (suc index) h t before =
    let test : List ℕ → Bool = λ name. is_none (node_named d name) in
    let later = unknown_found d names index (omega (arith, h)) t (λ k l. before (suc k) (omega (arith, l))) in
    (let next : suc index ≡ 1 + index = omega arith in ap (λ (k : ℕ). Some k) next)
    ∙ ap (option_map (λ k. 1 + k)) later
    ∙ sym (position-cons test x names
    ∙ ap (λ (b : Bool). if b then Some 0 else option_map (λ k. 1 + k) (position test names)) (before zero (omega arith)))

-- if each name has a node, no name lacks one
pub none_unknown : (d : Domain) (names : List (List ℕ)) → ((k : ℕ) → k < length names → is_none (node_at d names k) ≡ false) →
    None ≡ position (λ name. is_none (node_named d name)) names
none_unknown d [] each = refl
none_unknown d (x ∷ names) each =
    let test : List ℕ → Bool = λ name. is_none (node_named d name) in
    ap (option_map (λ k. 1 + k)) (none_unknown d names (λ k h. each (suc k) (omega (arith, h))))
    ∙ sym (position-cons test x names
    ∙ ap (λ (b : Bool). if b then Some 0 else option_map (λ k. 1 + k) (position test names)) (each zero (omega arith)))

-- the hops of one more branch
pub one_branch_more : (d : Domain) (paths : List (Vec (String Global) Global)) (index : ℕ) (branch : Vec (String Global) Global) (tree after : List Hop) →
    index < length paths → get_or paths index branch ≡ branch → tree ≡ fold keep_link [] (flat_map (hops_along d) (branches_of (take index paths))) →
    after ≡ fold keep_link tree (hops_along d (branch_of branch.items)) →
    after ≡ fold keep_link [] (flat_map (hops_along d) (branches_of (take (index + 1) paths)))
one_branch_more d paths index branch tree after inside is so_far more =
    let next : suc index ≡ index + 1 = omega arith in
    let fronts = branches_of (take index paths) in
    let longer : take (index + 1) paths ≡ take index paths ++ branch ∷ [] =
    ap (λ (k : ℕ). take k paths) (sym next) ∙ take-suc paths index branch inside
    ∙ ap (λ (b : Vec (String Global) Global). take index paths ++ b ∷ []) is in
    more ∙ ap (λ (t : List Hop). fold keep_link t (hops_along d (branch_of branch.items))) so_far
    ∙ sym (fold-append keep_link [] (flat_map (hops_along d) fronts) (hops_along d (branch_of branch.items)))
    ∙ ap (fold keep_link []) (flat_map_more (hops_along d) [] fronts (branch_of branch.items))
    ∙ ap (λ (bs : List Branch). fold keep_link [] (flat_map (hops_along d) bs))
    (sym (ap branches_of longer ∙ map-append (λ (b : Vec (String Global) Global). branch_of b.items) (take index paths) (branch ∷ [])))
