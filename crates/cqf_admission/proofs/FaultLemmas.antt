-- The first index at which branches fail a check, if indexes count through them as one list.
use Rattle.std.proofs.Common.{◌≡◌, ◌≢◌, ℕ, ◌+◌, ◌<◌, ◌≤◌, Bool, true, false, cond, List, Option, Some, None, [], ◌∷◌, ◌++◌, length, position, drop, get_or}
use Rattle.std.proofs.Common.{refl, ap, ◌∙◌, sym, arith, subst, inl, inr, nat_lt, not, length-append, zero-add, add_assoc}
use Rattle.std.proofs.Math.Seq.{drop-cons}
use Rattle.std.specs.Prelude.{Contains, String, Vec, if◌then◌else◌, is_none, option_map, string_bytes, suc}
use Rattle.std.specs.List.{flat_map, prefix_len}
use Rattle.std.specs.declared.alloc.Global.{Global}
use Rattle.std.proofs.lemmas.Bool.{lt-ltb, ltb-true}
use Rattle.std.proofs.lemmas.List.{drop_all, length-map}
use Rattle.std.proofs.lemmas.Option.{cond_some}
use Rattle.cqf_lists.proofs.Any.{one_more}
use Rattle.cqf_lists.specs.Lists.{each_below, least, or_else}
use Rattle.cqf_lists.proofs.EachBelow.{contains_from_below}
use Rattle.cqf_lists.proofs.Members.{contains_at, contains_cases, contains_none}
use Rattle.cqf_model.specs.Domain.{Domain, node_named}
use Rattle.cqf_model.specs.History.{Branch, broken_index, first_index, is_broken_at, is_loop_at}
use Rattle.cqf_admission.specs.declared.branches.Check.{Check}
use Rattle.cqf_admission.specs.declared.branches.Check.TheVariants.{Known, Whole, Simple}
use Rattle.cqf_admission.specs.Branches.{branch_of, branches_of, fault_in, first_fault, indices_of}

-- ---- an index of a branch is that of one of its names, or the next one

-- the least number that passes is below the bound
least_within : (test : ℕ → Bool) (n k : ℕ) → least test n ≡ Some k → k < n
least_within test n k e =
    let listed : ℕ → List ℕ = λ j. if test j then j ∷ [] else [] in
    let w = contains_from_below listed n k (contains_at (each_below listed n) 0 k e) in
    omega (arith, w.1, of_one (test w.0) w.0 w.2)
  where
    -- a list with at most one number contains no other
    of_one : (b : Bool) (j : ℕ) → Contains (if b then j ∷ [] else []) k → j ≡ k
    of_one true j c = elim (contains_cases j [] k c) [ inl e ↦ e | inr n ↦ absurd (contains_none k n) ]
    of_one false j c = absurd (contains_none k c)

-- the first index that passes is within the list
position_within : {X : Type 0} (p : X → Bool) (xs : List X) (k : ℕ) → position p xs ≡ Some k → k < length xs
position_within p xs k e =
    let node_index = prefix_len (λ x. not (p x)) xs in
    let found = cond_some (nat_lt node_index (length xs)) node_index k e in
    omega (arith, ltb-true node_index (length xs) found.0, found.1)

-- a fault's index is within its branch or right after it
pub fault_within : (d : Domain) (check : Check) (branch : Branch) (k : ℕ) → fault_in d check branch ≡ Some k → k ≤ length branch
fault_within d Known branch k e = omega (arith, position_within (λ name. is_none (node_named d name)) branch k e)
fault_within d Whole branch k e = omega (arith, least_within (is_broken_at d branch) (length branch + 1) k e)
fault_within d Simple branch k e = omega (arith, least_within (is_loop_at d branch) (length branch + 1) k e)

-- ---- one branch after the other

-- the branches before `index` pass, and they have `before` names
pub record HavePassed (d : Domain) (check : Check) (paths : List (Vec (String Global) Global)) (index before : ℕ) : Type 0 where
  pub passed : first_fault d check (branches_of paths) ≡ option_map (λ node_index. before + node_index) (first_fault d check (branches_of (drop index paths)))
  pub counted : before + indices_of (branches_of (drop index paths)) ≡ indices_of (branches_of paths)

-- counting from 0 changes no index
from_zero : (o : Option ℕ) → o ≡ option_map (λ node_index. 0 + node_index) o
from_zero None = refl
from_zero (Some x) = ap (λ (k : ℕ). Some k) (sym (zero-add x))

-- before the first branch there is nothing to pass
pub none_passed : (d : Domain) (check : Check) (paths : List (Vec (String Global) Global)) → HavePassed d check paths 0 0
none_passed d check paths = record { passed = from_zero (first_fault d check (branches_of paths)); counted = omega arith }

-- counting on from one number and then from another is counting on from their sum
twice : (a b : ℕ) (o : Option ℕ) → option_map (λ node_index. a + node_index) (option_map (λ node_index. b + node_index) o) ≡ option_map (λ node_index. a + b + node_index) o
twice a b None = refl
twice a b (Some x) = ap (λ (k : ℕ). Some k) (sym (add_assoc a b x))

module _ (d : Domain) (check : Check) (paths : List (Vec (String Global) Global)) (index before : ℕ) (branch : Vec (String Global) Global)
    (inside : index < length paths) (is : get_or paths index branch ≡ branch) (h : HavePassed d check paths index before) where
  -- the branch is the next one
  next_is : drop index paths ≡ branch ∷ drop (suc index) paths
  next_is = drop-cons paths index branch inside ∙ ap (λ (b : Vec (String Global) Global). b ∷ drop (suc index) paths) is

  -- the names before it, its own and those after it are all names
  count_is : before + (length (branch_of branch.items) + indices_of (branches_of (drop (suc index) paths))) ≡ indices_of (branches_of paths)
  count_is = ap (λ (n : ℕ). before + n) (sym (length-append (branch_of branch.items) (flat_map (λ b. b) (branches_of (drop (suc index) paths)))))
      ∙ ap (λ (xs : List (Vec (String Global) Global)). before + indices_of (branches_of xs)) (sym next_is) ∙ h.counted

  -- the names up to the next branch's end are among all names
  pub room_for : before + length branch.items ≤ indices_of (branches_of paths)
  room_for = omega (arith, count_is, length-map branch.items string_bytes)

  -- the first fault is the branch's, or the first after it
  by_branch : (o : Option ℕ) → fault_in d check (branch_of branch.items) ≡ o →
      first_fault d check (branches_of paths) ≡ option_map (λ node_index. before + node_index)
      (or_else o (option_map (λ node_index. length (branch_of branch.items) + node_index) (first_fault d check (branches_of (drop (suc index) paths)))))
  by_branch o e =
      h.passed
      ∙ ap (λ (xs : List (Vec (String Global) Global)). option_map (λ node_index. before + node_index) (first_fault d check (branches_of xs))) next_is
      ∙ ap (λ (f : Option ℕ). option_map (λ node_index. before + node_index)
      (or_else f (option_map (λ node_index. length (branch_of branch.items) + node_index) (first_fault d check (branches_of (drop (suc index) paths)))))) e

  -- a fault of the branch is the first one
  pub found_here : (node_index : ℕ) → fault_in d check (branch_of branch.items) ≡ Some node_index → first_fault d check (branches_of paths) ≡ Some (before + node_index)
  found_here node_index e = by_branch (Some node_index) e

  -- a branch without a fault is passed
  pub goes_on : (after : ℕ) → after ≡ before + length branch.items → fault_in d check (branch_of branch.items) ≡ None →
      HavePassed d check paths (index + 1) after
  goes_on after grown e =
      let next : suc index ≡ index + 1 = omega arith in
      let count : before + length (branch_of branch.items) ≡ after = omega (arith, grown, length-map branch.items string_bytes) in
      subst (λ (k : ℕ). HavePassed d check paths k after) next (record {
        passed = by_branch None e ∙ twice before (length (branch_of branch.items)) (first_fault d check (branches_of (drop (suc index) paths)))
            ∙ ap (λ (n : ℕ). option_map (λ node_index. n + node_index) (first_fault d check (branches_of (drop (suc index) paths)))) count;
        counted = omega (arith, count, count_is);
      })

-- after the last branch none is left
pub all_passed : (d : Domain) (check : Check) (paths : List (Vec (String Global) Global)) (index before : ℕ) → length paths ≤ index →
    HavePassed d check paths index before → first_fault d check (branches_of paths) ≡ None
all_passed d check paths index before past h =
    h.passed ∙ ap (λ (xs : List (Vec (String Global) Global)). option_map (λ node_index. before + node_index) (first_fault d check (branches_of xs)))
    (drop_all index paths past)

-- ---- an index in two lists end to end

-- the first index after a first element is that of the rest, or that of the first element
pub position-cons : {X : Type 0} (p : X → Bool) (x : X) (xs : List X) →
    position p (x ∷ xs) ≡ (if p x then Some 0 else option_map (λ node_index. 1 + node_index) (position p xs))
position-cons {X} p x xs = by_test (p x)
  where
    -- an index moved by one
    shifted : (b : Bool) (n : ℕ) → cond b (Some (1 + n)) None ≡ option_map (λ node_index. 1 + node_index) (cond b (Some n) None)
    shifted true n = refl
    shifted false n = refl

    -- the first index is 0 if the first element passes, and otherwise one more than that of the rest
    by_test : (b : Bool) → (let n = cond (not b) (1 + prefix_len (λ z. not (p z)) xs) 0 in
        cond (nat_lt n (suc (length xs))) (Some n) None) ≡ (if b then Some 0 else option_map (λ node_index. 1 + node_index) (position p xs))
    by_test true = ap (λ (t : Bool). cond t (Some 0) None) (lt-ltb 0 (suc (length xs)) (omega arith))
    by_test false =
        let n = prefix_len (λ z. not (p z)) xs in
        ap (λ (t : Bool). cond t (Some (1 + n)) None) (one_more n (length xs)) ∙ shifted (nat_lt n (length xs)) n

-- the first index in two lists is that in the first, or that in the second
position-append : {X : Type 0} (p : X → Bool) (xs ys : List X) →
    position p (xs ++ ys) ≡ or_else (position p xs) (option_map (λ node_index. length xs + node_index) (position p ys))
position-append p [] ys = from_zero (position p ys)
position-append {X} p (x ∷ xs) ys =
    position-cons p x (xs ++ ys)
    ∙ by_test (p x) (position p xs) (position p ys) (position-append p xs ys)
    ∙ ap (λ (o : Option ℕ). or_else o (option_map (λ node_index. suc (length xs) + node_index) (position p ys))) (sym (position-cons p x xs))
  where
    -- moving an index by a number and then by one is moving it by one more than the number
    following : (n : ℕ) (o : Option ℕ) → option_map (λ node_index. 1 + node_index) (option_map (λ node_index. n + node_index) o) ≡ option_map (λ node_index. suc n + node_index) o
    following n None = refl
    following n (Some k) = let same : 1 + (n + k) ≡ suc n + k = omega arith in ap (λ (i : ℕ). Some i) same

    -- one more element first, whether it passes or not, leaves the first index in the first list, or else in the second
    by_test : (b : Bool) (o q : Option ℕ) → position p (xs ++ ys) ≡ or_else o (option_map (λ node_index. length xs + node_index) q) →
        (if b then Some 0 else option_map (λ node_index. 1 + node_index) (position p (xs ++ ys))) ≡ or_else (if b then Some 0 else option_map (λ node_index. 1 + node_index) o)
        (option_map (λ node_index. suc (length xs) + node_index) q)
    by_test true o q e = refl
    by_test false None q e = ap (option_map (λ node_index. 1 + node_index)) e ∙ following (length xs) q
    by_test false (Some k) q e = ap (option_map (λ node_index. 1 + node_index)) e

-- ---- each check in terms of the definitions

-- the first unknown node is the first among all nodes
pub known_is : (d : Domain) (paths : List Branch) →
    first_fault d Known paths ≡ position (λ name. is_none (node_named d name)) (flat_map (λ branch. branch) paths)
known_is d [] = refl
known_is d (branch ∷ paths) =
    let test : List ℕ → Bool = λ name. is_none (node_named d name) in
    ap (λ (o : Option ℕ). or_else (position test branch) (option_map (λ node_index. length branch + node_index) o)) (known_is d paths)
    ∙ sym (position-append test branch (flat_map (λ b. b) paths))

-- the first broken index is found branch by branch
pub whole_is : (d : Domain) (paths : List Branch) → first_fault d Whole paths ≡ first_index (is_broken_at d) paths
whole_is d [] = refl
whole_is d (branch ∷ paths) =
    ap (λ (o : Option ℕ). or_else (least (is_broken_at d branch) (length branch + 1)) (option_map (λ node_index. length branch + node_index) o)) (whole_is d paths)

-- so is the first index whose node occurred earlier
pub simple_is : (d : Domain) (paths : List Branch) → first_fault d Simple paths ≡ first_index (is_loop_at d) paths
simple_is d [] = refl
simple_is d (branch ∷ paths) =
    ap (λ (o : Option ℕ). or_else (least (is_loop_at d branch) (length branch + 1)) (option_map (λ node_index. length branch + node_index) o)) (simple_is d paths)

-- if there is a branch, the first broken index is that of the branches
pub broken_is : (d : Domain) (paths : List (Vec (String Global) Global)) → length paths ≢ 0 →
    first_fault d Whole (branches_of paths) ≡ broken_index d (branches_of paths)
broken_is d [] some = absurd (some refl)
broken_is d (x ∷ paths) some = whole_is d (branches_of (x ∷ paths))

-- without branches, index 0 is broken
pub none_is_broken : (d : Domain) (paths : List (Vec (String Global) Global)) → length paths ≡ 0 → Some 0 ≡ broken_index d (branches_of paths)
none_is_broken d [] none = refl
none_is_broken d (x ∷ paths) none = absurd (omega (arith, none))
