-- Which branches are refused as no tree, stated by pairs.
use Rattle.std.proofs.Common.{◌≡◌, ℕ, ◌+◌, ◌-◌, ◌<◌, ◌≤◌, ◌⊎◌, Bool, true, false, List, Option, Some, None, length, get_or, sym, refl, ap, ◌∙◌, inl, inr, arith}
use Rattle.std.proofs.Common.{length-append, subst}
use Rattle.std.specs.Prelude.{[], ◌∷◌, ◌++◌, ◌&&◌, if◌then◌else◌, is_none, is_some, nat_le, nat_lt, not, option_map, position, slice_get, take, zero, suc}
use Rattle.std.specs.Prelude.{Contains}
use Rattle.std.specs.Option.{option_map_or}
use Rattle.std.specs.List.{flat_map, list_any}
use Rattle.std.proofs.lemmas.Bool.{and_from, and_parts, both_ways, cases_Bool, cases_lt, false_from_ne_true, leb-true, le-leb, ltb-true, not-false, not-true}
use Rattle.std.proofs.lemmas.Bool.{not_from_false}
use Rattle.std.proofs.lemmas.List.{length-take-le, take-take}
use Rattle.std.proofs.lemmas.Option.{get_or_from_slice_get, same_Some, slice_get-get_or, slice_get_within}
use Rattle.cqf_units.specs.Name.{is_name}
use Rattle.cqf_units.specs.Timing.{cost_of}
use Rattle.cqf_lists.specs.Lists.{each_below, least, or_else}
use Rattle.cqf_lists.proofs.Any.{none_member, position_any}
use Rattle.cqf_lists.proofs.EachBelow.{none_below}
use Rattle.cqf_lists.proofs.Members.{any_member, contains_at, contains_flat, contains_from_flat, contains_here, contains_later, index_of_member, member_any}
use Rattle.cqf_lists.proofs.Indices.{first_stays, slice_get-take, slice_get_front}
use Rattle.cqf_model.specs.Limits.{hops_within, most_reserved, streams_within}
use Rattle.cqf_model.specs.declared.history.Refused.{Refused}
use Rattle.cqf_model.specs.declared.history.Refused.TheVariants.{BadPace}
use Rattle.cqf_model.specs.declared.history.Refused.TheVariants.{BadName, BadOctets, UnknownNode, BrokenPath, LoopingPath, NotATree, NameHeld, TooManyStreams}
use Rattle.cqf_model.specs.declared.history.Refused.TheVariants.{TooManyHops, BudgetShort}
use Rattle.cqf_model.specs.declared.topology.Node.{Node}
use Rattle.cqf_model.specs.declared.topology.Row.{Row}
use Rattle.cqf_model.specs.Domain.{Domain, is_text, node_named}
use Rattle.cqf_model.specs.History.{is_pace, pace_of}
use Rattle.cqf_model.specs.History.{Asked, Branch, are_apart, broken_index, first_index, is_bridge, is_broken_at, is_loop_at, is_stray}
use Rattle.cqf_model.specs.History.{left_on, make_a_tree, node_at, part, refusal_of, refused_at, refused_if, short_link, tree_of}
use Rattle.cqf_model.proofs.Texts.{is_text_itself, is_text_same}
use Rattle.cqf_laws_history.specs.BranchLaws.{HasNoEarlierFault, HaveTheirBeginningsOnce, IsFirstStray, LinksBoundHops, MakeOneTree, PairsAreTested}
use Rattle.cqf_laws_history.specs.BranchLaws.{PairsHaveTheirBeginnings, PartAt, RefusedAsNoTree, StandsFrom, TreesAreMadeOfPairs}
use Rattle.cqf_laws_history.proofs.Branches.{IsBranch, NoRepeat, is_branch, no_repeat, stands, two_at_least}
use Rattle.cqf_laws_history.proofs.Indices.{entry_at}
use Rattle.cqf_laws_history.proofs.FewLinks.{trees_have_few_links}
use Rattle.cqf_laws_history.proofs.Granted.{AreOfForm, first_branch, first_index_none, form_is_tree, none_broken, refused_at_none, refused_if_none}
use Rattle.cqf_laws_history.proofs.Trees.{make_tree}

-- ---- two branches

-- equal lists have the same first element
first_same : (x y : List ℕ) (xs ys : Branch) → x ∷ xs ≡ y ∷ ys → x ≡ y
first_same x y xs ys e = cc

-- and the same rest
rest_same : (x y : List ℕ) (xs ys : Branch) → x ∷ xs ≡ y ∷ ys → xs ≡ ys
rest_same x y xs ys e = cc

-- branches that part and have no common node from there on
record Part (xs ys : Branch) : Type 0 where
  parting : ℕ
  there : PartAt xs ys parting
  apart : (name : List ℕ) → StandsFrom xs parting name → StandsFrom ys parting name → ⊥

-- a name that a branch has after its first node is in the rest of the branch
stands_rest : (x : List ℕ) (xs : Branch) (index : ℕ) (name : List ℕ) → StandsFrom (x ∷ xs) (suc index) name → StandsFrom xs index name
stands_rest x xs index name s = by_index s.stand s.following s.is
  where
    -- an index after the first is one of the rest
    by_index : (stand : ℕ) → suc index ≤ stand → slice_get (x ∷ xs) stand ≡ Some name → StandsFrom xs index name
    by_index zero h e = absurd (omega (arith, h))
    by_index (suc stand) h e = record { stand = stand; following = omega (arith, h); is = e }

-- both branches with one more node at their beginning
part_cons : (x y : List ℕ) (xs ys : Branch) → x ≡ y → Part xs ys → Part (x ∷ xs) (y ∷ ys)
part_cons x y xs ys same r = record {
  parting = suc r.parting;
  there = record {
    alike = λ i. same i ∷ r.there.alike i;
    first_goes_on = omega (arith, r.there.first_goes_on);
    second_goes_on = omega (arith, r.there.second_goes_on);
    differ = r.there.differ;
  };
  apart = λ name s t. r.apart name (stands_rest x xs r.parting name s) (stands_rest y ys r.parting name t);
}

-- nonempty branches without a common node part at their first nodes
part_here : (x y : List ℕ) (xs ys : Branch) → is_text x y ≡ false → are_apart (x ∷ xs) (y ∷ ys) ≡ true → Part (x ∷ xs) (y ∷ ys)
part_here x y xs ys other e = record {
  parting = 0;
  there = record {
    alike = refl;
    first_goes_on = omega arith;
    second_goes_on = omega arith;
    differ = λ same. both_ways (is_text x y) other (ap (is_text x) (sym (same_Some x y same)) ∙ is_text_itself x);
  };
  apart = λ name s t.
      let none = not-true (list_any (λ a. list_any (λ b. is_text a b) (y ∷ ys)) (x ∷ xs)) e in
      let no_name = none_member (λ a. list_any (λ b. is_text a b) (y ∷ ys)) (x ∷ xs) name none (contains_at (x ∷ xs) s.stand name s.is) in
      both_ways (is_text name name) (none_member (λ b. is_text name b) (y ∷ ys) name no_name (contains_at (y ∷ ys) t.stand name t.is)) (is_text_itself name);
}

-- what the test says
from_part : (xs ys : Branch) → part xs ys ≡ true → Part xs ys
from_part [] ys e = absurd cc
from_part (x ∷ xs) [] e = absurd cc
from_part (x ∷ xs) (y ∷ ys) e = by_test (is_text x y) refl e (from_part xs ys)
  where
    -- they part after their first nodes, or there
    by_test : (b : Bool) → is_text x y ≡ b → (if b then part xs ys else are_apart (x ∷ xs) (y ∷ ys)) ≡ true → (part xs ys ≡ true → Part xs ys) →
        Part (x ∷ xs) (y ∷ ys)
    by_test true t f rest = part_cons x y xs ys (is_text_same x y t) (rest f)
    by_test false t f rest = part_here x y xs ys t f

-- branches that have no node in common pass the test
are_apart_from : (xs ys : Branch) → ((name : List ℕ) → StandsFrom xs 0 name → StandsFrom ys 0 name → ⊥) → are_apart xs ys ≡ true
are_apart_from xs ys apart = not_from_false (list_any (λ a. list_any (λ b. is_text a b) ys) xs)
    (false_from_ne_true (list_any (λ a. list_any (λ b. is_text a b) ys) xs) (λ t.
    let a = any_member (λ a. list_any (λ b. is_text a b) ys) xs t in
    let b = any_member (λ b. is_text a.0 b) ys a.2 in
    let p = index_of_member xs a.0 a.1 in
    let q = index_of_member ys b.0 b.1 in
    let same : a.0 ≡ b.0 = is_text_same a.0 b.0 b.2 in
    apart a.0 (record { stand = p.0; following = omega arith; is = p.1 })
    (record { stand = q.0; following = omega arith; is = q.1 ∙ ap (λ (n : List ℕ). Some n) (sym same) })))

-- and branches that part for good pass the test
to_part : (xs ys : Branch) (index : ℕ) → PartAt xs ys index →
    ((name : List ℕ) → StandsFrom xs index name → StandsFrom ys index name → ⊥) → part xs ys ≡ true
to_part [] ys index there apart = absurd (omega (arith, there.first_goes_on))
to_part (x ∷ xs) [] index there apart = absurd (omega (arith, there.second_goes_on))
to_part (x ∷ xs) (y ∷ ys) zero there apart =
    let other : is_text x y ≡ false =
    false_from_ne_true (is_text x y) (λ t. there.differ (ap (λ (n : List ℕ). Some n) (is_text_same x y t))) in
    ap (λ (b : Bool). if b then part xs ys else are_apart (x ∷ xs) (y ∷ ys)) other ∙ are_apart_from (x ∷ xs) (y ∷ ys) apart
to_part (x ∷ xs) (y ∷ ys) (suc index) there apart =
    let same : x ≡ y = first_same x y (take index xs) (take index ys) there.alike in
    let test : is_text x y ≡ true = ap (is_text x) (sym same) ∙ is_text_itself x in
    ap (λ (b : Bool). if b then part xs ys else are_apart (x ∷ xs) (y ∷ ys)) test
    ∙ to_part xs ys index
    (record {
      alike = rest_same x y (take index xs) (take index ys) there.alike;
      first_goes_on = omega (arith, there.first_goes_on);
      second_goes_on = omega (arith, there.second_goes_on);
      differ = there.differ;
    })
    (λ name s t. apart name (record { stand = suc s.stand; following = omega (arith, s.following); is = s.is })
    (record { stand = suc t.stand; following = omega (arith, t.following); is = t.is }))

-- branches that have the same first node and then part make one tree
one_tree : (x y : List ℕ) (xs ys : Branch) → x ≡ y → Part xs ys → MakeOneTree (x ∷ xs) (y ∷ ys)
one_tree x y xs ys same r = record {
  parting = suc r.parting;
  begin_alike = omega arith;
  part_there = record {
    alike = λ i. same i ∷ r.there.alike i;
    first_goes_on = omega (arith, r.there.first_goes_on);
    second_goes_on = omega (arith, r.there.second_goes_on);
    differ = r.there.differ;
  };
  apart = λ name s t. r.apart name (stands_rest x xs r.parting name s) (stands_rest y ys r.parting name t);
}

-- and if two branches make one tree, this holds for them
rest_parts : (x y : List ℕ) (xs ys : Branch) (w : MakeOneTree (x ∷ xs) (y ∷ ys)) → (x ≡ y) × Part xs ys
rest_parts x y xs ys w = by_index w.parting w.begin_alike w.part_there w.apart
  where
    -- if branches part after their first nodes, their rests part
    by_index : (index : ℕ) → 0 < index → PartAt (x ∷ xs) (y ∷ ys) index →
        ((name : List ℕ) → StandsFrom (x ∷ xs) index name → StandsFrom (y ∷ ys) index name → ⊥) → (x ≡ y) × Part xs ys
    by_index zero some there apart = absurd (omega (arith, some))
    by_index (suc index) some there apart = (
      first_same x y (take index xs) (take index ys) there.alike,
      record {
        parting = index;
        there = record {
          alike = rest_same x y (take index xs) (take index ys) there.alike;
          first_goes_on = omega (arith, there.first_goes_on);
          second_goes_on = omega (arith, there.second_goes_on);
          differ = there.differ;
        };
        apart = λ name s t. apart name (record { stand = suc s.stand; following = omega (arith, s.following); is = s.is })
            (record { stand = suc t.stand; following = omega (arith, t.following); is = t.is });
      },
    )

-- if the test passes, two branches make one tree
tested : (xs ys : Branch) → make_a_tree xs ys ≡ true → MakeOneTree xs ys
tested [] ys e = absurd cc
tested (x ∷ xs) [] e = absurd cc
tested (x ∷ xs) (y ∷ ys) e =
    let parts = and_parts (is_text x y) (part xs ys) e in
    one_tree x y xs ys (is_text_same x y parts.0) (from_part xs ys parts.1)

-- and branches that make one tree pass it
passes : (xs ys : Branch) → MakeOneTree xs ys → make_a_tree xs ys ≡ true
passes [] ys w = absurd (omega (arith, w.part_there.first_goes_on))
passes (x ∷ xs) [] w = absurd (omega (arith, w.part_there.second_goes_on))
passes (x ∷ xs) (y ∷ ys) w =
    let r = rest_parts x y xs ys w in
    and_from (is_text x y) (part xs ys) (ap (is_text x) (sym r.0) ∙ is_text_itself x) (to_part xs ys r.1.parting r.1.there r.1.apart)

-- so the test is equivalent to the statement
pub pairs_are_tested : PairsAreTested
pairs_are_tested xs ys = (tested xs ys, passes xs ys)

-- ---- beginnings

-- one branch is a proper prefix of the other
record IsBeginning (xs ys : Branch) : Type 0 where
  next : List ℕ
  rest : Branch
  is : ys ≡ xs ++ next ∷ rest

-- two branches are equal, or one is a prefix of the other, or they part
abbrev Compared : Branch → Branch → Type 0
Compared xs ys = (xs ≡ ys) ⊎ (IsBeginning xs ys ⊎ (IsBeginning ys xs ⊎ ((index : ℕ) × PartAt xs ys index)))

-- both branches with one more node at their beginning
compared_cons : (x y : List ℕ) (xs ys : Branch) → x ≡ y → Compared xs ys → Compared (x ∷ xs) (y ∷ ys)
compared_cons x y xs ys same c = elim c [
  | inl e ↦ inl (λ i. same i ∷ e i)
  | inr others ↦ elim others [
    | inl b ↦ inr (inl (record { next = b.next; rest = b.rest; is = λ i. sym same i ∷ b.is i }))
    | inr more ↦ elim more [
      | inl b ↦ inr (inr (inl (record { next = b.next; rest = b.rest; is = λ i. same i ∷ b.is i })))
      | inr r ↦ inr (inr (inr (
        suc r.0,
        record {
          alike = λ i. same i ∷ r.1.alike i;
          first_goes_on = omega (arith, r.1.first_goes_on);
          second_goes_on = omega (arith, r.1.second_goes_on);
          differ = r.1.differ;
        },
      )))
    ]
  ]
]

-- this holds for any two branches
compare : (xs ys : Branch) → Compared xs ys
compare [] [] = inl refl
compare [] (y ∷ ys) = inr (inl (record { next = y; rest = ys; is = refl }))
compare (x ∷ xs) [] = inr (inr (inl (record { next = x; rest = xs; is = refl })))
compare (x ∷ xs) (y ∷ ys) = by_test (is_text x y) refl (compare xs ys)
  where
    -- they part here, or as the rests do
    by_test : (b : Bool) → is_text x y ≡ b → Compared xs ys → Compared (x ∷ xs) (y ∷ ys)
    by_test true t c = compared_cons x y xs ys (is_text_same x y t) c
    by_test false t c = inr (inr (inr (
      0,
      record {
        alike = refl;
        first_goes_on = omega arith;
        second_goes_on = omega arith;
        differ = λ same. both_ways (is_text x y) t (ap (is_text x) (sym (same_Some x y same)) ∙ is_text_itself x);
      },
    )))

-- a branch that ends in a station is no prefix of another
begins_no_other : (d : Domain) (xs ys : Branch) → IsBranch d xs → IsBranch d ys → IsBeginning xs ys → ⊥
begins_no_other d xs ys good_x good_y b =
    let k = length xs - 1 in
    let some : k + 1 ≡ length xs = omega (arith, two_at_least d xs good_x) in
    let more : length ys ≡ length xs + length (b.next ∷ b.rest) = ap (λ (z : Branch). length z) b.is ∙ length-append xs (b.next ∷ b.rest) in
    let on = stands d ys good_y k (omega (arith, some, more)) in
    let same : node_at d ys k ≡ node_at d xs k =
    ap (λ (o : Option (List ℕ)). option_map_or (λ name. node_named d name) o None)
    (ap (λ (z : Branch). slice_get z k) b.is ∙ slice_get_front xs (b.next ∷ b.rest) k (omega (arith, some))) in
    both_ways (is_bridge (node_at d xs k)) ((good_x.whole k (omega (arith, some))).last some)
    (ap is_bridge (sym same ∙ on.from_is))

-- branches that make one tree have their beginnings once
one_has_beginnings : (xs ys : Branch) → NoRepeat xs → NoRepeat ys → MakeOneTree xs ys → HaveTheirBeginningsOnce xs ys
one_has_beginnings xs ys no_x no_y w = record {
  begin = sym (slice_get-take xs w.parting 0 w.begin_alike) ∙ ap (λ (b : Branch). slice_get b 0) w.part_there.alike
      ∙ slice_get-take ys w.parting 0 w.begin_alike;
  differ = λ e. w.part_there.differ (ap (λ (b : Branch). slice_get b w.parting) e);
  same_before = λ i j name e f.
      let r = (make_tree xs ys (passes xs ys w) no_x no_y).agree i j name e f in
      sym (take-take i (suc i) xs (omega arith)) ∙ ap (λ (b : Branch). take i b) r.1 ∙ take-take i (suc i) ys (omega arith)
      ∙ ap (λ (k : ℕ). take k ys) r.0;
}

-- if branches part that have their beginnings once, they part for good
part_for_good : (xs ys : Branch) (index : ℕ) → HaveTheirBeginningsOnce xs ys → PartAt xs ys index → MakeOneTree xs ys
part_for_good xs ys index h there = record {
  parting = index;
  begin_alike = elim (cases_lt 0 index) [
    | inl l ↦ l
    | inr g ↦ (let z : index ≡ 0 = omega (arith, g) in
        absurd (there.differ (ap (λ (k : ℕ). slice_get xs k) z ∙ h.begin ∙ ap (λ (k : ℕ). slice_get ys k) (sym z))))
  ];
  part_there = there;
  apart = λ name s t.
      let e = h.same_before s.stand t.stand name s.is t.is in
      let in_x = slice_get_within xs s.stand name s.is in
      let in_y = slice_get_within ys t.stand name t.is in
      let same : s.stand ≡ t.stand =
      sym (length-take-le s.stand xs (omega (arith, in_x))) ∙ ap (λ (b : Branch). length b) e ∙ length-take-le t.stand ys (omega (arith, in_y)) in
      elim (cases_lt index s.stand) [
        | inl l ↦ there.differ (sym (slice_get-take xs s.stand index l) ∙ ap (λ (b : Branch). slice_get b index) e
            ∙ slice_get-take ys t.stand index (omega (arith, l, same)))
        | inr g ↦ (let here : s.stand ≡ index = omega (arith, g, s.following) in
            there.differ (ap (λ (k : ℕ). slice_get xs k) (sym here) ∙ s.is ∙ sym t.is ∙ ap (λ (k : ℕ). slice_get ys k) (sym same ∙ here)))
      ];
}

-- ---- a request that no earlier refusal applies to

-- an option that has a value isn't `None`
not_none : {X : Type 0} (o : Option X) → (o ≡ None → ⊥) → is_none o ≡ false
not_none None h = absurd (h refl)
not_none (Some x) h = refl

-- its branches are branches of the domain
branches : (d : Domain) (asked : Asked) → HasNoEarlierFault d asked → (branch : Branch) → Contains asked.paths branch → IsBranch d branch
branches d asked h branch c = is_branch d branch
    (λ name k. not_none (node_named d name) (h.known branch name c k))
    (λ k l. h.whole branch k c (omega (arith, l)))
    (λ k l. h.simple branch k c (omega (arith, l)))

-- for two of its branches both statements are equivalent: they make one tree, they have their beginnings once
pub pairs_have_their_beginnings : PairsHaveTheirBeginnings
pairs_have_their_beginnings d asked xs ys h cx cy =
    let good_x = branches d asked h xs cx in
    let good_y = branches d asked h ys cy in (
      one_has_beginnings xs ys (no_repeat d xs good_x) (no_repeat d ys good_y),
      λ w. elim (compare xs ys) [
        | inl e ↦ absurd (w.differ e)
        | inr others ↦ elim others [
          | inl b ↦ absurd (begins_no_other d xs ys good_x good_y b)
          | inr more ↦ elim more [
            | inl b ↦ absurd (begins_no_other d ys xs good_y good_x b)
            | inr r ↦ part_for_good xs ys r.0 w r.1
          ]
        ]
      ],
    )

-- ---- the first branch that makes no tree

-- the least number below a bound that passes a test
record IsLeast (test : ℕ → Bool) (n k : ℕ) : Type 0 where
  inside : k < n
  passes : test k ≡ true
  below : (j : ℕ) → j < k → test j ≡ false

-- either no number passes, or one is the least
least_there : (test : ℕ → Bool) (n : ℕ) → ((k : ℕ) → k < n → test k ≡ false) ⊎ ((k : ℕ) × IsLeast test n k)
least_there test zero = inl (λ k l. absurd (omega (arith, l)))
least_there test (suc n) = elim (least_there test n) [
  | inr r ↦ inr (r.0, record { inside = omega (arith, r.1.inside); passes = r.1.passes; below = r.1.below })
  | inl none ↦ elim (cases_Bool (test n)) [
    | inl t ↦ inr (n, record { inside = omega arith; passes = t; below = none })
    | inr f ↦ inl (λ k l. elim (cases_lt k n) [
      | inl s ↦ none k s
      | inr g ↦ (let same : n ≡ k = omega (arith, g, l) in ap test (sym same) ∙ f)
    ])
  ]
]

-- if no number passes, nothing is listed
none_least : (test : ℕ → Bool) (n : ℕ) → ((k : ℕ) → k < n → test k ≡ false) → least test n ≡ None
none_least test n h = ap (λ (xs : List ℕ). slice_get xs 0)
    (none_below (λ k. if test k then k ∷ [] else []) n (λ k l. ap (λ (b : Bool). if b then k ∷ [] else []) (h k l)))

-- the least that passes is the first listed
least_is : (test : ℕ → Bool) (n k : ℕ) → IsLeast test n k → least test n ≡ Some k
least_is test zero k w = absurd (omega (arith, w.inside))
least_is test (suc n) k w =
    let front = each_below (λ i. if test i then i ∷ [] else []) n in
    elim (cases_lt k n) [
      | inl l ↦ first_stays front (if test n then n ∷ [] else []) k (least_is test n k (record { inside = l; passes = w.passes; below = w.below }))
      | inr g ↦ (let same : n ≡ k = omega (arith, g, w.inside) in
          ap (λ (xs : List ℕ). slice_get (xs ++ (if test n then n ∷ [] else [])) 0)
          (none_below (λ i. if test i then i ∷ [] else []) n (λ i l. ap (λ (b : Bool). if b then i ∷ [] else []) (w.below i (omega (arith, l, same)))))
          ∙ ap (λ (b : Bool). slice_get (if b then n ∷ [] else []) 0) (ap test same ∙ w.passes)
          ∙ ap (λ (i : ℕ). Some i) same)
    ]

-- and what is listed first is the least
least_from : (test : ℕ → Bool) (n k : ℕ) → least test n ≡ Some k → IsLeast test n k
least_from test n k e = elim (least_there test n) [
  | inl none ↦ absurd (never k (sym (none_least test n none) ∙ e))
  | inr r ↦ subst (λ (i : ℕ). IsLeast test n i) (same_Some r.0 k (sym (least_is test n r.0 r.1) ∙ e)) r.1
]
  where
    -- `None` isn't `Some`
    never : (i : ℕ) → None ≡ Some i → ⊥
    never i h = cc

-- a branch is stray exactly if one of the branches before it makes no tree with it
stray_is : (paths : List Branch) (index : ℕ) (branch : Branch) → slice_get paths index ≡ Some branch →
    is_stray paths index ≡ list_any (λ b. not (make_a_tree b branch)) (take index paths)
stray_is paths index branch e =
    ap (λ (o : Option Branch). option_map_or (λ y. list_any (λ b. not (make_a_tree b y)) (take index paths)) o false) e

-- a branch that makes no tree with one before it
record IsStray (paths : List Branch) (index : ℕ) : Type 0 where
  branch : Branch
  here : slice_get paths index ≡ Some branch
  earlier : ℕ
  before : earlier < index
  other : Branch
  there : slice_get paths earlier ≡ Some other
  no_tree : make_a_tree other branch ≡ false

-- if the test calls a branch stray, it is stray
stray_there : (paths : List Branch) (index : ℕ) → index < length paths → is_stray paths index ≡ true → IsStray paths index
stray_there paths index inside e =
    let here = entry_at paths index inside in
    let m = any_member (λ b. not (make_a_tree b here.0)) (take index paths) (sym (stray_is paths index here.0 here.1) ∙ e) in
    let p = index_of_member (take index paths) m.0 m.1 in
    let l : p.0 < index = omega (arith, slice_get_within (take index paths) p.0 m.0 p.1, length-take-le index paths (omega (arith, inside))) in
    record {
      branch = here.0;
      here = here.1;
      earlier = p.0;
      before = l;
      other = m.0;
      there = sym (slice_get-take paths index p.0 l) ∙ p.1;
      no_tree = not-true (make_a_tree m.0 here.0) m.2;
    }

-- and if it is stray, the test says so
stray_from : (paths : List Branch) (index : ℕ) → IsStray paths index → is_stray paths index ≡ true
stray_from paths index s =
    stray_is paths index s.branch s.here
    ∙ member_any (λ b. not (make_a_tree b s.branch)) (take index paths) s.other
    (contains_at (take index paths) s.earlier s.other (slice_get-take paths index s.earlier s.before ∙ s.there))
    (not_from_false (make_a_tree s.other s.branch) s.no_tree)

-- a branch that isn't stray makes a tree with each before it
not_stray : (paths : List Branch) (i j : ℕ) (xs ys : Branch) → i < j → slice_get paths i ≡ Some xs → slice_get paths j ≡ Some ys →
    is_stray paths j ≡ false → MakeOneTree xs ys
not_stray paths i j xs ys l e f passed = tested xs ys (elim (cases_Bool (make_a_tree xs ys)) [
  | inl t ↦ t
  | inr n ↦ absurd (both_ways (is_stray paths j) passed
      (stray_from paths j (record { branch = ys; here = f; earlier = i; before = l; other = xs; there = e; no_tree = n })))
])

-- the first stray branch is the least index that the test calls stray
first_from : (paths : List Branch) (index : ℕ) → IsLeast (is_stray paths) (length paths) index → IsFirstStray paths index
first_from paths index w =
    let s = stray_there paths index w.inside w.passes in
    record {
      branch = s.branch;
      here = s.here;
      earlier = s.earlier;
      before = s.before;
      other = s.other;
      there = s.there;
      no_tree = λ t. both_ways (make_a_tree s.other s.branch) s.no_tree (passes s.other s.branch t);
      first = λ i j xs ys l k e f. not_stray paths i j xs ys l e f (w.below j k);
    }

-- and conversely
first_to : (paths : List Branch) (index : ℕ) → IsFirstStray paths index → IsLeast (is_stray paths) (length paths) index
first_to paths index w =
    let inside = slice_get_within paths index w.branch w.here in
    record {
      inside = inside;
      passes = stray_from paths index (record {
        branch = w.branch;
        here = w.here;
        earlier = w.earlier;
        before = w.before;
        other = w.other;
        there = w.there;
        no_tree = false_from_ne_true (make_a_tree w.other w.branch) (λ t. w.no_tree (tested w.other w.branch t));
      });
      below = λ j l. false_from_ne_true (is_stray paths j) (λ t.
          let s = stray_there paths j (omega (arith, l, inside)) t in
          both_ways (make_a_tree s.other s.branch) s.no_tree
          (passes s.other s.branch (w.first s.earlier j s.other s.branch s.before l s.there s.here)));
    }

-- ---- the refusal

-- if the first of two refusals isn't this one, the second is
passed : (a b : Option Refused) (r : Refused) → (a ≡ Some r → ⊥) → or_else a b ≡ Some r → (a ≡ None) × (b ≡ Some r)
passed None b r other e = (refl, e)
passed (Some x) b r other e = absurd (other e)

-- neither of two refusals is this one
neither : (a b : Option Refused) (r : Refused) → (a ≡ Some r → ⊥) → (b ≡ Some r → ⊥) → or_else a b ≡ Some r → ⊥
neither None b r first second e = second e
neither (Some x) b r first second e = first e

-- a refusal by a test is of another kind
other_if : (b : Bool) (x r : Refused) → (x ≡ r → ⊥) → refused_if b x ≡ Some r → ⊥
other_if true x r other e = other (same_Some x r e)
other_if false x r other e = cc

-- and so is one at an index
other_at : (f : ℕ → Refused) (o : Option ℕ) (r : Refused) → ((k : ℕ) → f k ≡ r → ⊥) → refused_at f o ≡ Some r → ⊥
other_at f None r other e = cc
other_at f (Some k) r other e = other k (same_Some (f k) r e)

-- the index in a refusal for no tree
at_index : (o : Option ℕ) (index : ℕ) → refused_at (λ branch. NotATree branch) o ≡ Some (NotATree index) → o ≡ Some index
at_index None index e = absurd cc
at_index (Some k) index e = let same : k ≡ index = cc in ap (λ (i : ℕ). Some i) same

-- the refusals that follow the refusal for no tree
abbrev later : Domain → List Row → Asked → Option Refused
later d rows asked =
    or_else (refused_if (nat_lt (hops_within d.limits) (length (tree_of d asked.paths))) TooManyHops)
    (or_else (refused_if (list_any (λ (row : Row). is_text row.name asked.name) rows) NameHeld)
    (or_else (refused_if (nat_le (streams_within d.limits) (length rows)) TooManyStreams)
    (refused_at (λ l. BudgetShort l (left_on d rows (tree_of d asked.paths) (pace_of asked) l))
    (short_link d rows (cost_of d.overhead asked.octets) (pace_of asked) (tree_of d asked.paths)))))

-- none of them is the refusal for no tree
later_is_other : (d : Domain) (rows : List Row) (asked : Asked) (index : ℕ) → later d rows asked ≡ Some (NotATree index) → ⊥
later_is_other d rows asked index =
    let budget_short = refused_at (λ l. BudgetShort l (left_on d rows (tree_of d asked.paths) (pace_of asked) l))
    (short_link d rows (cost_of d.overhead asked.octets) (pace_of asked) (tree_of d asked.paths)) in
    let many = refused_if (nat_le (streams_within d.limits) (length rows)) TooManyStreams in
    let held = refused_if (list_any (λ (row : Row). is_text row.name asked.name) rows) NameHeld in
    neither (refused_if (nat_lt (hops_within d.limits) (length (tree_of d asked.paths))) TooManyHops) (or_else held (or_else many budget_short)) (NotATree index)
    (other_if (nat_lt (hops_within d.limits) (length (tree_of d asked.paths))) TooManyHops (NotATree index) (λ e. cc))
    (neither held (or_else many budget_short) (NotATree index)
    (other_if (list_any (λ (row : Row). is_text row.name asked.name) rows) NameHeld (NotATree index) (λ e. cc))
    (neither many budget_short (NotATree index) (other_if (nat_le (streams_within d.limits) (length rows)) TooManyStreams (NotATree index) (λ e. cc))
    (other_at (λ l. BudgetShort l (left_on d rows (tree_of d asked.paths) (pace_of asked) l))
    (short_link d rows (cost_of d.overhead asked.octets) (pace_of asked) (tree_of d asked.paths)) (NotATree index) (λ k e. cc))))

-- the refusal for no tree
abbrev stray : Asked → Option Refused
stray asked = refused_at (λ branch. NotATree branch) (least (is_stray asked.paths) (length asked.paths))

-- what the refusals before it test
abbrev in_range : Asked → Bool
in_range asked = nat_le 64 asked.octets && nat_le asked.octets most_reserved

abbrev unknown : Domain → Asked → Option ℕ
unknown d asked = position (λ name. is_none (node_named d name)) (flat_map (λ branch. branch) asked.paths)

-- none of these refusals is due
record AreNone (d : Domain) (asked : Asked) : Type 0 where
  name : refused_if (not (is_name asked.name)) BadName ≡ None
  octets : refused_if (not (in_range asked)) BadOctets ≡ None
  pace : refused_if (not (is_pace asked.every asked.phase)) BadPace ≡ None
  known : refused_at (λ index. UnknownNode index) (unknown d asked) ≡ None
  whole : refused_at (λ index. BrokenPath index) (broken_index d asked.paths) ≡ None
  simple : refused_at (λ index. LoopingPath index) (first_index (is_loop_at d) asked.paths) ≡ None

-- if none of them is due, the later refusals decide
are_left : (d : Domain) (rows : List Row) (asked : Asked) → AreNone d asked → refusal_of d rows asked ≡ or_else (stray asked) (later d rows asked)
are_left d rows asked n =
    let left = or_else (stray asked) (later d rows asked) in
    let simple = or_else (refused_at (λ index. LoopingPath index) (first_index (is_loop_at d) asked.paths)) left in
    let whole = or_else (refused_at (λ index. BrokenPath index) (broken_index d asked.paths)) simple in
    let known = or_else (refused_at (λ index. UnknownNode index) (unknown d asked)) whole in
    let pace = or_else (refused_if (not (is_pace asked.every asked.phase)) BadPace) known in
    let octets = or_else (refused_if (not (in_range asked)) BadOctets) pace in
    ap (λ (o : Option Refused). or_else o octets) n.name
    ∙ ap (λ (o : Option Refused). or_else o pace) n.octets
    ∙ ap (λ (o : Option Refused). or_else o known) n.pace
    ∙ ap (λ (o : Option Refused). or_else o whole) n.known
    ∙ ap (λ (o : Option Refused). or_else o simple) n.whole
    ∙ ap (λ (o : Option Refused). or_else o left) n.simple

-- the refusal is none of those before the refusal for no tree
record IsLate (r : Refused) : Type 0 where
  name : BadName ≡ r → ⊥
  octets : BadOctets ≡ r → ⊥
  pace : BadPace ≡ r → ⊥
  known : (k : ℕ) → UnknownNode k ≡ r → ⊥
  whole : (k : ℕ) → BrokenPath k ≡ r → ⊥
  simple : (k : ℕ) → LoopingPath k ≡ r → ⊥

-- if a request is refused by such a later refusal, no earlier one applies
came_to : (d : Domain) (rows : List Row) (asked : Asked) (r : Refused) → IsLate r → refusal_of d rows asked ≡ Some r →
    AreNone d asked × (or_else (stray asked) (later d rows asked) ≡ Some r)
came_to d rows asked r late e =
    let left = or_else (stray asked) (later d rows asked) in
    let looping = refused_at (λ k. LoopingPath k) (first_index (is_loop_at d) asked.paths) in
    let broken = refused_at (λ k. BrokenPath k) (broken_index d asked.paths) in
    let strange = refused_at (λ k. UnknownNode k) (unknown d asked) in
    let of_pace = refused_if (not (is_pace asked.every asked.phase)) BadPace in
    let of_octets = refused_if (not (in_range asked)) BadOctets in
    let of_name = refused_if (not (is_name asked.name)) BadName in
    let simple = or_else looping left in
    let whole = or_else broken simple in
    let known = or_else strange whole in
    let paced = or_else of_pace known in
    let a = passed of_name (or_else of_octets paced) r (other_if (not (is_name asked.name)) BadName r late.name) e in
    let b = passed of_octets paced r (other_if (not (in_range asked)) BadOctets r late.octets) a.1 in
    let p = passed of_pace known r (other_if (not (is_pace asked.every asked.phase)) BadPace r late.pace) b.1 in
    let c = passed strange whole r (other_at (λ k. UnknownNode k) (unknown d asked) r late.known) p.1 in
    let f = passed broken simple r (other_at (λ k. BrokenPath k) (broken_index d asked.paths) r late.whole) c.1 in
    let g = passed looping left r (other_at (λ k. LoopingPath k) (first_index (is_loop_at d) asked.paths) r late.simple) f.1 in
    (record { name = a.0; octets = b.0; pace = p.0; known = c.0; whole = f.0; simple = g.0 }, g.1)

-- the refusal for no tree is such a later one, and so is that for too many hops
no_tree_is_late : (index : ℕ) → IsLate (NotATree index)
no_tree_is_late index = record { name = λ e. cc; octets = λ e. cc; pace = λ e. cc; known = λ k e. cc; whole = λ k e. cc; simple = λ k e. cc }

many_hops_are_late : IsLate TooManyHops
many_hops_are_late = record { name = λ e. cc; octets = λ e. cc; pace = λ e. cc; known = λ k e. cc; whole = λ k e. cc; simple = λ k e. cc }

-- if no earlier refusal applies, the request is valid that far
in_order : (d : Domain) (asked : Asked) → AreNone d asked → HasNoEarlierFault d asked
in_order d asked n =
    let range = and_parts (nat_le 64 asked.octets) (nat_le asked.octets most_reserved)
    (not-false (in_range asked) (refused_if_none (not (in_range asked)) BadOctets n.octets)) in
    let names = flat_map (λ (branch : Branch). branch) asked.paths in
    let none_unknown : list_any (λ name. is_none (node_named d name)) names ≡ false =
    sym (position_any (λ name. is_none (node_named d name)) names)
    ∙ ap (λ (o : Option ℕ). is_some o) (refused_at_none (λ index. UnknownNode index) (unknown d asked) n.known) in
    let not_broken = refused_at_none (λ index. BrokenPath index) (broken_index d asked.paths) n.whole in
    let not_looping = refused_at_none (λ index. LoopingPath index) (first_index (is_loop_at d) asked.paths) n.simple in
    record {
      named = not-false (is_name asked.name) (refused_if_none (not (is_name asked.name)) BadName n.name);
      least_octets = leb-true 64 asked.octets range.0;
      most_octets = leb-true asked.octets most_reserved range.1;
      paced = not-false (is_pace asked.every asked.phase) (refused_if_none (not (is_pace asked.every asked.phase)) BadPace n.pace);
      some_branch = omega (arith, (first_branch d asked.paths not_broken).1.1);
      known = λ branch name c k e. both_ways (is_none (node_named d name))
          (none_member (λ a. is_none (node_named d a)) names name none_unknown (contains_flat (λ (b : Branch). b) asked.paths branch name c k))
          (ap (λ (o : Option Node). is_none o) e);
      whole = λ branch index c l.
          first_index_none (is_broken_at d) asked.paths (none_broken d asked.paths not_broken) branch c index (omega (arith, l));
      simple = λ branch index c l. first_index_none (is_loop_at d) asked.paths not_looping branch c index (omega (arith, l));
    }

-- if no index fails, there is no first one
no_first_index : (fails : Branch → ℕ → Bool) (paths : List Branch) →
    ((branch : Branch) (index : ℕ) → Contains paths branch → index ≤ length branch → fails branch index ≡ false) → first_index fails paths ≡ None
no_first_index fails [] h = refl
no_first_index fails (x ∷ paths) h =
    ap (λ (o : Option ℕ). or_else o (option_map (λ index. length x + index) (first_index fails paths)))
    (none_least (fails x) (length x + 1) (λ k l. h x k (contains_here x paths) (omega (arith, l))))
    ∙ ap (λ (o : Option ℕ). option_map (λ index. length x + index) o)
    (no_first_index fails paths (λ branch index c l. h branch index (contains_later x paths branch c) l))

-- the broken index of some branches is the first one of a broken branch
broken_is : (d : Domain) (paths : List Branch) → 0 < length paths → broken_index d paths ≡ first_index (is_broken_at d) paths
broken_is d [] h = absurd (omega (arith, h))
broken_is d (branch ∷ paths) h = refl

-- if no element passes, there is no first one
no_position : {X : Type 0} (p : X → Bool) (xs : List X) → list_any p xs ≡ false → position p xs ≡ None
no_position p xs e = is_nothing (position p xs) (position_any p xs ∙ e)
  where
    -- an option without a value is `None`
    is_nothing : (o : Option ℕ) → is_some o ≡ false → o ≡ None
    is_nothing None f = refl
    is_nothing (Some k) f = absurd cc

-- and if a request is valid that far, no earlier refusal applies
are_none : (d : Domain) (asked : Asked) → HasNoEarlierFault d asked → AreNone d asked
are_none d asked h =
    let names = flat_map (λ (branch : Branch). branch) asked.paths in
    let range : in_range asked ≡ true =
    and_from (nat_le 64 asked.octets) (nat_le asked.octets most_reserved) (le-leb 64 asked.octets h.least_octets) (le-leb asked.octets most_reserved h.most_octets) in
    let none_unknown : list_any (λ name. is_none (node_named d name)) names ≡ false =
    false_from_ne_true (list_any (λ name. is_none (node_named d name)) names) (λ t.
    let m = any_member (λ name. is_none (node_named d name)) names t in
    let w = contains_from_flat (λ (b : Branch). b) asked.paths m.0 m.1 in
    both_ways (is_none (node_named d m.0)) (not_none (node_named d m.0) (h.known w.0 m.0 w.1 w.2)) m.2) in
    record {
      name = ap (λ (b : Bool). refused_if (not b) BadName) h.named;
      octets = ap (λ (b : Bool). refused_if (not b) BadOctets) range;
      pace = ap (λ (b : Bool). refused_if (not b) BadPace) h.paced;
      known = ap (λ (o : Option ℕ). refused_at (λ index. UnknownNode index) o) (no_position (λ name. is_none (node_named d name)) names none_unknown);
      whole = ap (λ (o : Option ℕ). refused_at (λ index. BrokenPath index) o)
          (broken_is d asked.paths h.some_branch ∙ no_first_index (is_broken_at d) asked.paths h.whole);
      simple = ap (λ (o : Option ℕ). refused_at (λ index. LoopingPath index) o) (no_first_index (is_loop_at d) asked.paths h.simple);
    }

-- a refusal for no tree is that of the first stray branch
stray_index : (d : Domain) (rows : List Row) (asked : Asked) (index : ℕ) → or_else (stray asked) (later d rows asked) ≡ Some (NotATree index) →
    least (is_stray asked.paths) (length asked.paths) ≡ Some index
stray_index d rows asked index e = at_index (least (is_stray asked.paths) (length asked.paths)) index (first_one (stray asked) e)
  where
    -- it isn't one of those that follow
    first_one : (o : Option Refused) → or_else o (later d rows asked) ≡ Some (NotATree index) → o ≡ Some (NotATree index)
    first_one None f = absurd (later_is_other d rows asked index f)
    first_one (Some x) f = f

-- if no earlier refusal applies, a request is refused for exactly the first branch that makes no tree
pub refused_as_no_tree : RefusedAsNoTree
refused_as_no_tree d rows asked index = (
  λ e.
      let r = came_to d rows asked (NotATree index) (no_tree_is_late index) e in
      (in_order d asked r.0, first_from asked.paths index (least_from (is_stray asked.paths) (length asked.paths) index (stray_index d rows asked index r.1))),
  λ w.
      are_left d rows asked (are_none d asked w.0)
      ∙ ap (λ (o : Option ℕ). or_else (refused_at (λ branch. NotATree branch) o) (later d rows asked))
      (least_is (is_stray asked.paths) (length asked.paths) index (first_to asked.paths index w.1)),
)

-- if a request is refused for no branch, none is stray
none_stray : (d : Domain) (rows : List Row) (asked : Asked) → HasNoEarlierFault d asked →
    ((index : ℕ) → refusal_of d rows asked ≡ Some (NotATree index) → ⊥) → (k : ℕ) → k < length asked.paths → is_stray asked.paths k ≡ false
none_stray d rows asked h never = elim (least_there (is_stray asked.paths) (length asked.paths)) [
  | inl none ↦ none
  | inr r ↦ absurd (never r.0 ((refused_as_no_tree d rows asked r.0).1 (h, first_from asked.paths r.0 r.1)))
]

-- so it is refused for no branch exactly if each two make one tree
pub trees_are_made_of_pairs : TreesAreMadeOfPairs
trees_are_made_of_pairs d rows asked h = (
  λ never i j b l inside.
      not_stray asked.paths i j (get_or asked.paths i b) (get_or asked.paths j b) l (slice_get-get_or asked.paths i b (omega (arith, l, inside)))
      (slice_get-get_or asked.paths j b inside) (none_stray d rows asked h never j inside),
  λ pairs index e.
      let w = ((refused_as_no_tree d rows asked index).0 e).1 in
      let inside = slice_get_within asked.paths index w.branch w.here in
      w.no_tree
      (subst (λ (x : Branch). MakeOneTree x w.branch) (get_or_from_slice_get asked.paths w.earlier w.other w.branch w.there)
      (subst (λ (x : Branch). MakeOneTree (get_or asked.paths w.earlier w.branch) x) (get_or_from_slice_get asked.paths index w.branch w.branch w.here)
      (pairs w.earlier index w.branch w.before inside))),
)

-- ---- too many hops

-- the branches of a request that is refused for its hops have the form of a tree
form_of_many : (d : Domain) (rows : List Row) (asked : Asked) → refusal_of d rows asked ≡ Some TooManyHops → AreOfForm d asked.paths
form_of_many d rows asked e =
    let r = came_to d rows asked TooManyHops many_hops_are_late e in
    let no_stray = passed (stray asked) (later d rows asked) TooManyHops
    (other_at (λ branch. NotATree branch) (least (is_stray asked.paths) (length asked.paths)) TooManyHops (λ k f. cc)) r.1 in
    record {
      known = refused_at_none (λ index. UnknownNode index) (unknown d asked) r.0.known;
      whole = refused_at_none (λ index. BrokenPath index) (broken_index d asked.paths) r.0.whole;
      simple = refused_at_none (λ index. LoopingPath index) (first_index (is_loop_at d) asked.paths) r.0.simple;
      together = refused_at_none (λ branch. NotATree branch) (least (is_stray asked.paths) (length asked.paths)) no_stray.0;
    }

-- and they have more hops than a tree may have
more_than_may : (d : Domain) (rows : List Row) (asked : Asked) → refusal_of d rows asked ≡ Some TooManyHops →
    hops_within d.limits < length (tree_of d asked.paths)
more_than_may d rows asked e =
    let r = came_to d rows asked TooManyHops many_hops_are_late e in
    let budget_short = refused_at (λ l. BudgetShort l (left_on d rows (tree_of d asked.paths) (pace_of asked) l))
    (short_link d rows (cost_of d.overhead asked.octets) (pace_of asked) (tree_of d asked.paths)) in
    let many = refused_if (nat_le (streams_within d.limits) (length rows)) TooManyStreams in
    let held = refused_if (list_any (λ (row : Row). is_text row.name asked.name) rows) NameHeld in
    let no_stray = passed (stray asked) (later d rows asked) TooManyHops
    (other_at (λ branch. NotATree branch) (least (is_stray asked.paths) (length asked.paths)) TooManyHops (λ k f. cc)) r.1 in
    due (nat_lt (hops_within d.limits) (length (tree_of d asked.paths))) refl (or_else held (or_else many budget_short))
    (neither held (or_else many budget_short) TooManyHops
    (other_if (list_any (λ (row : Row). is_text row.name asked.name) rows) NameHeld TooManyHops (λ f. cc))
    (neither many budget_short TooManyHops (other_if (nat_le (streams_within d.limits) (length rows)) TooManyStreams TooManyHops (λ f. cc))
    (other_at (λ l. BudgetShort l (left_on d rows (tree_of d asked.paths) (pace_of asked) l))
    (short_link d rows (cost_of d.overhead asked.octets) (pace_of asked) (tree_of d asked.paths)) TooManyHops (λ k f. cc)))) no_stray.1
  where
    -- if no later refusal is this one, its test holds
    due : (b : Bool) → nat_lt (hops_within d.limits) (length (tree_of d asked.paths)) ≡ b → (rest : Option Refused) →
        (rest ≡ Some TooManyHops → ⊥) → or_else (refused_if b TooManyHops) rest ≡ Some TooManyHops →
        hops_within d.limits < length (tree_of d asked.paths)
    due true t rest other f = ltb-true (hops_within d.limits) (length (tree_of d asked.paths)) t
    due false t rest other f = absurd (other f)

-- if a tree may have as many hops as the domain has links, none has too many
pub links_bound_hops : LinksBoundHops
links_bound_hops d rows asked room e =
    let tree = form_is_tree d asked.paths (form_of_many d rows asked e) in
    omega (arith, more_than_may d rows asked e, trees_have_few_links d (tree_of d asked.paths) tree, room)
