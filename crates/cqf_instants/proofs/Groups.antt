-- Groups of hops, appended and tied.
use Rattle.std.proofs.Common.{◌≡◌, ◌≢◌, ℕ, suc, ◌+◌, ◌-◌, ◌<◌, ◌≤◌, ◌∷◌, [], ◌==◌, List, Bool}
use Rattle.std.proofs.Common.{Option, Some, None, inl, inr, refl, sym, ap, ◌∙◌, subst, arith, length, take, map, filter}
use Rattle.std.proofs.Common.{All, Contains, get_or, eq-eqb, eqb-true}
use Rattle.std.specs.Prelude.{slice_get, slice_set}
use Rattle.std.specs.List.{list_any}
use Rattle.std.proofs.lemmas.Bool.{cases_eq, cases_lt}
use Rattle.std.proofs.lemmas.List.{get_or-append-add, get_or-map, get_or-set_other, get_or-set_same, get_or-take}
use Rattle.std.proofs.lemmas.List.{get_or_append_left, length-append, length-map, length-set, take-append-le, take_all}
use Rattle.std.proofs.lemmas.List.Elements.{Contains-get_or}
use Rattle.std.proofs.lemmas.List.Sums.{count_by-le-length, length-filter}
use Rattle.std.proofs.lemmas.Option.{get_or_from_slice_get, same_Some, slice_get_within}
use Rattle.cqf_lists.specs.Lists.{each_below}
use Rattle.cqf_lists.proofs.EachBelow.{first_below, same_below}
use Rattle.cqf_lists.proofs.Members.{any_member, contains_from_filter, index_of_member, member_any}
use Rattle.cqf_model.specs.declared.topology.Hop.{Hop}
use Rattle.cqf_model.specs.Table.{same_ingress}
use Rattle.cqf_instants.specs.declared.queues.LaidHop.{LaidHop}
use Rattle.cqf_instants.specs.Laid.{LaysGroup, bare, group_of}
use Rattle.cqf_instants.specs.Queues.{branch_at}
use Rattle.cqf_instants.specs.declared.laying.Group.{Group}
use Rattle.cqf_instants.specs.LaidTrees.{AreAfter, AreTied, HaveLinks, IsLaidBranch, StandAfter, after_at, group_at, is_of_tree}

-- a list of one element for each index is the mapped list
by_index : {X Y : Type 0} (f : X → Y) (d : X) (xs : List X) → each_below (λ k. f (get_or xs k d) ∷ []) (length xs) ≡ map f xs
by_index f d [] = refl
by_index f d (x ∷ xs) =
    first_below (λ k. f (get_or (x ∷ xs) k d) ∷ []) (length xs)
    ∙ ap (λ ys. f x ∷ ys) (same_below (λ k. f (get_or (x ∷ xs) (k + 1) d) ∷ []) (λ k. f (get_or xs k d) ∷ []) (length xs)
    (λ k below. (let e : k + 1 ≡ suc k = omega arith in ap (λ j. f (get_or (x ∷ xs) j d) ∷ []) e)) ∙ by_index f d xs)

abbrev no_branch : LaidHop
no_branch = record { link = 0; next = 0; many = 0 }

abbrev no_group : Group
no_group = record { first = 0; many = 0 }

abbrev pub no_hop : Hop
no_hop = record { link = 0; hop_number = 0; from = None }

-- a filtered list is no longer
filter_short : {X : Type 0} (p : X → Bool) (xs : List X) → length (filter p xs) ≤ length xs
filter_short p xs = omega (arith, length-filter p xs, count_by-le-length p xs)

-- branches with the same links are those of the same hops
pub stand_same : (tree : List Hop) (ingress : Option ℕ) (xs ys : List LaidHop) (group : Group) → length xs ≤ length ys →
    ((h : ℕ) → h < length xs → (branch_at ys h).link ≡ (branch_at xs h).link) → StandAfter tree ingress xs group → StandAfter tree ingress ys group
stand_same tree ingress xs ys group longer same s = record {
  inside = omega (arith, longer, s.inside);
  links = same_below (λ k. (branch_at ys (group.first + k)).link ∷ []) (λ k. (branch_at xs (group.first + k)).link ∷ []) group.many
      (λ k below. ap (λ l. l ∷ []) (same (group.first + k) (omega (arith, below, s.inside)))) ∙ s.links;
}

module _ (tree : List Hop) (ingress : Option ℕ) (before after : List LaidHop) (many : ℕ) (lays : LaysGroup tree ingress before after many) where
  abbrev group : List Hop
  group = group_of tree ingress

  pub grown : length after ≡ length before + many
  grown = omega (arith, ap length lays.laid, length-append before (map bare group), length-map group bare, lays.count)

  -- earlier branches are unchanged
  pub stays : (h : ℕ) → h < length before → branch_at after h ≡ branch_at before h
  stays h inside = ap (λ (xs : List LaidHop). get_or xs h no_branch) lays.laid ∙ get_or_append_left before (map bare group) no_branch h inside

  -- and a new one is a hop of the group
  new_at : (k : ℕ) → k < many → branch_at after (length before + k) ≡ bare (get_or group k no_hop)
  new_at k below =
      ap (λ (xs : List LaidHop). get_or xs (length before + k) no_branch) lays.laid
      ∙ get_or-append-add before (map bare group) k no_branch
      ∙ get_or-map bare group k no_hop no_branch (omega (arith, below, lays.count))

  pub stand_new : StandAfter tree ingress after (record { first = length before; many = many })
  stand_new = record {
    inside = omega (arith, grown);
    links =
        same_below (λ k. (branch_at after (length before + k)).link ∷ []) (λ k. (get_or group k no_hop).link ∷ []) many
        (λ k below. ap (λ (b : LaidHop). b.link ∷ []) (new_at k below))
        ∙ ap (each_below (λ k. (get_or group k no_hop).link ∷ [])) lays.count
        ∙ by_index (λ (hop : Hop). hop.link) no_hop group;
  }

  pub own_new : (h : ℕ) → length before ≤ h → h < length after → is_of_tree tree h (branch_at after h)
  own_new h from inside =
      let k = h - length before in
      let below : k < many = omega (arith, from, inside, grown) in
      let at : branch_at after h ≡ bare (get_or group k no_hop) =
      ap (branch_at after) (parts from) ∙ new_at k below in
      let member : Contains tree (get_or group k no_hop) =
      (contains_from_filter (λ (hop : Hop). same_ingress hop.from ingress) tree (get_or group k no_hop)
      (Contains-get_or group k no_hop (omega (arith, below, lays.count)))).0 in
      subst (λ (b : LaidHop). is_of_tree tree h b) (sym at)
      (member_any (λ (hop : Hop). hop.link == (get_or group k no_hop).link) tree (get_or group k no_hop) member
      (eq-eqb (get_or group k no_hop).link (get_or group k no_hop).link refl))
    where
      parts : length before ≤ h → h ≡ length before + (h - length before)
      parts from = omega (arith, from)

  pub short : many ≤ length tree
  short = omega (arith, lays.count, filter_short (λ (hop : Hop). same_ingress hop.from ingress) tree)

-- nothing is appended yet
pub none_after : (tree : List Hop) (before : List LaidHop) (groups : List Group) → length groups ≡ 4096 → AreAfter tree before before 0 groups
none_after tree before groups count = record {
  count = count;
  longer = omega arith;
  short = omega arith;
  front = take_all (length before) before (omega arith);
  each = λ k hop below is. absurd (omega (arith, below));
  beyond = λ k hop below is. absurd (omega (arith, below));
  own = λ h from inside. absurd (omega (arith, from, inside));
}

-- one more hop has its group
pub after_more : (tree : List Hop) (before now after : List LaidHop) (k : ℕ) (hop : Hop) (many : ℕ) (groups : List Group) →
    length tree ≤ 200 → hop.link < 4096 → slice_get tree k ≡ Some hop → AreAfter tree before now k groups → LaysGroup tree (Some hop.link) now after many →
    AreAfter tree before after (k + 1) (slice_set groups hop.link (record { first = length now; many = many }))
after_more tree before now after k hop many groups few low at b lays =
    let new : Group = record { first = length now; many = many } in
    let g = grown tree (Some hop.link) now after many lays in
    record {
      count = length-set groups hop.link new ∙ b.count;
      longer = omega (arith, b.longer, g);
      short = omega (arith, b.short, g, short tree (Some hop.link) now after many lays, few);
      front = ap (take (length before)) lays.laid ∙ take-append-le (length before) now (map bare (group_of tree (Some hop.link))) b.longer ∙ b.front;
      each = λ j other below is. elim (cases_eq other.link hop.link) [
        | inl e ↦ subst (λ l. StandAfter tree (Some l) after (group_at (slice_set groups hop.link new) l)) (sym e)
            (subst (StandAfter tree (Some hop.link) after) (sym (get_or-set_same groups hop.link new no_group (omega (arith, low, b.count))))
            (stand_new tree (Some hop.link) now after many lays))
        | inr n ↦ subst (StandAfter tree (Some other.link) after) (sym (get_or-set_other groups hop.link other.link new no_group n))
            (stand_same tree (Some other.link) now after (group_at groups other.link) (omega (arith, g))
            (λ h inside. ap (λ (b : LaidHop). b.link) (stays tree (Some hop.link) now after many lays h inside))
            (b.each j other (before_k j other below is n) is))
      ];
      beyond = λ j other below is. elim (cases_eq other.link hop.link) [
        | inl e ↦ subst (λ l. length before ≤ (group_at (slice_set groups hop.link new) l).first) (sym e)
            (subst (λ (g : Group). length before ≤ g.first) (sym (get_or-set_same groups hop.link new no_group (omega (arith, low, b.count)))) b.longer)
        | inr n ↦ subst (λ (g : Group). length before ≤ g.first) (sym (get_or-set_other groups hop.link other.link new no_group n))
            (b.beyond j other (before_k j other below is n) is)
      ];
      own = λ h from inside. elim (cases_lt h (length now)) [
        | inl old ↦ subst (λ (b : LaidHop). is_of_tree tree h b) (sym (stays tree (Some hop.link) now after many lays h old)) (b.own h from old)
        | inr late ↦ own_new tree (Some hop.link) now after many lays h late inside
      ];
    }
  where
    before_k : (j : ℕ) (other : Hop) → j < k + 1 → slice_get tree j ≡ Some other → other.link ≢ hop.link → j < k
    before_k j other below is n = elim (cases_eq j k) [
      | inl e ↦ absurd (n (ap (λ (h : Hop). h.link) (same_Some other hop (sym is ∙ ap (slice_get tree) e ∙ at))))
      | inr m ↦ omega (arith, below, m)
    ]

-- a hop of the tree that has a branch's link
hop_of : (tree : List Hop) (h : ℕ) (b : LaidHop) → is_of_tree tree h b → (hop : Hop) × Contains tree hop × (hop.link ≡ b.link)
hop_of tree h b own =
    let found = any_member (λ (hop : Hop). hop.link == b.link) tree own in
    (found.0, found.1, eqb-true found.0.link b.link found.2)

low_link : (tree : List Hop) (h : ℕ) (b : LaidHop) → All (λ (hop : Hop). hop.link < 4096) tree → is_of_tree tree h b → b.link < 4096
low_link tree h b low own =
    let found = hop_of tree h b own in
    let index = index_of_member tree found.0 found.1 in
    let here = get_or_from_slice_get tree index.0 found.0 no_hop index.1 in
    omega (arith, low index.0 no_hop (slice_get_within tree index.0 found.0 index.1), ap (λ (x : Hop). x.link) here, found.2)

module _ (tree : List Hop) (before one two : List LaidHop) (many : ℕ) (groups : List Group) (few : length tree ≤ 200)
    (low : All (λ (hop : Hop). hop.link < 4096) tree) (lays : LaysGroup tree None before one many) (b : AreAfter tree one two (length tree) groups) where
  front_two : (h : ℕ) → h < length one → branch_at two h ≡ branch_at one h
  front_two h inside = sym (get_or-take (length one) two h no_branch inside) ∙ ap (λ (xs : List LaidHop). get_or xs h no_branch) b.front

  own_two : (h : ℕ) → length before ≤ h → h < length two → is_of_tree tree h (branch_at two h)
  own_two h from inside = elim (cases_lt h (length one)) [
    | inl early ↦ subst (λ (x : LaidHop). is_of_tree tree h x) (sym (front_two h early)) (own_new tree None before one many lays h from early)
    | inr late ↦ b.own h late inside
  ]

  pub links_low : (from : ℕ) → from ≡ length before → HaveLinks two from
  links_low from is h beyond inside = low_link tree h (branch_at two h) low (own_two h (omega (arith, is, beyond)) inside)

  module _ (three : List LaidHop) (tied : AreTied two three (length before) (length two) groups) where
    own_three : (h : ℕ) → length before ≤ h → h < length three → is_of_tree tree h (branch_at three h)
    own_three h from inside =
        ap (λ l. list_any (λ (hop : Hop). hop.link == l) tree) (tied.links h) ∙ own_two h from (omega (arith, inside, tied.count))

    after_three : (h : ℕ) → length before ≤ h → h < length three → StandAfter tree (Some (branch_at three h).link) three (after_at three h)
    after_three h from inside =
        let in_two : h < length two = omega (arith, inside, tied.count) in
        let link = (branch_at two h).link in
        let found = hop_of tree h (branch_at two h) (own_two h from in_two) in
        let index = index_of_member tree found.0 found.1 in
        let stands = b.each index.0 found.0 (slice_get_within tree index.0 found.0 index.1) index.1 in
        let by_link : StandAfter tree (Some link) two (group_at groups link) =
        subst (λ l. StandAfter tree (Some l) two (group_at groups l)) found.2 stands in
        let in_three = stand_same tree (Some link) two three (group_at groups link) (omega (arith, tied.count)) (λ k below. tied.links k) by_link in
        let t = tied.tied h from in_two in
        subst (λ l. StandAfter tree (Some l) three (after_at three h)) (sym (tied.links h))
        (subst (StandAfter tree (Some link) three) (λ i. record { first = sym t.0 i; many = sym t.1 i }) in_three)

    beyond_three : (h : ℕ) → length before ≤ h → h < length three → length before ≤ (after_at three h).first
    beyond_three h from inside =
        let in_two : h < length two = omega (arith, inside, tied.count) in
        let found = hop_of tree h (branch_at two h) (own_two h from in_two) in
        let index = index_of_member tree found.0 found.1 in
        let later = b.beyond index.0 found.0 (slice_get_within tree index.0 found.0 index.1) index.1 in
        let first = ap (λ l. (group_at groups l).first) found.2 in
        omega (arith, later, first, (tied.tied h from in_two).0, grown tree None before one many lays)

    pub laid : IsLaidBranch tree before three (record { first = length before; many = many })
    laid =
        let g = grown tree None before one many lays in
        record {
          longer = omega (arith, g, b.longer, tied.count);
          short = omega (arith, g, short tree None before one many lays, b.short, few, tied.count);
          front = λ h inside. tied.front h inside ∙ front_two h (omega (arith, inside, g)) ∙ stays tree None before one many lays h inside;
          begins =
              stand_same tree None two three (record { first = length before; many = many }) (omega (arith, tied.count)) (λ h below. tied.links h)
              (stand_same tree None one two (record { first = length before; many = many }) b.longer
              (λ h below. ap (λ (x : LaidHop). x.link) (front_two h below))
              (stand_new tree None before one many lays));
          from = omega arith;
          own = own_three;
          following = after_three;
          beyond = beyond_three;
        }
