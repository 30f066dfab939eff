-- One more stream's tree is laid.
use Rattle.std.proofs.Common.{◌≡◌, ℕ, ◌+◌, ◌<◌, ◌≤◌, ◌∷◌, [], ◌++◌, List, Bool, true, false, Option, Some, None, inl}
use Rattle.std.proofs.Common.{inr, refl, sym, ap, ◌∙◌, subst, arith, length, nat_lt, if◌then◌else◌, lt-ltb, le-ltb}
use Rattle.std.specs.Prelude.{slice_get}
use Rattle.std.proofs.lemmas.Bool.{cases_Bool, cases_eq, cases_lt, true≢false}
use Rattle.std.proofs.lemmas.List.{get_or_append_left, get_or_past, get_or_push, length-append}
use Rattle.std.proofs.lemmas.Option.{same_Some}
use Rattle.cqf_model.specs.declared.topology.Hop.{Hop}
use Rattle.cqf_model.specs.declared.topology.Row.{Row}
use Rattle.cqf_instants.specs.declared.queues.LaidHop.{LaidHop}
use Rattle.cqf_instants.specs.Queues.{branch_at}
use Rattle.cqf_instants.specs.declared.laying.Group.{Group}
use Rattle.cqf_instants.specs.LaidTrees.{IsLaidBranch, after_at, group_at, is_of_tree}
use Rattle.cqf_instants.proofs.Groups.{stand_same}
use Rattle.cqf_instants_run.specs.Laid.{AreHopsOf, AreLaid, IsHopOfRow, LaysStream, is_live_below, no_group}

-- nothing is laid yet
pub lays_none : (cycles : ℕ) (rows : List Row) → AreLaid cycles rows 0 [] []
lays_none cycles rows = record {
  count = refl;
  few = omega arith;
  row_of = λ h. 0;
  each = λ h below. absurd (omega (arith, below));
  begin = λ index row below is live. absurd (omega (arith, below));
  inside = λ index. omega arith;
}

-- hops keep their positions
stay : (old new : ℕ → ℕ) (index : ℕ) (tree : List Hop) (ingress : Option ℕ) (before after : List LaidHop) (group : Group) → length before ≤ length after →
    ((h : ℕ) → h < length before → branch_at after h ≡ branch_at before h) → ((h : ℕ) → h < length before → new h ≡ old h) →
    AreHopsOf old index tree ingress before group → AreHopsOf new index tree ingress after group
stay old new index tree ingress before after group longer front same hops = record {
  stand = stand_same tree ingress before after group longer (λ h inside. ap (λ (b : LaidHop). b.link) (front h inside)) hops.stand;
  owned = λ k below. same (group.first + k) (omega (arith, below, hops.stand.inside)) ∙ hops.owned k below;
}

-- and so do a row's branches
stay_hop : (cycles : ℕ) (rows : List Row) (old new : ℕ → ℕ) (before after : List LaidHop) (h : ℕ) → length before ≤ length after →
    ((j : ℕ) → j < length before → branch_at after j ≡ branch_at before j) → ((j : ℕ) → j < length before → new j ≡ old j) → h < length before →
    IsHopOfRow cycles rows before old h → IsHopOfRow cycles rows after new h
stay_hop cycles rows old new before after h longer front same inside is =
    let tree = is.row.tree.items in
    let same_branch = sym (front h inside) in
    let stays = stay old new (old h) tree (Some (branch_at before h).link) before after (after_at before h) longer front same is.following in
    record {
      row = is.row;
      is = ap (slice_get rows) (same h inside) ∙ is.is;
      live = is.live;
      of_tree = subst (λ (b : LaidHop). is_of_tree tree h b) same_branch is.of_tree;
      following =
          subst (λ (p : ℕ). AreHopsOf new p tree (Some (branch_at after h).link) after (after_at after h)) (sym (same h inside))
          (subst (λ (b : LaidHop). AreHopsOf new (old h) tree (Some b.link) after (record { first = b.next; many = b.many })) same_branch stays);
    }

module _ (cycles : ℕ) (rows : List Row) (index : ℕ) (row : Row) (before after : List LaidHop) (groups : List Group) (group : Group)
    (at : slice_get rows index ≡ Some row) (laid : AreLaid cycles rows index before groups) (lays : LaysStream cycles row before after group) where
  abbrev more : List Group
  more = groups ++ group ∷ []

  -- the earlier groups, the new one, and no other after it
  old_group : (k : ℕ) → k < index → group_at more k ≡ group_at groups k
  old_group k below = get_or_append_left groups (group ∷ []) no_group k (omega (arith, below, laid.count))

  new_group : (k : ℕ) → k ≡ index → group_at more k ≡ group
  new_group k is = get_or_push groups group no_group k (laid.count ∙ sym is)

  counted : length more ≡ index + 1
  counted = length-append groups (group ∷ []) ∙ ap (λ n. n + 1) laid.count

  all_inside : length before ≤ length after → group.first + group.many ≤ length after → (k : ℕ) → (group_at more k).first
      + (group_at more k).many ≤ length after
  all_inside longer fits k = elim (cases_lt k index) [
    | inl below ↦ subst (λ (g : Group). g.first + g.many ≤ length after) (sym (old_group k below)) (omega (arith, laid.inside k, longer))
    | inr from ↦ elim (cases_eq k index) [
      | inl e ↦ subst (λ (g : Group). g.first + g.many ≤ length after) (sym (new_group k e)) fits
      | inr n ↦ subst (λ (g : Group). g.first + g.many ≤ length after) (sym (get_or_past more k no_group (omega (arith, counted, from, n)))) (omega arith)
    ]
  ]

  -- the row at the index
  its_row : (k : ℕ) (other : Row) → k ≡ index → slice_get rows k ≡ Some other → other ≡ row
  its_row k other e is = same_Some other row (sym is ∙ ap (slice_get rows) e ∙ at)

  -- if the stream isn't live
  other : is_live_below cycles row ≡ false → AreLaid cycles rows (index + 1) after more
  other none =
      let same = sym (lays.other_branches none) in
      let stood : length before ≤ length after = omega (arith, ap length same) in
      record {
        count = counted;
        few = omega (arith, ap length same, laid.few);
        row_of = laid.row_of;
        each = subst (λ (bs : List LaidHop). (h : ℕ) → h < length bs → IsHopOfRow cycles rows bs laid.row_of h) same laid.each;
        begin = λ k r below is live. elim (cases_eq k index) [
          | inl e ↦ absurd (true≢false (sym live ∙ ap (is_live_below cycles) (its_row k r e is) ∙ none))
          | inr n ↦ let early : k < index = omega (arith, below, n) in
              subst (λ (bs : List LaidHop). AreHopsOf laid.row_of k r.tree.items None bs (group_at more k)) same
              (subst (AreHopsOf laid.row_of k r.tree.items None before) (sym (old_group k early)) (laid.begin k r early is live))
        ];
        inside = all_inside stood (subst (λ (g : Group). g.first + g.many ≤ length after) (sym (lays.other_group none)) (omega arith));
      }

  -- if it is live
  module _ (live : is_live_below cycles row ≡ true) where
    is_laid : IsLaidBranch row.tree.items before after group
    is_laid = lays.live live

    -- the new branches are of its tree
    abbrev row_of : ℕ → ℕ
    row_of h = if nat_lt h (length before) then laid.row_of h else index

    old_row : (h : ℕ) → h < length before → row_of h ≡ laid.row_of h
    old_row h inside = ap (λ (b : Bool). if b then laid.row_of h else index) (lt-ltb h (length before) inside)

    new_row : (h : ℕ) → length before ≤ h → row_of h ≡ index
    new_row h from = ap (λ (b : Bool). if b then laid.row_of h else index) (le-ltb h (length before) from)

    new_hop : (h : ℕ) → length before ≤ h → h < length after → IsHopOfRow cycles rows after row_of h
    new_hop h from inside = record {
      row = row;
      is = ap (slice_get rows) (new_row h from) ∙ at;
      live = live;
      of_tree = is_laid.own h from inside;
      following = record {
        stand = is_laid.following h from inside;
        owned = λ k below. new_row ((after_at after h).first + k) (omega (arith, is_laid.beyond h from inside)) ∙ sym (new_row h from);
      };
    }

    new_begin : AreHopsOf row_of index row.tree.items None after group
    new_begin = record {
      stand = is_laid.begins;
      owned = λ k below. new_row (group.first + k) (omega (arith, is_laid.from));
    }

    this : AreLaid cycles rows (index + 1) after more
    this = record {
      count = counted;
      few = omega (arith, is_laid.short, laid.few);
      row_of = row_of;
      each = λ h inside. elim (cases_lt h (length before)) [
        | inl early ↦ stay_hop cycles rows laid.row_of row_of before after h is_laid.longer is_laid.front old_row early (laid.each h early)
        | inr late ↦ new_hop h late inside
      ];
      begin = λ k r below is is_live. elim (cases_eq k index) [
        | inl e ↦
            subst (AreHopsOf row_of k r.tree.items None after) (sym (new_group k e))
            (subst (λ (p : ℕ). AreHopsOf row_of p r.tree.items None after group) (sym e)
            (subst (λ (x : Row). AreHopsOf row_of index x.tree.items None after group) (sym (its_row k r e is)) new_begin))
        | inr n ↦ let early : k < index = omega (arith, below, n) in
            subst (AreHopsOf row_of k r.tree.items None after) (sym (old_group k early))
            (stay laid.row_of row_of k r.tree.items None before after (group_at groups k) is_laid.longer is_laid.front old_row
            (laid.begin k r early is is_live))
      ];
      inside = all_inside is_laid.longer is_laid.begins.inside;
    }

  pub lays_more : AreLaid cycles rows (index + 1) after more
  lays_more = elim (cases_Bool (is_live_below cycles row)) [
    | inl live ↦ this live
    | inr none ↦ other none
  ]
